use Rattle.std.proofs.Common.{◌≡◌, drop, not}
use Rattle.std.specs.Char.Utf16.{has_unpaired_surrogate}
use Rattle.part_text.proofs.SurrogateLemmas.{paired_after}
use Rattle.part_text.proofs.text.is_paired.Given as goal

-- what is left decides, with the unit before the place
abbrev pub invariant-loop-unit : goal.invariant-loop-unit
invariant-loop-unit l = not (has_unpaired_surrogate l.units) ≡ paired_after l.after_high (drop l.unit-index l.units)
