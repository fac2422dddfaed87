use Rattle.std.proofs.Common.{◌≡◌, drop, length}
use Rattle.std.specs.Prelude.{Some, IsTrue}
use Rattle.std.specs.Str.{chars}
use Rattle.part_text.specs.Decoding.{name_text}
use Rattle.part_text.specs.CodePointEscapes.{fits}
use Rattle.part_text.specs.DecodingSteps.{state_of, utf8_from}
use Rattle.part_text.proofs.decode.spell.Given as goal

-- what is read and the rest give what the whole gives
abbrev pub invariant-loop-c : goal.invariant-loop-c
invariant-loop-c l = (utf8_from l.text (Some (state_of l.state)) (drop (length l.yielded) (chars l.raw)) ≡ name_text (chars l.raw)) × IsTrue (fits (state_of l.state))
