use Rattle.std.proofs.Common.{length, ◌-◌}
use Rattle.js_base.specs.part_text.CodePointEscapes.{stage_of}
use Rattle.part_words.proofs.NameEscapes.{Begun}
use Rattle.part_words.proofs.name.escape_at.Given as goal

abbrev pub invariant-escape : goal.invariant-escape
invariant-escape l = Begun l.text l.at l.end (stage_of l.escape)

abbrev pub decreases-escape : goal.decreases-escape
decreases-escape l = length l.text - l.end
