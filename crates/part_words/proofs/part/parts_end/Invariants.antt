use Rattle.std.proofs.Common.{length, ◌-◌}
use Rattle.part_words.proofs.Parts.{PartsRead}
use Rattle.part_words.proofs.part.parts_end.Given as goal

abbrev pub invariant-parts : goal.invariant-parts
invariant-parts l = PartsRead l.dots l.text l.at l.end

abbrev pub decreases-parts : goal.decreases-parts
decreases-parts l = length l.text - l.end
