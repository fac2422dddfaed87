use Rattle.std.proofs.Common.{length, ◌-◌}
use Rattle.part_words.proofs.NameWords.{AsciiRead}
use Rattle.part_words.proofs.part.ascii_parts_end.Given as goal

abbrev pub invariant-parts : goal.invariant-parts
invariant-parts l = AsciiRead l.text l.at l.end

abbrev pub decreases-parts : goal.decreases-parts
decreases-parts l = length l.text - l.end
