use Rattle.std.proofs.Common.{length, ◌-◌}
use Rattle.part_words.proofs.NameWords.{Read}
use Rattle.part_words.proofs.name.name_by_pieces.Given as goal

abbrev pub invariant-pieces : goal.invariant-pieces
invariant-pieces l = Read l.text l.at l.end l.letters l.escaped

abbrev pub decreases-pieces : goal.decreases-pieces
decreases-pieces l = length l.text - l.end
