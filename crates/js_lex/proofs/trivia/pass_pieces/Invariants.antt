use Rattle.std.proofs.Common.{length, ◌-◌}
use Rattle.js_lex.proofs.Passing.{Passing}
use Rattle.js_lex.proofs.trivia.pass_pieces.Given as goal

abbrev pub invariant-pieces : goal.invariant-pieces
invariant-pieces l = Passing l.is_module l.text l.at l.end l.has_newline l.initial.kept l.kept

abbrev pub decreases-pieces : goal.decreases-pieces
decreases-pieces l = length l.text - l.end
