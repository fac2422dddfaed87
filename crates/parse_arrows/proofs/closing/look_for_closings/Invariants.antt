use Rattle.laws_operators.proofs.NotedClosings.{Looking}
use Rattle.parse_arrows.proofs.closing.look_for_closings.Given as goal

abbrev pub invariant-lexemes : goal.invariant-lexemes
invariant-lexemes g l = Looking l.fn.p l.p l.place l.brackets.items
