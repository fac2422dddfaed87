use Rattle.std.proofs.Common.{length}
use Rattle.laws_operators.proofs.NotedClosings.{Noting}
use Rattle.parse_arrows.proofs.closing.note_unclosed.Given as goal

abbrev pub invariant-brackets : goal.invariant-brackets
invariant-brackets g l = Noting l.fn.p l.p l.brackets.items

abbrev pub decreases-brackets : goal.decreases-brackets
decreases-brackets g l = length l.brackets.items
