use Rattle.std.proofs.Common.{length, ◌-◌}
use Rattle.js_lex.proofs.Marked.{Sought}
use Rattle.js_lex.proofs.mark.holds.Given as goal

abbrev pub invariant-places : goal.invariant-places
invariant-places l = Sought l.word l.text l.at

abbrev pub decreases-places : goal.decreases-places
decreases-places l = length l.text - l.at
