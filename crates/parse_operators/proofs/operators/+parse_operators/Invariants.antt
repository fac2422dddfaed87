use Rattle.std.proofs.Common.{ℕ, List, ◌+◌, ◌-◌, length}
use Rattle.js_grammar.specs.Productions.{Flags}
use Rattle.parse_shared.specs.laws_shared.States.{At}
use Rattle.laws_operators.proofs.Operations.{Operand}
use Rattle.parse_operators.proofs.operators.+parse_operators.Given as goal

abbrev pub decreases-parse_operators : goal.decreases-parse_operators
decreases-parse_operators g l = length l.p.now.text + 1 - l.p.now.prev_token_end

abbrev pub invariant-operators : goal.invariant-operators
invariant-operators g l = (text : List ℕ) (f : Flags) → At text f l.fn.p → Operand text f (l.least - 5) l.fn.p l.p l.left

abbrev pub decreases-operators : goal.decreases-operators
decreases-operators g l = length l.p.text + 1 - l.p.prev_token_end
