use Rattle.std.proofs.Common.{ℕ, List, ◌+◌, ◌-◌, length}
use Rattle.js_grammar.specs.Productions.{Flags}
use Rattle.parse_shared.specs.laws_shared.States.{At}
use Rattle.laws_operators.proofs.CoalesceOperands.{Operands}
use Rattle.parse_operators.proofs.operators.parse_binary_expression_or_higher.Given as goal

abbrev pub invariant-operands : goal.invariant-operands
invariant-operands g l = (text : List ℕ) (f : Flags) → At text f l.fn.p → Operands text f l.fn.p l.p l.left

abbrev pub decreases-operands : goal.decreases-operands
decreases-operands g l = length l.p.text + 1 - l.p.prev_token_end
