use Rattle.std.specs.Prelude.{ℕ, List}
use Rattle.js_grammar.specs.Productions.{Flags}
use Rattle.parse_shared.specs.laws_shared.Nesting.{room}
use Rattle.parse_shared.specs.laws_shared.States.{At}
use Rattle.laws_operators.proofs.Sequences.{Listing}
use Rattle.parse_operators.proofs.sequence.parse_sequence_expression.Given as goal

abbrev pub invariant-items : goal.invariant-items
invariant-items g l = (text : List ℕ) (f : Flags) → At text f l.fn.p → Listing text f l.fn.p l.p l.items.items

abbrev pub decreases-items : goal.decreases-items
decreases-items g l = room l.p
