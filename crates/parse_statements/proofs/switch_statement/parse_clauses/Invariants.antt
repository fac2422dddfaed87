use Rattle.std.specs.Prelude.{ℕ, List}
use Rattle.js_grammar.specs.Productions.{Flags}
use Rattle.parse_shared.specs.laws_shared.Nesting.{room}
use Rattle.parse_shared.specs.laws_shared.States.{At}
use Rattle.parse_control.specs.laws_statements.SwitchStatements.{SomeTaken}
use Rattle.parse_statements.proofs.switch_statement.parse_clauses.Given as goal

abbrev pub invariant-clauses : goal.invariant-clauses
invariant-clauses t l = (text : List ℕ) (f : Flags) → At text f l.fn.p → SomeTaken text f l.defaults l.fn.p l.p l.children.items

abbrev pub decreases-clauses : goal.decreases-clauses
decreases-clauses t l = room l.p
