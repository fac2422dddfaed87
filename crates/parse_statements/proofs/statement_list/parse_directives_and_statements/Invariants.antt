use Rattle.std.specs.Prelude.{ℕ, List}
use Rattle.js_grammar.specs.Productions.{Flags}
use Rattle.parse_shared.specs.laws_shared.Nesting.{room}
use Rattle.parse_shared.specs.laws_shared.States.{At}
use Rattle.parse_control.specs.laws_statements.StatementLists.{Taken, list_of, statements}
use Rattle.parse_statements.proofs.statement_list.parse_directives_and_statements.Given as goal

abbrev pub invariant-statements : goal.invariant-statements
invariant-statements t l = (text : List ℕ) (f : Flags) → At text f l.fn.p → Taken text f l.fn.list (list_of l.fn.list f) (statements l.fn.list f) l.fn.p l.p l.items.items

abbrev pub decreases-statements : goal.decreases-statements
decreases-statements t l = room l.p
