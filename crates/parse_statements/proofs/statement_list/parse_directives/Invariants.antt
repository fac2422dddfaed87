use Rattle.std.specs.Prelude.{ℕ, List}
use Rattle.js_grammar.specs.Productions.{Flags}
use Rattle.parse_shared.specs.laws_shared.Nesting.{room}
use Rattle.parse_shared.specs.laws_shared.States.{At}
use Rattle.parse_control.specs.laws_statements.StatementLists.{Taken, with_directives}
use Rattle.parse_statements.proofs.statement_list.parse_directives.Given as goal

abbrev pub invariant-directives : goal.invariant-directives
invariant-directives t l = (text : List ℕ) (f : Flags) → At text f l.fn.p → Taken text f l.fn.list (with_directives l.fn.list f) (with_directives l.fn.list f) l.fn.p l.p l.items.items

abbrev pub decreases-directives : goal.decreases-directives
decreases-directives t l = room l.p
