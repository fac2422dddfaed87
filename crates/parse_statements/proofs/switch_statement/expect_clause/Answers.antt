use Rattle.std.proofs.Common.{◌∙◌, refl, sym}
use Rattle.js_grammar.specs.Marks.{the_end, the_start}
use Rattle.parse_shared.specs.laws_shared.Classes.{EndsParse}
use Rattle.parse_shared.proofs.laws_shared.Giving.{gives_up}
use Rattle.parse_control.proofs.laws_statements.SwitchStatements.{due_here, undue_here}
use Rattle.parse_statements.proofs.switch_statement.expect_clause.Goals as goal

pub returns-then-is_clause_due : goal.returns-then-is_clause_due
returns-then-is_clause_due t c = (due_here c.args.p.now (sym c.is_clause_due.ensures ∙ c.if-is_clause_due.true), refl)

pub refuse_due-requires-clause-may : goal.refuse_due-requires-clause-may
refuse_due-requires-clause-may t c = λ s l i. ((the_start l.of_text l.is.0, the_end l.of_text l.is.1), (refl, refl))

pub refuse_due-requires-clause-ends : goal.refuse_due-requires-clause-ends
refuse_due-requires-clause-ends t c = refl

pub returns : goal.returns
returns t c = λ text f a. gives_up EndsParse _ _ c.refuse_due.result a c.refuse_due.ensures (λ d u. u) (undue_here c.args.p.now (sym c.is_clause_due.ensures ∙ c.if-is_clause_due.false))
