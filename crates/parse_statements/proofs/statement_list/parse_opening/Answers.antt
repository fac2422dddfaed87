use Rattle.std.proofs.Common.{◌∙◌, arith}
use Rattle.std.proofs.lemmas.Result.{err_from_is_err_and}
use Rattle.parse_shared.proofs.laws_shared.Moving.{standing, stops_so, stops_behind}
use Rattle.parse_shared.proofs.laws_shared.Verdicts.{after}
use Rattle.parse_control.proofs.laws_statements.Statements.{ended_so, in_of}
use Rattle.parse_control.proofs.laws_statements.StatementLists.{no_opening, opening_unended, opening_answers, opening_taken, child_below}
use Rattle.parse_statements.proofs.statement_list.parse_opening.Goals as goal

pub returns-in_err-expression : goal.returns-in_err-expression
returns-in_err-expression t c = let p = err_from_is_err_and c.from_residual.result c.from_residual.ensures.1 in rw (p.1, p.2) (λ l text f a. stops_so _ _ _ (λ z. no_opening a c.requires.string l z) (c.in_err-expression.ensures.answers text f a))

pub end_statement-requires : goal.end_statement-requires
end_statement-requires t c = standing (c.in_ok-expression.ensures.answers _ _ c.requires.at).answer.at

pub returns-in_err-end_statement : goal.returns-in_err-end_statement
returns-in_err-end_statement t c =
    let p = err_from_is_err_and c.from_residual-in_err-end_statement.result c.from_residual-in_err-end_statement.ensures.1 in
    rw (p.1, p.2) (λ l text f a. let x = (c.in_ok-expression.ensures.answers text f a).answer in stops_behind _ _ x.same (λ g. after x.verdict g) (λ m. opening_unended a c.requires.string x l m) c.in_err-end_statement.ensures)

pub end_span-span-requires : goal.end_span-span-requires
end_span-span-requires t c =
    let x = (c.in_ok-expression.ensures.answers _ _ c.requires.at).answer in
    let z = ended_so x.at c.in_ok-end_statement.ensures in
    let a = x.further in let b = z.further in let d = x.at.behind in let s = c.cur_start-start.ensures in omega arith

pub is_string-is_directive-requires : goal.is_string-is_directive-requires
is_string-is_directive-requires t c = child_below (c.in_ok-expression.ensures.answers _ _ c.requires.at) c.in_ok-end_statement.ensures

pub returns : goal.returns
returns t c = opening_taken _ _ _ c.is_string-is_directive.result (λ l text f a. opening_answers l c.is_string-is_directive.result c.opening_kind-kind.result c.end_span-span.result a c.requires.string (in_of a c.requires.allows_in) (c.in_ok-expression.ensures.answers text f a) c.in_ok-end_statement.ensures c.is_string-is_directive.ensures c.opening_kind-kind.ensures.kind (c.end_span-span.ensures.start ∙ c.cur_start-start.ensures) c.end_span-span.ensures.end c.in_ok-node.ensures)
