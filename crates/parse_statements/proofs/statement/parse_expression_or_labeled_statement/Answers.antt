use Rattle.std.proofs.Common.{◌∙◌, ap, arith, subst}
use Rattle.std.proofs.lemmas.Result.{err_from_is_err_and}
use Rattle.parse_shared.proofs.laws_shared.Moving.{standing, stops_so, stops_behind}
use Rattle.js_base.specs.Contexts.{has_flag, in_flag, yield_flag, await_flag}
use Rattle.js_base.specs.declared.span.Span.{Span}
use Rattle.js_base.specs.declared.token.Token.{Token}
use Rattle.parse_shared.specs.laws_shared.Statements.{IsLabel}
use Rattle.parse_shared.proofs.laws_shared.Nesting.{nests_later, later_room}
use Rattle.parse_shared.proofs.laws_shared.NodeTexts.{name_word, spells_later}
use Rattle.parse_shared.proofs.laws_shared.NameKinds.{listed_name}
use Rattle.parse_shared.proofs.laws_shared.Verdicts.{after}
use Rattle.parse_shared.specs.laws_shared.Classes.{EndsParse}
use Rattle.parse_shared.proofs.laws_shared.Giving.{gives_up}
use Rattle.parse_control.proofs.laws_statements.ForeignOperators.{foreign_ends, foreign_marked, foreign_unended, found_foreign}
use Rattle.parse_control.proofs.laws_statements.Statements.{ended_so, in_of, no_colon, no_label, no_label_here, statement_answers, statement_fails, statement_unended}
use Rattle.parse_control.proofs.laws_statements.WordLookaheads.{async_named}
use Rattle.parse_statements.proofs.statement.parse_expression_or_labeled_statement.Goals as goal

pub returns-in_err-expression : goal.returns-in_err-expression
returns-in_err-expression t c = λ b u text f a. let p = err_from_is_err_and c.from_residual.result c.from_residual.ensures.1 in rw (p.1, p.2) (stops_so _ _ _ (λ z. statement_fails a c.requires.other (no_label_here z) (async_named a c.requires.no_function) b (u text f a) z) (c.in_err-expression.ensures.answers text f a))

pub refuse_here-requires-clause-at : goal.refuse_here-requires-clause-at
refuse_here-requires-clause-at t c = (c.in_ok-expression.ensures.answers _ _ c.requires.at).answer.at.at

pub refuse_here-requires-clause-mark : goal.refuse_here-requires-clause-mark
refuse_here-requires-clause-mark t c = foreign_marked c.in-Some.kind c.requires.at (c.in_ok-expression.ensures.answers _ _ c.requires.at) (found_foreign c.sequence.new.p c.in-Some.is c.kept_so_far-kept.ensures c.foreign_operator.ensures)

pub refuse_here-requires-clause-ends : goal.refuse_here-requires-clause-ends
refuse_here-requires-clause-ends t c = foreign_ends c.sequence.new.p _ c.in-Some.kind c.sequence.new.p.token.span (found_foreign c.sequence.new.p c.in-Some.is c.kept_so_far-kept.ensures c.foreign_operator.ensures)

pub returns-in-Some : goal.returns-in-Some
returns-in-Some t c = λ b u text f a.
    let x = (c.in_ok-expression.ensures.answers text f a).answer in
    let n = foreign_unended c.sequence.new.p _ c.in-Some.kind (found_foreign c.sequence.new.p c.in-Some.is c.kept_so_far-kept.ensures c.foreign_operator.ensures) in
    stops_behind _ _ x.same (λ g. after x.verdict g) (λ m. statement_unended a c.requires.other (no_label a x (no_colon c.args.p.now c.sequence.new.p c.cur_token-first.ensures c.is_label.ensures c.if-is_label.false)) (async_named a c.requires.no_function) b (u text f a) x m) (gives_up EndsParse _ _ c.refuse_here.result x.at c.refuse_here.ensures (λ d v. v) n)

pub end_statement-requires : goal.end_statement-requires
end_statement-requires t c = standing (c.in_ok-expression.ensures.answers _ _ c.requires.at).answer.at

pub returns-in_err-end_statement : goal.returns-in_err-end_statement
returns-in_err-end_statement t c = λ b u text f a.
    let p = err_from_is_err_and c.from_residual-in_err-end_statement.result c.from_residual-in_err-end_statement.ensures.1 in
    let x = (c.in_ok-expression.ensures.answers text f a).answer in
    rw (p.1, p.2) (stops_behind _ _ x.same (λ g. after x.verdict g) (λ m. statement_unended a c.requires.other (no_label a x (no_colon c.args.p.now c.sequence.new.p c.cur_token-first.ensures c.is_label.ensures c.if-is_label.false)) (async_named a c.requires.no_function) b (u text f a) x m) c.in_err-end_statement.ensures)

pub end_span-span-requires : goal.end_span-span-requires
end_span-span-requires t c =
    let x = (c.in_ok-expression.ensures.answers _ _ c.requires.at).answer in
    let z = ended_so x.at c.in_ok-end_statement.ensures in
    let a = x.further in let b = z.further in let d = x.at.behind in let s = c.cur_start-start.ensures in omega arith

pub returns : goal.returns
returns t c = λ b u text f a. statement_answers a c.requires.other (no_label a (c.in_ok-expression.ensures.answers text f a).answer (no_colon c.args.p.now c.sequence.new.p c.cur_token-first.ensures c.is_label.ensures c.if-is_label.false)) (async_named a c.requires.no_function) b _ (u text f a) (in_of a c.requires.allows_in) (c.in_ok-expression.ensures.answers text f a) c.in_ok-end_statement.ensures (c.end_span-span.ensures.start ∙ c.cur_start-start.ensures) c.end_span-span.ensures.end c.in_ok-node.ensures

pub parse_labeled_statement_rest-requires-clause-at : goal.parse_labeled_statement_rest-requires-clause-at
parse_labeled_statement_rest-requires-clause-at t c = standing (c.in_ok-expression.ensures.answers _ _ c.requires.at).answer.at

pub parse_labeled_statement_rest-requires-clause-nests : goal.parse_labeled_statement_rest-requires-clause-nests
parse_labeled_statement_rest-requires-clause-nests t c =
    let x = (c.in_ok-expression.ensures.answers _ _ c.requires.at).answer in
    nests_later c.requires.nests (later_room (let i = x.further in let j = x.at.behind in let k = c.requires.at.behind in omega arith) x.same)

pub parse_labeled_statement_rest-requires-clause-allows_in : goal.parse_labeled_statement_rest-requires-clause-allows_in
parse_labeled_statement_rest-requires-clause-allows_in t c = ap (has_flag in_flag) (c.in_ok-expression.ensures.answers _ _ c.requires.at).answer.same.ctx ∙ c.requires.allows_in

pub parse_labeled_statement_rest-requires-clause-colon : goal.parse_labeled_statement_rest-requires-clause-colon
parse_labeled_statement_rest-requires-clause-colon t c = (c.is_label.ensures.0 c.if-is_label.true).colon

pub parse_labeled_statement_rest-requires-clause-start : goal.parse_labeled_statement_rest-requires-clause-start
parse_labeled_statement_rest-requires-clause-start t c = let i = (c.in_ok-expression.ensures.answers _ _ c.requires.at).answer.further in let s = ap (λ (s : Span). s.start) (ap (λ (t : Token). t.span) c.cur_token-first.ensures) in omega arith

pub returns-then-is_label : goal.returns-then-is_label
returns-then-is_label t c = λ b u text f a. c.parse_labeled_statement_rest.ensures text f c.args.p.now _ a (ap (λ (t : Token). t.span) c.cur_token-first.ensures) (c.in_ok-expression.ensures.answers text f a) (subst (λ (t : Token). IsLabel t c.sequence.new.p) c.cur_token-first.ensures (c.is_label.ensures.0 c.if-is_label.true)) b

pub parse_labeled_statement_rest-requires-clause-spells : goal.parse_labeled_statement_rest-requires-clause-spells
parse_labeled_statement_rest-requires-clause-spells t c =
    let x = (c.in_ok-expression.ensures.answers _ _ c.requires.at).answer in
    let i : IsLabel c.args.p.now.token c.sequence.new.p = subst (λ (t : Token). IsLabel t c.sequence.new.p) c.cur_token-first.ensures (c.is_label.ensures.0 c.if-is_label.true) in
    spells_later c.requires.at (name_word c.args.p.now.token.kind (listed_name (has_flag yield_flag c.sequence.new.p.ctx) (has_flag await_flag c.sequence.new.p.ctx) c.args.p.now.token.kind i.name)) c.cur_token-first.ensures x.same.follows.text
