use Rattle.std.proofs.Common.{◌∙◌, arith}
use Rattle.std.proofs.lemmas.Result.{err_from_is_err_and}
use Rattle.parse_shared.proofs.laws_shared.Moving.{standing, stops_behind}
use Rattle.parse_control.proofs.laws_statements.Statements.{ended_so}
use Rattle.parse_control.proofs.laws_statements.WordStatements.{jump_answers, jump_at, jump_follows, jump_further, jump_grown, jump_stops, jump_unended, jump_whole}
use Rattle.parse_statements.proofs.word_statement.parse_jump.Goals as goal

pub advance-requires-clause-whole : goal.advance-requires-clause-whole
advance-requires-clause-whole g c = jump_whole c.requires.at c.requires.word

pub parse_optional_label-requires : goal.parse_optional_label-requires
parse_optional_label-requires g c = standing (c.in_ok-advance.ensures _ _ c.requires.at).at

pub returns-in_err-label : goal.returns-in_err-label
returns-in_err-label g c = λ b text f a.
    let p = err_from_is_err_and c.from_residual-in_err-label.result c.from_residual-in_err-label.ensures.1 in
    rw (p.1, p.2) (jump_stops b c.parse_optional_label.new.p _ a c.requires.word (c.in_ok-advance.ensures text f a) c.in_err-label.ensures)

pub end_statement-requires : goal.end_statement-requires
end_statement-requires g c = standing (jump_at c.requires.at c.requires.word c.parse_optional_label.new.p c.in_ok-label.label (c.in_ok-advance.ensures _ _ c.requires.at) c.in_ok-label.ensures)

pub returns-in_err-end_statement : goal.returns-in_err-end_statement
returns-in_err-end_statement g c = λ b text f a.
    let p = err_from_is_err_and c.from_residual-in_err-end_statement.result c.from_residual-in_err-end_statement.ensures.1 in
    let m = c.in_ok-advance.ensures text f a in
    rw (p.1, p.2) (stops_behind _ _ (jump_follows a c.requires.word c.parse_optional_label.new.p c.in_ok-label.label m c.in_ok-label.ensures) (λ k. jump_grown a c.requires.word c.parse_optional_label.new.p c.in_ok-label.label m c.in_ok-label.ensures k) (λ n. jump_unended a c.requires.word c.parse_optional_label.new.p c.in_ok-label.label m c.in_ok-label.ensures b n) c.in_err-end_statement.ensures)

pub end_span-span-requires : goal.end_span-span-requires
end_span-span-requires g c =
    let m = c.in_ok-advance.ensures _ _ c.requires.at in
    let z = ended_so (jump_at c.requires.at c.requires.word c.parse_optional_label.new.p c.in_ok-label.label m c.in_ok-label.ensures) c.in_ok-end_statement.ensures in
    let a = jump_further c.requires.at c.requires.word c.parse_optional_label.new.p c.in_ok-label.label m c.in_ok-label.ensures in let b = z.further in let s = c.cur_start-start.ensures in omega arith

pub returns : goal.returns
returns g c = λ b text f a. jump_answers a c.requires.word c.parse_optional_label.new.p c.in_ok-label.label (c.in_ok-advance.ensures text f a) c.in_ok-label.ensures b _ c.in_ok-end_statement.ensures (c.end_span-span.ensures.start ∙ c.cur_start-start.ensures) c.end_span-span.ensures.end c.in_ok-node.ensures
