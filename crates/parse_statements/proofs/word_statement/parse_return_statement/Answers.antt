use Rattle.std.proofs.Common.{◌∙◌, ap, refl, arith}
use Rattle.std.proofs.lemmas.Result.{err_from_is_err_and}
use Rattle.js_base.specs.declared.kind.Kind.TheVariants.{Return}
use Rattle.js_base.specs.declared.span.Span.{Span}
use Rattle.js_base.specs.declared.token.Token.{Token}
use Rattle.parse_shared.proofs.laws_shared.Moving.{same_both, standing, stops_behind}
use Rattle.parse_shared.proofs.laws_shared.Nesting.{nested_room, nests_later}
use Rattle.parse_control.proofs.laws_statements.Returns.{argument_stops, checked_place, ended_at, ended_further, return_answers, return_at, return_grown, return_same, return_unended, stray_marked}
use Rattle.parse_control.proofs.laws_statements.Statements.{ended_so, in_of}
use Rattle.parse_control.proofs.laws_statements.WordStatements.{word_here}
use Rattle.parse_statements.proofs.word_statement.parse_return_statement.Goals as goal

pub advance-requires-clause-whole : goal.advance-requires-clause-whole
advance-requires-clause-whole g c = word_here Return c.requires.at c.requires.word refl

pub parse_optional_argument-requires-clause-at : goal.parse_optional_argument-requires-clause-at
parse_optional_argument-requires-clause-at g c = standing (c.in_ok-advance.ensures _ _ c.requires.at).at

pub parse_optional_argument-requires-clause-nests : goal.parse_optional_argument-requires-clause-nests
parse_optional_argument-requires-clause-nests g c = nests_later c.requires.nests (let r = nested_room c.requires.at (c.in_ok-advance.ensures _ _ c.requires.at) in omega arith)

pub returns-in_err-argument : goal.returns-in_err-argument
returns-in_err-argument g c = λ b text f a.
    let p = err_from_is_err_and c.from_residual-in_err-argument.result c.from_residual-in_err-argument.ensures.1 in
    rw (p.1, p.2) (argument_stops a c.requires.word (c.in_ok-advance.ensures text f a) b c.parse_optional_argument.new.p _ c.in_err-argument.ensures)

pub end_statement-requires : goal.end_statement-requires
end_statement-requires g c = standing (return_at c.requires.at c.requires.word (c.in_ok-advance.ensures _ _ c.requires.at) (in_of c.requires.at c.requires.allows_in) c.parse_optional_argument.new.p c.in_ok-argument.argument c.in_ok-argument.ensures)

pub returns-in_err-end_statement : goal.returns-in_err-end_statement
returns-in_err-end_statement g c = λ b text f a.
    let p = err_from_is_err_and c.from_residual-in_err-end_statement.result c.from_residual-in_err-end_statement.ensures.1 in
    let m = c.in_ok-advance.ensures text f a in
    let i = in_of a c.requires.allows_in in
    rw (p.1, p.2) (stops_behind _ _ (return_same a c.requires.word m i c.parse_optional_argument.new.p c.in_ok-argument.argument c.in_ok-argument.ensures) (λ k. return_grown a c.requires.word m i c.parse_optional_argument.new.p c.in_ok-argument.argument c.in_ok-argument.ensures k) (λ n. return_unended a c.requires.word m i c.parse_optional_argument.new.p c.in_ok-argument.argument c.in_ok-argument.ensures b n) c.in_err-end_statement.ensures)

pub check_return-requires-clause-at : goal.check_return-requires-clause-at
check_return-requires-clause-at g c = (ended_at c.requires.at c.requires.word (c.in_ok-advance.ensures _ _ c.requires.at) (in_of c.requires.at c.requires.allows_in) c.parse_optional_argument.new.p c.in_ok-argument.argument c.in_ok-argument.ensures c.in_ok-end_statement.ensures).at

pub check_return-requires-clause-mark : goal.check_return-requires-clause-mark
check_return-requires-clause-mark g c =
    let a = c.requires.at in
    let m = c.in_ok-advance.ensures _ _ a in
    let i = in_of a c.requires.allows_in in
    λ b. stray_marked b _ a c.requires.word (c.span-word.ensures ∙ ap (λ (t : Token). t.span) c.cur_token.ensures) (same_both (return_same a c.requires.word m i c.parse_optional_argument.new.p c.in_ok-argument.argument c.in_ok-argument.ensures) (ended_so (return_at a c.requires.word m i c.parse_optional_argument.new.p c.in_ok-argument.argument c.in_ok-argument.ensures) c.in_ok-end_statement.ensures).same)

pub end_span-span-requires : goal.end_span-span-requires
end_span-span-requires g c =
    let a = c.requires.at in
    let m = c.in_ok-advance.ensures _ _ a in
    let i = in_of a c.requires.allows_in in
    let k = checked_place a c.requires.word m i c.parse_optional_argument.new.p c.in_ok-argument.argument c.in_ok-argument.ensures c.in_ok-end_statement.ensures c.in_ok-check_return.ensures in
    let n = ended_further a c.requires.word m i c.parse_optional_argument.new.p c.in_ok-argument.argument c.in_ok-argument.ensures c.in_ok-end_statement.ensures in
    let s = ap (λ (v : Span). v.start) (c.span-word.ensures ∙ ap (λ (t : Token). t.span) c.cur_token.ensures) in omega arith

pub returns : goal.returns
returns g c = λ b text f a.
    return_answers a c.requires.word (c.in_ok-advance.ensures text f a) (in_of a c.requires.allows_in) c.parse_optional_argument.new.p c.in_ok-argument.argument c.in_ok-argument.ensures c.in_ok-end_statement.ensures c.in_ok-check_return.ensures b _ (c.end_span-span.ensures.start ∙ ap (λ (v : Span). v.start) (c.span-word.ensures ∙ ap (λ (t : Token). t.span) c.cur_token.ensures)) c.end_span-span.ensures.end c.in_ok-node.ensures
