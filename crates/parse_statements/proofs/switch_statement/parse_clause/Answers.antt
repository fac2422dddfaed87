use Rattle.std.proofs.Common.{◌∙◌, ap, arith, refl}
use Rattle.std.proofs.lemmas.Result.{err_from_is_err_and}
use Rattle.js_base.specs.Contexts.{has_flag, in_flag}
use Rattle.js_base.specs.declared.kind.Kind.TheVariants.{Colon}
use Rattle.parse_shared.proofs.laws_shared.Moving.{standing}
use Rattle.parse_shared.proofs.laws_shared.Nesting.{later_room, nested_room, nests_later}
use Rattle.parse_shared.proofs.laws_shared.Expected.{expected}
use Rattle.parse_control.proofs.laws_statements.SwitchStatements.{begins_one, clause_further, clause_read, colon_missing, headed_same, list_stops}
use Rattle.parse_statements.proofs.switch_statement.parse_clause.Goals as goal

pub returns-in_err-test-clause-read : goal.returns-in_err-test-clause-read
returns-in_err-test-clause-read t c =
    let p = err_from_is_err_and c.from_residual.result c.from_residual.ensures.1 in
    rw (p.1, p.2) (λ b h text f a. c.in_err-test.ensures b h text f a)

pub expect-requires : goal.expect-requires
expect-requires t c = let h = begins_one c.args.p.now c.requires.begins in (c.in_ok-test.ensures h.0 h.1 _ _ c.requires.at).at.at

pub returns-in_err-expect-clause-read : goal.returns-in_err-expect-clause-read
returns-in_err-expect-clause-read t c =
    let p = err_from_is_err_and c.from_residual-in_err-expect.result c.from_residual-in_err-expect.ensures.1 in
    rw (p.1, p.2) (λ b h text f a. colon_missing (c.in_ok-test.ensures b h text f a) _ _ c.in_err-expect.ensures)

pub parse_directives_and_statements-requires-clause-at : goal.parse_directives_and_statements-requires-clause-at
parse_directives_and_statements-requires-clause-at t c =
    let h = begins_one c.args.p.now c.requires.begins in
    let x = c.in_ok-test.ensures h.0 h.1 _ _ c.requires.at in
    let i = c.in_ok-expect.ensures in
    standing (expected x.at Colon i.0 i.1 refl refl).at

pub parse_directives_and_statements-requires-clause-nests : goal.parse_directives_and_statements-requires-clause-nests
parse_directives_and_statements-requires-clause-nests t c =
    let h = begins_one c.args.p.now c.requires.begins in
    let x = c.in_ok-test.ensures h.0 h.1 _ _ c.requires.at in
    let i = c.in_ok-expect.ensures in
    let r = later_room (let i = x.further in let j = c.requires.at.behind in omega arith) x.same in
    let s = nested_room x.at (expected x.at Colon i.0 i.1 refl refl) in
    nests_later c.requires.nests (omega arith)

pub parse_directives_and_statements-requires-clause-allows_in : goal.parse_directives_and_statements-requires-clause-allows_in
parse_directives_and_statements-requires-clause-allows_in t c =
    let h = begins_one c.args.p.now c.requires.begins in
    let x = c.in_ok-test.ensures h.0 h.1 _ _ c.requires.at in
    let i = c.in_ok-expect.ensures in
    ap (has_flag in_flag) (headed_same x i.0 (expected x.at Colon i.0 i.1 refl refl)).ctx ∙ c.requires.allows_in

pub returns-in_err-children-clause-read : goal.returns-in_err-children-clause-read
returns-in_err-children-clause-read t c =
    let p = err_from_is_err_and c.from_residual-in_err-children.result c.from_residual-in_err-children.ensures.1 in
    let i = c.in_ok-expect.ensures in
    rw (p.1, p.2) (λ b h text f a.
    let x = c.in_ok-test.ensures b h text f a in
    let m = expected x.at Colon i.0 i.1 refl refl in
    list_stops x i.0 m _ _ (c.in_err-children.ensures text f m.at))

pub end_span-span-requires : goal.end_span-span-requires
end_span-span-requires t c =
    let h = begins_one c.args.p.now c.requires.begins in
    let x = c.in_ok-test.ensures h.0 h.1 _ _ c.requires.at in
    let i = c.in_ok-expect.ensures in
    let m = expected x.at Colon i.0 i.1 refl refl in
    let j = clause_further x i.0 m (c.in_ok-children.ensures.1 _ _ m.at) in let s = c.cur_start-start.ensures in omega arith

pub returns-clause-read : goal.returns-clause-read
returns-clause-read t c = λ b h text f a.
    let x = c.in_ok-test.ensures b h text f a in
    let i = c.in_ok-expect.ensures in
    let m = expected x.at Colon i.0 i.1 refl refl in
    clause_read x i.0 m (c.in_ok-children.ensures.1 text f m.at) _ c.in_ok-insert.ensures.items (c.end_span-span.ensures.start ∙ c.cur_start-start.ensures) c.end_span-span.ensures.end c.in_ok-node.ensures
