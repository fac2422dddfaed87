use Rattle.std.proofs.Common.{◌∙◌, ap, arith, refl}
use Rattle.std.proofs.lemmas.Result.{err_from_is_err_and}
use Rattle.js_base.specs.Contexts.{has_flag, in_flag}
use Rattle.js_base.specs.declared.kind.Kind.TheVariants.{Do, While}
use Rattle.parse_shared.proofs.laws_shared.Moving.{standing}
use Rattle.parse_shared.proofs.laws_shared.Nesting.{later_room, nested_room, nests_later}
use Rattle.parse_shared.proofs.laws_shared.Expected.{expected}
use Rattle.laws_statements.proofs.CompoundStatements.{do_answers, do_stops, passed_so, test_stops, while_missing}
use Rattle.laws_statements.proofs.WordStatements.{word_here}
use Rattle.parse_control.proofs.compound_statement.parse_do_while_statement.Goals as goal

pub advance-requires-clause-whole : goal.advance-requires-clause-whole
advance-requires-clause-whole t c = word_here Do c.requires.at c.requires.word refl

pub statement-requires : goal.statement-requires
statement-requires t c =
    let m = c.in_ok-advance.ensures _ _ c.requires.at in
    c.requires.nests _ _ (standing m.at, ap (has_flag in_flag) m.same.ctx ∙ c.requires.allows_in) (nested_room c.requires.at m)

pub returns-in_err-body : goal.returns-in_err-body
returns-in_err-body t c = λ b text f a.
    let p = err_from_is_err_and c.from_residual-in_err-body.result c.from_residual-in_err-body.ensures.1 in
    let m = c.in_ok-advance.ensures text f a in
    rw (p.1, p.2) (do_stops a c.requires.word m b _ _ (c.in_err-body.ensures text f m.at))

pub expect-requires : goal.expect-requires
expect-requires t c = (c.in_ok-body.ensures _ _ (c.in_ok-advance.ensures _ _ c.requires.at).at).at.at

pub returns-in_err-expect : goal.returns-in_err-expect
returns-in_err-expect t c = λ b text f a.
    let p = err_from_is_err_and c.from_residual-in_err-expect.result c.from_residual-in_err-expect.ensures.1 in
    let m = c.in_ok-advance.ensures text f a in
    rw (p.1, p.2) (while_missing a c.requires.word m (c.in_ok-body.ensures text f m.at) b _ _ c.in_err-expect.ensures)

pub parse_paren_expression-requires-clause-at : goal.parse_paren_expression-requires-clause-at
parse_paren_expression-requires-clause-at t c =
    let m = c.in_ok-advance.ensures _ _ c.requires.at in
    let y = c.in_ok-body.ensures _ _ m.at in
    let i = c.in_ok-expect.ensures in
    standing (expected y.at While i.0 i.1 refl refl).at

pub parse_paren_expression-requires-clause-nests : goal.parse_paren_expression-requires-clause-nests
parse_paren_expression-requires-clause-nests t c =
    let m = c.in_ok-advance.ensures _ _ c.requires.at in
    let y = c.in_ok-body.ensures _ _ m.at in
    let i = c.in_ok-expect.ensures in
    let n = expected y.at While i.0 i.1 refl refl in
    let r = nested_room c.requires.at m in
    let s = later_room (let i = y.further in let j = m.at.behind in omega arith) y.same in
    let u = nested_room y.at n in
    nests_later c.requires.nests (omega arith)

pub returns-in_err-test : goal.returns-in_err-test
returns-in_err-test t c = λ b text f a.
    let p = err_from_is_err_and c.from_residual-in_err-test.result c.from_residual-in_err-test.ensures.1 in
    let m = c.in_ok-advance.ensures text f a in
    let y = c.in_ok-body.ensures text f m.at in
    let i = c.in_ok-expect.ensures in
    let n = expected y.at While i.0 i.1 refl refl in
    rw (p.1, p.2) (test_stops a c.requires.word m y i.0 n b _ _ (c.in_err-test.ensures text f n.at))

pub bump-requires : goal.bump-requires
bump-requires t c =
    let m = c.in_ok-advance.ensures _ _ c.requires.at in
    let y = c.in_ok-body.ensures _ _ m.at in
    let i = c.in_ok-expect.ensures in
    (c.in_ok-test.ensures _ _ (expected y.at While i.0 i.1 refl refl).at).at.at

pub end_span-span-requires : goal.end_span-span-requires
end_span-span-requires t c =
    let m = c.in_ok-advance.ensures _ _ c.requires.at in
    let y = c.in_ok-body.ensures _ _ m.at in
    let i = c.in_ok-expect.ensures in
    let n = expected y.at While i.0 i.1 refl refl in
    let x = c.in_ok-test.ensures _ _ n.at in
    let z = passed_so x.at c.in_ok-bump.ensures in
    let d = m.further in let e = m.at.behind in let g = y.further in let h = y.at.behind in let j = n.further in let k = n.at.behind in let l = x.further in let o = z.further in let s = c.cur_start-start.ensures in omega arith

pub returns : goal.returns
returns t c = λ b text f a.
    let m = c.in_ok-advance.ensures text f a in
    let y = c.in_ok-body.ensures text f m.at in
    let i = c.in_ok-expect.ensures in
    let n = expected y.at While i.0 i.1 refl refl in
    do_answers a c.requires.word m y i.0 n (c.in_ok-test.ensures text f n.at) c.in_ok-bump.ensures b _ (c.end_span-span.ensures.start ∙ c.cur_start-start.ensures) c.end_span-span.ensures.end c.in_ok-node.ensures
