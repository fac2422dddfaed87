use Rattle.std.proofs.Common.{◌∷◌, [], ◌∙◌, ap, arith, refl, subst, sym}
use Rattle.std.proofs.lemmas.Result.{err_from_is_err_and}
use Rattle.js_base.specs.Kinds.{one_of_kinds}
use Rattle.js_base.specs.declared.kind.Kind.TheVariants.{LBrack, LCurly, LParen}
use Rattle.js_base.specs.declared.span.Span.{Span}
use Rattle.js_base.specs.declared.token.Token.{Token}
use Rattle.laws_classes.specs.laws_primary.js_cursor.Moves.{Opened}
use Rattle.laws_classes.proofs.laws_primary.laws_shared.Bracketed.{opened_here, opened_later}
use Rattle.laws_classes.proofs.laws_primary.laws_shared.Expected.{expected, unexpected}
use Rattle.laws_classes.proofs.laws_primary.laws_shared.Moving.{standing}
use Rattle.laws_classes.proofs.laws_primary.laws_shared.Nesting.{nested_room, nests_later}
use Rattle.parse_statements.proofs.laws_statements.Blocks.{closed_by}
use Rattle.laws_classes.proofs.ClassBodies.{body_answers, body_further, elements_stop, unclosed, unopened}
use Rattle.parse_classes.proofs.class_body.parse_class_body.Goals as goal

pub returns-in_err-expect : goal.returns-in_err-expect
returns-in_err-expect t c =
    let p = err_from_is_err_and c.from_residual.result c.from_residual.ensures.1 in
    rw (p.1, p.2) (λ text f a. unexpected a LCurly _ _ c.in_err-expect.ensures (λ n. unopened a n))

pub parse_elements-requires-clause-at : goal.parse_elements-requires-clause-at
parse_elements-requires-clause-at t c =
    let i = c.in_ok-expect.ensures in
    standing (expected c.requires.at LCurly i.0 i.1 refl refl).at

pub parse_elements-requires-clause-nests : goal.parse_elements-requires-clause-nests
parse_elements-requires-clause-nests t c =
    let i = c.in_ok-expect.ensures in
    nests_later c.requires.nests (let r = nested_room c.requires.at (expected c.requires.at LCurly i.0 i.1 refl refl) in omega arith)

pub returns-in_err-elements : goal.returns-in_err-elements
returns-in_err-elements t c =
    let p = err_from_is_err_and c.from_residual-in_err-elements.result c.from_residual-in_err-elements.ensures.1 in
    let i = c.in_ok-expect.ensures in
    rw (p.1, p.2) (λ text f a.
    let m = expected a LCurly i.0 i.1 refl refl in
    elements_stop a i.0 m _ _ (c.in_err-elements.ensures text f m.at))

pub expect_closing-requires-clause-at : goal.expect_closing-requires-clause-at
expect_closing-requires-clause-at t c =
    let i = c.in_ok-expect.ensures in
    (c.in_ok-elements.ensures.1 _ _ (expected c.requires.at LCurly i.0 i.1 refl refl).at).at.at

pub expect_closing-requires-clause-opened : goal.expect_closing-requires-clause-opened
expect_closing-requires-clause-opened t c =
    let i = c.in_ok-expect.ensures in
    let m = expected c.requires.at LCurly i.0 i.1 refl refl in
    let x = c.in_ok-elements.ensures.1 _ _ m.at in
    subst (λ (s : Span). Opened c.parse_elements.new.p s) (sym (c.span-opening.ensures ∙ ap (λ (t : Token). t.span) c.cur_token.ensures)) (opened_later x.same x.further (opened_here c.requires.at (ap (one_of_kinds (LParen ∷ LBrack ∷ LCurly ∷ [])) i.0.0) m))

pub returns-in_err-expect_closing : goal.returns-in_err-expect_closing
returns-in_err-expect_closing t c =
    let p = err_from_is_err_and c.from_residual-in_err-expect_closing.result c.from_residual-in_err-expect_closing.ensures.1 in
    let i = c.in_ok-expect.ensures in
    rw (p.1, p.2) (λ text f a.
    let m = expected a LCurly i.0 i.1 refl refl in
    unclosed a i.0 m c.in_ok-elements.ensures.0 (c.in_ok-elements.ensures.1 text f m.at) _ _ _ c.in_err-expect_closing.ensures)

pub end_span-span-requires : goal.end_span-span-requires
end_span-span-requires t c =
    let i = c.in_ok-expect.ensures in
    let m = expected c.requires.at LCurly i.0 i.1 refl refl in
    let x = c.in_ok-elements.ensures.1 _ _ m.at in
    let z = c.in_ok-expect_closing.ensures in
    let j = body_further c.requires.at i.0 m c.in_ok-elements.ensures.0 x z.0 (closed_by x.at z.0 z.1) in let s = c.cur_start-start.ensures in omega arith

pub returns : goal.returns
returns t c = λ text f a.
    let i = c.in_ok-expect.ensures in
    let m = expected a LCurly i.0 i.1 refl refl in
    let x = c.in_ok-elements.ensures.1 text f m.at in
    let z = c.in_ok-expect_closing.ensures in
    body_answers a i.0 m c.in_ok-elements.ensures.0 x z.0 (closed_by x.at z.0 z.1) _ (c.end_span-span.ensures.start ∙ c.cur_start-start.ensures) c.end_span-span.ensures.end c.in_ok-node.ensures
