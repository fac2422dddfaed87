use Rattle.std.proofs.Common.{◌∷◌, [], ◌∙◌, ap, arith, refl, subst, sym}
use Rattle.std.proofs.lemmas.Result.{err_from_is_err_and}
use Rattle.js_base.specs.Contexts.{has_flag, in_flag}
use Rattle.js_base.specs.declared.kind.Kind.TheVariants.{LParen, LBrack, LCurly}
use Rattle.js_base.specs.declared.span.Span.{Span}
use Rattle.js_base.specs.declared.token.Token.{Token}
use Rattle.js_base.specs.Kinds.{one_of_kinds}
use Rattle.parse_shared.specs.js_cursor.Moves.{Opened}
use Rattle.parse_shared.proofs.laws_shared.Bracketed.{opened_here, opened_later}
use Rattle.parse_shared.proofs.laws_shared.Moving.{standing, stops_behind}
use Rattle.parse_shared.proofs.laws_shared.Nesting.{nested_room, nests_later}
use Rattle.parse_shared.proofs.laws_shared.Verdicts.{grown_then}
use Rattle.parse_shared.proofs.laws_shared.Expected.{unexpected, expected}
use Rattle.parse_control.proofs.laws_statements.Blocks.{braces_taken, braces_unclosed, closed_by, list_refused, unopened}
use Rattle.parse_statements.proofs.block.parse_statements_in_braces.Goals as goal

pub returns-in_err-expect : goal.returns-in_err-expect
returns-in_err-expect t c =
    let p = err_from_is_err_and c.from_residual.result c.from_residual.ensures.1 in
    rw (p.1, p.2) (λ text f a. unexpected a LCurly _ _ c.in_err-expect.ensures (λ n. unopened c.args.list a n))

pub parse_directives_and_statements-requires-clause-at : goal.parse_directives_and_statements-requires-clause-at
parse_directives_and_statements-requires-clause-at t c =
    let i = c.in_ok-expect.ensures in
    standing (expected c.requires.at LCurly i.0 i.1 refl refl).at

pub parse_directives_and_statements-requires-clause-nests : goal.parse_directives_and_statements-requires-clause-nests
parse_directives_and_statements-requires-clause-nests t c =
    let i = c.in_ok-expect.ensures in
    nests_later c.requires.nests (let r = nested_room c.requires.at (expected c.requires.at LCurly i.0 i.1 refl refl) in omega arith)

pub parse_directives_and_statements-requires-clause-allows_in : goal.parse_directives_and_statements-requires-clause-allows_in
parse_directives_and_statements-requires-clause-allows_in t c =
    let i = c.in_ok-expect.ensures in
    ap (has_flag in_flag) (expected c.requires.at LCurly i.0 i.1 refl refl).same.ctx ∙ c.requires.allows_in

pub returns-in_err-items : goal.returns-in_err-items
returns-in_err-items t c =
    let p = err_from_is_err_and c.from_residual-in_err-items.result c.from_residual-in_err-items.ensures.1 in
    let i = c.in_ok-expect.ensures in
    rw (p.1, p.2) (λ text f a.
    let m = expected a LCurly i.0 i.1 refl refl in
    stops_behind _ _ m.same (λ g. grown_then m.kept g) (λ n. list_refused a i.0 m c.args.list c.requires.braces n) (c.in_err-items.ensures text f m.at))

pub expect_closing-requires-clause-at : goal.expect_closing-requires-clause-at
expect_closing-requires-clause-at t c =
    let i = c.in_ok-expect.ensures in
    (c.in_ok-items.ensures.1 _ _ (expected c.requires.at LCurly i.0 i.1 refl refl).at).at.at

pub expect_closing-requires-clause-opened : goal.expect_closing-requires-clause-opened
expect_closing-requires-clause-opened t c =
    let i = c.in_ok-expect.ensures in
    let m = expected c.requires.at LCurly i.0 i.1 refl refl in
    let x = c.in_ok-items.ensures.1 _ _ m.at in
    subst (λ (s : Span). Opened c.parse_directives_and_statements.new.p s) (sym (c.span-opening.ensures ∙ ap (λ (t : Token). t.span) c.cur_token.ensures)) (opened_later x.same x.further (opened_here c.requires.at (ap (one_of_kinds (LParen ∷ LBrack ∷ LCurly ∷ [])) i.0.0) m))

pub returns-in_err-expect_closing : goal.returns-in_err-expect_closing
returns-in_err-expect_closing t c =
    let p = err_from_is_err_and c.from_residual-in_err-expect_closing.result c.from_residual-in_err-expect_closing.ensures.1 in
    let i = c.in_ok-expect.ensures in
    rw (p.1, p.2) (λ text f a.
    let m = expected a LCurly i.0 i.1 refl refl in
    braces_unclosed a i.0 m c.args.list c.requires.braces c.in_ok-items.ensures.0 (c.in_ok-items.ensures.1 text f m.at) _ _ _ c.in_err-expect_closing.ensures)

pub returns : goal.returns
returns t c = λ text f a.
    let i = c.in_ok-expect.ensures in
    let m = expected a LCurly i.0 i.1 refl refl in
    let x = c.in_ok-items.ensures.1 text f m.at in
    let z = c.in_ok-expect_closing.ensures in
    braces_taken a i.0 m c.args.list c.requires.braces c.in_ok-items.ensures.0 x z.0 (closed_by x.at z.0 z.1)
