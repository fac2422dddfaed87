use Rattle.std.proofs.Common.{◌∙◌, ap, arith, refl, subst, sym}
use Rattle.std.specs.Prelude.{◌∷◌, []}
use Rattle.std.proofs.lemmas.Result.{err_from_is_err_and}
use Rattle.js_base.specs.declared.kind.Kind.TheVariants.{LParen, LBrack, LCurly}
use Rattle.js_base.specs.declared.span.Span.{Span}
use Rattle.js_base.specs.declared.token.Token.{Token}
use Rattle.js_base.specs.Kinds.{one_of_kinds}
use Rattle.parse_shared.specs.js_cursor.Moves.{Opened}
use Rattle.parse_primary.proofs.laws_primary.Parentheses.{unclosed}
use Rattle.parse_shared.proofs.laws_shared.Bracketed.{opened_here, opened_later}
use Rattle.parse_shared.proofs.laws_shared.Moving.{same_both, standing, stops_behind}
use Rattle.parse_shared.proofs.laws_shared.Nesting.{nested_room}
use Rattle.parse_shared.proofs.laws_shared.Verdicts.{after, grown_then}
use Rattle.parse_shared.proofs.laws_shared.Expected.{unexpected, expected}
use Rattle.laws_statements.proofs.CompoundStatements.{no_parens, parens_taken, parens_unclosed, parens_unread}
use Rattle.parse_control.proofs.compound_statement.parse_paren_expression.Goals as goal

pub returns-in_err-expect : goal.returns-in_err-expect
returns-in_err-expect t c = λ text f a.
    let p = err_from_is_err_and c.from_residual.result c.from_residual.ensures.1 in
    rw (p.1, p.2) (unexpected a LParen _ _ c.in_err-expect.ensures (λ n. no_parens a n))

pub expression-requires : goal.expression-requires
expression-requires t c =
    let i = c.in_ok-expect.ensures in
    let m = expected c.requires.at LParen i.0 i.1 refl refl in
    c.requires.nests _ _ (standing m.at) (nested_room c.requires.at m)

pub returns-in_err-expression : goal.returns-in_err-expression
returns-in_err-expression t c = λ text f a.
    let p = err_from_is_err_and c.from_residual-in_err-expression.result c.from_residual-in_err-expression.ensures.1 in
    let i = c.in_ok-expect.ensures in
    let m = expected a LParen i.0 i.1 refl refl in
    rw (p.1, p.2) (stops_behind _ _ m.same (λ g. grown_then m.kept g) (λ n. parens_unread a i.0 m n) (c.in_err-expression.ensures text f m.at))

pub close_parentheses-requires-clause-at : goal.close_parentheses-requires-clause-at
close_parentheses-requires-clause-at t c =
    let i = c.in_ok-expect.ensures in
    standing (c.in_ok-expression.ensures _ _ (expected c.requires.at LParen i.0 i.1 refl refl).at).answer.at

pub close_parentheses-requires-clause-opened : goal.close_parentheses-requires-clause-opened
close_parentheses-requires-clause-opened t c =
    let i = c.in_ok-expect.ensures in
    let m = expected c.requires.at LParen i.0 i.1 refl refl in
    let x = (c.in_ok-expression.ensures _ _ m.at).answer in
    subst (λ (s : Span). Opened c.expression.new.p s) (sym (c.span-opening.ensures ∙ ap (λ (t : Token). t.span) c.cur_token.ensures)) (opened_later x.same (let a = x.further in let b = m.at.behind in omega arith) (opened_here c.requires.at (ap (one_of_kinds (LParen ∷ LBrack ∷ LCurly ∷ [])) i.0.0) m))

pub returns-in_err-close_parentheses : goal.returns-in_err-close_parentheses
returns-in_err-close_parentheses t c = λ text f a.
    let p = err_from_is_err_and c.from_residual-in_err-close_parentheses.result c.from_residual-in_err-close_parentheses.ensures.1 in
    let i = c.in_ok-expect.ensures in
    let m = expected a LParen i.0 i.1 refl refl in
    let x = c.in_ok-expression.ensures text f m.at in
    rw (p.1, p.2) (stops_behind _ _ (same_both m.same x.answer.same) (λ g. grown_then m.kept (after x.answer.verdict g)) (λ n. parens_unclosed a i.0 m x.answer n) (unclosed _ _ _ x.answer.at c.in_err-close_parentheses.ensures (λ n. n)))

pub returns : goal.returns
returns t c = λ text f a.
    let i = c.in_ok-expect.ensures in
    let m = expected a LParen i.0 i.1 refl refl in
    let x = c.in_ok-expression.ensures text f m.at in
    parens_taken a i.0 m x c.in_ok-close_parentheses.ensures.0 (c.in_ok-close_parentheses.ensures.1 text f x.answer.at)
