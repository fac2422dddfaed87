use Rattle.std.proofs.Common.{◌∷◌, [], ap, arith, refl, subst, sym, ◌∙◌}
use Rattle.std.proofs.lemmas.Result.{err_from_is_err_and}
use Rattle.js_base.specs.declared.kind.Kind.TheVariants.{LBrack, LCurly, LParen}
use Rattle.js_base.specs.declared.span.Span.{Span}
use Rattle.js_base.specs.declared.token.Token.{Token}
use Rattle.js_base.specs.Kinds.{one_of_kinds}
use Rattle.parse_shared.specs.js_cursor.Moves.{Opened}
use Rattle.parse_primary.proofs.laws_primary.Parentheses.{unclosed}
use Rattle.parse_shared.proofs.laws_shared.Bracketed.{opened_here, opened_later}
use Rattle.parse_shared.proofs.laws_shared.Moving.{same_both, standing, stops_behind}
use Rattle.parse_shared.proofs.laws_shared.Nesting.{nested_room, nests_later}
use Rattle.parse_shared.proofs.laws_shared.Expected.{unexpected, expected}
use Rattle.laws_statements.proofs.ForHeads.{head_grown, head_stops, paren_missing, parens_head, unclosed_all}
use Rattle.parse_control.proofs.for_statement.parse_paren_for_head.Goals as goal

pub returns-in_err-expect : goal.returns-in_err-expect
returns-in_err-expect g c =
    let p = err_from_is_err_and c.from_residual.result c.from_residual.ensures.1 in
    rw (p.1, p.2) (λ text f a. unexpected a LParen _ _ c.in_err-expect.ensures (λ n d. paren_missing c.args.is_await a n d))

pub parse_for_head-requires-clause-at : goal.parse_for_head-requires-clause-at
parse_for_head-requires-clause-at g c = let i = c.in_ok-expect.ensures in standing (expected c.requires.at LParen i.0 i.1 refl refl).at

pub parse_for_head-requires-clause-nests : goal.parse_for_head-requires-clause-nests
parse_for_head-requires-clause-nests g c = let i = c.in_ok-expect.ensures in nests_later c.requires.nests (let r = nested_room c.requires.at (expected c.requires.at LParen i.0 i.1 refl refl) in omega arith)

pub returns-in_err-ending : goal.returns-in_err-ending
returns-in_err-ending g c =
    let p = err_from_is_err_and c.from_residual-in_err-ending.result c.from_residual-in_err-ending.ensures.1 in
    rw (p.1, p.2) (λ text f a. let i = c.in_ok-expect.ensures in let m = expected a LParen i.0 i.1 refl refl in head_stops c.args.is_await a i.0 m _ _ (c.in_err-ending.ensures text f m.at))

pub close_parentheses-requires-clause-at : goal.close_parentheses-requires-clause-at
close_parentheses-requires-clause-at g c =
    let i = c.in_ok-expect.ensures in
    standing (c.in_ok-ending.ensures _ _ (expected c.requires.at LParen i.0 i.1 refl refl).at).path.at

pub close_parentheses-requires-clause-opened : goal.close_parentheses-requires-clause-opened
close_parentheses-requires-clause-opened g c =
    let i = c.in_ok-expect.ensures in
    let m = expected c.requires.at LParen i.0 i.1 refl refl in
    let x = c.in_ok-ending.ensures _ _ m.at in
    subst (λ (s : Span). Opened c.parse_for_head.new.p s) (sym (c.span-opening.ensures ∙ ap (λ (t : Token). t.span) c.cur_token.ensures)) (opened_later x.same (let a = x.path.further in let b = m.at.behind in omega arith) (opened_here c.requires.at (ap (one_of_kinds (LParen ∷ LBrack ∷ LCurly ∷ [])) i.0.0) m))

pub returns-in_err-close_parentheses : goal.returns-in_err-close_parentheses
returns-in_err-close_parentheses g c =
    let p = err_from_is_err_and c.from_residual-in_err-close_parentheses.result c.from_residual-in_err-close_parentheses.ensures.1 in
    let i = c.in_ok-expect.ensures in
    rw (p.1, p.2) (λ text f a.
    let m = expected a LParen i.0 i.1 refl refl in
    let x = c.in_ok-ending.ensures text f m.at in
    stops_behind _ _ (same_both m.same x.same) (λ d. head_grown c.args.is_await a i.0 m x d) (λ n. unclosed_all c.args.is_await a i.0 m x n) (unclosed _ _ _ x.path.at c.in_err-close_parentheses.ensures (λ n. n)))

pub returns : goal.returns
returns g c = λ text f a.
    let i = c.in_ok-expect.ensures in
    let m = expected a LParen i.0 i.1 refl refl in
    let x = c.in_ok-ending.ensures text f m.at in
    parens_head c.args.is_await a i.0 m x c.in_ok-close_parentheses.ensures.0 (c.in_ok-close_parentheses.ensures.1 text f x.path.at)
