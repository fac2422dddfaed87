use Rattle.std.proofs.Common.{ap, refl, subst, sym, arith, ◌∙◌}
use Rattle.std.specs.Prelude.{◌∷◌, []}
use Rattle.std.proofs.lemmas.Result.{err_from_is_err_and}
use Rattle.js_base.specs.declared.kind.Kind.TheVariants.{LParen, LBrack, LCurly}
use Rattle.js_base.specs.declared.span.Span.{Span}
use Rattle.js_base.specs.declared.token.Token.{Token}
use Rattle.js_base.specs.Kinds.{one_of_kinds}
use Rattle.laws_primary.specs.js_cursor.Moves.{Opened}
use Rattle.laws_primary.proofs.laws_shared.Bracketed.{opened_here, opened_later}
use Rattle.laws_primary.proofs.laws_shared.Moving.{standing}
use Rattle.laws_primary.proofs.laws_shared.Nesting.{nested_room, nests_later}
use Rattle.laws_primary.proofs.laws_shared.Signs.{whole_sign}
use Rattle.laws_primary.proofs.PropertyNames.{close_stops, computed_named, key_stops}
use Rattle.parse_primary.proofs.property_name.parse_computed_name.Goals as goal

pub advance-requires-clause-whole : goal.advance-requires-clause-whole
advance-requires-clause-whole g c = whole_sign LBrack c.requires.at c.requires.open.0 refl refl

pub assignment_with_in-requires-clause-at : goal.assignment_with_in-requires-clause-at
assignment_with_in-requires-clause-at g c = standing (c.in_ok-advance.ensures _ _ c.requires.at).at

pub assignment_with_in-requires-clause-nests : goal.assignment_with_in-requires-clause-nests
assignment_with_in-requires-clause-nests g c = nests_later c.requires.nests (let r = nested_room c.requires.at (c.in_ok-advance.ensures _ _ c.requires.at) in omega arith)

pub returns-in_err-key : goal.returns-in_err-key
returns-in_err-key g c = λ text f a.
    let p = err_from_is_err_and c.from_residual-in_err-key.result c.from_residual-in_err-key.ensures.1 in
    let m = c.in_ok-advance.ensures text f a in
    rw (p.1, p.2) (key_stops a c.requires.open.0 m _ _ (c.in_err-key.ensures text f m.at))

pub expect_closing-requires-clause-at : goal.expect_closing-requires-clause-at
expect_closing-requires-clause-at g c = (c.in_ok-key.ensures _ _ (c.in_ok-advance.ensures _ _ c.requires.at).at).answer.at.at

pub expect_closing-requires-clause-opened : goal.expect_closing-requires-clause-opened
expect_closing-requires-clause-opened g c =
    let m = c.in_ok-advance.ensures _ _ c.requires.at in
    let x = (c.in_ok-key.ensures _ _ m.at).answer in
    subst (λ (s : Span). Opened c.assignment_with_in.new.p s) (sym (c.span-opening.ensures ∙ ap (λ (t : Token). t.span) c.cur_token.ensures)) (opened_later x.same (let i = x.further in let j = m.at.behind in omega arith) (opened_here c.requires.at (ap (one_of_kinds (LParen ∷ LBrack ∷ LCurly ∷ [])) c.requires.open.0) m))

pub returns-in_err-expect_closing : goal.returns-in_err-expect_closing
returns-in_err-expect_closing g c = λ text f a.
    let p = err_from_is_err_and c.from_residual-in_err-expect_closing.result c.from_residual-in_err-expect_closing.ensures.1 in
    let m = c.in_ok-advance.ensures text f a in
    rw (p.1, p.2) (close_stops a c.requires.open.0 m (c.in_ok-key.ensures text f m.at) _ _ _ c.in_err-expect_closing.ensures)

pub returns : goal.returns
returns g c = λ text f a.
    let m = c.in_ok-advance.ensures text f a in
    computed_named a c.requires.open.0 m (c.in_ok-key.ensures text f m.at) c.in_ok-expect_closing.ensures
