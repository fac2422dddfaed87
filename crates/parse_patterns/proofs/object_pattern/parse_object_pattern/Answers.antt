use Rattle.std.proofs.Common.{◌∙◌, refl, sym, ap, subst, arith}
use Rattle.std.specs.Prelude.{◌∷◌, []}
use Rattle.std.proofs.lemmas.Result.{err_from_is_err_and}
use Rattle.js_base.specs.declared.span.Span.{Span}
use Rattle.js_base.specs.declared.token.Token.{Token}
use Rattle.js_base.specs.declared.kind.Kind.TheVariants.{LParen, LBrack, LCurly, RCurly}
use Rattle.js_base.specs.Kinds.{one_of_kinds}
use Rattle.parse_shared.specs.js_cursor.Moves.{Opened}
use Rattle.laws_patterns.proofs.Bindings.{pattern_moved, pattern_unclosed}
use Rattle.laws_patterns.proofs.ObjectLists.{no_object, object_answers, object_opened, unclosed_object}
use Rattle.parse_shared.proofs.laws_shared.Bracketed.{opened_here, opened_later}
use Rattle.parse_shared.proofs.laws_shared.Signs.{whole_sign}
use Rattle.laws_patterns.proofs.Lists.{list_goes_on, list_stops}
use Rattle.parse_shared.proofs.laws_shared.Moving.{standing, stops_behind, stops_so}
use Rattle.parse_shared.proofs.laws_shared.Nesting.{nested_room, nests_later}
use Rattle.parse_shared.proofs.laws_shared.Verdicts.{after}
use Rattle.parse_patterns.proofs.object_pattern.parse_object_pattern.Goals as goal

pub advance-requires-clause-whole : goal.advance-requires-clause-whole
advance-requires-clause-whole g c = whole_sign LCurly c.requires.at c.requires.open.0 refl refl

pub parse_binding_properties-requires-clause-at : goal.parse_binding_properties-requires-clause-at
parse_binding_properties-requires-clause-at g c = standing (c.in_ok-advance.ensures _ _ c.requires.at).at

pub parse_binding_properties-requires-clause-nests : goal.parse_binding_properties-requires-clause-nests
parse_binding_properties-requires-clause-nests g c = nests_later c.requires.nests (let r = nested_room c.requires.at (c.in_ok-advance.ensures _ _ c.requires.at) in omega arith)

pub returns-in_err-properties : goal.returns-in_err-properties
returns-in_err-properties g c = λ text f a.
    let p = err_from_is_err_and c.from_residual-in_err-properties.result c.from_residual-in_err-properties.ensures.1 in
    let m = c.in_ok-advance.ensures text f a in
    rw (p.1, p.2) (stops_so _ _ _ (λ n. no_object a c.requires.open.0 n) (list_stops _ _ (object_opened a c.requires.open.0 m) (c.in_err-properties.ensures text f m.at)))

pub expect_closing-requires-clause-at : goal.expect_closing-requires-clause-at
expect_closing-requires-clause-at g c = (c.in_ok-properties.ensures _ _ (c.in_ok-advance.ensures _ _ c.requires.at).at).at.at

pub expect_closing-requires-clause-opened : goal.expect_closing-requires-clause-opened
expect_closing-requires-clause-opened g c =
    let m = c.in_ok-advance.ensures _ _ c.requires.at in
    let x = c.in_ok-properties.ensures _ _ m.at in
    subst (λ (s : Span). Opened c.parse_binding_properties.new.p s) (sym (c.span-opening.ensures ∙ ap (λ (t : Token). t.span) c.cur_token.ensures)) (opened_later x.same x.forward (opened_here c.requires.at (ap (one_of_kinds (LParen ∷ LBrack ∷ LCurly ∷ [])) c.requires.open.0) m))

pub returns-in_err-expect_closing : goal.returns-in_err-expect_closing
returns-in_err-expect_closing g c = λ text f a.
    let p = err_from_is_err_and c.from_residual-in_err-expect_closing.result c.from_residual-in_err-expect_closing.ensures.1 in
    let m = c.in_ok-advance.ensures text f a in
    let y = c.in_ok-properties.ensures text f m.at in
    let x = list_goes_on (object_opened a c.requires.open.0 m) y in
    rw (p.1, p.2) (stops_behind _ _ x.same (λ e. after x.verdict e) (λ n. unclosed_object a c.requires.open.0 x n) (pattern_unclosed RCurly _ _ _ _ x.at c.in_err-expect_closing.ensures (λ n. n)))

pub end_span-span-requires : goal.end_span-span-requires
end_span-span-requires g c =
    let m = c.in_ok-advance.ensures _ _ c.requires.at in
    let x = c.in_ok-properties.ensures _ _ m.at in
    let d = pattern_moved RCurly refl refl x.at c.in_ok-expect_closing.ensures in
    let s = ap (λ (s : Span). s.start) (c.span-opening.ensures ∙ ap (λ (t : Token). t.span) c.cur_token.ensures) in
    let i = m.further in let k = x.forward in let l = x.at.behind in let n = d.further in omega arith

pub returns : goal.returns
returns g c = λ text f a.
    let m = c.in_ok-advance.ensures text f a in
    let y = c.in_ok-properties.ensures text f m.at in
    let x = list_goes_on (object_opened a c.requires.open.0 m) y in
    object_answers a c.requires.open.0 x c.in_ok-expect_closing.ensures.0 (pattern_moved RCurly refl refl x.at c.in_ok-expect_closing.ensures) _ (c.end_span-span.ensures.start ∙ ap (λ (s : Span). s.start) (c.span-opening.ensures ∙ ap (λ (t : Token). t.span) c.cur_token.ensures)) c.end_span-span.ensures.end c.in_ok-node.ensures
