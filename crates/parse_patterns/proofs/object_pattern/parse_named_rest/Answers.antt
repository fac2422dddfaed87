use Rattle.std.proofs.Common.{◌∙◌, refl, arith, subst, sym}
use Rattle.std.proofs.lemmas.Result.{err_from_is_err_and}
use Rattle.js_base.specs.declared.diagnostic.DiagnosticKind.TheVariants.{BindingRestElementLast}
use Rattle.js_base.specs.declared.kind.Kind.TheVariants.{Dot3}
use Rattle.js_grammar.specs.Productions.{BindingIdentifier}
use Rattle.js_grammar.specs.Productions.{sym as symbol}
use Rattle.parse_shared.proofs.js_tree.HoldingLemmas.{Holds-below}
use Rattle.parse_shared.specs.laws_shared.Classes.{EndsParse}
use Rattle.parse_shared.proofs.laws_shared.Signs.{whole_sign}
use Rattle.parse_shared.proofs.laws_shared.Moving.{standing}
use Rattle.parse_shared.proofs.laws_shared.Nesting.{later_room, nested_room, nests_later}
use Rattle.laws_patterns.proofs.BehindRests.{rest_marked}
use Rattle.laws_patterns.proofs.ObjectRests.{argument_stops, binds_so, named_bound, rest_further, rest_same, unnamed_marked, unnamed_stops}
use Rattle.laws_patterns.proofs.RestInitialisers.{rest_begins}
use Rattle.parse_patterns.proofs.object_pattern.parse_named_rest.Goals as goal

pub advance-requires-clause-whole : goal.advance-requires-clause-whole
advance-requires-clause-whole g c = whole_sign Dot3 c.requires.at c.requires.sign refl refl

pub parse_nested_binding-requires-clause-at : goal.parse_nested_binding-requires-clause-at
parse_nested_binding-requires-clause-at g c = standing (c.in_ok-advance.ensures _ _ c.requires.at).at

pub parse_nested_binding-requires-clause-nests : goal.parse_nested_binding-requires-clause-nests
parse_nested_binding-requires-clause-nests g c = nests_later c.requires.nests (let r = nested_room c.requires.at (c.in_ok-advance.ensures _ _ c.requires.at) in omega arith)

pub returns-in_err-argument : goal.returns-in_err-argument
returns-in_err-argument g c = λ text f a.
    let p = err_from_is_err_and c.from_residual-in_err-argument.result c.from_residual-in_err-argument.ensures.1 in
    let m = c.in_ok-advance.ensures text f a in
    rw (p.1, p.2) (argument_stops a c.requires.sign m _ _ (c.in_err-argument.ensures.answers text f m.at))

pub binds_name-requires : goal.binds_name-requires
binds_name-requires g c = Holds-below (c.in_ok-argument.ensures.answers _ _ (c.in_ok-advance.ensures _ _ c.requires.at).at).holds

pub end_span-span-requires : goal.end_span-span-requires
end_span-span-requires g c =
    let m = c.in_ok-advance.ensures _ _ c.requires.at in
    let x = rest_further c.requires.at c.requires.sign m (c.in_ok-argument.ensures.answers _ _ m.at) in
    let s = c.cur_start-start.ensures in omega arith

pub end_span-binding-requires : goal.end_span-binding-requires
end_span-binding-requires g c =
    let x = (c.in_ok-argument.ensures.answers _ _ (c.in_ok-advance.ensures _ _ c.requires.at).at).answer.further in
    let s = c.cur_start-bound.ensures in omega arith

pub refuse_rest-requires-clause-at : goal.refuse_rest-requires-clause-at
refuse_rest-requires-clause-at g c = standing (c.in_ok-argument.ensures.answers _ _ (c.in_ok-advance.ensures _ _ c.requires.at).at).answer.at

pub refuse_rest-requires-clause-mark : goal.refuse_rest-requires-clause-mark
refuse_rest-requires-clause-mark g c =
    let m = c.in_ok-advance.ensures _ _ c.requires.at in
    let x = c.in_ok-argument.ensures.answers _ _ m.at in
    rest_marked BindingRestElementLast _ c.diagnostic_at-misplaced.ensures (λ s y. (y, (refl, refl))) c.requires.at c.requires.sign x.answer.at (rest_same c.requires.at c.requires.sign m x) (rest_further c.requires.at c.requires.sign m x) (c.end_span-span.ensures.start ∙ c.cur_start-start.ensures) c.end_span-span.ensures.end

pub refuse_rest-requires-clause-ends : goal.refuse_rest-requires-clause-ends
refuse_rest-requires-clause-ends g c = subst EndsParse (sym c.diagnostic_at-misplaced.ensures) refl

pub refuse_rest-requires-clause-mark_unnamed : goal.refuse_rest-requires-clause-mark_unnamed
refuse_rest-requires-clause-mark_unnamed g c =
    let m = c.in_ok-advance.ensures _ _ c.requires.at in
    let x = c.in_ok-argument.ensures.answers _ _ m.at in
    unnamed_marked c.requires.at c.requires.sign m x _ c.diagnostic_at-unnamed.ensures (rest_begins m.at c.in_ok-argument.ensures.lexeme x.answer.same x.answer.further (c.end_span-binding.ensures.start ∙ c.cur_start-bound.ensures)) c.end_span-binding.ensures.end

pub refuse_rest-requires-clause-ends_unnamed : goal.refuse_rest-requires-clause-ends_unnamed
refuse_rest-requires-clause-ends_unnamed g c = subst EndsParse (sym c.diagnostic_at-unnamed.ensures) refl

pub returns-then-not-binds_name : goal.returns-then-not-binds_name
returns-then-not-binds_name g c = λ text f a.
    let m = c.in_ok-advance.ensures text f a in
    let x = c.in_ok-argument.ensures.answers text f m.at in
    unnamed_stops a c.requires.sign m x (binds_so _ c.if-not-binds_name.true c.binds_name.ensures) _ _ (c.refuse_rest.ensures text f x.answer.at)

pub finish_rest-requires-clause-at : goal.finish_rest-requires-clause-at
finish_rest-requires-clause-at g c = standing (c.in_ok-argument.ensures.answers _ _ (c.in_ok-advance.ensures _ _ c.requires.at).at).answer.at

pub finish_rest-requires-clause-nests : goal.finish_rest-requires-clause-nests
finish_rest-requires-clause-nests g c =
    let m = c.in_ok-advance.ensures _ _ c.requires.at in
    let x = (c.in_ok-argument.ensures.answers _ _ m.at).answer in
    nests_later c.requires.nests (let r = nested_room c.requires.at m in let s = later_room (let i = x.further in let j = m.at.behind in omega arith) x.same in omega arith)

pub finish_rest-requires-clause-begins : goal.finish_rest-requires-clause-begins
finish_rest-requires-clause-begins g c =
    let m = c.in_ok-advance.ensures _ _ c.requires.at in
    let x = (c.in_ok-argument.ensures.answers _ _ m.at).answer in
    rest_begins m.at c.in_ok-argument.ensures.lexeme x.same x.further c.cur_start-bound.ensures

pub finish_rest-requires-clause-before : goal.finish_rest-requires-clause-before
finish_rest-requires-clause-before g c =
    let m = c.in_ok-advance.ensures _ _ c.requires.at in
    let i = m.further in let j = m.at.behind in let b = c.cur_start-start.ensures in let d = c.cur_start-bound.ensures in omega arith

pub returns : goal.returns
returns g c = λ text f a.
    let m = c.in_ok-advance.ensures text f a in
    let x = c.in_ok-argument.ensures.answers text f m.at in
    c.finish_rest.ensures text f (symbol BindingIdentifier f) c.args.p.now a c.cur_start-start.ensures (named_bound a c.requires.sign m x (binds_so _ c.if-not-binds_name.false c.binds_name.ensures))
