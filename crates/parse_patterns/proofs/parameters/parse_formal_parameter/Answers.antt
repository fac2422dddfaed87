use Rattle.std.proofs.Common.{arith, refl, sym, ◌∙◌}
use Rattle.std.proofs.lemmas.Bool.{false≢true}
use Rattle.std.proofs.lemmas.Result.{err_from_is_err_and}
use Rattle.js_base.specs.declared.kind.Kind.TheVariants.{Eq}
use Rattle.parse_shared.proofs.laws_shared.Signs.{whole_sign}
use Rattle.parse_shared.proofs.laws_shared.Moving.{standing, stops_so}
use Rattle.parse_shared.proofs.laws_shared.Nesting.{nests_later, nested_room, later_room}
use Rattle.laws_patterns.proofs.ParameterLists.{alone_answers, annotated, binding_fails, no_initialiser, with_initialiser}
use Rattle.parse_patterns.proofs.parameters.parse_formal_parameter.Goals as goal

pub parse_binding_pattern-requires-clause-nests : goal.parse_binding_pattern-requires-clause-nests
parse_binding_pattern-requires-clause-nests g c = nests_later c.requires.nests (omega arith)

pub returns-in_err-binding : goal.returns-in_err-binding
returns-in_err-binding g c = λ text f a. let p = err_from_is_err_and c.from_residual.result c.from_residual.ensures.1 in rw (p.1, p.2) (stops_so _ _ _ (λ n. binding_fails f n) (c.in_err-binding.ensures text f a))

pub refuse_annotation-requires-clause-at : goal.refuse_annotation-requires-clause-at
refuse_annotation-requires-clause-at g c = standing (c.in_ok-binding.ensures _ _ c.requires.at).answer.at

pub refuse_annotation-requires-clause-colon : goal.refuse_annotation-requires-clause-colon
refuse_annotation-requires-clause-colon g c = c.at.ensures.0 c.if-at.true

pub returns-then-at : goal.returns-then-at
returns-then-at g c = λ text f a. annotated a (c.in_ok-binding.ensures text f a) (c.at.ensures.0 c.if-at.true) _ c.refuse_annotation.result c.refuse_annotation.ensures

pub end_span-span-requires : goal.end_span-span-requires
end_span-span-requires g c = let x = (c.in_ok-binding.ensures _ _ c.requires.at).answer.further in let s = c.cur_start-start.ensures in omega arith

pub returns-then-not-at : goal.returns-then-not-at
returns-then-not-at g c = λ text f a. alone_answers a (c.in_ok-binding.ensures text f a) _ (λ k. false≢true (sym c.if-not-at.true ∙ c.at-2.ensures.1 k)) (c.end_span-span.ensures.start ∙ c.cur_start-start.ensures) c.end_span-span.ensures.end c.in_ok-node.ensures

pub advance-requires-clause-at : goal.advance-requires-clause-at
advance-requires-clause-at g c = standing (c.in_ok-binding.ensures _ _ c.requires.at).answer.at

pub advance-requires-clause-whole : goal.advance-requires-clause-whole
advance-requires-clause-whole g c = whole_sign Eq (c.in_ok-binding.ensures _ _ c.requires.at).answer.at (c.at-2.ensures.0 c.if-not-at.false) refl refl

pub assignment_with_in-requires-clause-at : goal.assignment_with_in-requires-clause-at
assignment_with_in-requires-clause-at g c = standing (c.in_ok-advance.ensures _ _ (c.in_ok-binding.ensures _ _ c.requires.at).answer.at).at

pub assignment_with_in-requires-clause-nests : goal.assignment_with_in-requires-clause-nests
assignment_with_in-requires-clause-nests g c =
    let x = (c.in_ok-binding.ensures _ _ c.requires.at).answer in
    let r = nested_room x.at (c.in_ok-advance.ensures _ _ x.at) in
    let s = later_room (let a = x.further in let b = c.requires.at.behind in omega arith) x.same in
    nests_later c.requires.nests (omega arith)

pub returns-in_err-initialiser : goal.returns-in_err-initialiser
returns-in_err-initialiser g c = λ text f a.
    let p = err_from_is_err_and c.from_residual-in_err-initialiser.result c.from_residual-in_err-initialiser.ensures.1 in
    let x = c.in_ok-binding.ensures text f a in
    let m = c.in_ok-advance.ensures text f x.answer.at in
    rw (p.1, p.2) (no_initialiser a x (c.at-2.ensures.0 c.if-not-at.false) m _ _ (c.in_err-initialiser.ensures text f m.at))

pub end_span-span-requires-2 : goal.end_span-span-requires-2
end_span-span-requires-2 g c =
    let x = (c.in_ok-binding.ensures _ _ c.requires.at).answer in
    let m = c.in_ok-advance.ensures _ _ x.at in
    let y = (c.in_ok-initialiser.ensures _ _ m.at).answer in
    let s = c.cur_start-start.ensures in let a = x.further in let b = x.at.behind in let d = m.further in let e = m.at.behind in let h = y.further in omega arith

pub returns : goal.returns
returns g c = λ text f a.
    let x = c.in_ok-binding.ensures text f a in
    let m = c.in_ok-advance.ensures text f x.answer.at in
    with_initialiser a x (c.at-2.ensures.0 c.if-not-at.false) m _ (c.in_ok-initialiser.ensures text f m.at) (c.end_span-span-2.ensures.start ∙ c.cur_start-start.ensures) c.end_span-span-2.ensures.end c.in_ok-node-2.ensures
