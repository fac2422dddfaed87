use Rattle.std.proofs.Common.{arith, refl, sym, ◌∙◌}
use Rattle.std.proofs.lemmas.Bool.{false≢true}
use Rattle.std.proofs.lemmas.Result.{err_from_is_err_and}
use Rattle.js_base.specs.declared.kind.Kind.TheVariants.{Eq}
use Rattle.parse_shared.proofs.laws_shared.Giving.{gives_up_here}
use Rattle.parse_shared.proofs.laws_shared.Moving.{standing, stops_so}
use Rattle.parse_shared.proofs.laws_shared.Nesting.{later_room, nested_room}
use Rattle.parse_shared.proofs.laws_shared.Signs.{whole_sign}
use Rattle.parse_declarations.proofs.Declarators.{annotated_stops, declared_bare, declared_with, initialiser_stops, none_at, unbound}
use Rattle.parse_declarations.proofs.SpansMarked.{missing_marked}
use Rattle.parse_declarations.proofs.declaration.parse_variable_declarator.Goals as goal

pub returns-then-at : goal.returns-then-at
returns-then-at g c = λ text f a. gives_up_here _ _ c.set_unexpected.result a c.set_unexpected.ensures (none_at _ a (c.at.ensures.0 c.if-at.true))

pub returns-in_err-binding : goal.returns-in_err-binding
returns-in_err-binding g c = let p = err_from_is_err_and c.from_residual.result c.from_residual.ensures.1 in rw (p.1, p.2) (λ text f a. stops_so _ _ _ (λ n. unbound _ n) (c.in_err-binding.ensures text f a))

pub refuse_annotation-requires-clause-at : goal.refuse_annotation-requires-clause-at
refuse_annotation-requires-clause-at g c = standing (c.in_ok-binding.ensures _ _ c.requires.at).answer.at

pub refuse_annotation-requires-clause-colon : goal.refuse_annotation-requires-clause-colon
refuse_annotation-requires-clause-colon g c = c.at-2.ensures.0 c.if-at-2.true

pub returns-then-at-2 : goal.returns-then-at-2
returns-then-at-2 g c = λ text f a. annotated_stops a (c.in_ok-binding.ensures text f a) _ (c.at-2.ensures.0 c.if-at-2.true) _ c.refuse_annotation.result c.refuse_annotation.ensures

pub end_span-span-requires : goal.end_span-span-requires
end_span-span-requires g c = let x = (c.in_ok-binding.ensures _ _ c.requires.at).answer.further in let s = c.cur_start-start.ensures in omega arith

pub make_bare_declarator-requires-clause-at : goal.make_bare_declarator-requires-clause-at
make_bare_declarator-requires-clause-at g c = (c.in_ok-binding.ensures _ _ c.requires.at).answer.at.at

pub make_bare_declarator-requires-clause-mark : goal.make_bare_declarator-requires-clause-mark
make_bare_declarator-requires-clause-mark g c =
    let x = (c.in_ok-binding.ensures _ _ c.requires.at).answer in
    missing_marked c.requires.at (λ k. false≢true (sym c.if-at.false ∙ c.at.ensures.1 k)) x.at x.same x.walked x.further _ _ (c.end_span-span.ensures.start ∙ c.cur_start-start.ensures) c.end_span-span.ensures.end

pub returns-then-not-at : goal.returns-then-not-at
returns-then-not-at g c = λ text f a. declared_bare a (c.in_ok-binding.ensures text f a) (λ k. false≢true (sym c.if-not-at.true ∙ c.at-3.ensures.1 k)) _ _ _ c.name_stands-is_name.ensures c.in_ok-node.ensures (c.end_span-span.ensures.start ∙ c.cur_start-start.ensures) c.end_span-span.ensures.end

pub advance-requires-clause-at : goal.advance-requires-clause-at
advance-requires-clause-at g c = standing (c.in_ok-binding.ensures _ _ c.requires.at).answer.at

pub advance-requires-clause-whole : goal.advance-requires-clause-whole
advance-requires-clause-whole g c = whole_sign Eq (c.in_ok-binding.ensures _ _ c.requires.at).answer.at (c.at-3.ensures.0 c.if-not-at.false) refl refl

pub assignment-requires : goal.assignment-requires
assignment-requires g c =
    let x = (c.in_ok-binding.ensures _ _ c.requires.at).answer in
    let m = c.in_ok-advance.ensures _ _ x.at in
    let r = nested_room x.at m in
    let s = later_room (let a = x.further in let b = c.requires.at.behind in omega arith) x.same in
    c.requires.nests _ _ (standing m.at) (omega arith)

pub returns-in_err-initialiser : goal.returns-in_err-initialiser
returns-in_err-initialiser g c =
    let p = err_from_is_err_and c.from_residual-in_err-initialiser.result c.from_residual-in_err-initialiser.ensures.1 in
    rw (p.1, p.2) (λ text f a.
    let x = c.in_ok-binding.ensures text f a in
    let m = c.in_ok-advance.ensures text f x.answer.at in
    initialiser_stops a x (c.at-3.ensures.0 c.if-not-at.false) m _ _ _ (c.in_err-initialiser.ensures text f m.at))

pub end_span-span-requires-2 : goal.end_span-span-requires-2
end_span-span-requires-2 g c =
    let x = (c.in_ok-binding.ensures _ _ c.requires.at).answer in
    let m = c.in_ok-advance.ensures _ _ x.at in
    let y = (c.in_ok-initialiser.ensures _ _ m.at).answer in
    let s = c.cur_start-start.ensures in let a = x.further in let b = x.at.behind in let d = m.further in let e = m.at.behind in let h = y.further in omega arith

pub returns : goal.returns
returns g c = λ text f a.
    let x = c.in_ok-binding.ensures text f a in
    let m = c.in_ok-advance.ensures text f x.answer.at in
    declared_with a x (c.at-3.ensures.0 c.if-not-at.false) m _ _ (c.in_ok-initialiser.ensures text f m.at) (c.end_span-span-2.ensures.start ∙ c.cur_start-start.ensures) c.end_span-span-2.ensures.end c.in_ok-node-2.ensures
