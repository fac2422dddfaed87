use Rattle.std.proofs.Common.{◌∙◌, ap, arith, refl, sym}
use Rattle.std.proofs.lemmas.Bool.{false≢true}
use Rattle.std.proofs.lemmas.Result.{err_from_is_err_and}
use Rattle.js_base.specs.declared.kind.Kind.TheVariants.{Semicolon}
use Rattle.laws_classes.proofs.laws_primary.laws_shared.Moving.{standing}
use Rattle.laws_classes.proofs.laws_primary.laws_shared.Nesting.{later_room, nested_room, nests_later}
use Rattle.laws_classes.proofs.laws_primary.laws_shared.Signs.{whole_sign}
use Rattle.parse_statements.specs.laws_statements.StatementLists.{ends_list}
use Rattle.parse_statements.specs.laws_statements.declared.forms.StatementList.TheVariants.{Block}
use Rattle.parse_statements.proofs.laws_statements.StatementLists.{none_taken}
use Rattle.laws_classes.proofs.ClassBodies.{element_more, element_stops, less_behind, semicolon_more}
use Rattle.parse_classes.proofs.class_body.parse_elements.Goals as goal

pub elements-init : goal.elements-init
elements-init t c = λ text f a. none_taken a c.new-elements.ensures.items

pub advance-requires-clause-at : goal.advance-requires-clause-at
advance-requires-clause-at t c = standing (c.elements.invariant _ _ c.requires.at).at

pub advance-requires-clause-whole : goal.advance-requires-clause-whole
advance-requires-clause-whole t c = whole_sign Semicolon (c.elements.invariant _ _ c.requires.at).at (c.at.ensures.0 c.if-at.true) refl refl

pub elements-smaller-in-Continue-1 : goal.elements-smaller-in-Continue-1
elements-smaller-in-Continue-1 t c =
    let s = c.elements.invariant _ _ c.requires.at in
    nested_room s.at (c.in_ok-advance.ensures _ _ s.at)

pub elements-preserved-in-Continue-1 : goal.elements-preserved-in-Continue-1
elements-preserved-in-Continue-1 t c = λ text f a.
    let s = c.elements.invariant text f a in
    semicolon_more s (c.at.ensures.0 c.if-at.true) (c.in_ok-advance.ensures text f s.at)

pub parse_element-requires-clause-at : goal.parse_element-requires-clause-at
parse_element-requires-clause-at t c = standing (c.elements.invariant _ _ c.requires.at).at

pub parse_element-requires-clause-nests : goal.parse_element-requires-clause-nests
parse_element-requires-clause-nests t c =
    let s = c.elements.invariant _ _ c.requires.at in
    nests_later c.requires.nests (let r = later_room s.further s.same in omega arith)

pub returns-in_err-element : goal.returns-in_err-element
returns-in_err-element t c =
    let p = err_from_is_err_and c.from_residual-in_err-element.result c.from_residual-in_err-element.ensures.1 in
    let n = sym (ap (ends_list Block) c.cur_kind.ensures) ∙ (sym c.ends_class.ensures ∙ c.elements-test.true) in
    rw (p.1, p.2) (λ text f a.
    let s = c.elements.invariant text f a in
    element_stops s _ _ n (λ k. false≢true (sym c.if-at.false ∙ c.at.ensures.1 k)) (c.in_err-element.ensures text f s.at))

pub elements-smaller : goal.elements-smaller
elements-smaller t c =
    let s = c.elements.invariant _ _ c.requires.at in
    less_behind s.at (c.in_ok-element.ensures _ _ s.at)

pub elements-preserved : goal.elements-preserved
elements-preserved t c =
    let n = sym (ap (ends_list Block) c.cur_kind.ensures) ∙ (sym c.ends_class.ensures ∙ c.elements-test.true) in
    λ text f a.
    let s = c.elements.invariant text f a in
    element_more s n (λ k. false≢true (sym c.if-at.false ∙ c.at.ensures.1 k)) (c.in_ok-element.ensures text f s.at) c.in_ok-push.ensures.items

pub returns : goal.returns
returns t c = (sym (ap (ends_list Block) c.cur_kind.ensures) ∙ (sym c.ends_class.ensures ∙ c.elements-test.false), c.elements.invariant)
