use Rattle.std.proofs.Common.{◌≡◌, ◌∙◌, ap, arith, refl, sym}
use Rattle.std.proofs.lemmas.Bool.{false≢true}
use Rattle.std.proofs.lemmas.Result.{err_from_is_err_and}
use Rattle.js_base.specs.declared.diagnostic.Diagnostic.{Diagnostic}
use Rattle.js_base.specs.declared.kind.Kind.TheVariants.{At as at_sign, Undetermined}
use Rattle.js_base.specs.Diagnostics.{class_of}
use Rattle.laws_classes.specs.laws_primary.js_tree.declared.kind.NodeKind.TheVariants as node
use Rattle.laws_classes.proofs.laws_primary.Functions.{room_less}
use Rattle.laws_classes.proofs.laws_primary.laws_shared.js_tree.HoldingLemmas.{Holds-below}
use Rattle.laws_classes.proofs.laws_primary.laws_shared.Moving.{standing}
use Rattle.laws_classes.proofs.laws_primary.laws_shared.Nesting.{nests_later}
use Rattle.laws_classes.proofs.DecoratedElements.{block_marked, block_told, decorated_element, decorators_stop, element_stops_behind, its_text}
use Rattle.parse_classes.proofs.class_body.parse_element.Goals as goal

pub returns-in_err-decorators : goal.returns-in_err-decorators
returns-in_err-decorators g c = λ text f a.
    let p = err_from_is_err_and c.from_residual.result c.from_residual.ensures.1 in
    rw (p.1, p.2) (decorators_stop a (c.at.ensures.0 c.if-not-at.false) _ _ (c.in_err-decorators.ensures text f a))

pub end_span-span-requires : goal.end_span-span-requires
end_span-span-requires g c = let x = c.in_ok-decorators.ensures.1 _ _ c.requires.at in let i = x.further in let s = c.cur_start-start.ensures in omega arith

pub parse_class_element-requires-2-clause-at : goal.parse_class_element-requires-2-clause-at
parse_class_element-requires-2-clause-at g c = standing (c.in_ok-decorators.ensures.1 _ _ c.requires.at).at

pub parse_class_element-requires-2-clause-nests : goal.parse_class_element-requires-2-clause-nests
parse_class_element-requires-2-clause-nests g c =
    let x = c.in_ok-decorators.ensures.1 _ _ c.requires.at in
    nests_later c.requires.nests (let r = room_less c.requires.at x.further x.same in omega arith)

pub returns-in_err-element : goal.returns-in_err-element
returns-in_err-element g c = λ text f a.
    let p = err_from_is_err_and c.from_residual-in_err-element.result c.from_residual-in_err-element.ensures.1 in
    let x = c.in_ok-decorators.ensures.1 text f a in
    rw (p.1, p.2) (element_stops_behind a (c.at.ensures.0 c.if-not-at.false) x c.in_ok-decorators.ensures.0 _ _ (c.in_err-element.ensures text f x.at))

pub is_static_block-requires : goal.is_static_block-requires
is_static_block-requires g c = let x = c.in_ok-decorators.ensures.1 _ _ c.requires.at in Holds-below (c.in_ok-element.ensures _ _ x.at).holds

pub error-requires-clause-at : goal.error-requires-clause-at
error-requires-clause-at g c = let x = c.in_ok-decorators.ensures.1 _ _ c.requires.at in (c.in_ok-element.ensures _ _ x.at).at.at

pub error-requires-clause-mark : goal.error-requires-clause-mark
error-requires-clause-mark g c =
    let x = c.in_ok-decorators.ensures.1 _ _ c.requires.at in
    let k = c.at.ensures.0 c.if-not-at.false in
    block_marked c.requires.at k x c.in_ok-decorators.ensures.0 (c.in_ok-element.ensures _ _ x.at) _ (λ e. let z : at_sign ≡ Undetermined = sym k ∙ e in cc) c.diagnostic_at.ensures (c.end_span-span.ensures.start ∙ c.cur_start-start.ensures) c.end_span-span.ensures.end

pub returns-then-is_static_block : goal.returns-then-is_static_block
returns-then-is_static_block g c = λ text f a.
    let x = c.in_ok-decorators.ensures.1 text f a in
    block_told a (c.at.ensures.0 c.if-not-at.false) x c.in_ok-decorators.ensures.0 (c.in_ok-element.ensures text f x.at) (c.is_static_block.ensures.0 c.if-is_static_block.true) c.in_ok-error.ensures (ap (λ (d : Diagnostic). class_of d.kind) c.diagnostic_at.ensures)

pub decorate-requires-clause-node : goal.decorate-requires-clause-node
decorate-requires-clause-node g c = let x = c.in_ok-decorators.ensures.1 _ _ c.requires.at in Holds-below (c.in_ok-element.ensures _ _ x.at).holds

pub decorate-requires-clause-plain : goal.decorate-requires-clause-plain
decorate-requires-clause-plain g c =
    let x = c.in_ok-decorators.ensures.1 _ _ c.requires.at in
    its_text c.requires.at (c.at.ensures.0 c.if-not-at.false) x c.in_ok-decorators.ensures.0 (c.in_ok-element.ensures _ _ x.at)

pub decorate-requires-clause-before : goal.decorate-requires-clause-before
decorate-requires-clause-before g c =
    let x = c.in_ok-decorators.ensures.1 _ _ c.requires.at in
    let y = c.in_ok-element.ensures _ _ x.at in
    let i = x.further in let j = y.further in let d = x.at.behind in let s = c.cur_start-start.ensures in omega arith

pub returns : goal.returns
returns g c = λ text f a.
    let x = c.in_ok-decorators.ensures.1 text f a in
    decorated_element a (c.at.ensures.0 c.if-not-at.false) x c.in_ok-decorators.ensures.0 (c.in_ok-element.ensures text f x.at) (λ e. false≢true (sym c.if-is_static_block.false ∙ c.is_static_block.ensures.1 e)) c.cur_start-start.ensures c.in_ok-node.ensures
