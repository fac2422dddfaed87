use Rattle.std.specs.Prelude.{Err}
use Rattle.laws_operators.proofs.HeadOperands.{listed_operand, made_no_target}
use Rattle.std.proofs.Common.{◌≡◌, ◌∙◌, ap, sym, arith, subst, Ok, List, ◌∷◌, [], ◌++◌, Some, Option, refl}
use Rattle.std.proofs.lemmas.Bool.{false≢true}
use Rattle.std.proofs.lemmas.Result.{err_from_is_err_and}
use Rattle.js_base.specs.declared.kind.Kind.TheVariants.{Comma}
use Rattle.parse_shared.specs.js_tree.declared.id.NodeId.{NodeId}
use Rattle.parse_shared.specs.js_tree.declared.kind.NodeKind.TheVariants as node
use Rattle.parse_shared.specs.js_tree.declared.op.Op.TheVariants as op
use Rattle.parse_shared.specs.laws_shared.Moves.{MadeHere, plain_label}
use Rattle.parse_shared.proofs.laws_shared.Moving.{standing, stops_so, stops_behind}
use Rattle.parse_shared.proofs.laws_shared.Nesting.{nested_room}
use Rattle.parse_shared.proofs.laws_shared.Signs.{whole_sign}
use Rattle.laws_operators.proofs.Sequences.{Listing, alone_result, alone_fails, listing_init, listing_step, listing_end, listing_same, listing_grown, operand_fails, less_left, start_before, listing_room}
use Rattle.parse_operators.proofs.sequence.parse_sequence_expression.Goals as goal

pub returns-in_err-first-clause-answers : goal.returns-in_err-first-clause-answers
returns-in_err-first-clause-answers t c = λ text f a. let p = err_from_is_err_and c.from_residual.result c.from_residual.ensures.1 in rw (p.1, p.2) (stops_so _ _ _ (λ z. alone_fails _ z) (c.in_err-first.ensures.answers text f a))

pub returns-then-not-at-clause-answers : goal.returns-then-not-at-clause-answers
returns-then-not-at-clause-answers t c = λ text f a. alone_result (c.in_ok-first.ensures.answers text f a) (λ k. false≢true (sym c.if-not-at.true ∙ c.at.ensures.1 k))

pub items-init : goal.items-init
items-init t c = let e : c.push.new.self.items ≡ Some c.in_ok-first.first ∷ [] = c.in_ok-push.ensures.items ∙ ap (λ (v : List (Option NodeId)). v ++ Some c.in_ok-first.first ∷ []) c.new-items.ensures.items in λ text f a. subst (λ (ids : List (Option NodeId)). Listing text f c.args.p.now c.parse_assignment_expression.new.p ids) (sym e) (listing_init (c.in_ok-first.ensures.answers text f a) (c.at.ensures.0 c.if-not-at.false))

pub advance-requires-clause-at : goal.advance-requires-clause-at
advance-requires-clause-at t c = standing (c.items.invariant _ _ c.requires.at).at

pub advance-requires-clause-whole : goal.advance-requires-clause-whole
advance-requires-clause-whole t c = let s = c.items.invariant _ _ c.requires.at in whole_sign Comma s.at s.comma refl refl

pub assignment-requires : goal.assignment-requires
assignment-requires t c = let s = c.items.invariant _ _ c.requires.at in let m = c.in_ok-advance.ensures _ _ s.at in c.requires.nests _ _ (standing m.at) (let r = nested_room s.at m in let o = listing_room c.requires.at s in omega arith)

pub returns-in_err-item-clause-answers : goal.returns-in_err-item-clause-answers
returns-in_err-item-clause-answers t c = λ text f a.
    let p = err_from_is_err_and c.from_residual-in_err-item.result c.from_residual-in_err-item.ensures.1 in
    let s = c.items.invariant text f a in
    let m = c.in_ok-advance.ensures _ _ s.at in
    (rw (p.1, p.2) (stops_behind _ _ (listing_same s m) (λ g. listing_grown s m g) (λ z. operand_fails s m z) (c.in_err-item.ensures _ _ m.at)))

pub items-smaller : goal.items-smaller
items-smaller t c = let s = c.items.invariant _ _ c.requires.at in let m = c.in_ok-advance.ensures _ _ s.at in less_left s m c.requires.at (c.in_ok-item.ensures _ _ m.at)

pub items-preserved : goal.items-preserved
items-preserved t c = λ text f a.
    let s = c.items.invariant text f a in
    let m = c.in_ok-advance.ensures _ _ s.at in
    let e : c.push-in-items.new.self.items ≡ c.items.items.items ++ Some c.in_ok-item.item ∷ [] = c.in_ok-push-2.ensures.items in
    subst (λ (ids : List (Option NodeId)). Listing text f c.args.p.now c.assignment.new.p ids) (sym e) (listing_step s m a (c.in_ok-item.ensures _ _ m.at) (c.at-in-items.ensures.0 c.if-not-at-2.false))

pub end_span-span-requires : goal.end_span-span-requires
end_span-span-requires t c = let s = c.items.invariant _ _ c.requires.at in let m = c.in_ok-advance.ensures _ _ s.at in let a = start_before s m c.requires.at (c.in_ok-item.ensures _ _ m.at) in let b = c.cur_start-start.ensures in omega arith

pub returns-clause-answers : goal.returns-clause-answers
returns-clause-answers t c = λ text f a.
    let s = c.items.invariant text f a in
    let m = c.in_ok-advance.ensures _ _ s.at in
    let e : c.push-in-items.new.self.items ≡ c.items.items.items ++ Some c.in_ok-item.item ∷ [] = c.in_ok-push-2.ensures.items in
    (listing_end s m a (c.in_ok-item.ensures _ _ m.at) (λ k. false≢true (sym c.if-not-at-2.true ∙ c.at-in-items.ensures.1 k)) (c.end_span-span.ensures.start ∙ c.cur_start-start.ensures) c.end_span-span.ensures.end (subst (λ (ids : List (Option NodeId)). MadeHere (plain_label node.SequenceExpression op.None c.end_span-span.result) ids c.assignment.new.p c.make_list.new.p c.in_ok-node.node) e c.in_ok-node.ensures))

pub returns-in_err-first-clause-operand : goal.returns-in_err-first-clause-operand
returns-in_err-first-clause-operand t c = λ text f a i. let p = err_from_is_err_and c.from_residual.result c.from_residual.ensures.1 in rw (p.1, p.2) (c.in_err-first.ensures.operand text f a i)

pub returns-then-not-at-clause-operand : goal.returns-then-not-at-clause-operand
returns-then-not-at-clause-operand t c = λ text f a i. c.in_ok-first.ensures.operand text f a i

pub returns-in_err-item-clause-operand : goal.returns-in_err-item-clause-operand
returns-in_err-item-clause-operand t c = λ text f a i.
    let p = err_from_is_err_and c.from_residual-in_err-item.result c.from_residual-in_err-item.ensures.1 in
    rw (p.1, p.2) (listed_operand i c.args.p.now (Err _) (c.in_ok-first.ensures.operand text f a i) (c.at.ensures.0 c.if-not-at.false) tt)

pub returns-clause-operand : goal.returns-clause-operand
returns-clause-operand t c = λ text f a i. listed_operand i _ (Ok _) (c.in_ok-first.ensures.operand text f a i) (c.at.ensures.0 c.if-not-at.false) (made_no_target refl (λ cs. refl) c.in_ok-node.ensures)
