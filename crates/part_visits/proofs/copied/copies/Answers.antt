use Rattle.std.proofs.Common.{[], ◌∷◌, ◌++◌, ◌<◌, ◌≤◌, length, get_or, sym, subst, ap, ◌∙◌}
use Rattle.std.proofs.lemmas.List.{take_more, take_all}
use Rattle.part_visits.proofs.copied.copies.Goals as goal

pub loop-item-preserved : goal.loop-item-preserved
loop-item-preserved g c =
    let i = c.loop-item.item-index in
    let x = c.item-item.result in
    let same = c.deref-item-items.ensures.value in
    let next = c.in_ok-copied.ensures ∙ c.item-item.is ∙ ap (λ v. get_or v i x) same in
    c.in_ok-push.ensures.items ∙ (λ j. c.loop-item.invariant j ++ next j ∷ []) ∙ sym (take_more c.args.items.now.items i x (subst (λ v. i < length v) same c.loop-item-test.true))

pub returns : goal.returns
returns g c = c.loop-item.invariant ∙ take_all c.loop-item.item-index c.args.items.now.items (subst (λ v. length v ≤ c.loop-item.item-index) c.deref-item-items.ensures.value c.loop-item-test.false)
