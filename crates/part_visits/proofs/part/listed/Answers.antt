use Rattle.std.proofs.Common.{[], ◌∷◌, ◌++◌, ap, ◌∙◌}
use Rattle.part_visits.proofs.part.listed.Goals as goal

pub loop-item-preserved : goal.loop-item-preserved
loop-item-preserved g c = c.in_ok-push.ensures.ok ∙ ap (λ v. v ++ c.in-Some.item ∷ []) c.loop-item.invariant
