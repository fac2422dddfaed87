use Rattle.std.proofs.Common.{◌≡◌, List, sym, subst}
use Rattle.parse_shared.specs.js_tree.Holding.{Holds}
use Rattle.parse_shared.specs.js_tree.Nodes.{Node}
use Rattle.parse_targets.specs.Targets.{IsTarget}
use Rattle.parse_targets.proofs.cover.cover.Goals as goal

pub returns : goal.returns
returns t c = λ lo hi l cs h.
    let e : c.args.p.now.nodes ≡ c.p.inside.ast = search in
    subst (λ (ns : List Node). IsTarget ns lo hi l cs c.simple_target.result) (sym e) (c.simple_target.ensures.tree lo hi l cs (subst (λ (ns : List Node). Holds ns lo hi c.args.id.0 l cs) e h))
