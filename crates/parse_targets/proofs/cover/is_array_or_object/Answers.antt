use Rattle.std.proofs.Common.{◌≡◌, List, subst}
use Rattle.parse_shared.specs.js_tree.Holding.{Holds}
use Rattle.parse_shared.specs.js_tree.Nodes.{Node}
use Rattle.parse_targets.proofs.cover.is_array_or_object.Goals as goal

pub returns : goal.returns
returns t c = λ lo hi l cs h. let e : c.args.p.now.nodes ≡ c.p.inside.ast = search in c.is_literal_node.ensures lo hi l cs (subst (λ (ns : List Node). Holds ns lo hi c.args.id.0 l cs) e h)
