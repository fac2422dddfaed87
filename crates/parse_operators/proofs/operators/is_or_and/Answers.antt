use Rattle.std.proofs.Common.{List, ap, subst, sym}
use Rattle.parse_shared.specs.js_tree.Holding.{Holds}
use Rattle.parse_shared.specs.js_tree.Nodes.{Node}
use Rattle.parse_shared.specs.js_cursor.Parsers.{Parser}
use Rattle.parse_operators.proofs.operators.is_or_and.Goals as goal

pub returns : goal.returns
returns g c = λ lo hi l cs h. c.node_is_or_and.ensures lo hi l cs (subst (λ (ns : List Node). Holds ns lo hi c.args.id.0 l cs) (sym (ap (λ (q : Parser). q.nodes) c.p.view_is)) h)
