use Rattle.std.proofs.Common.{◌∙◌, sym, ap}
use Rattle.js_tree.specs.Nodes.{Node}
use Rattle.js_tree.specs.Rows.{entries_of}
use Rattle.js_tree.proofs.RowLemmas.{node_is}
use Rattle.js_tree.proofs.columns.Columns.kept_name.Goals as goal

pub returns : goal.returns
returns c = c.get.ensures.value ∙ sym (ap (λ (n : Node). n.name) (node_is (entries_of c.self.inside) c.args.self.now c.args.id c.self.view_is c.requires))
