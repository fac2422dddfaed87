use Rattle.std.proofs.Common.{◌∙◌, sym, ap, map}
use Rattle.js_tree.specs.Nodes.{Node}
use Rattle.js_tree.specs.Rows.{entries_of}
use Rattle.js_tree.proofs.RowLemmas.{kinds-rows}
use Rattle.js_tree.proofs.columns.Columns.kinds.Goals as goal

pub returns : goal.returns
returns c = c.as_slice.ensures.value ∙ sym (kinds-rows (entries_of c.self.inside)) ∙ ap (map (λ (n : Node). n.kind)) c.self.view_is
