use Rattle.std.proofs.Common.{◌≤◌, ◌*◌, ◌+◌, ◌-◌, ap, ◌∙◌, arith}
use Rattle.std.proofs.lemmas.Result.{IfOk-weaker}
use Rattle.serde_json.specs.Data.{depth}
use Rattle.serde_json.specs.Written.{has_float}
use Rattle.serde_json.specs.View.{view}
use Rattle.js_tree.specs.Nodes.{label, node_at}
use Rattle.js_json.specs.Json.{max_levels}
use Rattle.js_json.specs.Names.{read_name}
use Rattle.js_json.proofs.Values.{node_depth, no_float_node}
use Rattle.js_json.proofs.export.tree_json.Goals as goal

pub returns-clause-depth : goal.returns-clause-depth
returns-clause-depth c = IfOk-weaker c.node_value.result _ _ (λ v e. rw e (let d : depth (view c.in_ok-children.children) ≤ 2 * (max_levels - 1) + 1 = c.in_ok-children.ensures.depth in let m = node_depth c.args.source.now (label (node_at c.args.tree.now record { 0 = 0 })) (read_name c.args.source.now (node_at c.args.tree.now record { 0 = 0 })) (view c.in_ok-children.children) (2 * (max_levels - 1) + 1) (omega arith) d in omega arith)) c.node_value.ensures

pub returns-clause-integers : goal.returns-clause-integers
returns-clause-integers c = IfOk-weaker c.node_value.result _ _ (λ v e. ap has_float e ∙ no_float_node c.args.source.now (label (node_at c.args.tree.now record { 0 = 0 })) (read_name c.args.source.now (node_at c.args.tree.now record { 0 = 0 })) (view c.in_ok-children.children) c.in_ok-children.ensures.integers) c.node_value.ensures
