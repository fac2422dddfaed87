use Rattle.std.proofs.Common.{sym, ap, ◌∙◌}
use Rattle.js_grammar.specs.Trees.{Label}
use Rattle.parse_shared.specs.js_tree.Labels.{kind_of}
use Rattle.parse_targets.specs.Targets.{is_assignment}
use Rattle.parse_targets.proofs.ReusedNodes.{children_of}
use Rattle.parse_targets.proofs.convert.is_assignment_node.Goals as goal

pub returns : goal.returns
returns c = λ l cs rs s d. c.is_assignment.ensures ∙ (ap (λ k. is_assignment (kind_of k)) c.kind.ensures ∙ sym (ap (λ (v : Label). is_assignment v.kind) (children_of {id = c.args.id} s).label_is))
