use Rattle.std.proofs.Common.{sym, ap, ◌∙◌}
use Rattle.js_grammar.specs.Trees.{Label}
use Rattle.parse_shared.specs.js_tree.Labels.{op_of}
use Rattle.parse_shared.specs.js_tree.declared.op.Op.{Op}
use Rattle.laws_operators.specs.Coalescing.{is_or_and}
use Rattle.laws_operators.proofs.Coalescing.{not_logical}
use Rattle.parse_targets.proofs.CoveredNodes.{label_of_node}
use Rattle.parse_operators.proofs.operators.node_is_or_and.Goals as goal

pub returns-in-Logical : goal.returns-in-Logical
returns-in-Logical c = λ lo hi l cs h. c.is_or_and_operator.ensures ∙ (ap (λ (o : Op). is_or_and (op_of o)) c.in-Logical.ensures ∙ ap (λ (m : Label). is_or_and m.op) (sym (label_of_node h)))

pub returns-in_default : goal.returns-in_default
returns-in_default c = λ lo hi l cs h. sym (ap (λ (m : Label). is_or_and m.op) (label_of_node h) ∙ not_logical _ (λ x e. c.in_default.not-Logical x (c.op.ensures ∙ e)))
