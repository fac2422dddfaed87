use Rattle.std.proofs.Common.{◌∙◌, sym, ap}
use Rattle.js_grammar.specs.Trees.{Label}
use Rattle.parse_shared.specs.js_tree.Labels.{kind_of}
use Rattle.parse_targets.specs.Targets.{is_literal}
use Rattle.parse_targets.proofs.CoveredNodes.{label_of_node}
use Rattle.parse_targets.proofs.cover.is_literal_node.Goals as goal

pub returns : goal.returns
returns c = λ lo hi l cs h. c.is_literal.ensures ∙ (ap (λ k. is_literal (kind_of k)) c.kind.ensures ∙ sym (ap (λ (v : Label). is_literal v.kind) (label_of_node h)))
