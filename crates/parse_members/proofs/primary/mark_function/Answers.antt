use Rattle.std.proofs.Common.{ap, ◌∙◌}
use Rattle.parse_shared.specs.js_tree.declared.kind.NodeKind.{NodeKind}
use Rattle.parse_shared.specs.js_tree.declared.flags.NodeFlags.{NodeFlags}
use Rattle.parse_shared.specs.js_tree.Nodes.{flags_set}
use Rattle.std.proofs.Common.{true}
use Rattle.parse_shared.specs.js_tree.Labels.{kind_of}
use Rattle.parse_primary.specs.laws_primary.Marked.{is_function}
use Rattle.parse_primary.proofs.laws_primary.Marking.{marks, not_marked}
use Rattle.parse_members.proofs.primary.mark_function.Goals as goal

pub returns-then-not-is_function : goal.returns-then-not-is_function
returns-then-not-is_function c = not_marked (c.is_function.ensures ∙ ap (λ (k : NodeKind). is_function (kind_of k)) c.kind.ensures) c.if-not-is_function.true

pub returns : goal.returns
returns c = marks (c.is_function.ensures ∙ ap (λ (k : NodeKind). is_function (kind_of k)) c.kind.ensures) c.if-not-is_function.false (c.set_flags.ensures ∙ ap (λ (f : NodeFlags). flags_set c.args.ast.now c.args.id (record f { pife = true })) c.flags.ensures)
