use Rattle.std.proofs.Common.{ap, sym, ◌∙◌}
use Rattle.js_grammar.specs.Modules.{adds}
use Rattle.js_tree.specs.Labels.{kind_of}
use Rattle.js_tree.specs.declared.kind.NodeKind.{NodeKind}
use Rattle.js_record.proofs.Finding.{none_more}
use Rattle.js_record.proofs.walking.has_any.Goals as goal

pub loop-i-preserved : goal.loop-i-preserved
loop-i-preserved c = none_more c.args.tree.now c.loop-i.i c.loop-i.invariant (ap (λ (k : NodeKind). adds (kind_of k)) (sym c.kind.ensures) ∙ sym c.adds.ensures ∙ c.if-adds.false)
