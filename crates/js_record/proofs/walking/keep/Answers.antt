use Rattle.std.proofs.Common.{true, ap, sym, subst, ◌≡◌, ◌∙◌}
use Rattle.std.specs.Prelude.{List}
use Rattle.js_base.specs.declared.span.Span.{Span}
use Rattle.js_grammar.specs.Modules.{adds}
use Rattle.js_tree.specs.declared.id.NodeId.{NodeId}
use Rattle.js_tree.specs.declared.kind.NodeKind.{NodeKind}
use Rattle.js_tree.specs.Labels.{kind_of}
use Rattle.js_record.specs.Walked.{AreFound, kept_before}
use Rattle.js_record.proofs.Finding.{adds_there, inserted, not_kept}
use Rattle.js_record.proofs.walking.keep.Goals as goal

pub returns-then-not-adds : goal.returns-then-not-adds
returns-then-not-adds c = λ l cs rs s ts a. not_kept l cs c.args.found.now.items ts (adds_there s ∙ ap (λ (k : NodeKind). adds (kind_of k)) (sym c.kind.ensures) ∙ sym c.adds.ensures ∙ c.if-not-adds.true) a

pub returns : goal.returns
returns c = λ l cs rs s ts a.
    let k : adds l.kind ≡ true = adds_there s ∙ ap (λ (k : NodeKind). adds (kind_of k)) (sym c.kind.ensures) ∙ sym c.adds.ensures ∙ c.if-not-adds.false in
    subst (λ (v : List NodeId). AreFound c.args.tree.now v (kept_before l cs ts)) (sym c.in_ok-insert.ensures.items)
    (inserted c.args.id c.args.found.now.items c.span.result.end c.place_of-at.result ts (ap (λ (v : Span). v.end) c.span.ensures) c.place_of-at.ensures k s a)
