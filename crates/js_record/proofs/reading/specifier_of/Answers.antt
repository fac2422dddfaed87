use Rattle.std.proofs.Common.{sym, ap, ◌∙◌}
use Rattle.js_grammar.specs.Modules.{placed}
use Rattle.js_grammar.specs.NodeNames.{span_of}
use Rattle.js_tree.specs.Nodes.{node_at}
use Rattle.js_record.specs.NodeKinds.{is_string}
use Rattle.js_record.specs.Shown.{label_at}
use Rattle.js_record.proofs.KindLemmas.{string_is, no_string}
use Rattle.js_record.proofs.reading.specifier_of.Goals as goal

pub returns-then-not-is_string : goal.returns-then-not-is_string
returns-then-not-is_string c =
    let l = label_at c.args.tree.now c.args.id in
    ap (placed (span_of l)) (sym (no_string c.args.source.now l (node_at c.args.tree.now c.args.id).kind (ap is_string (sym c.kind.ensures) ∙ sym c.if-not-is_string.ensures)))

pub returns-in-Some : goal.returns-in-Some
returns-in-Some c =
    let named = sym c.in-Some.is ∙ c.in_ok-name.ensures ∙ sym (string_is c.args.source.now (label_at c.args.tree.now c.args.id) (node_at c.args.tree.now c.args.id).kind (ap is_string (sym c.kind.ensures) ∙ sym c.if-not-is_string.ensures)) in
    λ j. placed (c.span-span.ensures j) (named j)

pub returns-in-None : goal.returns-in-None
returns-in-None c =
    let l = label_at c.args.tree.now c.args.id in
    ap (placed (span_of l)) (sym c.in-None.is ∙ c.in_ok-name.ensures ∙ sym (string_is c.args.source.now l (node_at c.args.tree.now c.args.id).kind (ap is_string (sym c.kind.ensures) ∙ sym c.if-not-is_string.ensures)))
