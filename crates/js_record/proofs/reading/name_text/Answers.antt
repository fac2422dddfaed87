use Rattle.std.proofs.Common.{◌≡◌, [], None, unwrap_or, sym, ap, ◌∙◌}
use Rattle.std.proofs.lemmas.Result.{IfOk-weaker}
use Rattle.js_grammar.specs.NodeNames.{name_by}
use Rattle.js_tree.specs.Labels.{kind_of}
use Rattle.js_tree.specs.Nodes.{node_at}
use Rattle.js_record.specs.NodeKinds.{is_name_kind, is_string}
use Rattle.js_record.specs.Shown.{label_at}
use Rattle.js_record.proofs.KindLemmas.{word_read, word_name, string_name, no_word}
use Rattle.js_record.proofs.reading.name_text.Goals as goal
use Rattle.js_record.proofs.reading.name_text.Goals.{then-is_string+in_ok-text+in_default, else-is_string}

pub word_text-requires-clause-word : goal.word_text-requires-clause-word
word_text-requires-clause-word c = word_read c.args.source.now (label_at c.args.tree.now c.args.id) (node_at c.args.tree.now c.args.id).kind (ap is_name_kind (sym c.kind-kind.ensures) ∙ sym c.if-is_word.ensures) c.requires.read.1

pub returns-then-is_word : goal.returns-then-is_word
returns-then-is_word c =
    let named = word_name c.args.source.now (label_at c.args.tree.now c.args.id) (node_at c.args.tree.now c.args.id).kind (ap is_name_kind (sym c.kind-kind.ensures) ∙ sym c.if-is_word.ensures) in
    IfOk-weaker c.word_text.result _ _ (λ x e. ap (λ o. unwrap_or o []) (e ∙ sym named)) c.word_text.ensures

pub returns-in-Some : goal.returns-in-Some
returns-in-Some c =
    let named = string_name c.args.source.now (label_at c.args.tree.now c.args.id) (node_at c.args.tree.now c.args.id).kind (ap is_string (sym c.kind-kind.ensures) ∙ sym c.if-is_string.ensures) in
    ap (λ o. unwrap_or o []) (sym c.in-Some.is ∙ c.in_ok-text.ensures ∙ sym named)

pub returns : goal.returns
returns c =
    let text = c.args.source.now in
    let l = label_at c.args.tree.now c.args.id in
    let k = (node_at c.args.tree.now c.args.id).kind in
    let same = sym c.kind-kind.ensures in
    let none : name_by (kind_of k) text l ≡ None = elim c.if-is_string.branch [
      | then-is_string+in_ok-text+in_default w ↦ string_name text l k (ap is_string same ∙ sym w.if-is_string.ensures) ∙ sym w.in_ok-text.ensures ∙ w.in_default.is
      | else-is_string w ↦ no_word text l k (ap is_name_kind same ∙ sym c.if-is_word.ensures) (ap is_string same ∙ sym w.if-is_string.ensures)
    ] in
    IfOk-weaker c.from_str.result _ _ (λ x e. e ∙ ap (λ o. unwrap_or o []) (sym none)) c.from_str.ensures
