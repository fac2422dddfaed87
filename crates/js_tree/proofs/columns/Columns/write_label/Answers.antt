use Rattle.std.proofs.Common.{ap, ◌∙◌, ◌++◌}
use Rattle.std.proofs.lemmas.Result.{on_ok_weaker}
use Rattle.js_grammar.specs.Lines.{op_text, words_of, flag_words}
use Rattle.js_tree.specs.Labels.{op_of, number_of}
use Rattle.js_tree.specs.Nodes.{node_at, label}
use Rattle.js_tree.proofs.LabelLemmas.{label_written, label_without_flags}
use Rattle.js_tree.proofs.columns.Columns.write_label.Goals as goal

pub returns : goal.returns
returns c =
    let out = c.args.out.now.items in
    let kind = c.write_kind.new.out.items in
    let op = c.write_op.new.out.items in
    on_ok_weaker c.write_flags.result
    (λ e. label_written (label (node_at c.args.self.now c.args.id)) out kind op c.write_flags.new.out.items c.in_ok-write_kind.ensures (c.in_ok-write_op.ensures ∙ ap (λ o. kind ++ op_text (op_of o)) c.op.ensures) (e ∙ ap (λ n. op ++ words_of flag_words n) (c.bits_of.ensures.number ∙ ap number_of c.flags.ensures)))
    c.write_flags.ensures

pub returns-then-has_no_flag : goal.returns-then-has_no_flag
returns-then-has_no_flag c =
    let kind = c.write_kind.new.out.items in
    label_without_flags (label (node_at c.args.self.now c.args.id)) c.args.out.now.items kind c.write_op.new.out.items c.in_ok-write_kind.ensures (c.in_ok-write_op.ensures ∙ ap (λ o. kind ++ op_text (op_of o)) c.op.ensures) (ap number_of (c.has_no_flag.ensures c.if-has_no_flag.true))
