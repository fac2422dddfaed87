use Rattle.std.proofs.Common.{refl, sym, true≢false}
use Rattle.js_tree.specs.Nodes.{node_at}
use Rattle.js_record.proofs.CheckedLemmas.{word_from, string_from, other_from}
use Rattle.test_units.proofs.record.is_read.Goals as goal

pub returns-then-not-lies_in : goal.returns-then-not-lies_in
returns-then-not-lies_in c = λ e. absurd (true≢false (sym e))

pub returns-then-is_word : goal.returns-then-is_word
returns-then-is_word c = λ e. word_from (node_at c.args.tree.now c.args.id) c.args.source.now c.span.result c.kind-kind.result c.span.ensures c.kind-kind.ensures (c.if-not-lies_in.ensures refl) c.text-text.result.now c.text-text.ensures (sym c.if-is_word.ensures) (c.is_name.ensures e)

pub returns-then-is_string : goal.returns-then-is_string
returns-then-is_string c = λ e. string_from (node_at c.args.tree.now c.args.id) c.args.source.now c.span.result c.kind-kind.result c.span.ensures c.kind-kind.ensures (c.if-not-lies_in.ensures refl) c.text-text.result.now c.text-text.ensures (sym c.if-is_string.ensures) (c.is_quoted.ensures e)

pub returns-else-is_string : goal.returns-else-is_string
returns-else-is_string c = λ e. other_from (node_at c.args.tree.now c.args.id) c.args.source.now c.span.result c.kind-kind.result c.span.ensures c.kind-kind.ensures (c.if-not-lies_in.ensures refl) (sym c.if-is_word.ensures) (sym c.if-is_string.ensures)
