use Rattle.std.proofs.Common.{ℕ, List, ap, sym, ◌∙◌}
use Rattle.std.specs.Prelude.{bytes_eq}
use Rattle.js_tree.specs.Nodes.{node_at}
use Rattle.js_parser.proofs.KeyNames.{plain_word, escaped_word}
use Rattle.js_parser.proofs.member_names.is_word.Goals as goal

pub returns-then-owns_name : goal.returns-then-owns_name
returns-then-owns_name c = c.eq.ensures ∙ (ap (λ (v : List ℕ). bytes_eq v c.args.name.now) c.name.ensures ∙ escaped_word c.args.source.now (node_at c.args.tree.now c.args.key) c.utf8.source c.requires.fits c.args.name.now c.requires.small c.requires.kind (sym c.owns_name.ensures ∙ c.if-owns_name.true))

pub returns : goal.returns
returns c = c.eq-2.ensures ∙ (ap (λ (v : List ℕ). bytes_eq v c.args.name.now) c.text.ensures ∙ plain_word c.args.source.now (node_at c.args.tree.now c.args.key) c.utf8.source c.requires.fits c.args.name.now c.requires.small c.requires.kind (sym c.owns_name.ensures ∙ c.if-owns_name.false))
