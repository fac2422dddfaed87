use Rattle.std.proofs.Common.{ℕ, List, ap, sym, drop, ◌∙◌}
use Rattle.std.specs.Prelude.{bytes_eq, chars, codes}
use Rattle.js_tree.specs.Nodes.{node_at}
use Rattle.js_parser.proofs.KeyNames.{plain_private, escaped_private}
use Rattle.js_parser.proofs.member_names.is_private_word.Goals as goal

pub returns-then-owns_name : goal.returns-then-owns_name
returns-then-owns_name c = c.eq.ensures ∙ (ap (λ (v : List ℕ). bytes_eq v (codes "constructor")) c.name.ensures ∙ escaped_private c.args.source.now (node_at c.args.tree.now c.args.key) c.utf8.source c.requires.fits c.requires.kind (sym c.owns_name.ensures ∙ c.if-owns_name.true))

pub returns : goal.returns
returns c = c.eq-2.ensures ∙ plain_private c.args.source.now (node_at c.args.tree.now c.args.key) c.utf8.source c.requires.fits c.requires.kind c.behind_sign.result.now c.behind_sign.utf8 (c.behind_sign.ensures ∙ ap (λ (v : List ℕ). drop 1 (chars v)) c.text.ensures) (sym c.owns_name.ensures ∙ c.if-owns_name.false)
