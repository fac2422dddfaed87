use Rattle.std.proofs.Common.{ℕ, List, Some, ap, sym, ◌∙◌}
use Rattle.std.specs.Prelude.{chars}
use Rattle.js_base.specs.part_text.Escapes.{code_units}
use Rattle.js_tree.specs.Nodes.{node_at}
use Rattle.js_parser.proofs.KeyNames.{escaped_value, plain_value}
use Rattle.js_parser.proofs.attribute_keys.spelled.Goals as goal

pub returns-then-owns_name : goal.returns-then-owns_name
returns-then-owns_name c = escaped_value c.args.source.now (node_at c.args.tree.now c.args.key) c.utf8.source c.requires.fits c.requires.kind (sym c.owns_name.ensures ∙ c.if-owns_name.true) c.name.result.now c.name.utf8 c.name.ensures

pub returns : goal.returns
returns c = plain_value c.args.source.now (node_at c.args.tree.now c.args.key) c.utf8.source c.requires.fits c.requires.kind (sym c.owns_name.ensures ∙ c.if-owns_name.false) ∙ ap (λ (v : List ℕ). Some (code_units (chars v))) (sym c.text.ensures)
