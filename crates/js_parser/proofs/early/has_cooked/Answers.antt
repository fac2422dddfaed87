use Rattle.std.proofs.Common.{chars, sym, ap, ◌∙◌}
use Rattle.std.specs.Prelude.{is_some}
use Rattle.js_grammar.specs.Names.{has_backslash}
use Rattle.js_tree.specs.Nodes.{node_at}
use Rattle.js_tree.specs.Sources.{text_of}
use Rattle.js_parser.proofs.Cooked.{plain_cooked}
use Rattle.js_parser.proofs.early.has_cooked.Goals as goal

pub returns-then-not-has_backslash : goal.returns-then-not-has_backslash
returns-then-not-has_backslash c = let e = ap (λ t. has_backslash (chars t)) c.text.ensures in sym (plain_cooked (chars (text_of (node_at c.args.tree.now c.args.id) c.args.source.now)) (sym e ∙ sym c.has_backslash.ensures ∙ c.if-not-has_backslash.true))

pub returns : goal.returns
returns c = c.is_some.ensures ∙ ap is_some c.in_ok-units.ensures
