use Rattle.std.proofs.Common.{ℕ, List, ap, sym, ◌∙◌}
use Rattle.std.specs.Prelude.{chars}
use Rattle.js_grammar.specs.Names.{has_backslash}
use Rattle.js_grammar.specs.Strings.{string_inside}
use Rattle.js_tree.specs.Nodes.{node_at}
use Rattle.js_parser.proofs.KeyNames.{plain_string}
use Rattle.js_parser.proofs.member_names.is_string.Goals as goal

pub returns-then-not-has_backslash : goal.returns-then-not-has_backslash
returns-then-not-has_backslash c = c.eq.ensures ∙ plain_string c.args.source.now (node_at c.args.tree.now c.args.key) c.utf8.source c.requires.fits c.args.name.now c.requires.small c.requires.kind c.between_quotes.result.now c.between_quotes.utf8 (c.between_quotes.ensures ∙ ap (λ (v : List ℕ). string_inside (chars v)) c.text-text.ensures) (sym (ap (λ (v : List ℕ). has_backslash (chars v)) c.text-text.ensures) ∙ sym c.has_backslash.ensures ∙ c.if-not-has_backslash.true)
