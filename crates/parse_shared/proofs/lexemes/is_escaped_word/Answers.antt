use Rattle.std.proofs.Common.{sym, ◌∙◌}
use Rattle.laws_shared.proofs.Escapes.{escaped_other, no_escaped_name}
use Rattle.parse_shared.proofs.lexemes.is_escaped_word.Goals as goal

pub returns-in-Ident : goal.returns-in-Ident
returns-in-Ident c = sym (no_escaped_name c.args.token.kind c.args.token.escaped (sym c.kind.ensures ∙ c.in-Ident.is))

pub returns-in_default : goal.returns-in_default
returns-in_default c = c.escaped.ensures ∙ sym (escaped_other c.args.token.kind c.args.token.escaped (λ e. c.in_default.not-Ident (c.kind.ensures ∙ e)))
