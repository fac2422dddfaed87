use Rattle.std.proofs.Common.{sym, ◌∙◌}
use Rattle.js_cursor.proofs.Firsts.{starts_at}
use Rattle.js_cursor.proofs.parser.ParserImpl.new.Goals as goal

pub returns : goal.returns
returns g c =
    let k = c.is_kind.ensures in
    starts_at c.utf8.source_text c.requires.short c.new-lexer.ensures.text c.new-lexer.ensures.goal (c.new-lexer.ensures.keeps_tokens ∙ c.lexer_config.ensures) c.new-lexer.ensures.place c.new-lexer.ensures.kept c.in_ok-token.ensures.ok (λ t. sym c.kind.ensures ∙ k.0 t, λ e. k.1 (c.kind.ensures ∙ e)) c.in_ok-ast.ensures c.new.ensures c.new-2.ensures c.context_at_start.ensures c.new-3.ensures
