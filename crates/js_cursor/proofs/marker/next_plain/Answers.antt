use Rattle.std.proofs.Common.{sym, ◌∙◌}
use Rattle.std.proofs.lemmas.Bool.{false≢true}
use Rattle.js_cursor.proofs.Plains.{plain_next, plain_again_seen}
use Rattle.js_cursor.proofs.marker.next_plain.Goals as goal

pub returns-then-is_kind : goal.returns-then-is_kind
returns-then-is_kind g c = plain_again_seen c.args.lexer.now c.next_token.new.self c.re_lex_right_angle.new.self c.in_ok-token.token c.re_lex_right_angle.result (sym c.kind.ensures ∙ c.is_kind.ensures.0 c.if-is_kind.true) c.in_ok-token.ensures.ok c.re_lex_right_angle.ensures.ok

pub returns : goal.returns
returns g c = plain_next c.args.lexer.now c.next_token.new.self c.in_ok-token.token (λ k. absurd (false≢true (sym c.if-is_kind.false ∙ c.is_kind.ensures.1 (c.kind.ensures ∙ k)))) c.in_ok-token.ensures.ok
