use Rattle.std.proofs.Common.{sym, ap, ◌∙◌}
use Rattle.js_cursor.specs.Moves.{is_last}
use Rattle.js_cursor.proofs.Moving.{not_undetermined}
use Rattle.js_cursor.proofs.parser.ParserImpl.bump_any.Goals as goal

pub pass-requires-clause-whole : goal.pass-requires-clause-whole
pass-requires-clause-whole g c = c.in_ok-complete.ensures.whole (not_undetermined _ (ap is_last (sym (c.kind.ensures ∙ ap (λ r. r.token.kind) c.self.view_is)) ∙ (sym c.is_last.ensures ∙ c.if-is_last.false)))
