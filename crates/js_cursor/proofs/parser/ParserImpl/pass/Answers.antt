use Rattle.std.proofs.Common.{sym, ◌∙◌}
use Rattle.js_cursor.proofs.Moving.{passed_seen}
use Rattle.js_cursor.proofs.parser.ParserImpl.pass.Goals as goal

pub returns : goal.returns
returns g c =
    let k = c.is_kind-self-inside.ensures in
    passed_seen c.self.view_is c.requires.at c.requires.whole c.requires.some c.in_ok-next.ensures.ok (λ t. sym c.kind.ensures ∙ k.0 t, λ e. k.1 (c.kind.ensures ∙ e)) c.end-self-inside.ensures
