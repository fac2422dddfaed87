use Rattle.std.proofs.Common.{◌+◌, sym, ap, ◌∙◌}
use Rattle.std.proofs.lemmas.Bool.{false≢true}
use Rattle.js_cursor.proofs.Standing.{marker_told, marker_seen}
use Rattle.js_cursor.proofs.parser.ParserImpl.unexpected.Goals as goal

pub returns-clause-told : goal.returns-clause-told
returns-clause-told g c =
    marker_told c.sized.result (λ k. false≢true (sym c.if-at.false ∙ c.at.ensures.1 k)) (sym (marker_seen c.self.view_is c.cur_token-token.result c.is_marker.result c.cur_token-token.ensures c.is_marker.ensures) ∙ c.if-not-is_marker.false)
    (c.sized.ensures.start ∙ c.start.ensures ∙ ap (λ t. t.span.start) c.cur_token-token.ensures)
    (c.sized.ensures.end ∙ ap (λ n. n + 7) (c.start.ensures ∙ ap (λ t. t.span.start) c.cur_token-token.ensures)) c.in_ok-partners.ensures.related
