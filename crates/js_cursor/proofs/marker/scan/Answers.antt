use Rattle.std.proofs.Common.{sym, ◌∙◌}
use Rattle.std.proofs.lemmas.Bool.{false≢true}
use Rattle.js_cursor.proofs.Partnering.{scan_starts, scan_none, scan_end, scan_more, scan_further}
use Rattle.js_cursor.proofs.marker.scan.Goals as goal

pub loop-token-init : goal.loop-token-init
loop-token-init g c = scan_starts c.args.lexer.now

pub returns-then-is_kind : goal.returns-then-is_kind
returns-then-is_kind g c = let i = c.loop-token.invariant in scan_none _ i.0 i.1 i.2 c.in_ok-token.ensures (sym c.kind.ensures ∙ c.is_kind.ensures.0 c.if-is_kind.true)

pub returns-then-is_kind-2 : goal.returns-then-is_kind-2
returns-then-is_kind-2 g c = let i = c.loop-token.invariant in scan_end _ c.requires.reads i.0 i.1 i.2 c.in_ok-token.ensures (λ k. absurd (false≢true (sym c.if-is_kind.false ∙ c.is_kind.ensures.1 (c.kind.ensures ∙ k)))) c.with-partners.ensures.middle c.with-partners.ensures.closing (sym c.kind-in-loop-token.ensures ∙ c.is_kind-in-loop-token.ensures.0 c.if-is_kind-2.true)

pub loop-token-smaller : goal.loop-token-smaller
loop-token-smaller g c = let i = c.loop-token.invariant in scan_further c.in_ok-token.token i.0 c.in_ok-token.ensures (λ k. absurd (false≢true (sym c.if-is_kind.false ∙ c.is_kind.ensures.1 (c.kind.ensures ∙ k)))) (λ k. absurd (false≢true (sym c.if-is_kind-2.false ∙ c.is_kind-in-loop-token.ensures.1 (c.kind-in-loop-token.ensures ∙ k))))

pub loop-token-preserved : goal.loop-token-preserved
loop-token-preserved g c = let i = c.loop-token.invariant in scan_more _ c.requires.reads i.0 i.1 i.2 c.in_ok-token.ensures (λ k. absurd (false≢true (sym c.if-is_kind.false ∙ c.is_kind.ensures.1 (c.kind.ensures ∙ k)))) c.with-partners.ensures.middle c.with-partners.ensures.closing
