use Rattle.std.proofs.Common.{sym, ◌∙◌}
use Rattle.std.proofs.lemmas.Bool.{false≢true}
use Rattle.std.proofs.lemmas.Result.{err_from_is_err_and}
use Rattle.laws_operators.proofs.Lookaheads.{arrow_missing, certain_read, certain_stops}
use Rattle.parse_arrows.proofs.arrow.parse_certain_head.Goals as goal

pub returns-in_err-parameters : goal.returns-in_err-parameters
returns-in_err-parameters g c =
    let p = err_from_is_err_and c.from_residual.result c.from_residual.ensures.1 in
    rw (p.1, p.2) (certain_stops c.requires.open c.requires.certain _ _ c.in_err-parameters.ensures)

pub returns-then-at : goal.returns-then-at
returns-then-at g c = certain_read c.requires.open c.requires.certain c.in_ok-parameters.ensures (c.at.ensures.0 c.if-at.true)

pub expect-requires : goal.expect-requires
expect-requires g c = (c.in_ok-parameters.ensures _ _ c.requires.at).answer.at.at

pub returns-in_err-expect : goal.returns-in_err-expect
returns-in_err-expect g c =
    let p = err_from_is_err_and c.from_residual-in_err-expect.result c.from_residual-in_err-expect.ensures.1 in
    rw (p.1, p.2) (arrow_missing c.requires.open c.requires.certain _ _ c.in_ok-parameters.ensures (λ k. false≢true (sym c.if-at.false ∙ c.at.ensures.1 k)) c.in_err-expect.ensures.1)

pub returns : goal.returns
returns g c = absurd (false≢true (sym c.if-at.false ∙ c.at.ensures.1 c.in_ok-expect.ensures.0.0))
