use Rattle.std.proofs.Common.{inl, sym, ◌∙◌}
use Rattle.std.proofs.lemmas.Bool.{false≢true}
use Rattle.laws_statements.proofs.ForHeads.{at_end_by}
use Rattle.parse_control.proofs.for_statement.at_end.Goals as goal

pub returns-then-at : goal.returns-then-at
returns-then-at g c = inl (c.at.ensures.0 c.if-at.true)

pub returns : goal.returns
returns g c = at_end_by c.args.end c.args.p.now c.at-2.result (λ k. false≢true (sym c.if-at.false ∙ c.at.ensures.1 k)) c.at-2.ensures
