use Rattle.std.proofs.lemmas.Result.{err_from_is_err_and}
use Rattle.parse_targets.proofs.grammar.AssignmentTargetPropertyIdCoverGrammarObjectPropertyId.cover.Goals as goal

pub returns-in_err-id : goal.returns-in_err-id
returns-in_err-id g c =
    let p = err_from_is_err_and c.from_residual.result c.from_residual.ensures.1 in
    rw (p.1, p.2) c.in_err-id.ensures
