use Rattle.std.proofs.Common.{refl, arith}
use Rattle.std.proofs.lemmas.Result.{err_from_is_err_and}
use Rattle.js_base.specs.declared.kind.Kind.TheVariants.{RParen}
use Rattle.laws_patterns.specs.Parameters.{parameters_left}
use Rattle.laws_patterns.proofs.Lists.{loop_end, loop_less, loop_more, loop_start, loop_stops, more_so}
use Rattle.parse_shared.proofs.laws_shared.Nesting.{nests_later}
use Rattle.parse_patterns.proofs.parameters.parse_parameter_list.Goals as goal

pub parameters-init : goal.parameters-init
parameters-init g c = loop_start refl c.requires.at

pub parse_next_parameter-requires-clause-at : goal.parse_next_parameter-requires-clause-at
parse_next_parameter-requires-clause-at g c = c.parameters.invariant.at

pub parse_next_parameter-requires-clause-nests : goal.parse_next_parameter-requires-clause-nests
parse_next_parameter-requires-clause-nests g c = nests_later c.requires.nests (let l = c.parameters.invariant.less in omega arith)

pub returns-in_err-more : goal.returns-in_err-more
returns-in_err-more g c =
    let p = err_from_is_err_and c.from_residual.result c.from_residual.ensures.1 in
    rw (p.1, p.2) (loop_stops _ _ c.parameters.invariant c.in_err-more.ensures)

pub parameters-smaller : goal.parameters-smaller
parameters-smaller g c = loop_less RParen c.parameters.invariant (more_so parameters_left RParen _ _ _ _ c.if-not-more.false c.in_ok-more.ensures)

pub parameters-preserved : goal.parameters-preserved
parameters-preserved g c = loop_more RParen c.parameters.invariant (more_so parameters_left RParen _ _ _ _ c.if-not-more.false c.in_ok-more.ensures)

pub returns : goal.returns
returns g c = loop_end RParen c.parameters.invariant (more_so parameters_left RParen _ _ _ _ c.if-not-more.true c.in_ok-more.ensures)
