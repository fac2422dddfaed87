use Rattle.std.proofs.Common.{true}
use Rattle.parse_shared.proofs.laws_shared.Moving.{standing}
use Rattle.laws_operators.proofs.NotedClosings.{attempts_unmoved}
use Rattle.laws_operators.proofs.SlashedHeads.{tried_while}
use Rattle.parse_arrows.proofs.arrow.attempt_parameters.Goals as goal

pub try_parse_head-requires-clause-at : goal.try_parse_head-requires-clause-at
try_parse_head-requires-clause-at g c = standing ((attempts_unmoved true c.requires.at c.set_attempting.ensures).at _ _ c.requires.at)

pub returns : goal.returns
returns g c = tried_while c.set_attempting.new.p c.try_parse_head.new.p true c.is_attempting-outer.result c.args.is_async c.in_ok-found.found c.requires.at c.set_attempting.ensures c.in_ok-found.ensures c.set_attempting-2.ensures
