use Rattle.laws_patterns.proofs.Accessors.{peeked_beside}
use Rattle.parse_patterns.proofs.method_parameters.kind_behind.Goals as goal

pub returns : goal.returns
returns g c = peeked_beside c.kind.ensures c.in_ok-next.ensures.same c.in_ok-next.ensures.answer
