use Rattle.std.proofs.Common.{refl}
use Rattle.test_units.proofs.record.visit_step.Goals as goal

pub visit-requires : goal.visit-requires
visit-requires c = c.if-not-is_visited.ensures refl
