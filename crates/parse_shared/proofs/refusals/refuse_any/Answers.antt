use Rattle.parse_shared.proofs.GivingUp.{any_ends}
use Rattle.parse_shared.proofs.refusals.refuse_any.Goals as goal

pub returns : goal.returns
returns g c = any_ends _ _ c.set_unexpected.result c.requires c.set_unexpected.ensures
