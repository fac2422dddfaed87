use Rattle.std.proofs.Common.{refl}
use Rattle.parse_arrows.proofs.closing.open_bracket.Goals as goal

pub returns : goal.returns
returns c = (refl, c.in_ok-push.ensures.items)
