use Rattle.std.proofs.Common.{◌≡◌}
use Rattle.laws_primary.proofs.Spreads.{spread_marked}
use Rattle.parse_primary.proofs.arguments.tell_spread.Goals as goal

pub error-requires-clause-mark : goal.error-requires-clause-mark
error-requires-clause-mark g c = spread_marked _ c.requires.at c.requires.sign (let e : c.span.result ≡ c.args.p.now.token.span = search in e)
