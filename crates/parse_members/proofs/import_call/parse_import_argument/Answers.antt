use Rattle.std.proofs.Common.{refl}
use Rattle.js_base.specs.declared.kind.Kind.TheVariants.{Dot3}
use Rattle.parse_primary.proofs.laws_primary.ImportCalls.{spread_stops}
use Rattle.parse_primary.proofs.laws_primary.Members.{stands_so}
use Rattle.parse_members.proofs.import_call.parse_import_argument.Goals as goal

pub refuse_spread-requires-clause-sign : goal.refuse_spread-requires-clause-sign
refuse_spread-requires-clause-sign t c = stands_so c.args.p.now Dot3 c.if-not-stands.false c.stands.ensures

pub returns : goal.returns
returns t c = spread_stops _ _ c.refuse_spread.result (stands_so c.args.p.now Dot3 c.if-not-stands.false c.stands.ensures) c.refuse_spread.ensures
