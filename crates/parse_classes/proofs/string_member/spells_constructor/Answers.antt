use Rattle.std.proofs.Common.{◌-◌, arith, refl}
use Rattle.std.specs.Prelude.{codes}
use Rattle.laws_classes.proofs.NameTests.{differs, unlike}
use Rattle.parse_classes.proofs.string_member.spells_constructor.Goals as goal

pub returns-then-ne : goal.returns-then-ne
returns-then-ne c = differs (codes "constructor") c.args.units.now (λ e.
    unlike (codes "constructor") c.args.units.now c.unit.result (c.loop-i.i - 1) _ c.unit.ensures (let w = c.loop-i.invariant.within in let l = c.loop-i-test.true in omega arith) refl c.if-ne.ensures e)
