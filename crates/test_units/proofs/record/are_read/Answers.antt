use Rattle.std.proofs.Common.{below_more, refl}
use Rattle.test_units.proofs.record.are_read.Goals as goal

pub loop-i-preserved : goal.loop-i-preserved
loop-i-preserved c = below_more _ _ c.loop-i.invariant (c.if-not-is_sound.ensures refl)
