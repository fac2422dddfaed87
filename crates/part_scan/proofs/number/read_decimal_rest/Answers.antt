use Rattle.part_scan.proofs.NumberRests.{reads_dot, reads_no_dot}
use Rattle.part_scan.proofs.number.read_decimal_rest.Goals as goal

pub returns-then-is_at : goal.returns-then-is_at
returns-then-is_at c = reads_dot c.if-is_at.ensures c.read_fraction.ensures

pub returns-else-is_at : goal.returns-else-is_at
returns-else-is_at c = reads_no_dot c.requires c.if-is_at.ensures c.read_exponent.ensures
