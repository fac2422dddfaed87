use Rattle.part_scan.proofs.NumberRests.{reads_minus, reads_plus, reads_unsigned}
use Rattle.part_scan.proofs.number.read_signed.Goals as goal

pub returns-then-is_at : goal.returns-then-is_at
returns-then-is_at c = reads_minus c.if-is_at.ensures c.read_exponent_digits.ensures

pub returns-then-is_at-2 : goal.returns-then-is_at-2
returns-then-is_at-2 c = reads_plus c.if-is_at.ensures c.if-is_at-2.ensures c.read_exponent_digits-then-is_at-2.ensures

pub returns-else-is_at-2 : goal.returns-else-is_at-2
returns-else-is_at-2 c = reads_unsigned c.requires c.if-is_at.ensures c.if-is_at-2.ensures c.read_exponent_digits-else-is_at-2.ensures
