use Rattle.part_scan.proofs.NumberRests.{reads_fraction_digits, reads_no_fraction_digits}
use Rattle.part_scan.proofs.number.read_fraction.Goals as goal

pub returns-then-digit_at : goal.returns-then-digit_at
returns-then-digit_at c = reads_fraction_digits c.if-digit_at.ensures c.read_fraction_digits.ensures

pub returns-else-digit_at : goal.returns-else-digit_at
returns-else-digit_at c = reads_no_fraction_digits c.requires c.if-digit_at.ensures c.read_exponent.ensures
