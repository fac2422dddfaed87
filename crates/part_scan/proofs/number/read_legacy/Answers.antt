use Rattle.part_scan.proofs.NumberScans.{reads_above, reads_octal}
use Rattle.part_scan.proofs.number.read_legacy.Goals as goal

pub returns-then-digits : goal.returns-then-digits
returns-then-digits c = reads_above c.legacy_digits_at-digits.ensures c.requires.digit c.if-digits.true c.read_decimal_rest.ensures

pub returns-else-digits : goal.returns-else-digits
returns-else-digits c = reads_octal c.legacy_digits_at-digits.ensures c.requires.digit c.if-digits.false
