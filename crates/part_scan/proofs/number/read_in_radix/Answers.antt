use Rattle.std.proofs.Common.{refl}
use Rattle.part_words.specs.js_grammar.Numbers.{suffix}
use Rattle.part_scan.proofs.NumberRests.{behind_digits, broken_digits}
use Rattle.part_scan.proofs.number.read_in_radix.Goals as goal

pub returns-then-digits : goal.returns-then-digits
returns-then-digits c = behind_digits (suffix c.args.kind c.args.big) c.digits_at-digits.ensures c.if-digits.true refl c.read_suffix.ensures

pub returns-else-digits : goal.returns-else-digits
returns-else-digits c = broken_digits (suffix c.args.kind c.args.big) c.digits_at-digits.ensures c.if-digits.false
