use Rattle.part_words.specs.js_grammar.Numbers.{ends}
use Rattle.part_scan.proofs.NumberRests.{behind_digits, broken_digits, reads_ends, or-left, or-right}
use Rattle.part_scan.proofs.number.read_exponent_digits.Goals as goal

pub returns-then-separated : goal.returns-then-separated
returns-then-separated c = behind_digits (ends c.args.kind) c.digits_at-digits.ensures c.if-digits.true (or-left _ _ c.if-separated.true) (reads_ends c.args.kind c.digits_at-digits.ensures.stands.boundary)

pub returns-else-separated : goal.returns-else-separated
returns-else-separated c = behind_digits (ends c.args.kind) c.digits_at-digits.ensures c.if-digits.true (or-right _ _ c.if-separated.false) (reads_ends c.args.kind c.digits_at-digits.ensures.stands.boundary)

pub returns-else-digits : goal.returns-else-digits
returns-else-digits c = broken_digits (ends c.args.kind) c.digits_at-digits.ensures c.if-digits.false
