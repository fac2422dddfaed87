use Rattle.std.proofs.Common.{refl}
use Rattle.part_words.specs.js_grammar.Numbers.{integer_rest}
use Rattle.part_scan.proofs.NumberRests.{behind_digits, broken_digits, digits_pass, err_behind}
use Rattle.part_scan.proofs.number.read_integer.Goals as goal

pub returns-then-digits-clause-reads : goal.returns-then-digits-clause-reads
returns-then-digits-clause-reads c = behind_digits integer_rest c.digits_at-digits.ensures c.if-digits.true refl c.read_integer_rest.ensures

pub returns-else-digits-clause-reads : goal.returns-else-digits-clause-reads
returns-else-digits-clause-reads c = broken_digits integer_rest c.digits_at-digits.ensures c.if-digits.false

pub returns-then-digits-clause-ordered : goal.returns-then-digits-clause-ordered
returns-then-digits-clause-ordered c = err_behind (digits_pass c.digits_at-digits.ensures c.requires.digit) c.read_integer_rest.ensures

pub returns-else-digits-clause-ordered : goal.returns-else-digits-clause-ordered
returns-else-digits-clause-ordered c = digits_pass c.digits_at-digits.ensures c.requires.digit
