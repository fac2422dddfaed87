use Rattle.std.proofs.Common.{arith}
use Rattle.part_words.specs.js_grammar.LexicalFaults.{behind}
use Rattle.part_scan.proofs.NumberRests.{err_behind}
use Rattle.part_scan.proofs.NumberScans.{reads_fraction_alone, reads_zero, reads_integer, begins_digit}
use Rattle.part_scan.proofs.number.read_number.Goals as goal

pub returns-then-is_at-clause-reads : goal.returns-then-is_at-clause-reads
returns-then-is_at-clause-reads c = reads_fraction_alone c.if-is_at.ensures c.read_fraction_digits.ensures

pub returns-then-is_at-2-clause-reads : goal.returns-then-is_at-2-clause-reads
returns-then-is_at-2-clause-reads c = reads_zero c.if-is_at-2.ensures c.read_zero_rest.ensures

pub returns-else-is_at-2-clause-reads : goal.returns-else-is_at-2-clause-reads
returns-else-is_at-2-clause-reads c = reads_integer (begins_digit (behind c.args.text.now c.args.at) c.requires.begun c.if-is_at.ensures) c.if-is_at.ensures c.if-is_at-2.ensures c.read_integer.ensures.reads

pub returns-then-is_at-clause-ordered : goal.returns-then-is_at-clause-ordered
returns-then-is_at-clause-ordered c = err_behind (omega arith) c.read_fraction_digits.ensures

pub returns-then-is_at-2-clause-ordered : goal.returns-then-is_at-2-clause-ordered
returns-then-is_at-2-clause-ordered c = err_behind (omega arith) c.read_zero_rest.ensures
