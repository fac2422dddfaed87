use Rattle.part_scan.proofs.NumberScans.{reads_hex, reads_modern_octal, reads_binary, reads_no_prefix}
use Rattle.part_scan.proofs.number.read_zero_rest.Goals as goal

pub returns-then-is_either_at : goal.returns-then-is_either_at
returns-then-is_either_at c = reads_hex c.if-digit_at.ensures c.if-is_either_at.ensures c.read_in_radix.ensures

pub returns-then-is_either_at-2 : goal.returns-then-is_either_at-2
returns-then-is_either_at-2 c = reads_modern_octal c.if-digit_at.ensures c.if-is_either_at.ensures c.if-is_either_at-2.ensures c.read_in_radix-then-is_either_at-2.ensures

pub returns-then-is_either_at-3 : goal.returns-then-is_either_at-3
returns-then-is_either_at-3 c = reads_binary c.if-digit_at.ensures c.if-is_either_at.ensures c.if-is_either_at-2.ensures c.if-is_either_at-3.ensures c.read_in_radix-then-is_either_at-3.ensures

pub returns-else-is_either_at-3 : goal.returns-else-is_either_at-3
returns-else-is_either_at-3 c = reads_no_prefix c.requires c.if-digit_at.ensures c.if-is_either_at.ensures c.if-is_either_at-2.ensures c.if-is_either_at-3.ensures c.read_integer_rest.ensures
