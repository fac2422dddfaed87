use Rattle.part_scan.proofs.NumberRests.{reads_big_integer, reads_no_big}
use Rattle.part_scan.proofs.number.read_integer_rest.Goals as goal

pub returns-then-is_at : goal.returns-then-is_at
returns-then-is_at c = reads_big_integer c.if-is_at.ensures

pub returns-else-is_at : goal.returns-else-is_at
returns-else-is_at c = reads_no_big c.requires c.if-is_at.ensures c.read_decimal_rest.ensures
