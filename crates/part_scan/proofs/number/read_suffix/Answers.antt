use Rattle.part_scan.proofs.NumberRests.{reads_big, reads_no_suffix}
use Rattle.part_scan.proofs.number.read_suffix.Goals as goal

pub returns-then-is_at : goal.returns-then-is_at
returns-then-is_at c = reads_big c.args.kind c.args.big c.if-is_at.ensures

pub returns-else-is_at : goal.returns-else-is_at
returns-else-is_at c = reads_no_suffix c.args.kind c.args.big c.requires c.if-is_at.ensures
