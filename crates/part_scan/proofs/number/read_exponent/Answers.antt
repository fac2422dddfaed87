use Rattle.part_scan.proofs.NumberRests.{reads_exponent, reads_no_exponent}
use Rattle.part_scan.proofs.number.read_exponent.Goals as goal

pub returns-then-is_either_at : goal.returns-then-is_either_at
returns-then-is_either_at c = reads_exponent c.args.kind c.if-is_either_at.ensures c.read_signed.ensures

pub returns-else-is_either_at : goal.returns-else-is_either_at
returns-else-is_either_at c = reads_no_exponent c.args.kind c.requires c.if-is_either_at.ensures
