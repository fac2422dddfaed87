use Rattle.std.proofs.Common.{arith}
use Rattle.part_scan.proofs.Punctuators.{single_is}
use Rattle.part_scan.proofs.punctuator.single.Goals as goal

pub returns : goal.returns
returns c = single_is c.args.byte (omega arith)
