use Rattle.std.proofs.Common.{arith}
use Rattle.part_words.proofs.ByteClasses.{is_of}
use Rattle.part_words.proofs.byte_class.class_of.Goals as goal

pub returns : goal.returns
returns c = is_of c.args.byte (omega arith)
