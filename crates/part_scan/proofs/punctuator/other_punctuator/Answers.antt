use Rattle.std.proofs.Common.{[], sym, arith}
use Rattle.part_words.proofs.Places.{none_passed}
use Rattle.part_scan.proofs.Punctuators.{goes_on_at_byte, begins_none}
use Rattle.part_scan.proofs.punctuator.other_punctuator.Goals as goal

pub longer_than_one-requires-clause-word : goal.longer_than_one-requires-clause-word
longer_than_one-requires-clause-word c = goes_on_at_byte [] (none_passed c.args.text.now c.args.at c.requires.boundary) c.requires.first (sym c.in-Some.ensures) (omega arith)

pub returns-in-None : goal.returns-in-None
returns-in-None c = record { is = begins_none c.requires.first (sym c.in-None.ensures) }
