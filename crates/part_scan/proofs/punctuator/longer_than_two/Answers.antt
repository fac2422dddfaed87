use Rattle.std.proofs.Common.{[], ◌∷◌, sym, arith}
use Rattle.part_scan.proofs.Punctuators.{alone, alone_at_end, stops_at_byte, goes_on_at_byte}
use Rattle.part_scan.proofs.punctuator.longer_than_two.Goals as goal

pub longer_than_three-requires-clause-word : goal.longer_than_three-requires-clause-word
longer_than_three-requires-clause-word c = goes_on_at_byte (c.args.first ∷ c.args.second ∷ []) c.requires.word c.in-Some.ensures (sym c.in-Some-triple.ensures) (omega arith)

pub returns-in-None-triple : goal.returns-in-None-triple
returns-in-None-triple c = alone c.requires.word c.requires.kind c.requires.free (stops_at_byte (c.args.first ∷ c.args.second ∷ []) c.in-Some.ensures (sym c.in-None-triple.ensures))

pub returns-in-None : goal.returns-in-None
returns-in-None c = alone_at_end c.requires.word c.requires.kind c.requires.free c.in-None.ensures
