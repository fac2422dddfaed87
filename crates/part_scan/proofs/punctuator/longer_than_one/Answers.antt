use Rattle.std.proofs.Common.{[], ◌∷◌, sym, arith}
use Rattle.part_scan.proofs.Punctuators.{alone, alone_at_end, stops_at_byte, goes_on_at_byte, first_free}
use Rattle.part_scan.proofs.punctuator.longer_than_one.Goals as goal

pub longer_than_two-requires-clause-word : goal.longer_than_two-requires-clause-word
longer_than_two-requires-clause-word c = goes_on_at_byte (c.args.first ∷ []) c.requires.word c.in-Some.ensures (sym c.in-Some-double.ensures) (omega arith)

pub returns-in-None-double : goal.returns-in-None-double
returns-in-None-double c = alone c.requires.word c.requires.kind (first_free c.args.first [] c.requires.free) (stops_at_byte (c.args.first ∷ []) c.in-Some.ensures (sym c.in-None-double.ensures))

pub returns-in-None : goal.returns-in-None
returns-in-None c = alone_at_end c.requires.word c.requires.kind (first_free c.args.first [] c.requires.free) c.in-None.ensures
