use Rattle.std.proofs.Common.{[], ◌∷◌, sym, arith}
use Rattle.part_scan.proofs.Punctuators.{alone, alone_at_end, stops_at_byte, goes_on_at_byte, four_stop}
use Rattle.part_scan.proofs.punctuator.longer_than_three.Goals as goal

pub returns-in-Some-quadruple : goal.returns-in-Some-quadruple
returns-in-Some-quadruple c = alone (goes_on_at_byte (c.args.first ∷ c.args.second ∷ c.args.third ∷ []) c.requires.word c.in-Some.ensures (sym c.in-Some-quadruple.ensures) (omega arith)) (sym c.in-Some-quadruple.ensures) c.requires.free (four_stop c.args.first c.args.second c.args.third c.in-Some.fourth)

pub returns-in-None-quadruple : goal.returns-in-None-quadruple
returns-in-None-quadruple c = alone c.requires.word c.requires.kind c.requires.free (stops_at_byte (c.args.first ∷ c.args.second ∷ c.args.third ∷ []) c.in-Some.ensures (sym c.in-None-quadruple.ensures))

pub returns-in-None : goal.returns-in-None
returns-in-None c = alone_at_end c.requires.word c.requires.kind c.requires.free c.in-None.ensures
