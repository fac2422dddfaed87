use Rattle.std.proofs.Common.{refl}
use Rattle.std.proofs.lemmas.Bool.{ne_eqb}
use Rattle.js_base.specs.Texts.{punctuators}
use Rattle.part_scan.proofs.PunctuatorTexts.{quadruple_none}
use Rattle.part_scan.proofs.punctuator.quadruple.Goals as goal

pub returns-in-62-eq62-eq62-eq61 : goal.returns-in-62-eq62-eq62-eq61
unfolding punctuators
returns-in-62-eq62-eq62-eq61 c = let i = c.in-62-eq62-eq62-eq61 in rw (i.is-0, i.is-1, i.is-2, i.is-3) refl

pub returns-in_default : goal.returns-in_default
returns-in_default c = quadruple_none c.args.first c.args.second c.args.third c.args.fourth (rw (c.in_default.is-0, c.in_default.is-1, c.in_default.is-2, ne_eqb c.args.fourth 61 c.in_default.is-3.1) refl)

pub returns-in_default-2 : goal.returns-in_default-2
returns-in_default-2 c = quadruple_none c.args.first c.args.second c.args.third c.args.fourth (rw (c.in_default.is-0, c.in_default.is-1, ne_eqb c.args.third 62 c.in_default.is-2.1) refl)

pub returns-in_default-3 : goal.returns-in_default-3
returns-in_default-3 c = quadruple_none c.args.first c.args.second c.args.third c.args.fourth (rw (c.in_default.is-0, ne_eqb c.args.second 62 c.in_default.is-1.1) refl)

pub returns-in_default-4 : goal.returns-in_default-4
returns-in_default-4 c = quadruple_none c.args.first c.args.second c.args.third c.args.fourth (rw (ne_eqb c.args.first 62 c.in_default.is-0.1) refl)
