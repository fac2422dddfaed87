use Rattle.std.proofs.Common.{refl}
use Rattle.std.proofs.lemmas.Bool.{ne_eqb}
use Rattle.js_base.specs.Texts.{punctuators}
use Rattle.part_scan.proofs.PunctuatorTexts.{triple_none}
use Rattle.part_scan.proofs.punctuator.triple.Goals as goal

pub returns-in-46-eq46-eq46 : goal.returns-in-46-eq46-eq46
unfolding punctuators
returns-in-46-eq46-eq46 c = rw (c.in-46-eq46-eq46.is-0, c.in-46-eq46-eq46.is-1, c.in-46-eq46-eq46.is-2) refl

pub returns-in-62-eq62-eq62 : goal.returns-in-62-eq62-eq62
unfolding punctuators
returns-in-62-eq62-eq62 c = rw (c.in-62-eq62-eq62.is-0, c.in-62-eq62-eq62.is-1, c.in-62-eq62-eq62.is-2) refl

pub returns-in-62-eq62-eq61 : goal.returns-in-62-eq62-eq61
unfolding punctuators
returns-in-62-eq62-eq61 c = rw (c.in-62-eq62-eq61.is-0, c.in-62-eq62-eq61.is-1, c.in-62-eq62-eq61.is-2) refl

pub returns-in-60-eq60-eq61 : goal.returns-in-60-eq60-eq61
unfolding punctuators
returns-in-60-eq60-eq61 c = rw (c.in-60-eq60-eq61.is-0, c.in-60-eq60-eq61.is-1, c.in-60-eq60-eq61.is-2) refl

pub returns-in-61-eq61-eq61 : goal.returns-in-61-eq61-eq61
unfolding punctuators
returns-in-61-eq61-eq61 c = rw (c.in-61-eq61-eq61.is-0, c.in-61-eq61-eq61.is-1, c.in-61-eq61-eq61.is-2) refl

pub returns-in-33-eq61-eq61 : goal.returns-in-33-eq61-eq61
unfolding punctuators
returns-in-33-eq61-eq61 c = rw (c.in-33-eq61-eq61.is-0, c.in-33-eq61-eq61.is-1, c.in-33-eq61-eq61.is-2) refl

pub returns-in-42-eq42-eq61 : goal.returns-in-42-eq42-eq61
unfolding punctuators
returns-in-42-eq42-eq61 c = rw (c.in-42-eq42-eq61.is-0, c.in-42-eq42-eq61.is-1, c.in-42-eq42-eq61.is-2) refl

pub returns-in-38-eq38-eq61 : goal.returns-in-38-eq38-eq61
unfolding punctuators
returns-in-38-eq38-eq61 c = rw (c.in-38-eq38-eq61.is-0, c.in-38-eq38-eq61.is-1, c.in-38-eq38-eq61.is-2) refl

pub returns-in-124-eq124-eq61 : goal.returns-in-124-eq124-eq61
unfolding punctuators
returns-in-124-eq124-eq61 c = rw (c.in-124-eq124-eq61.is-0, c.in-124-eq124-eq61.is-1, c.in-124-eq124-eq61.is-2) refl

pub returns-in-63-eq63-eq61 : goal.returns-in-63-eq63-eq61
unfolding punctuators
returns-in-63-eq63-eq61 c = rw (c.in-63-eq63-eq61.is-0, c.in-63-eq63-eq61.is-1, c.in-63-eq63-eq61.is-2) refl

pub returns-in_default : goal.returns-in_default
returns-in_default c = triple_none c.args.first c.args.second c.args.third (rw (c.in_default.is-0, c.in_default.is-1, ne_eqb c.args.third 46 c.in_default.is-2.1) refl)

pub returns-in_default-2 : goal.returns-in_default-2
returns-in_default-2 c = triple_none c.args.first c.args.second c.args.third (rw (c.in_default.is-0, ne_eqb c.args.second 46 c.in_default.is-1.1) refl)

pub returns-in_default-3 : goal.returns-in_default-3
returns-in_default-3 c = triple_none c.args.first c.args.second c.args.third (rw (c.in_default.is-0, c.in_default.is-1, ne_eqb c.args.third 62 c.in_default.is-2.0.1, ne_eqb c.args.third 61 c.in_default.is-2.1) refl)

pub returns-in_default-4 : goal.returns-in_default-4
returns-in_default-4 c = triple_none c.args.first c.args.second c.args.third (rw (c.in_default.is-0, ne_eqb c.args.second 62 c.in_default.is-1.1) refl)

pub returns-in_default-5 : goal.returns-in_default-5
returns-in_default-5 c = triple_none c.args.first c.args.second c.args.third (rw (c.in_default.is-0, c.in_default.is-1, ne_eqb c.args.third 61 c.in_default.is-2.1) refl)

pub returns-in_default-6 : goal.returns-in_default-6
returns-in_default-6 c = triple_none c.args.first c.args.second c.args.third (rw (c.in_default.is-0, ne_eqb c.args.second 60 c.in_default.is-1.1) refl)

pub returns-in_default-7 : goal.returns-in_default-7
returns-in_default-7 c = triple_none c.args.first c.args.second c.args.third (rw (c.in_default.is-0, c.in_default.is-1, ne_eqb c.args.third 61 c.in_default.is-2.1) refl)

pub returns-in_default-8 : goal.returns-in_default-8
returns-in_default-8 c = triple_none c.args.first c.args.second c.args.third (rw (c.in_default.is-0, ne_eqb c.args.second 61 c.in_default.is-1.1) refl)

pub returns-in_default-9 : goal.returns-in_default-9
returns-in_default-9 c = triple_none c.args.first c.args.second c.args.third (rw (c.in_default.is-0, c.in_default.is-1, ne_eqb c.args.third 61 c.in_default.is-2.1) refl)

pub returns-in_default-10 : goal.returns-in_default-10
returns-in_default-10 c = triple_none c.args.first c.args.second c.args.third (rw (c.in_default.is-0, ne_eqb c.args.second 61 c.in_default.is-1.1) refl)

pub returns-in_default-11 : goal.returns-in_default-11
returns-in_default-11 c = triple_none c.args.first c.args.second c.args.third (rw (c.in_default.is-0, c.in_default.is-1, ne_eqb c.args.third 61 c.in_default.is-2.1) refl)

pub returns-in_default-12 : goal.returns-in_default-12
returns-in_default-12 c = triple_none c.args.first c.args.second c.args.third (rw (c.in_default.is-0, ne_eqb c.args.second 42 c.in_default.is-1.1) refl)

pub returns-in_default-13 : goal.returns-in_default-13
returns-in_default-13 c = triple_none c.args.first c.args.second c.args.third (rw (c.in_default.is-0, c.in_default.is-1, ne_eqb c.args.third 61 c.in_default.is-2.1) refl)

pub returns-in_default-14 : goal.returns-in_default-14
returns-in_default-14 c = triple_none c.args.first c.args.second c.args.third (rw (c.in_default.is-0, ne_eqb c.args.second 38 c.in_default.is-1.1) refl)

pub returns-in_default-15 : goal.returns-in_default-15
returns-in_default-15 c = triple_none c.args.first c.args.second c.args.third (rw (c.in_default.is-0, c.in_default.is-1, ne_eqb c.args.third 61 c.in_default.is-2.1) refl)

pub returns-in_default-16 : goal.returns-in_default-16
returns-in_default-16 c = triple_none c.args.first c.args.second c.args.third (rw (c.in_default.is-0, ne_eqb c.args.second 124 c.in_default.is-1.1) refl)

pub returns-in_default-17 : goal.returns-in_default-17
returns-in_default-17 c = triple_none c.args.first c.args.second c.args.third (rw (c.in_default.is-0, c.in_default.is-1, ne_eqb c.args.third 61 c.in_default.is-2.1) refl)

pub returns-in_default-18 : goal.returns-in_default-18
returns-in_default-18 c = triple_none c.args.first c.args.second c.args.third (rw (c.in_default.is-0, ne_eqb c.args.second 63 c.in_default.is-1.1) refl)

pub returns-in_default-19 : goal.returns-in_default-19
returns-in_default-19 c = triple_none c.args.first c.args.second c.args.third (rw (ne_eqb c.args.first 46 c.in_default.is-0.0.0.0.0.0.0.0.0.1, ne_eqb c.args.first 62 c.in_default.is-0.0.0.0.0.0.0.0.1, ne_eqb c.args.first 60 c.in_default.is-0.0.0.0.0.0.0.1, ne_eqb c.args.first 61 c.in_default.is-0.0.0.0.0.0.1, ne_eqb c.args.first 33 c.in_default.is-0.0.0.0.0.1, ne_eqb c.args.first 42 c.in_default.is-0.0.0.0.1, ne_eqb c.args.first 38 c.in_default.is-0.0.0.1, ne_eqb c.args.first 124 c.in_default.is-0.0.1, ne_eqb c.args.first 63 c.in_default.is-0.1) refl)
