use Rattle.std.proofs.Common.{refl}
use Rattle.std.proofs.lemmas.Bool.{ne_eqb}
use Rattle.js_base.specs.Texts.{punctuators}
use Rattle.part_scan.proofs.PunctuatorTexts.{double_none}
use Rattle.part_scan.proofs.punctuator.double.Goals as goal

pub returns-in-61-eq62 : goal.returns-in-61-eq62
unfolding punctuators
returns-in-61-eq62 c = rw (c.in-61-eq62.is-0, c.in-61-eq62.is-1) refl

pub returns-in-62-eq62 : goal.returns-in-62-eq62
unfolding punctuators
returns-in-62-eq62 c = rw (c.in-62-eq62.is-0, c.in-62-eq62.is-1) refl

pub returns-in-63-eq46 : goal.returns-in-63-eq46
unfolding punctuators
returns-in-63-eq46 c = rw (c.in-63-eq46.is-0, c.in-63-eq46.is-1) refl

pub returns-in-63-eq63 : goal.returns-in-63-eq63
unfolding punctuators
returns-in-63-eq63 c = rw (c.in-63-eq63.is-0, c.in-63-eq63.is-1) refl

pub returns-in-43-eq43 : goal.returns-in-43-eq43
unfolding punctuators
returns-in-43-eq43 c = rw (c.in-43-eq43.is-0, c.in-43-eq43.is-1) refl

pub returns-in-45-eq45 : goal.returns-in-45-eq45
unfolding punctuators
returns-in-45-eq45 c = rw (c.in-45-eq45.is-0, c.in-45-eq45.is-1) refl

pub returns-in-42-eq42 : goal.returns-in-42-eq42
unfolding punctuators
returns-in-42-eq42 c = rw (c.in-42-eq42.is-0, c.in-42-eq42.is-1) refl

pub returns-in-60-eq60 : goal.returns-in-60-eq60
unfolding punctuators
returns-in-60-eq60 c = rw (c.in-60-eq60.is-0, c.in-60-eq60.is-1) refl

pub returns-in-38-eq38 : goal.returns-in-38-eq38
unfolding punctuators
returns-in-38-eq38 c = rw (c.in-38-eq38.is-0, c.in-38-eq38.is-1) refl

pub returns-in-124-eq124 : goal.returns-in-124-eq124
unfolding punctuators
returns-in-124-eq124 c = rw (c.in-124-eq124.is-0, c.in-124-eq124.is-1) refl

pub returns-in_default : goal.returns-in_default
returns-in_default c = double_none c.args.first c.args.second (rw (c.in_default.is-1, ne_eqb c.args.first 61 c.in_default.is-0.0.1, ne_eqb c.args.first 62 c.in_default.is-0.1) refl)

pub returns-in_default-2 : goal.returns-in_default-2
returns-in_default-2 c = double_none c.args.first c.args.second (rw (c.in_default.is-1, ne_eqb c.args.first 63 c.in_default.is-0.1) refl)

pub returns-in_default-3 : goal.returns-in_default-3
returns-in_default-3 c = double_none c.args.first c.args.second (rw (c.in_default.is-1, ne_eqb c.args.first 63 c.in_default.is-0.1) refl)

pub returns-in_default-4 : goal.returns-in_default-4
returns-in_default-4 c = double_none c.args.first c.args.second (rw (c.in_default.is-1, ne_eqb c.args.first 43 c.in_default.is-0.1) refl)

pub returns-in_default-5 : goal.returns-in_default-5
returns-in_default-5 c = double_none c.args.first c.args.second (rw (c.in_default.is-1, ne_eqb c.args.first 45 c.in_default.is-0.1) refl)

pub returns-in_default-6 : goal.returns-in_default-6
returns-in_default-6 c = double_none c.args.first c.args.second (rw (c.in_default.is-1, ne_eqb c.args.first 42 c.in_default.is-0.1) refl)

pub returns-in_default-7 : goal.returns-in_default-7
returns-in_default-7 c = double_none c.args.first c.args.second (rw (c.in_default.is-1, ne_eqb c.args.first 60 c.in_default.is-0.1) refl)

pub returns-in_default-8 : goal.returns-in_default-8
returns-in_default-8 c = double_none c.args.first c.args.second (rw (c.in_default.is-1, ne_eqb c.args.first 38 c.in_default.is-0.1) refl)

pub returns-in_default-9 : goal.returns-in_default-9
returns-in_default-9 c = double_none c.args.first c.args.second (rw (c.in_default.is-1, ne_eqb c.args.first 124 c.in_default.is-0.1) refl)

pub returns-in_default-10 : goal.returns-in_default-10
returns-in_default-10 c = double_none c.args.first c.args.second (rw (ne_eqb c.args.second 61 c.in_default.is-1.0.0.0.0.0.0.0.0.0.1, ne_eqb c.args.second 62 c.in_default.is-1.0.0.0.0.0.0.0.0.1, ne_eqb c.args.second 46 c.in_default.is-1.0.0.0.0.0.0.0.1, ne_eqb c.args.second 63 c.in_default.is-1.0.0.0.0.0.0.1, ne_eqb c.args.second 43 c.in_default.is-1.0.0.0.0.0.1, ne_eqb c.args.second 45 c.in_default.is-1.0.0.0.0.1, ne_eqb c.args.second 42 c.in_default.is-1.0.0.0.1, ne_eqb c.args.second 60 c.in_default.is-1.0.0.1, ne_eqb c.args.second 38 c.in_default.is-1.0.1, ne_eqb c.args.second 124 c.in_default.is-1.1) refl)
