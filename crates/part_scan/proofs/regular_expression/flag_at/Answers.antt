use Rattle.std.proofs.Common.{sym, subst, ℕ, [], ◌∷◌}
use Rattle.part_words.specs.Places.{Word}
use Rattle.part_scan.proofs.regular_expression.flag_at.Goals as goal

pub returns-in-Some : goal.returns-in-Some
returns-in-Some c = record { flag = c.in-Some.next.value; stands = subst (λ (n : ℕ). Word c.args.text.now c.args.at n (c.in-Some.next.value ∷ [])) (sym c.flag_of.ensures.end) c.in-Some.ensures; tells = c.flag_of.ensures.tells }
