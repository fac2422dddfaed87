-- Strings in which no surrogate is alone (ECMA-262, 7.2.9): as the grammar tests it, and as it is read.
use Rattle.std.proofs.Common.{ℕ, List, [], ◌∷◌, ◌≡◌, Bool, true, false, not, ◌&&◌, refl, ap, ap₂, ◌∙◌, arith}
use Rattle.std.specs.Char.Utf16.{has_unpaired_surrogate, is_high_surrogate, is_low_surrogate}
use Rattle.std.proofs.lemmas.Bool.Decides.{nat_tests}
use Rattle.js_base.proofs.part_text.SurrogateLemmas.{paired_after, paired_step, paired-unpaired}
use Rattle.js_grammar.specs.Conditions.{is_high, is_low, well_formed}

high_same : (u : ℕ) → is_high_surrogate u ≡ is_high u
high_same u = grind (arith, nat_tests)

low_same : (u : ℕ) → is_low_surrogate u ≡ is_low u
low_same u = grind (arith, nat_tests)

high_low : (u : ℕ) → is_low_surrogate u ≡ true → is_high_surrogate u ≡ false
high_low u h = grind (arith, nat_tests)

low_step : (low low' us vs : Bool) → low ≡ low' → (low ≡ true → us ≡ vs) → paired_step true low us ≡ (low' && vs)
low_step true low' us vs e h = ap₂ (λ (a b : Bool). a && b) e (h refl)
low_step false low' us vs e h = ap (λ (a : Bool). a && vs) e

other_step : (low low' us vs : Bool) → low ≡ low' → us ≡ vs → paired_step false low us ≡ (not low' && vs)
other_step low low' us vs e h = ap₂ (λ (a b : Bool). not a && b) e h

pub formed : (b : Bool) (us : List ℕ) → paired_after b us ≡ well_formed b us
formed true [] = refl
formed false [] = refl
formed true (u ∷ us) = low_step (is_low_surrogate u) (is_low u) _ _ (low_same u) (λ e. ap (λ (h : Bool). paired_after h us) (high_low u e) ∙ formed false us)
formed false (u ∷ us) = other_step (is_low_surrogate u) (is_low u) _ _ (low_same u) (ap (λ (h : Bool). paired_after h us) (high_same u) ∙ formed (is_high u) us)

-- a string is well-formed where no surrogate is unpaired
pub well_formed_as : (us : List ℕ) → not (has_unpaired_surrogate us) ≡ well_formed false us
well_formed_as us = paired-unpaired us ∙ formed false us
