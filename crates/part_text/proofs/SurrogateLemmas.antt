-- Surrogates in pairs, read one code unit at a time.
use Rattle.std.proofs.Common.{ℕ, List, [], ◌∷◌, ◌≡◌, Bool, true, false, not, ◌&&◌, ◌||◌, refl, ap, sym, ◌∙◌, arith}
use Rattle.std.specs.Prelude.{is_some}
use Rattle.std.specs.List.{list_any}
use Rattle.std.specs.Char.Utf16.{utf16_chars, has_unpaired_surrogate, is_high_surrogate, is_low_surrogate, lone_unit_char}
use Rattle.std.proofs.lemmas.Bool.Decides.{nat_tests}

-- the unit may stand there, and the rest holds: after the first of a pair the second one has to stand, and else it may not
abbrev pub paired_step : Bool → Bool → Bool → Bool
paired_step true low rest = low && rest
paired_step false low rest = not low && rest

-- whether each surrogate is in a pair, where the unit before the list is the first of one or is none
abbrev pub paired_after : Bool → List ℕ → Bool
paired_after high [] = not high
paired_after high (u ∷ us) = paired_step high (is_low_surrogate u) (paired_after (is_high_surrogate u) us)

-- a unit is a character by itself where it is no surrogate
is_some-lone : (u : ℕ) → is_some (lone_unit_char u) ≡ (not (is_high_surrogate u) && not (is_low_surrogate u))
is_some-lone u = grind (arith, nat_tests)

-- no unit is the first and the second of a pair
low-high : (u : ℕ) → is_high_surrogate u ≡ true → is_low_surrogate u ≡ false
low-high u h = grind (arith, nat_tests)

high-low : (u : ℕ) → is_low_surrogate u ≡ true → is_high_surrogate u ≡ false
high-low u h = grind (arith, nat_tests)

and-false : (a : Bool) → (a && false) ≡ false
and-false true = refl
and-false false = refl

-- `not` of what `list_any` finds in a list with a first element
not-or : (a b : Bool) → not (not a || b) ≡ (a && not b)
not-or true b = refl
not-or false b = refl

-- a unit that is not the first of a pair here
apart : (u : ℕ) (us : List ℕ) (h l n : Bool) → is_high_surrogate u ≡ h → is_low_surrogate u ≡ l → not (has_unpaired_surrogate us) ≡ n
    → not (list_any (λ o. not (is_some o)) (lone_unit_char u ∷ utf16_chars us)) ≡ ((not h && not l) && n)
apart u us h l n p q r = not-or (is_some (lone_unit_char u)) (has_unpaired_surrogate us)
    ∙ ap (λ x. x && not (has_unpaired_surrogate us)) (is_some-lone u)
    ∙ rw (p, q, r) refl

turned : (h l : Bool) → ((not h && not l) && true) ≡ (not l && not h)
turned true true = refl
turned true false = refl
turned false true = refl
turned false false = refl

one : (u : ℕ) (h l : Bool) → is_high_surrogate u ≡ h → is_low_surrogate u ≡ l → not (has_unpaired_surrogate (u ∷ [])) ≡ paired_after false (u ∷ [])
unfolding utf16_chars
one u h l p q = apart u [] h l true p q refl ∙ rw (p, q) (turned h l)

two : (u v : ℕ) (us : List ℕ) (h k l : Bool) → is_high_surrogate u ≡ h → is_low_surrogate u ≡ k → is_low_surrogate v ≡ l
    → not (has_unpaired_surrogate us) ≡ paired_after false us → not (has_unpaired_surrogate (v ∷ us)) ≡ paired_after false (v ∷ us)
    → not (has_unpaired_surrogate (u ∷ v ∷ us)) ≡ paired_after false (u ∷ v ∷ us)
unfolding utf16_chars
two u v us true k true p q r e f = rw (p, r, low-high u p, high-low v r) e
two u v us true k false p q r e f =
    let left : not (has_unpaired_surrogate (u ∷ v ∷ us)) ≡ false = rw (p, r) (apart u (v ∷ us) true false _ p (low-high u p) f) in
    let right : paired_after false (u ∷ v ∷ us) ≡ false = rw (low-high u p, p, r) refl in
    left ∙ sym right
two u v us false k l p q r e f =
    let left : not (has_unpaired_surrogate (u ∷ v ∷ us)) ≡ ((true && not k) && paired_after false (v ∷ us)) = rw p (apart u (v ∷ us) false k _ p q f) in
    let right : paired_after false (u ∷ v ∷ us) ≡ (not k && paired_after false (v ∷ us)) = rw (q, p) refl in
    left ∙ sym right

pub paired-unpaired : (us : List ℕ) → not (has_unpaired_surrogate us) ≡ paired_after false us
unfolding utf16_chars
paired-unpaired [] = refl
paired-unpaired (u ∷ []) = one u _ _ refl refl
paired-unpaired (u ∷ v ∷ us) = two u v us _ _ _ refl refl refl (paired-unpaired us) (paired-unpaired (v ∷ us))
