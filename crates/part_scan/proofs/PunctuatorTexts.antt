-- What is no punctuator of two, three or four characters.
use Rattle.std.proofs.Common.{◌≡◌, ℕ, ◌==◌, Bool, true, false, List, [], ◌∷◌, refl, sym, ◌&&◌, ◌||◌, None}
use Rattle.std.specs.Prelude.{cond}
use Rattle.std.specs.List.{list_all}
use Rattle.js_base.specs.Texts.{text_of, punctuators}
use Rattle.part_scan.specs.Punctuators.{punctuator_of}
use Rattle.part_scan.proofs.Punctuators.{fails}

-- the characters of the punctuators of three characters
abbrev pub is_triple : ℕ → ℕ → ℕ → Bool
is_triple a b c =
    ((a == 46) && ((b == 46) && (c == 46)))
    || ((a == 62) && ((b == 62) && ((c == 62) || (c == 61))))
    || ((a == 60) && ((b == 60) && (c == 61)))
    || ((a == 61) && ((b == 61) && (c == 61)))
    || ((a == 33) && ((b == 61) && (c == 61)))
    || ((a == 42) && ((b == 42) && (c == 61)))
    || ((a == 38) && ((b == 38) && (c == 61)))
    || ((a == 124) && ((b == 124) && (c == 61)))
    || ((a == 63) && ((b == 63) && (c == 61)))

abbrev triple_or_other : List ℕ → Bool
triple_or_other (a ∷ b ∷ c ∷ []) = is_triple a b c
triple_or_other _ = true

all_triples : list_all (λ k. triple_or_other (text_of k)) punctuators ≡ true
unfolding punctuators
all_triples = refl

pub triple_none : (a b c : ℕ) → is_triple a b c ≡ false → None ≡ punctuator_of (a ∷ b ∷ c ∷ [])
triple_none a b c h = sym (fails triple_or_other (a ∷ b ∷ c ∷ []) all_triples h)

-- the characters of the punctuators of two characters
abbrev pub is_double : ℕ → ℕ → Bool
is_double a b = cond (b == 61)
    ((a == 43) || (a == 45) || (a == 42) || (a == 47) || (a == 37) || (a == 61) || (a == 33) || (a == 60) || (a == 62) || (a == 38) || (a == 124) || (a == 94))
    (((b == 62) && ((a == 61) || (a == 62)))
    || ((b == 46) && (a == 63))
    || ((b == 63) && (a == 63))
    || ((b == 43) && (a == 43))
    || ((b == 45) && (a == 45))
    || ((b == 42) && (a == 42))
    || ((b == 60) && (a == 60))
    || ((b == 38) && (a == 38))
    || ((b == 124) && (a == 124)))

abbrev double_or_other : List ℕ → Bool
double_or_other (a ∷ b ∷ []) = is_double a b
double_or_other _ = true

all_doubles : list_all (λ k. double_or_other (text_of k)) punctuators ≡ true
unfolding punctuators
all_doubles = refl

pub double_none : (a b : ℕ) → is_double a b ≡ false → None ≡ punctuator_of (a ∷ b ∷ [])
double_none a b h = sym (fails double_or_other (a ∷ b ∷ []) all_doubles h)

-- the characters of the one punctuator of four characters
abbrev pub is_quadruple : ℕ → ℕ → ℕ → ℕ → Bool
is_quadruple a b c d = (a == 62) && ((b == 62) && ((c == 62) && (d == 61)))

abbrev quadruple_or_other : List ℕ → Bool
quadruple_or_other (a ∷ b ∷ c ∷ d ∷ []) = is_quadruple a b c d
quadruple_or_other _ = true

all_quadruples : list_all (λ k. quadruple_or_other (text_of k)) punctuators ≡ true
unfolding punctuators
all_quadruples = refl

pub quadruple_none : (a b c d : ℕ) → is_quadruple a b c d ≡ false → None ≡ punctuator_of (a ∷ b ∷ c ∷ d ∷ [])
quadruple_none a b c d h = sym (fails quadruple_or_other (a ∷ b ∷ c ∷ d ∷ []) all_quadruples h)
