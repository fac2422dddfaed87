-- Of core pieces: what they begin with, and that none is longer in the whole language.
use Rattle.std.proofs.Common.{◌≡◌, ◌<◌, ℕ, zero, suc, Bool, true, false, List, [], ◌∷◌, ◌++◌, refl, sym, ap, subst, not, ◌&&◌, append_assoc, arith, ◌⊎◌, inl, inr}
use Rattle.js_base.specs.part_text.Characters.{is_decimal}
use Rattle.js_grammar.specs.Characters.{begins}
use Rattle.js_grammar.specs.Longest.{Class, none_longer}
use Rattle.js_grammar.specs.Lexemes.{plain_kind, Opening, a_name, a_number, a_string, a_template, a_private_name, a_punctuator, opening, kind_of}
use Rattle.js_grammar.proofs.LongestLemmas.{both-left, both-right, both}

-- a test of every number below another
abbrev pub all_below : ℕ → (ℕ → Bool) → Bool
all_below zero t = true
all_below (suc n) t = t n && all_below n t

pub below : (n : ℕ) (t : ℕ → Bool) (c : ℕ) → all_below n t ≡ true → c < n → t c ≡ true
below zero t c h l = absurd (omega arith)
below (suc n) t c h l = elim (nat_eq_or c n l) [ inl e ↦ subst (λ (a : ℕ). t a ≡ true) (sym e) (both-left (t n) (all_below n t) h) | inr m ↦ below n t c (both-right (t n) (all_below n t) h) m ]
  where
    nat_eq_or : (c n : ℕ) → c < suc n → (c ≡ n) ⊎ (c < n)
    nat_eq_or c n l = grind arith

-- none is longer where no front that goes on is of the class
pub none_longer-from : (class : Class) (w cs : List ℕ) → ((c : ℕ) (x more : List ℕ) → cs ≡ c ∷ x ++ more → class (w ++ c ∷ x) more ≡ false) → none_longer class w cs ≡ true
none_longer-from class w [] f = refl
none_longer-from class w (c ∷ cs) f =
    both (not (class (w ++ c ∷ []) cs)) (none_longer class (w ++ c ∷ []) cs) (rw (f c [] cs refl) refl)
    (none_longer-from class (w ++ c ∷ []) cs (λ d x more e. subst (λ (v : List ℕ). class v more ≡ false) (sym (append_assoc w (c ∷ []) (d ∷ x))) (f c (d ∷ x) more (ap (λ (v : List ℕ). c ∷ v) e))))

pub plain_of : (o : Opening) (c : ℕ) (cs rest : List ℕ) → opening c (begins is_decimal cs) ≡ o → plain_kind (c ∷ cs) rest ≡ kind_of o (c ∷ cs) rest
plain_of o c cs rest h = ap (λ (a : Opening). kind_of a (c ∷ cs) rest) h

-- tests of ASCII characters, by trying all of them
abbrev pub implies : Bool → Bool → Bool
implies true b = b
implies false b = true

pub implied : (a b : Bool) → implies a b ≡ true → a ≡ true → b ≡ true
implied true b h k = h
implied false b h k = cc

abbrev pub opens : Opening → Opening → Bool
opens a_name a_name = true
opens a_number a_number = true
opens a_string a_string = true
opens a_template a_template = true
opens a_private_name a_private_name = true
opens a_punctuator a_punctuator = true
opens _ _ = false

pub opens-same : (a b : Opening) → opens a b ≡ true → a ≡ b
opens-same a_name a_name h = refl
opens-same a_number a_number h = refl
opens-same a_string a_string h = refl
opens-same a_template a_template h = refl
opens-same a_private_name a_private_name h = refl
opens-same a_punctuator a_punctuator h = refl
opens-same _ _ h = cc

-- a number, a string
digits_open : (c : ℕ) (digit : Bool) → c < 128 → is_decimal c ≡ true → opening c digit ≡ a_number
digits_open c true l h = opens-same _ _ (implied (is_decimal c) (opens (opening c true) a_number) (below 128 (λ d. implies (is_decimal d) (opens (opening d true) a_number)) c refl l) h)
digits_open c false l h = opens-same _ _ (implied (is_decimal c) (opens (opening c false) a_number) (below 128 (λ d. implies (is_decimal d) (opens (opening d false) a_number)) c refl l) h)
