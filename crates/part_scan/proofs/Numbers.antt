-- What is left of numbers, over lists of characters and between places.
use Rattle.std.proofs.Common.{◌≡◌, ◌<◌, ◌≤◌, ℕ, ◌+◌, ◌==◌, Bool, true, false, List, [], ◌∷◌, ◌++◌, refl, sym, ap, subst, ◌∙◌, not, ◌&&◌, ◌||◌, append_assoc, arith, length}
use Rattle.std.specs.Prelude.{nat_lt, nat_le, IsCharBoundary}
use Rattle.std.specs.List.{list_all, list_any}
use Rattle.std.specs.Char.{digit_value}
use Rattle.std.proofs.lemmas.Bool.Decides.{nat_tests}
use Rattle.std.proofs.Math.Bool.{or_assoc}
use Rattle.js_base.specs.part_text.Characters.{one_of, is_decimal, is_hex}
use Rattle.part_words.specs.js_grammar.Characters.{begins}
use Rattle.part_words.specs.js_grammar.Numbers.{Rest, digits, legacy, has_separator}
use Rattle.part_words.specs.js_grammar.LexicalFaults.{behind}
use Rattle.part_words.proofs.js_grammar.LongestLemmas.{both}
use Rattle.part_words.proofs.js_grammar.Finding.{all-append}
use Rattle.part_words.proofs.js_grammar.CoreLemmas.{below, implies, implied}
use Rattle.part_words.proofs.js_grammar.CoreFirst.{decimal-ascii}
use Rattle.part_words.specs.Places.{Word}
use Rattle.part_scan.specs.Numbers.{goes_on, AreDigits, AreLegacy}
use Rattle.part_words.specs.Places.{in_radix, Finds}
use Rattle.part_words.proofs.Places.{none_passed, then}

-- characters before which no number stops
hex-ascii : (c : ℕ) → is_hex c ≡ true → c < 128
hex-ascii c h = grind (arith, nat_tests)

wider : (v radix : ℕ) → radix ≤ 16 → nat_lt v radix ≡ true → nat_lt v 16 ≡ true
wider v radix l h = grind (arith, nat_tests)

radix-on : (radix c : ℕ) → radix ≤ 16 → in_radix radix c ≡ true → goes_on c ≡ true
radix-on radix c l h = let x : is_hex c ≡ true = wider (digit_value c) radix l h in implied (is_hex c) (goes_on c) (below 128 (λ d. implies (is_hex d) (goes_on d)) c refl (hex-ascii c x)) x

pub decimal-on : (c : ℕ) → is_decimal c ≡ true → goes_on c ≡ true
decimal-on c h = radix-on 10 c (omega arith) h

hex-no-separator : (c : ℕ) → is_hex c ≡ true → (c == 95) ≡ false
hex-no-separator c h = Rattle.part_words.proofs.js_grammar.LongestLemmas.not-true (c == 95) (implied (is_hex c) (not (c == 95)) (below 128 (λ d. implies (is_hex d) (not (d == 95))) c refl (hex-ascii c h)) h)

radix-no-separator : (radix c : ℕ) → radix ≤ 16 → in_radix radix c ≡ true → (c == 95) ≡ false
radix-no-separator radix c l h = hex-no-separator c (wider (digit_value c) radix l h)

separator-on : (c : ℕ) → (c == 95) ≡ true → goes_on c ≡ true
separator-on c h = subst (λ (x : ℕ). goes_on x ≡ true) (sym (Rattle.std.proofs.lemmas.Bool.eqb-true c 95 h)) refl

pub or-false : (a : Bool) → a ≡ (a || false)
or-false true = refl
or-false false = refl

pub any-append : (p : ℕ → Bool) (w v : List ℕ) → list_any p (w ++ v) ≡ (list_any p w || list_any p v)
any-append p [] v = refl
any-append p (c ∷ w) v = ap (λ (b : Bool). p c || b) (any-append p w v) ∙ sym (or_assoc (p c) (list_any p w) (list_any p v))

pub front-begins : (p : ℕ → Bool) (v more : List ℕ) → begins p (v ++ more) ≡ false → begins p v ≡ false
front-begins p [] more h = refl
front-begins p (c ∷ v) more h = h

-- the digits of `digits_at`, so far
pub record Passed (radix : ℕ) (text : List ℕ) (i j : ℕ) (complete separated : Bool) : Type 0 where
  pub word : List ℕ
  pub stands : Word text i j word
  pub left : (r : Rest) (v : List ℕ) → digits (in_radix radix) r false (word ++ v) ≡ digits (in_radix radix) r complete v
  pub on : list_all goes_on word ≡ true
  pub marked : separated ≡ has_separator word

pub passed_none : (radix : ℕ) (text : List ℕ) (i : ℕ) → IsCharBoundary text i → Passed radix text i i false false
passed_none radix text i b = record { word = []; stands = none_passed text i b; left = λ r v. refl; on = refl; marked = refl }

digit-step : (d : ℕ → Bool) (r : Rest) (digit : Bool) (c : ℕ) (v : List ℕ) → d c ≡ true → digits d r digit (c ∷ v) ≡ digits d r true v
digit-step d r digit c v h = rw (h, digits) refl

separator-step : (d : ℕ → Bool) (r : Rest) (c : ℕ) (v : List ℕ) → d c ≡ false → (c == 95) ≡ true → digits d r true (c ∷ v) ≡ digits d r false v
separator-step d r c v h k = rw (h, k, digits) refl

pub passed_digit : {radix : ℕ} {text : List ℕ} {i j : ℕ} {complete separated : Bool} → radix ≤ 16 → Passed radix text i j complete separated → Finds (in_radix radix) text j true → Passed radix text i (j + 1) true separated
passed_digit {radix = radix} {complete = complete} l p f =
    let c = f.0 in
    record {
      word = p.word ++ c ∷ [];
      stands = then p.stands f.1;
      left = λ r v. ap (digits (in_radix radix) r false) (append_assoc p.word (c ∷ []) v) ∙ p.left r (c ∷ v) ∙ digit-step (in_radix radix) r complete c v f.2;
      on = all-append goes_on p.word (c ∷ []) p.on (both (goes_on c) true (radix-on radix c l f.2) refl);
      marked = p.marked ∙ or-false (has_separator p.word) ∙ ap (λ (b : Bool). has_separator p.word || (b || false)) (sym (radix-no-separator radix c l f.2)) ∙ sym (any-append (λ a. a == 95) p.word (c ∷ []));
    }

pub same-head : {text : List ℕ} {j c : ℕ} (p : ℕ → Bool) → Word text j (j + 1) (c ∷ []) → begins p (behind text j) ≡ false → p c ≡ false
same-head p w h = subst (λ (v : List ℕ). begins p v ≡ false) w.splits h

pub passed_separator : {radix : ℕ} {text : List ℕ} {i j : ℕ} {separated : Bool} → Passed radix text i j true separated → Finds (in_radix radix) text j false → Finds (λ c. c == 95) text j true → Passed radix text i (j + 1) false true
passed_separator {radix = radix} p n f =
    let c = f.0 in
    record {
      word = p.word ++ c ∷ [];
      stands = then p.stands f.1;
      left = λ r v. ap (digits (in_radix radix) r false) (append_assoc p.word (c ∷ []) v) ∙ p.left r (c ∷ v) ∙ separator-step (in_radix radix) r c v (same-head (in_radix radix) f.1 n) f.2;
      on = all-append goes_on p.word (c ∷ []) p.on (both (goes_on c) true (separator-on c f.2) refl);
      marked = sym (any-append (λ a. a == 95) p.word (c ∷ []) ∙ ap (λ (b : Bool). has_separator p.word || (b || false)) f.2 ∙ or-true (has_separator p.word));
    }
  where
    or-true : (a : Bool) → (a || true) ≡ true
    or-true true = refl
    or-true false = refl

neither_begins : (p q : ℕ → Bool) (cs : List ℕ) → begins p cs ≡ false → begins q cs ≡ false → begins (λ c. p c || (true && q c)) cs ≡ false
neither_begins p q [] h k = refl
neither_begins p q (c ∷ cs) h k = rw (h, k) refl

first_alone : (p q : ℕ → Bool) (cs : List ℕ) → begins p cs ≡ false → begins (λ c. p c || (false && q c)) cs ≡ false
first_alone p q [] h = refl
first_alone p q (c ∷ cs) h = rw h refl

pub passed_complete : {radix : ℕ} {text : List ℕ} {i j : ℕ} {separated : Bool} → Passed radix text i j true separated → Finds (in_radix radix) text j false → Finds (λ c. c == 95) text j false → AreDigits radix text i (record { end = j; complete = true; has_separator = separated })
passed_complete {radix = radix} {text = text} {j = j} p n m = record { word = p.word; stands = p.stands; left = p.left; on = p.on; separated = p.marked; end = neither_begins (in_radix radix) (λ c. c == 95) (behind text j) n m }

pub passed_broken : {radix : ℕ} {text : List ℕ} {i j : ℕ} {separated : Bool} → Passed radix text i j false separated → Finds (in_radix radix) text j false → AreDigits radix text i (record { end = j; complete = false; has_separator = separated })
passed_broken {radix = radix} {text = text} {j = j} p n = record { word = p.word; stands = p.stands; left = p.left; on = p.on; separated = p.marked; end = first_alone (in_radix radix) (λ c. c == 95) (behind text j) n }

-- what is found lies within the text
pub found_within : {p : ℕ → Bool} {text : List ℕ} {j : ℕ} → Finds p text j true → j < length text
found_within f = let b = f.1.boundary.0 in omega arith

-- the digits of `legacy_digits_at`, so far
pub record Decimals (text : List ℕ) (i j : ℕ) (above : Bool) : Type 0 where
  pub word : List ℕ
  pub stands : Word text i j word
  pub left : (v : List ℕ) → legacy false (word ++ v) ≡ legacy above v
  pub decimal : list_all is_decimal word ≡ true

pub decimals_none : (text : List ℕ) (i : ℕ) → IsCharBoundary text i → Decimals text i i false
decimals_none text i b = record { word = []; stands = none_passed text i b; left = λ v. refl; decimal = refl }

legacy-step : (above : Bool) (c : ℕ) (v : List ℕ) → is_decimal c ≡ true → legacy above (c ∷ v) ≡ legacy (above || nat_le 56 c) v
legacy-step above c v h = rw (h, legacy) refl

eight_or_nine : (c : ℕ) → is_decimal c ≡ true → nat_le 56 c ≡ one_of (56 ∷ 57 ∷ []) c
eight_or_nine c h = Rattle.ucd_table.proofs.Facts.same_from_beq _ _ (implied (is_decimal c) (Rattle.std.specs.Bool.beq (nat_le 56 c) (one_of (56 ∷ 57 ∷ []) c)) (below 128 (λ d. implies (is_decimal d) (Rattle.std.specs.Bool.beq (nat_le 56 d) (one_of (56 ∷ 57 ∷ []) d))) c refl (decimal-ascii c h)) h)

decimals_step : {text : List ℕ} {i j : ℕ} {above next : Bool} → Decimals text i j above → (f : Finds (in_radix 10) text j true) → (above || nat_le 56 f.0) ≡ next → Decimals text i (j + 1) next
decimals_step {above = above} p f e =
    let c = f.0 in
    record {
      word = p.word ++ c ∷ [];
      stands = then p.stands f.1;
      left = λ v. ap (legacy false) (append_assoc p.word (c ∷ []) v) ∙ p.left (c ∷ v) ∙ legacy-step above c v f.2 ∙ ap (λ (b : Bool). legacy b v) e;
      decimal = all-append is_decimal p.word (c ∷ []) p.decimal (both (is_decimal c) true f.2 refl);
    }

one-head : {text : List ℕ} {j c d : ℕ} → Word text j (j + 1) (c ∷ []) → Word text j (j + 1) (d ∷ []) → c ≡ d
one-head {text = text} {j = j} {c = c} {d = d} u v = let e : c ∷ behind text (j + 1) ≡ d ∷ behind text (j + 1) = sym u.splits ∙ v.splits in cc

pub decimals_above : {text : List ℕ} {i j : ℕ} {above : Bool} → Decimals text i j above → Finds (in_radix 10) text j true → Finds (one_of (56 ∷ 57 ∷ [])) text j true → Decimals text i (j + 1) true
decimals_above {above = above} p f g =
    decimals_step p f (ap (λ (b : Bool). above || b) (eight_or_nine f.0 f.2 ∙ subst (λ (x : ℕ). one_of (56 ∷ 57 ∷ []) x ≡ true) (sym (one-head f.1 g.1)) g.2) ∙ or-true above)
  where
    or-true : (a : Bool) → (a || true) ≡ true
    or-true true = refl
    or-true false = refl

pub decimals_below : {text : List ℕ} {i j : ℕ} {above : Bool} → Decimals text i j above → Finds (in_radix 10) text j true → Finds (one_of (56 ∷ 57 ∷ [])) text j false → Decimals text i (j + 1) above
decimals_below {above = above} p f g = decimals_step p f (ap (λ (b : Bool). above || b) (eight_or_nine f.0 f.2 ∙ same-head (one_of (56 ∷ 57 ∷ [])) f.1 g) ∙ sym (or-false above))

pub decimals_all : {text : List ℕ} {i j : ℕ} {above : Bool} → Decimals text i j above → Finds (in_radix 10) text j false → AreLegacy text i (record { end = j; above = above })
decimals_all p n = record { word = p.word; stands = p.stands; left = p.left; decimal = p.decimal; end = n }
