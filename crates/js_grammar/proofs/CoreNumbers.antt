-- A core number is the longest lexeme of the whole language, too.
use Rattle.std.proofs.Common.{◌≡◌, ℕ, ◌==◌, Bool, true, false, List, [], ◌∷◌, ◌++◌, refl, ap, subst, ◌∙◌, not, ◌&&◌, ◌||◌, Some, None}
use Rattle.std.specs.Prelude.{is_some}
use Rattle.std.specs.List.{list_all}
use Rattle.js_base.specs.declared.kind.Kind.{Kind}
use Rattle.js_base.specs.declared.kind.Kind.TheVariants.{Decimal}
use Rattle.js_base.specs.part_text.Characters.{one_of, is_decimal}
use Rattle.js_base.specs.Texts.{words}
use Rattle.js_grammar.specs.Characters.{is_identifier_start, begins}
use Rattle.js_grammar.specs.Longest.{none_longer}
use Rattle.js_grammar.specs.Numbers.{Rest, number_kind, zero_rest, digits, integer_rest, decimal_rest, exponent, is_number, stops_number}
use Rattle.js_grammar.specs.Lexemes.{plain_kind, lexemes_in, division, a_number, opening}
use Rattle.js_grammar.specs.CoreTexts.{is_core_number, is_glue}
use Rattle.js_grammar.specs.Strings.{nothing_left}
use Rattle.js_grammar.proofs.LongestLemmas.{both-left, both-right, both, not-true}
use Rattle.js_grammar.proofs.CoreLemmas.{none_longer-from, plain_of, opens, opens-same}
use Rattle.js_grammar.proofs.CoreFirst.{is_core_first, decimal-ascii}
use Rattle.js_grammar.proofs.CoreNames.{Before, IsPlain, ascii, core_ascii}

pub nothing-nil : (cs : List ℕ) → nothing_left cs ≡ true → cs ≡ []
nothing-nil [] h = refl
nothing-nil (c ∷ cs) h = cc

-- a character that ends digits, and with them a number
abbrev pub ends_digits : ℕ → Bool
ends_digits d = not (is_decimal d || one_of (95 ∷ 110 ∷ 46 ∷ 69 ∷ 101 ∷ 88 ∷ 120 ∷ 79 ∷ 111 ∷ 66 ∷ 98 ∷ []) d)

pub record Ends (d : ℕ) : Type 0 where
  pub digit : is_decimal d ≡ false
  pub underscore : (d == 95) ≡ false
  pub big : (d == 110) ≡ false
  pub dot : (d == 46) ≡ false
  pub e : one_of (69 ∷ 101 ∷ []) d ≡ false
  pub x : one_of (88 ∷ 120 ∷ []) d ≡ false
  pub o : one_of (79 ∷ 111 ∷ []) d ≡ false
  pub b : one_of (66 ∷ 98 ∷ []) d ≡ false

ends-of : (d : ℕ) → is_core_first d ≡ true → is_glue d ≡ false → Ends d
ends-of d f g =
    let h : (is_core_first d && not (is_glue d)) ≡ true = both (is_core_first d) (not (is_glue d)) f (rw g refl) in
    let t : (u : ℕ → Bool) → Rattle.js_grammar.proofs.CoreLemmas.all_below 128 (λ a. Rattle.js_grammar.proofs.CoreLemmas.implies (is_core_first a && not (is_glue a)) (not (u a))) ≡ true → u d ≡ false = λ u k. not-true (u d) (ascii (λ a. is_core_first a && not (is_glue a)) (λ a. not (u a)) d k (core_ascii d f) h) in
    record {
      digit = t is_decimal refl;
      underscore = t (λ a. a == 95) refl;
      big = t (λ a. a == 110) refl;
      dot = t (λ a. a == 46) refl;
      e = t (one_of (69 ∷ 101 ∷ [])) refl;
      x = t (one_of (88 ∷ 120 ∷ [])) refl;
      o = t (one_of (79 ∷ 111 ∷ [])) refl;
      b = t (one_of (66 ∷ 98 ∷ [])) refl;
    }

integer-ends : (d : ℕ) (ys : List ℕ) → Ends d → integer_rest (d ∷ ys) ≡ None
integer-ends d ys h =
    ap (λ (b : Bool). elim b [ true ↦ Rattle.js_grammar.specs.Numbers.ends Rattle.js_base.specs.declared.kind.Kind.TheVariants.DecimalBigInt ys | false ↦ decimal_rest (d ∷ ys) ]) h.big
    ∙ ap (λ (b : Bool). elim b [ true ↦ Rattle.js_grammar.specs.Numbers.fraction ys | false ↦ exponent Decimal (d ∷ ys) ]) h.dot
    ∙ ap (λ (b : Bool). elim b [ true ↦ Rattle.js_grammar.specs.Numbers.signed ys | false ↦ None ]) h.e

zero-ends : (d : ℕ) (ys : List ℕ) → Ends d → zero_rest (d ∷ ys) ≡ None
zero-ends d ys h = rw (h.digit, h.x, h.o, h.b, zero_rest) (integer-ends d ys h)

digits-end : (d : ℕ) (ys : List ℕ) → Ends d → digits is_decimal integer_rest true (d ∷ ys) ≡ None
digits-end d ys h = rw (h.digit, h.underscore, digits) (integer-ends d ys h)

digit-step : (r : Rest) (x : ℕ) (xs : List ℕ) → is_decimal x ≡ true → digits is_decimal r true (x ∷ xs) ≡ digits is_decimal r true xs
digit-step r x xs h = rw (h, digits) refl

digits-run : (r : Rest) (xs ys : List ℕ) → list_all is_decimal xs ≡ true → digits is_decimal r true (xs ++ ys) ≡ digits is_decimal r true ys
digits-run r [] ys h = refl
digits-run r (x ∷ xs) ys h = digit-step r x (xs ++ ys) (both-left (is_decimal x) (list_all is_decimal xs) h) ∙ digits-run r xs ys (both-right (is_decimal x) (list_all is_decimal xs) h)

digits-all : (r : Rest) (xs : List ℕ) → list_all is_decimal xs ≡ true → digits is_decimal r true xs ≡ r []
digits-all r [] h = refl
digits-all r (x ∷ xs) h = digit-step r x xs (both-left (is_decimal x) (list_all is_decimal xs) h) ∙ digits-all r xs (both-right (is_decimal x) (list_all is_decimal xs) h)

zero-number : (c : ℕ) (v : List ℕ) → (c == 46) ≡ false → (c == 48) ≡ true → number_kind (c ∷ v) ≡ zero_rest v
zero-number c v a b = rw (a, b, number_kind) refl

digit-number : (c : ℕ) (v : List ℕ) → (c == 46) ≡ false → (c == 48) ≡ false → is_decimal c ≡ true → number_kind (c ∷ v) ≡ digits is_decimal integer_rest true v
digit-number c v a b d = rw (a, b, d, number_kind) refl

no-dot : (c : ℕ) → is_decimal c ≡ true → (c == 46) ≡ false
no-dot c h = not-true (c == 46) (ascii is_decimal (λ a. not (a == 46)) c refl (decimal-ascii c h) h)

pub number-itself : (c : ℕ) (cs : List ℕ) → is_core_number (c ∷ cs) ≡ true → number_kind (c ∷ cs) ≡ Some Decimal
number-itself c cs h = go (c == 48) refl
  where
    d : is_decimal c ≡ true
    d = both-left (is_decimal c) (list_all is_decimal cs && (not (c == 48) || nothing_left cs)) h

    ds : (list_all is_decimal cs && (not (c == 48) || nothing_left cs)) ≡ true
    ds = both-right (is_decimal c) (list_all is_decimal cs && (not (c == 48) || nothing_left cs)) h

    go : (z : Bool) → (c == 48) ≡ z → number_kind (c ∷ cs) ≡ Some Decimal
    go true e =
        let n : nothing_left cs ≡ true = subst (λ (b : Bool). (not b || nothing_left cs) ≡ true) e (both-right (list_all is_decimal cs) (not (c == 48) || nothing_left cs) ds) in
        zero-number c cs (no-dot c d) e ∙ ap zero_rest (nothing-nil cs n)
    go false e = digit-number c cs (no-dot c d) e d ∙ digits-all integer_rest cs (both-left (list_all is_decimal cs) (not (c == 48) || nothing_left cs) ds)

pub number-longer : (c : ℕ) (cs : List ℕ) (y : ℕ) (ys : List ℕ) → is_core_number (c ∷ cs) ≡ true → Ends y → number_kind (c ∷ cs ++ y ∷ ys) ≡ None
number-longer c cs y ys h s = go (c == 48) refl
  where
    d : is_decimal c ≡ true
    d = both-left (is_decimal c) (list_all is_decimal cs && (not (c == 48) || nothing_left cs)) h

    ds : (list_all is_decimal cs && (not (c == 48) || nothing_left cs)) ≡ true
    ds = both-right (is_decimal c) (list_all is_decimal cs && (not (c == 48) || nothing_left cs)) h

    go : (z : Bool) → (c == 48) ≡ z → number_kind (c ∷ cs ++ y ∷ ys) ≡ None
    go true e =
        let n : nothing_left cs ≡ true = subst (λ (b : Bool). (not b || nothing_left cs) ≡ true) e (both-right (list_all is_decimal cs) (not (c == 48) || nothing_left cs) ds) in
        zero-number c (cs ++ y ∷ ys) (no-dot c d) e ∙ ap (λ (v : List ℕ). zero_rest (v ++ y ∷ ys)) (nothing-nil cs n) ∙ zero-ends y ys s
    go false e = digit-number c (cs ++ y ∷ ys) (no-dot c d) e d ∙ digits-run integer_rest cs (y ∷ ys) (both-left (list_all is_decimal cs) (not (c == 48) || nothing_left cs) ds) ∙ digits-end y ys s

pub number-opens : (c : ℕ) (digit : Bool) → is_decimal c ≡ true → opening c digit ≡ a_number
number-opens c true h = opens-same _ _ (ascii is_decimal (λ a. opens (opening a true) a_number) c refl (decimal-ascii c h) h)
number-opens c false h = opens-same _ _ (ascii is_decimal (λ a. opens (opening a false) a_number) c refl (decimal-ascii c h) h)

glue-stop : (d : ℕ) → is_core_first d ≡ true → is_glue d ≡ false → (is_decimal d || (is_identifier_start d || (d == 92))) ≡ false
glue-stop d f g = not-true _ (ascii (λ a. is_core_first a && not (is_glue a)) (λ a. not (is_decimal a || (is_identifier_start a || (a == 92)))) d refl (core_ascii d f) (both (is_core_first d) (not (is_glue d)) f (rw g refl)))

stops : (rest : List ℕ) → Before rest → begins is_glue rest ≡ false → stops_number rest ≡ true
stops [] b g = refl
stops (d ∷ r) b g = rw (glue-stop d (b d r refl) g) refl

pub plain_number : (c : ℕ) (cs rest : List ℕ) → is_core_number (c ∷ cs) ≡ true → begins is_glue rest ≡ false → Before rest → IsPlain (c ∷ cs) rest
unfolding words
plain_number c cs rest h g b =
    let d = both-left (is_decimal c) (list_all is_decimal cs && (not (c == 48) || nothing_left cs)) h in
    let kd : plain_kind (c ∷ cs) rest ≡ Some Decimal = plain_of a_number c cs rest (number-opens c (begins is_decimal cs) d) ∙ number-itself c cs h in
    record {
      kind = Decimal;
      longest = both (lexemes_in division (c ∷ cs) rest) (none_longer (lexemes_in division) (c ∷ cs) rest) (ap is_some kd)
          (none_longer-from (lexemes_in division) (c ∷ cs) rest (λ y x more e.
          let s : Ends y = ends-of y (b y (x ++ more) e) (subst (λ (v : List ℕ). begins is_glue v ≡ false) e g) in
          ap is_some (plain_of a_number c (cs ++ y ∷ x) more (number-opens c (begins is_decimal (cs ++ y ∷ x)) d) ∙ number-longer c cs y x h s)));
      is = kd;
      apart = stops rest b g;
      inside = refl;
      core = refl;
      unescaped = refl;
    }

pub plain_number-kind : (c : ℕ) (cs rest : List ℕ) (h : is_core_number (c ∷ cs) ≡ true) (g : begins is_glue rest ≡ false) (b : Before rest) → (plain_number c cs rest h g b).kind ≡ Decimal
unfolding plain_number
plain_number-kind c cs rest h g b = refl
