-- What a core piece begins with.
use Rattle.std.proofs.Common.{◌≡◌, ◌<◌, ℕ, ◌==◌, Bool, true, false, List, [], ◌∷◌, refl, ap, subst, not, ◌&&◌, ◌||◌, Some, inl, inr, nat_lt, arith}
use Rattle.std.specs.Prelude.{bytes_eq}
use Rattle.std.specs.List.{list_all, find}
use Rattle.std.proofs.lemmas.Bool.Decides.{nat_tests}
use Rattle.std.proofs.lemmas.Bool.{or_cases}
use Rattle.std.proofs.lemmas.Slice.Eq.{bytes_eq-Decides}
use Rattle.js_base.specs.declared.kind.Kind.{Kind}
use Rattle.js_base.specs.Texts.{text_of}
use Rattle.js_base.specs.part_text.Characters.{one_of, is_decimal}
use Rattle.js_grammar.specs.Characters.{is_identifier_start, is_identifier_part}
use Rattle.js_grammar.specs.Lexemes.{may_precede, a_name, a_number, a_string, a_template, a_private_name, a_punctuator, opening}
use Rattle.js_grammar.specs.Names.{is_plain_name}
use Rattle.js_grammar.specs.CoreTexts.{is_core_blank, is_ascii_name, is_core_number, is_core_string, is_core_punctuator, is_core_piece, core_punctuators, closes_core_string}
use Rattle.js_grammar.specs.Strings.{nothing_left}
use Rattle.js_grammar.proofs.LongestLemmas.{both-left, both-right}
use Rattle.js_grammar.proofs.CoreLemmas.{below, implies, implied, opens}
use Rattle.js_grammar.proofs.Finding.{member, found-test, found-all, found}

pub lt-true : (a b : ℕ) → nat_lt a b ≡ true → a < b
lt-true a b h = grind (arith, nat_tests)

pub lt-is : (a b : ℕ) → a < b → nat_lt a b ≡ true
lt-is a b h = grind (arith, nat_tests)

-- ASCII, and none of backslash, slash, backquote, `#`, `@`, braces
abbrev pub is_core_first : ℕ → Bool
is_core_first c = nat_lt c 128 && not (one_of (92 ∷ 47 ∷ 96 ∷ 35 ∷ 64 ∷ 123 ∷ 125 ∷ []) c)

pub decimal-ascii : (c : ℕ) → is_decimal c ≡ true → c < 128
decimal-ascii c h = grind (arith, nat_tests)

blank_first : (c : ℕ) (cs : List ℕ) → is_core_blank (c ∷ cs) ≡ true → is_core_first c ≡ true
blank_first c cs h = member is_core_first (32 ∷ 9 ∷ 13 ∷ 10 ∷ []) c (both-left (one_of (32 ∷ 9 ∷ 13 ∷ 10 ∷ []) c) (nothing_left cs) h) refl

name_start : (c : ℕ) (cs : List ℕ) → is_ascii_name (c ∷ cs) ≡ true → is_identifier_start c ≡ true
name_start c cs h = both-left (is_identifier_start c) (list_all is_identifier_part cs) (both-left (is_plain_name (c ∷ cs)) (list_all (λ d. nat_lt d 128) (c ∷ cs)) h)

name_ascii : (c : ℕ) (cs : List ℕ) → is_ascii_name (c ∷ cs) ≡ true → c < 128
name_ascii c cs h = lt-true c 128 (both-left (nat_lt c 128) (list_all (λ d. nat_lt d 128) cs) (both-right (is_plain_name (c ∷ cs)) (list_all (λ d. nat_lt d 128) (c ∷ cs)) h))

name_first : (c : ℕ) (cs : List ℕ) → is_ascii_name (c ∷ cs) ≡ true → is_core_first c ≡ true
name_first c cs h = implied (is_identifier_start c) (is_core_first c) (below 128 (λ d. implies (is_identifier_start d) (is_core_first d)) c refl (name_ascii c cs h)) (name_start c cs h)

pub name_opens : (c : ℕ) (cs : List ℕ) (digit : Bool) → is_ascii_name (c ∷ cs) ≡ true → opening c digit ≡ a_name
name_opens c cs digit h = let e = name_start c cs h in ap (λ (b : Bool). elim (b || (c == 92)) [ true ↦ a_name | false ↦ elim (is_decimal c || ((c == 46) && digit)) [ true ↦ a_number | false ↦ elim (one_of (34 ∷ 39 ∷ []) c) [ true ↦ a_string | false ↦ elim (c == 96) [ true ↦ a_template | false ↦ elim (c == 35) [ true ↦ a_private_name | false ↦ a_punctuator ] ] ] ] ]) e

number_decimal : (c : ℕ) (cs : List ℕ) → is_core_number (c ∷ cs) ≡ true → is_decimal c ≡ true
number_decimal c cs h = both-left (is_decimal c) (list_all is_decimal cs && (not (c == 48) || nothing_left cs)) h

number_first : (c : ℕ) (cs : List ℕ) → is_core_number (c ∷ cs) ≡ true → is_core_first c ≡ true
number_first c cs h = let d = number_decimal c cs h in implied (is_decimal c) (is_core_first c) (below 128 (λ e. implies (is_decimal e) (is_core_first e)) c refl (decimal-ascii c d)) d

string_first : (c : ℕ) (cs : List ℕ) → is_core_string (c ∷ cs) ≡ true → is_core_first c ≡ true
string_first c cs h = member is_core_first (34 ∷ 39 ∷ []) c (both-left (one_of (34 ∷ 39 ∷ []) c) (closes_core_string c cs) h) refl

-- what a text begins with passes
abbrev pub first_passes : (ℕ → Bool) → List ℕ → Bool
first_passes t [] = false
first_passes t (c ∷ cs) = t c

-- an ASCII character that opens neither a name, a number, a string, a template nor a private name where no digit follows, and is none of slash, `@` and braces
abbrev pub is_mark : ℕ → Bool
is_mark c = is_core_first c && opens (opening c false) a_punctuator

pub record IsMark (c : ℕ) (cs rest : List ℕ) : Type 0 where
  pub kind : Kind
  pub listed : find (λ k. bytes_eq (text_of k) (c ∷ cs) && may_precede k rest) core_punctuators ≡ Some kind
  pub text : text_of kind ≡ c ∷ cs
  pub mark : is_mark c ≡ true

pub punctuator_mark : (c : ℕ) (cs rest : List ℕ) → is_core_punctuator (c ∷ cs) rest ≡ true → IsMark c cs rest
unfolding core_punctuators
punctuator_mark c cs rest h =
    let f = found (λ k. bytes_eq (text_of k) (c ∷ cs) && may_precede k rest) core_punctuators h in
    let t = both-left (bytes_eq (text_of f.kind) (c ∷ cs)) (may_precede f.kind rest) (found-test (λ k. bytes_eq (text_of k) (c ∷ cs) && may_precede k rest) core_punctuators f.kind f.is) in
    let e = (bytes_eq-Decides (text_of f.kind) (c ∷ cs)).0 t in
    let m : first_passes is_mark (text_of f.kind) ≡ true = found-all (λ k. bytes_eq (text_of k) (c ∷ cs) && may_precede k rest) (λ k. first_passes is_mark (text_of k)) core_punctuators f.kind f.is refl in
    record { kind = f.kind; listed = f.is; text = e; mark = subst (λ (v : List ℕ). first_passes is_mark v ≡ true) e m }

-- Which of the five a core piece is.
pub data Sort (c : ℕ) (cs rest : List ℕ) : Type 0 where
  blank : is_core_blank (c ∷ cs) ≡ true → Sort c cs rest
  name : is_ascii_name (c ∷ cs) ≡ true → Sort c cs rest
  number : is_core_number (c ∷ cs) ≡ true → Sort c cs rest
  string : is_core_string (c ∷ cs) ≡ true → Sort c cs rest
  punctuator : is_core_punctuator (c ∷ cs) rest ≡ true → Sort c cs rest

pub sort : (c : ℕ) (cs rest : List ℕ) → is_core_piece (c ∷ cs) rest ≡ true → Sort c cs rest
sort c cs rest h = elim (or_cases (is_core_blank (c ∷ cs)) (is_ascii_name (c ∷ cs) || (is_core_number (c ∷ cs) || (is_core_string (c ∷ cs) || is_core_punctuator (c ∷ cs) rest))) h) [
  | inl a ↦ blank a
  | inr b ↦ elim (or_cases (is_ascii_name (c ∷ cs)) (is_core_number (c ∷ cs) || (is_core_string (c ∷ cs) || is_core_punctuator (c ∷ cs) rest)) b) [
    | inl a ↦ name a
    | inr b ↦ elim (or_cases (is_core_number (c ∷ cs)) (is_core_string (c ∷ cs) || is_core_punctuator (c ∷ cs) rest) b) [
      | inl a ↦ number a
      | inr b ↦ elim (or_cases (is_core_string (c ∷ cs)) (is_core_punctuator (c ∷ cs) rest) b) [
        | inl a ↦ string a
        | inr a ↦ punctuator a
      ]
    ]
  ]
]

pub sort_first : (c : ℕ) (cs rest : List ℕ) → Sort c cs rest → is_core_first c ≡ true
sort_first c cs rest (blank h) = blank_first c cs h
sort_first c cs rest (name h) = name_first c cs h
sort_first c cs rest (number h) = number_first c cs h
sort_first c cs rest (string h) = string_first c cs h
sort_first c cs rest (punctuator h) = both-left (is_core_first c) (opens (opening c false) a_punctuator) (punctuator_mark c cs rest h).mark
