-- What a character is that opens one class of lexemes alone.
use Rattle.std.proofs.Common.{◌≡◌, ℕ, ◌+◌, ◌==◌, Bool, true, false, List, [], ◌∷◌, refl, ap, ◌∙◌, subst, ◌&&◌, ◌||◌}
use Rattle.std.proofs.lemmas.Bool.{eqb-true}
use Rattle.js_base.specs.part_text.Characters.{one_of, is_decimal}
use Rattle.part_words.specs.js_grammar.Characters.{is_identifier_start}
use Rattle.part_words.specs.js_grammar.Lexemes.{a_name, a_number, a_string, a_template, a_private_name, a_punctuator, opening}
use Rattle.part_words.specs.js_grammar.Lexemes.{Opening}
use Rattle.part_words.specs.js_grammar.Characters.{begins}
use Rattle.part_words.specs.js_grammar.LexicalFaults.{behind}
use Rattle.part_words.specs.Places.{Word}

pub template_opens : (c : ℕ) (digit : Bool) → opening c digit ≡ a_template → c ≡ 96
template_opens c digit h = by (is_identifier_start c || (c == 92)) refl (is_decimal c || ((c == 46) && digit)) refl (one_of (34 ∷ 39 ∷ []) c) refl (c == 96) refl (c == 35) refl
  where
    by : (a : Bool) → (is_identifier_start c || (c == 92)) ≡ a → (b : Bool) → (is_decimal c || ((c == 46) && digit)) ≡ b → (d : Bool) → one_of (34 ∷ 39 ∷ []) c ≡ d → (e : Bool) → (c == 96) ≡ e → (f : Bool) → (c == 35) ≡ f → c ≡ 96
    by true p b q d r true s f t = eqb-true c 96 s
    by false p b q d r true s f t = eqb-true c 96 s
    by true p b q d r false s f t = absurd (let k : opening c digit ≡ a_name = rw (p, opening) refl in cc)
    by false p true q d r false s f t = absurd (let k : opening c digit ≡ a_number = rw (p, q, opening) refl in cc)
    by false p false q true r false s f t = absurd (let k : opening c digit ≡ a_string = rw (p, q, r, opening) refl in cc)
    by false p false q false r false s true t = absurd (let k : opening c digit ≡ a_private_name = rw (p, q, r, s, t, opening) refl in cc)
    by false p false q false r false s false t = absurd (let k : opening c digit ≡ a_punctuator = rw (p, q, r, s, t, opening) refl in cc)

pub backquote_there : {text : List ℕ} {at end : ℕ} (c : ℕ) (digit : Bool) → opening c digit ≡ a_template → Word text at end (c ∷ []) → Word text at (at + 1) (96 ∷ [])
backquote_there {text = text} {at = at} {end = end} c digit h w =
    let v : Word text at end (96 ∷ []) = subst (λ (x : ℕ). Word text at end (x ∷ [])) (template_opens c digit h) w in
    let e : end ≡ at + 1 = v.end in
    subst (λ (n : ℕ). Word text at n (96 ∷ [])) e v

-- the class of lexemes by the tests of its first character, one after the other
abbrev by_tests : Bool → Bool → Bool → Bool → Bool → Opening
by_tests a b d e f = elim a [ true ↦ a_name | false ↦ elim b [ true ↦ a_number | false ↦ elim d [ true ↦ a_string | false ↦ elim e [ true ↦ a_template | false ↦ elim f [ true ↦ a_private_name | false ↦ a_punctuator ] ] ] ] ]

name_test : (a b d e f : Bool) → by_tests a b d e f ≡ a_name → a ≡ true
name_test true b d e f h = refl
name_test false true d e f h = cc
name_test false false true e f h = cc
name_test false false false true f h = cc
name_test false false false false true h = cc
name_test false false false false false h = cc

string_test : (a b d e f : Bool) → by_tests a b d e f ≡ a_string → d ≡ true
string_test a b true e f h = refl
string_test true b false e f h = cc
string_test false true false e f h = cc
string_test false false false true f h = cc
string_test false false false false true h = cc
string_test false false false false false h = cc

pub name_there : {text : List ℕ} {at end : ℕ} (c : ℕ) (digit : Bool) → opening c digit ≡ a_name → Word text at end (c ∷ []) → begins (λ d. is_identifier_start d || (d == 92)) (behind text at) ≡ true
name_there c digit h w = ap (begins (λ d. is_identifier_start d || (d == 92))) w.splits ∙ name_test (is_identifier_start c || (c == 92)) (is_decimal c || ((c == 46) && digit)) (one_of (34 ∷ 39 ∷ []) c) (c == 96) (c == 35) h

pub quote_there : {text : List ℕ} {at end : ℕ} (c : ℕ) (digit : Bool) → opening c digit ≡ a_string → Word text at end (c ∷ []) → begins (one_of (34 ∷ 39 ∷ [])) (behind text at) ≡ true
quote_there c digit h w = ap (begins (one_of (34 ∷ 39 ∷ []))) w.splits ∙ string_test (is_identifier_start c || (c == 92)) (is_decimal c || ((c == 46) && digit)) (one_of (34 ∷ 39 ∷ []) c) (c == 96) (c == 35) h
