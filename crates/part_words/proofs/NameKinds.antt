-- The kinds of words: which lists are no word of the keyword table, and what holds of each kind of a word.
use Rattle.std.proofs.Common.{◌≡◌, ◌∙◌, ◌<◌, ◌≤◌, ℕ, Bool, true, false, List, [], ◌∷◌, ◌++◌, refl, sym, ap, not, ◌&&◌, ◌||◌, nat_lt, arith, length, length-append}
use Rattle.std.specs.Prelude.{nat_le, nat_eq}
use Rattle.std.specs.List.{list_all}
use Rattle.std.specs.Str.{bytes_eq}
use Rattle.std.proofs.lemmas.Bool.Decides.{nat_tests}
use Rattle.std.proofs.lemmas.Slice.Eq.{bytes_eq-Decides}
use Rattle.js_base.specs.declared.kind.Kind.{Kind}
use Rattle.js_base.specs.declared.kind.Kind.TheVariants.{Ident}
use Rattle.js_base.specs.Kinds.{code, same_kind, one_of_kinds}
use Rattle.js_base.specs.Texts.{text_of, words}
use Rattle.js_base.specs.Keywords.{keyword_of, first_with_text}
use Rattle.js_grammar.specs.Numbers.{is_number}
use Rattle.js_grammar.specs.Names.{has_backslash}
use Rattle.js_grammar.specs.Lexemes.{is_word, is_escaped, is_separated}
use Rattle.js_grammar.proofs.LongestLemmas.{both-left, both-right}
use Rattle.js_grammar.proofs.CoreNames.{is_number_code}
use Rattle.js_grammar.proofs.WordKinds.{law_of_words}

-- A word that lacks what each text of the kinds has is none of them.
pub unlike : (t : List ℕ → Bool) (ks : List Kind) (w : List ℕ) → list_all (λ k. t (text_of k)) ks ≡ true → t w ≡ false → first_with_text ks w ≡ Ident
unlike t [] w h e = refl
unlike t (k ∷ ks) w h e = go (unlike t ks w (both-right (t (text_of k)) (list_all (λ a. t (text_of a)) ks) h) e) (bytes_eq (text_of k) w) refl
  where
    go : first_with_text ks w ≡ Ident → (b : Bool) → bytes_eq (text_of k) w ≡ b → first_with_text (k ∷ ks) w ≡ Ident
    go r true q = absurd (let same : text_of k ≡ w = (bytes_eq-Decides (text_of k) w).0 q in let a : t (text_of k) ≡ true = both-left (t (text_of k)) (list_all (λ a. t (text_of a)) ks) h in let z = ap t same in cc)
    go r false q = rw q r

abbrev has_length : List ℕ → Bool
has_length w = nat_le 2 (length w) && nat_le (length w) 11

abbrev is_ascii : List ℕ → Bool
is_ascii = list_all (λ c. nat_lt c 128)

no_length : (w : List ℕ) → has_length w ≡ false → keyword_of w ≡ Ident
unfolding keyword_of words
no_length w h = unlike has_length words w refl h

no_ascii : (w : List ℕ) → is_ascii w ≡ false → keyword_of w ≡ Ident
unfolding keyword_of words
no_ascii w h = unlike is_ascii words w refl h

pub short-word : (w : List ℕ) → length w < 2 → keyword_of w ≡ Ident
short-word w l = no_length w (grind (arith, nat_tests))

pub long-word : (w : List ℕ) → 11 < length w → keyword_of w ≡ Ident
long-word w l = no_length w (grind (arith, nat_tests))

pub long-front : (ps qs : List ℕ) → 11 < length ps → keyword_of (ps ++ qs) ≡ Ident
long-front ps qs l = let e = length-append ps qs in long-word (ps ++ qs) (omega arith)

high-here : (ps qs : List ℕ) (p : ℕ) → 128 ≤ p → is_ascii ((ps ++ p ∷ []) ++ qs) ≡ false
high-here [] qs p h = let e : nat_lt p 128 ≡ false = grind (arith, nat_tests) in rw e refl
high-here (x ∷ ps) qs p h = and-false (nat_lt x 128) (is_ascii ((ps ++ p ∷ []) ++ qs)) (high-here ps qs p h)
  where
    and-false : (a b : Bool) → b ≡ false → (a && b) ≡ false
    and-false true b e = e
    and-false false b e = refl

pub high-front : (ps qs : List ℕ) (p : ℕ) → 128 ≤ p → keyword_of ((ps ++ p ∷ []) ++ qs) ≡ Ident
high-front ps qs p h = no_ascii ((ps ++ p ∷ []) ++ qs) (high-here ps qs p h)

-- what holds of `Ident` and of each kind of a list holds of the kind of a word
of_kind : (t : ℕ → Bool) (ks : List Kind) (w : List ℕ) → t (code Ident) ≡ true → list_all (λ k. t (code k)) ks ≡ true → t (code (first_with_text ks w)) ≡ true
of_kind t [] w i h = i
of_kind t (k ∷ ks) w i h = go (of_kind t ks w i (both-right (t (code k)) (list_all (λ a. t (code a)) ks) h)) (bytes_eq (text_of k) w) refl
  where
    go : t (code (first_with_text ks w)) ≡ true → (b : Bool) → bytes_eq (text_of k) w ≡ b → t (code (first_with_text (k ∷ ks) w)) ≡ true
    go r true q = rw q (both-left (t (code k)) (list_all (λ a. t (code a)) ks) h)
    go r false q = rw q r

no_number : (w : List ℕ) → is_number_code (code (keyword_of w)) ≡ false
unfolding keyword_of words
no_number w = not-true' (is_number_code (code (first_with_text words w))) (of_kind (λ i. not (is_number_code i)) words w refl refl)
  where
    not-true' : (a : Bool) → not a ≡ true → a ≡ false
    not-true' true e = sym e
    not-true' false e = refl

pub word-no-number : (w : List ℕ) → is_number (keyword_of w) ≡ false
word-no-number w = no_number w

among : (ks : List Kind) (w : List ℕ) → (same_kind Ident (first_with_text ks w) || one_of_kinds ks (first_with_text ks w)) ≡ true
among [] w = refl
among (k ∷ ks) w = go (among ks w) (bytes_eq (text_of k) w) refl
  where
    same : (n : ℕ) → nat_eq n n ≡ true
    same n = grind (arith, nat_tests)

    or-right : (a b : Bool) → b ≡ true → (a || b) ≡ true
    or-right true b e = refl
    or-right false b e = e

    later : (a b c : Bool) → (a || b) ≡ true → (a || (c || b)) ≡ true
    later true b c e = refl
    later false true true e = refl
    later false true false e = refl
    later false false c e = cc

    go : (same_kind Ident (first_with_text ks w) || one_of_kinds ks (first_with_text ks w)) ≡ true → (b : Bool) → bytes_eq (text_of k) w ≡ b → (same_kind Ident (first_with_text (k ∷ ks) w) || one_of_kinds (k ∷ ks) (first_with_text (k ∷ ks) w)) ≡ true
    go r true q = rw q (or-right (same_kind Ident k) (same_kind k k || one_of_kinds ks k) (let e = same (code k) in rw e refl))
    go r false q = rw q (later (same_kind Ident (first_with_text ks w)) (one_of_kinds ks (first_with_text ks w)) (same_kind k (first_with_text ks w)) r)

pub word-is-word : (w : List ℕ) → is_word (keyword_of w) ≡ true
unfolding keyword_of
word-is-word w = law_of_words (keyword_of w) ∙ among words w

pub word-escaped : (ps w : List ℕ) → is_escaped (keyword_of ps) w ≡ has_backslash w
word-escaped ps w = let e = word-is-word ps in rw e refl

pub word-separated : (ps w : List ℕ) → is_separated (keyword_of ps) w ≡ false
word-separated ps w = let e = word-no-number ps in rw e refl
