-- A word is looked for among the kinds whose texts begin with its first byte.
use Rattle.std.proofs.Common.{ℕ, List, [], ◌∷◌, get_or, ◌≡◌, Bool, true, false, ◌||◌, refl, ap, sym, ◌∙◌, subst}
use Rattle.std.specs.Prelude.{filter, ◌==◌, Some, None, slice_get}
use Rattle.std.specs.Str.{bytes_eq}
use Rattle.std.proofs.lemmas.Slice.Eq.{bytes_eq-Decides}
use Rattle.std.proofs.lemmas.Bool.Decides.{Decides-eqb}
use Rattle.std.proofs.lemmas.Bool.{and_parts}
use Rattle.js_base.specs.Kinds.{Kind, Ident, every_kind}
use Rattle.js_base.specs.Texts.{text_of, words}
use Rattle.js_base.specs.Keywords.{begins_with, first_with_text, keyword_of}

step : (k : Kind) (ks : List Kind) (w : List ℕ) (e g : Bool) → bytes_eq (text_of k) w ≡ e → begins_with (get_or w 0 0) k ≡ g
    → first_with_text ks w ≡ first_with_text (filter (begins_with (get_or w 0 0)) ks) w
    → first_with_text (k ∷ ks) w ≡ first_with_text (filter (begins_with (get_or w 0 0)) (k ∷ ks)) w
step k ks w true true p q h = rw (p, q, p) refl
step k ks w true false p q h =
    let same : text_of k ≡ w = (bytes_eq-Decides (text_of k) w).0 p in
    let yes : begins_with (get_or w 0 0) k ≡ true = (Decides-eqb _ _).1 (ap (λ t. get_or t 0 0) same) in
    absurd (cc)
step k ks w false true p q h = rw (p, q, p) h
step k ks w false false p q h = rw (p, q) h

narrowed : (ks : List Kind) (w : List ℕ) → first_with_text ks w ≡ first_with_text (filter (begins_with (get_or w 0 0)) ks) w
narrowed [] w = refl
narrowed (k ∷ ks) w = step k ks w (bytes_eq (text_of k) w) (begins_with (get_or w 0 0) k) refl refl (narrowed ks w)

-- a word with a first byte is looked for among the words that begin with it
pub keyword_of-some : (w : List ℕ) (b : ℕ) → Some b ≡ slice_get w 0 → first_with_text (filter (begins_with b) words) w ≡ keyword_of w
unfolding keyword_of
keyword_of-some [] b h = absurd (cc)
keyword_of-some (x ∷ xs) b h =
    let same : b ≡ x = cc in
    ap (λ c. first_with_text (filter (begins_with c) words) (x ∷ xs)) same ∙ sym (narrowed words (x ∷ xs))

-- the empty text is no word
pub keyword_of-none : (w : List ℕ) → None ≡ slice_get w 0 → Ident ≡ keyword_of w
unfolding keyword_of words
keyword_of-none [] h = refl
keyword_of-none (x ∷ xs) h = absurd (cc)

-- a number is among those of a list
abbrev pub is_among : List ℕ → ℕ → Bool
is_among [] b = false
is_among (c ∷ cs) b = (b == c) || is_among cs b

-- the first bytes of the words
abbrev pub first_bytes : List ℕ
first_bytes = 97 ∷ 98 ∷ 99 ∷ 100 ∷ 101 ∷ 102 ∷ 103 ∷ 105 ∷ 108 ∷ 109 ∷ 110 ∷ 111 ∷ 112 ∷ 114 ∷ 115 ∷ 116 ∷ 117 ∷ 118 ∷ 119 ∷ 121 ∷ []

abbrev begins_among : List ℕ → Kind → Bool
begins_among cs k = is_among cs (get_or (text_of k) 0 0)

skipped : (k : Kind) (ks : List Kind) (b : ℕ) (cs : List ℕ) (g : Bool) → begins_with b k ≡ g → begins_among cs k ≡ true → is_among cs b ≡ false
    → filter (begins_with b) ks ≡ [] → filter (begins_with b) (k ∷ ks) ≡ []
skipped k ks b cs true p q r h =
    let same : get_or (text_of k) 0 0 ≡ b = (Decides-eqb _ _).0 p in
    let yes : is_among cs b ≡ true = subst (λ x. is_among cs x ≡ true) same q in
    absurd (cc)
skipped k ks b cs false p q r h = rw p h

none_begins : (ks : List Kind) (b : ℕ) (cs : List ℕ) → every_kind (begins_among cs) ks ≡ true → is_among cs b ≡ false → filter (begins_with b) ks ≡ []
none_begins [] b cs a n = refl
none_begins (k ∷ ks) b cs a n =
    let parts = and_parts (begins_among cs k) (every_kind (begins_among cs) ks) a in
    skipped k ks b cs (begins_with b k) refl parts.0 n (none_begins ks b cs parts.1 n)

pub filter-words-none : (b : ℕ) → is_among first_bytes b ≡ false → filter (begins_with b) words ≡ []
unfolding words
filter-words-none b n = none_begins words b first_bytes refl n
