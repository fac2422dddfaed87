-- The kind of a core piece, and what it stands for, are those of the whole language.
use Rattle.std.proofs.Common.{◌≡◌, ℕ, ◌==◌, Bool, true, false, List, [], ◌∷◌, refl, sym, ap, ◌∙◌, not, ◌&&◌, ◌||◌, Option, Some, nat_lt}
use Rattle.std.specs.Prelude.{bytes_eq, unwrap_or, option_map, drop}
use Rattle.std.specs.List.{list_all, find}
use Rattle.js_base.specs.declared.kind.Kind.{Kind}
use Rattle.js_base.specs.declared.kind.Kind.TheVariants.{Str, Decimal, Eof, PrivateIdentifier}
use Rattle.js_base.specs.Kinds.{same_kind, one_of_kinds}
use Rattle.js_base.specs.Texts.{text_of, words}
use Rattle.js_base.specs.Keywords.{keyword_of}
use Rattle.js_base.specs.part_text.Characters.{one_of, is_decimal}
use Rattle.js_base.specs.part_text.Escapes.{code_units}
use Rattle.js_base.specs.part_text.Decoding.{string_units}
use Rattle.js_grammar.specs.Characters.{is_identifier_start, is_identifier_part, begins}
use Rattle.js_grammar.specs.Names.{is_plain_name, name_of, word_of}
use Rattle.js_grammar.specs.Strings.{nothing_left, string_inside}
use Rattle.js_grammar.specs.Lexemes.{kind_in, division, plain_kind, a_name, may_precede, is_word, units_of}
use Rattle.js_grammar.specs.CoreTexts.{is_ascii_name, is_core_number, is_core_string, closes_core_string, core_punctuators, core_words}
use Rattle.js_grammar.specs.CorePieces.{piece_kind, piece_units}
use Rattle.js_grammar.proofs.LongestLemmas.{both-left, not-true}
use Rattle.js_grammar.proofs.Finding.{neither-left, neither-right, member, kind_passes, found-all}
use Rattle.js_grammar.proofs.CoreLemmas.{plain_of}
use Rattle.js_grammar.proofs.CoreFirst.{is_core_first, decimal-ascii, is_mark, IsMark, name_opens}
use Rattle.js_grammar.proofs.CoreNames.{IsPlain, ascii, core_ascii, name-of-plain}
use Rattle.js_grammar.proofs.CoreNumbers.{number-itself, number-opens}
use Rattle.js_grammar.proofs.CoreStrings.{string-units, string-kind}
use Rattle.js_grammar.proofs.CorePunctuators.{mark-kind}

abbrev pub Told : (w rest : List ℕ) → Kind → Type 0
Told w rest k = (k ≡ piece_kind w rest) × (units_of k w ≡ piece_units w)

and-left : (a b : Bool) → a ≡ false → (a && b) ≡ false
and-left a b h = rw h refl

abbrev quotes : List ℕ
quotes = 34 ∷ 39 ∷ []

-- the kind that it has in the whole language is the only one
only_kind : {w rest : List ℕ} (i : IsPlain w rest) (k : Kind) → kind_in division w rest ≡ Some k → i.kind ≡ k
only_kind i k e = let a = i.is in cc

no_name : (c : ℕ) (cs : List ℕ) → is_identifier_start c ≡ false → is_ascii_name (c ∷ cs) ≡ false
no_name c cs h = and-left (is_plain_name (c ∷ cs)) (list_all (λ d. nat_lt d 128) (c ∷ cs)) (and-left (is_identifier_start c) (list_all is_identifier_part cs) h)

no_number : (c : ℕ) (cs : List ℕ) → is_decimal c ≡ false → is_core_number (c ∷ cs) ≡ false
no_number c cs h = and-left (is_decimal c) (list_all is_decimal cs && (not (c == 48) || nothing_left cs)) h

no_string : (c : ℕ) (cs : List ℕ) → one_of quotes c ≡ false → is_core_string (c ∷ cs) ≡ false
no_string c cs h = and-left (one_of quotes c) (closes_core_string c cs) h

abbrev units_by : Kind → List ℕ → Bool → Bool → Bool → List ℕ
units_by k w a b c = elim a [ true ↦ unwrap_or (option_map code_units (name_of w)) [] | false ↦ elim b [ true ↦ unwrap_or (option_map code_units (name_of (drop 1 w))) [] | false ↦ elim c [ true ↦ unwrap_or (string_units (string_inside w)) [] | false ↦ [] ] ] ]

units_word : (k : Kind) (w : List ℕ) → is_word k ≡ true → units_of k w ≡ unwrap_or (option_map code_units (name_of w)) []
units_word k w h = ap (λ (a : Bool). units_by k w a (same_kind PrivateIdentifier k) (same_kind Str k)) h

units_none : (k : Kind) (w : List ℕ) → is_word k ≡ false → same_kind PrivateIdentifier k ≡ false → same_kind Str k ≡ false → units_of k w ≡ []
units_none k w a b c = λ i. units_by k w (a i) (b i) (c i)

-- the kind and the units, by what the piece is
abbrev kind_by : List ℕ → List ℕ → Bool → Bool → Bool → Kind
kind_by w rest a b d = elim a [ true ↦ keyword_of w | false ↦ elim b [ true ↦ Decimal | false ↦ elim d [ true ↦ Str | false ↦ unwrap_or (find (λ k. bytes_eq (text_of k) w && may_precede k rest) core_punctuators) Eof ] ] ]

abbrev told_units : List ℕ → Bool → Bool → List ℕ
told_units w a d = elim a [ true ↦ code_units w | false ↦ elim d [ true ↦ code_units (string_inside w) | false ↦ [] ] ]

pub told_name : (c : ℕ) (cs rest : List ℕ) → is_ascii_name (c ∷ cs) ≡ true → one_of_kinds core_words (keyword_of (c ∷ cs)) ≡ true → (i : IsPlain (c ∷ cs) rest) → Told (c ∷ cs) rest i.kind
unfolding words
told_name c cs rest h k pl =
    let kd : plain_kind (c ∷ cs) rest ≡ Some (keyword_of (c ∷ cs)) = plain_of a_name c cs rest (name_opens c cs (begins is_decimal cs) h) ∙ ap word_of (name-of-plain c cs h) in
    let e = only_kind pl (keyword_of (c ∷ cs)) kd in
    let p : keyword_of (c ∷ cs) ≡ piece_kind (c ∷ cs) rest = λ i. kind_by (c ∷ cs) rest (sym h i) (is_core_number (c ∷ cs)) (is_core_string (c ∷ cs)) in
    let u : piece_units (c ∷ cs) ≡ code_units (c ∷ cs) = λ i. told_units (c ∷ cs) (h i) (is_core_string (c ∷ cs)) in
    let w : is_word (keyword_of (c ∷ cs)) ≡ true = kind_passes is_word core_words (keyword_of (c ∷ cs)) k refl in
    (e ∙ p, ap (λ (a : Kind). units_of a (c ∷ cs)) e ∙ units_word (keyword_of (c ∷ cs)) (c ∷ cs) w ∙ ap (λ (o : Option (List ℕ)). unwrap_or (option_map code_units o) []) (name-of-plain c cs h) ∙ sym u)

pub told_number : (c : ℕ) (cs rest : List ℕ) → is_core_number (c ∷ cs) ≡ true → (i : IsPlain (c ∷ cs) rest) → Told (c ∷ cs) rest i.kind
unfolding words
told_number c cs rest h pl =
    let d = both-left (is_decimal c) (list_all is_decimal cs && (not (c == 48) || nothing_left cs)) h in
    let kd : plain_kind (c ∷ cs) rest ≡ Some Decimal = plain_of Rattle.js_grammar.specs.Lexemes.a_number c cs rest (number-opens c (begins is_decimal cs) d) ∙ number-itself c cs h in
    let e = only_kind pl Decimal kd in
    let n = no_name c cs (not-true (is_identifier_start c) (ascii is_decimal (λ a. not (is_identifier_start a)) c refl (decimal-ascii c d) d)) in
    let s = no_string c cs (not-true (one_of quotes c) (ascii is_decimal (λ a. not (one_of quotes a)) c refl (decimal-ascii c d) d)) in
    let p : Decimal ≡ piece_kind (c ∷ cs) rest = λ i. kind_by (c ∷ cs) rest (sym n i) (sym h i) (is_core_string (c ∷ cs)) in
    let u : piece_units (c ∷ cs) ≡ [] = λ i. told_units (c ∷ cs) (n i) (s i) in
    (e ∙ p, ap (λ (a : Kind). units_of a (c ∷ cs)) e ∙ units_none Decimal (c ∷ cs) refl refl refl ∙ sym u)

pub told_string : (c : ℕ) (cs rest : List ℕ) → is_core_string (c ∷ cs) ≡ true → (i : IsPlain (c ∷ cs) rest) → Told (c ∷ cs) rest i.kind
unfolding words
told_string c cs rest h pl =
    let q = both-left (one_of quotes c) (closes_core_string c cs) h in
    let e = only_kind pl Str (string-kind c cs rest h) in
    let n = no_name c cs (not-true (is_identifier_start c) (member (λ a. not (is_identifier_start a)) quotes c q refl)) in
    let d = no_number c cs (not-true (is_decimal c) (member (λ a. not (is_decimal a)) quotes c q refl)) in
    let p : Str ≡ piece_kind (c ∷ cs) rest = λ i. kind_by (c ∷ cs) rest (sym n i) (sym d i) (sym h i) in
    let u : piece_units (c ∷ cs) ≡ code_units (string_inside (c ∷ cs)) = λ i. told_units (c ∷ cs) (n i) (h i) in
    (e ∙ p, ap (λ (a : Kind). units_of a (c ∷ cs)) e ∙ ap (λ (o : Option (List ℕ)). unwrap_or o []) (string-units c cs h) ∙ sym u)

abbrev starts_none : ℕ → Bool
starts_none a = is_identifier_start a || (is_decimal a || one_of quotes a)

pub told_punctuator : (c : ℕ) (cs rest : List ℕ) → IsMark c cs rest → (i : IsPlain (c ∷ cs) rest) → Told (c ∷ cs) rest i.kind
unfolding words core_punctuators
told_punctuator c cs rest m pl =
    let e = only_kind pl m.kind (mark-kind c cs rest m) in
    let f : is_core_first c ≡ true = both-left (is_core_first c) _ m.mark in
    let z = not-true (starts_none c) (ascii is_mark (λ a. not (starts_none a)) c refl (core_ascii c f) m.mark) in
    let n = no_name c cs (neither-left (is_identifier_start c) (is_decimal c || one_of quotes c) z) in
    let z' = neither-right (is_identifier_start c) (is_decimal c || one_of quotes c) z in
    let d = no_number c cs (neither-left (is_decimal c) (one_of quotes c) z') in
    let s = no_string c cs (neither-right (is_decimal c) (one_of quotes c) z') in
    let p : m.kind ≡ piece_kind (c ∷ cs) rest = sym ((λ i. kind_by (c ∷ cs) rest (n i) (d i) (s i)) ∙ ap (λ (o : Option Kind). unwrap_or o Eof) m.listed) in
    let u : piece_units (c ∷ cs) ≡ [] = λ i. told_units (c ∷ cs) (n i) (s i) in
    let a = found-all (λ k. bytes_eq (text_of k) (c ∷ cs) && may_precede k rest) (λ k. not (is_word k)) core_punctuators m.kind m.listed refl in
    let b = found-all (λ k. bytes_eq (text_of k) (c ∷ cs) && may_precede k rest) (λ k. not (same_kind PrivateIdentifier k)) core_punctuators m.kind m.listed refl in
    let o = found-all (λ k. bytes_eq (text_of k) (c ∷ cs) && may_precede k rest) (λ k. not (same_kind Str k)) core_punctuators m.kind m.listed refl in
    (e ∙ p, ap (λ (x : Kind). units_of x (c ∷ cs)) e ∙ units_none m.kind (c ∷ cs) (not-true _ a) (not-true _ b) (not-true _ o) ∙ sym u)
