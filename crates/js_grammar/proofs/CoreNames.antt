-- A core name and a core number are the longest lexeme of the whole language, too.
use Rattle.std.proofs.Common.{◌≡◌, ◌<◌, ℕ, ◌==◌, Bool, true, false, List, [], ◌∷◌, ◌++◌, refl, ap, subst, ◌∙◌, not, ◌&&◌, ◌||◌, Option, Some, None, nat_lt}
use Rattle.std.proofs.lemmas.Bool.{and_right}
use Rattle.std.specs.Prelude.{is_some}
use Rattle.std.specs.List.{list_all}
use Rattle.js_base.specs.declared.kind.Kind.{Kind}
use Rattle.js_base.specs.declared.kind.Kind.TheVariants.{Decimal, Float, Binary, Octal, Hex, PositiveExponential, NegativeExponential, DecimalBigInt, BinaryBigInt, OctalBigInt, HexBigInt, RegExp, Eof}
use Rattle.js_base.specs.Kinds.{code, one_of_kinds}
use Rattle.js_base.specs.part_text.Characters.{one_of, is_decimal}
use Rattle.js_grammar.specs.Characters.{is_identifier_start, is_identifier_part, begins}
use Rattle.js_grammar.specs.Longest.{longest, none_longer}
use Rattle.js_base.specs.part_text.Escapes.{in_name, read_from, outside, before_all}
use Rattle.js_base.specs.Keywords.{keyword_of}
use Rattle.js_grammar.specs.Names.{is_plain_name, has_backslash, named, name_of, word_of}
use Rattle.js_grammar.specs.Numbers.{is_number, stops_number}
use Rattle.js_grammar.specs.Lexemes.{plain_kind, lexemes_in, kind_in, division, a_name, is_escaped}
use Rattle.js_grammar.specs.CoreGrammar.{core_kinds}
use Rattle.js_grammar.specs.CoreTexts.{is_core_piece, is_ascii_name, is_core_number, is_core_blank, is_core_string, is_core_punctuator, core_words}
use Rattle.js_grammar.proofs.LongestLemmas.{both-left, both-right, both, not-true, none_longer-at}
use Rattle.js_grammar.proofs.Finding.{neither-left, neither-right, kind_member, kind_passes, all-append, all-both}
use Rattle.js_grammar.proofs.CoreLemmas.{below, implies, implied, none_longer-from, plain_of}
use Rattle.js_grammar.proofs.CoreFirst.{is_core_first, lt-true, lt-is, name_opens}
use Rattle.js_grammar.proofs.CorePlain.{no_backslash, points-append, points-plain, points-one}

-- the first of the characters, where there is one, is one that a core piece may begin with
abbrev pub Before : List ℕ → Type 0
Before rest = (d : ℕ) (r : List ℕ) → rest ≡ d ∷ r → is_core_first d ≡ true

pub core_ascii : (d : ℕ) → is_core_first d ≡ true → d < 128
core_ascii d h = lt-true d 128 (both-left (nat_lt d 128) (not (one_of (92 ∷ 47 ∷ 96 ∷ 35 ∷ 64 ∷ 123 ∷ 125 ∷ []) d)) h)

-- of an ASCII character, by trying them all
pub ascii : (a b : ℕ → Bool) (d : ℕ) → Rattle.js_grammar.proofs.CoreLemmas.all_below 128 (λ e. implies (a e) (b e)) ≡ true → d < 128 → a d ≡ true → b d ≡ true
ascii a b d t l h = implied (a d) (b d) (below 128 (λ e. implies (a e) (b e)) d t l) h

pub core_no_backslash : (d : ℕ) → is_core_first d ≡ true → no_backslash d ≡ true
core_no_backslash d h = ascii is_core_first no_backslash d refl (core_ascii d h) h

-- a lexeme of the whole language, and no longer one
pub record IsPlain (w rest : List ℕ) : Type 0 where
  pub kind : Kind
  pub longest : longest (lexemes_in division) w rest ≡ true
  pub is : kind_in division w rest ≡ Some kind
  pub apart : (not (is_number kind) || stops_number rest) ≡ true
  -- neither the end of the text nor a regular expression
  pub inside : not (one_of (code Eof ∷ code RegExp ∷ []) (code kind)) ≡ true
  pub core : one_of_kinds core_kinds kind ≡ true
  pub unescaped : is_escaped kind w ≡ false

-- the numbers of the kinds of numbers
abbrev pub is_number_code : ℕ → Bool
is_number_code i = (code Decimal == i) || ((code Float == i) || ((code Binary == i) || ((code Octal == i) || ((code Hex == i) || ((code PositiveExponential == i) || ((code NegativeExponential == i) || ((code DecimalBigInt == i) || ((code BinaryBigInt == i) || ((code OctalBigInt == i) || ((code HexBigInt == i) || false))))))))))

pub no_number_apart : (k : Kind) (rest : List ℕ) → not (is_number_code (code k)) ≡ true → (not (is_number k) || stops_number rest) ≡ true
no_number_apart k rest g = ap (λ (b : Bool). b || stops_number rest) g

-- names
plain_parts : (c : ℕ) (cs : List ℕ) → is_ascii_name (c ∷ cs) ≡ true → list_all is_identifier_part cs ≡ true
plain_parts c cs h = both-right (is_identifier_start c) (list_all is_identifier_part cs) (both-left (is_plain_name (c ∷ cs)) (list_all (λ d. nat_lt d 128) (c ∷ cs)) h)

pub name_no_backslash : (c : ℕ) (cs : List ℕ) → is_ascii_name (c ∷ cs) ≡ true → list_all no_backslash (c ∷ cs) ≡ true
name_no_backslash c cs h =
    let a = both-right (is_plain_name (c ∷ cs)) (list_all (λ d. nat_lt d 128) (c ∷ cs)) h in
    let s = both-left (is_identifier_start c) (list_all is_identifier_part cs) (both-left (is_plain_name (c ∷ cs)) (list_all (λ d. nat_lt d 128) (c ∷ cs)) h) in
    both (no_backslash c) (list_all no_backslash cs)
    (ascii is_identifier_start no_backslash c refl (lt-true c 128 (both-left (nat_lt c 128) (list_all (λ d. nat_lt d 128) cs) a)) s)
    (all-both is_identifier_part (λ d. nat_lt d 128) no_backslash cs (λ d p l. ascii is_identifier_part no_backslash d refl (lt-true d 128 l) p) (plain_parts c cs h) (both-right (nat_lt c 128) (list_all (λ d. nat_lt d 128) cs) a))

pub named-plain : (w : List ℕ) → is_plain_name w ≡ true → named (Some w) ≡ Some w
named-plain w h = ap (λ (b : Bool). elim b [ true ↦ Some w | false ↦ None ]) h

pub named-not : (w : List ℕ) → is_plain_name w ≡ false → named (Some w) ≡ None
named-not w h = ap (λ (b : Bool). elim b [ true ↦ Some w | false ↦ None ]) h

pub name-of-plain : (c : ℕ) (cs : List ℕ) → is_ascii_name (c ∷ cs) ≡ true → name_of (c ∷ cs) ≡ Some (c ∷ cs)
name-of-plain c cs h = ap named (points-plain in_name (c ∷ cs) (name_no_backslash c cs h)) ∙ named-plain (c ∷ cs) (both-left (is_plain_name (c ∷ cs)) (list_all (λ d. nat_lt d 128) (c ∷ cs)) h)

-- a character that no name goes on with
pub parts_stop : (xs : List ℕ) (d : ℕ) (ys : List ℕ) → is_identifier_part d ≡ false → list_all is_identifier_part (xs ++ d ∷ ys) ≡ false
parts_stop [] d ys h = rw h refl
parts_stop (x ∷ xs) d ys h = and_right (is_identifier_part x) (list_all is_identifier_part (xs ++ d ∷ ys)) (parts_stop xs d ys h)

plain_stops : (c : ℕ) (cs : List ℕ) (d : ℕ) (ys : List ℕ) → is_identifier_part d ≡ false → is_plain_name (c ∷ cs ++ d ∷ ys) ≡ false
plain_stops c cs d ys h = and-false (is_identifier_start c) (list_all is_identifier_part (cs ++ d ∷ ys)) (parts_stop cs d ys h)
  where
    and-false : (a b : Bool) → b ≡ false → (a && b) ≡ false
    and-false true b e = e
    and-false false b e = refl

pub longer_name : (c : ℕ) (cs : List ℕ) (d : ℕ) (ys : List ℕ) → list_all no_backslash (c ∷ cs) ≡ true → no_backslash d ≡ true → is_identifier_part d ≡ false → name_of (c ∷ cs ++ d ∷ ys) ≡ None
longer_name c cs d ys h n e =
    let a = points-append in_name (c ∷ cs) (d ∷ ys) h in
    let b = points-one in_name d ys n in
    ap named (a ∙ ap (λ (o : Option (List ℕ)). before_all (c ∷ cs) o) b) ∙ go (read_from in_name outside ys)
  where
    go : (o : Option (List ℕ)) → named (before_all (c ∷ cs) (before_all (d ∷ []) o)) ≡ None
    go None = refl
    go (Some zs) = named-not (c ∷ cs ++ d ∷ zs) (plain_stops c cs d zs e)

-- the next character doesn't go on with a core name
next_no_part : (c : ℕ) (cs : List ℕ) (d : ℕ) (more : List ℕ) → is_ascii_name (c ∷ cs) ≡ true → d < 128 → is_core_piece (c ∷ cs ++ d ∷ []) more ≡ false → is_identifier_part d ≡ false
next_no_part c cs d more h l n = go (is_identifier_part d) refl
  where
    go : (b : Bool) → is_identifier_part d ≡ b → is_identifier_part d ≡ false
    go false e = e
    go true e =
        let a = neither-left (is_ascii_name (c ∷ cs ++ d ∷ [])) (is_core_number (c ∷ cs ++ d ∷ []) || (is_core_string (c ∷ cs ++ d ∷ []) || is_core_punctuator (c ∷ cs ++ d ∷ []) more))
        (neither-right (is_core_blank (c ∷ cs ++ d ∷ [])) (is_ascii_name (c ∷ cs ++ d ∷ []) || (is_core_number (c ∷ cs ++ d ∷ []) || (is_core_string (c ∷ cs ++ d ∷ []) || is_core_punctuator (c ∷ cs ++ d ∷ []) more))) n) in
        let p = both (is_identifier_start c) (list_all is_identifier_part (cs ++ d ∷ []))
        (both-left (is_identifier_start c) (list_all is_identifier_part cs) (both-left (is_plain_name (c ∷ cs)) (list_all (λ x. nat_lt x 128) (c ∷ cs)) h))
        (all-append is_identifier_part cs (d ∷ []) (plain_parts c cs h) (both (is_identifier_part d) true e refl)) in
        let q = all-append (λ x. nat_lt x 128) (c ∷ cs) (d ∷ []) (both-right (is_plain_name (c ∷ cs)) (list_all (λ x. nat_lt x 128) (c ∷ cs)) h) (both (nat_lt d 128) true (lt-is d 128 l) refl) in
        let r = both (is_plain_name (c ∷ cs ++ d ∷ [])) (list_all (λ x. nat_lt x 128) (c ∷ cs ++ d ∷ [])) p q in
        cc

pub no_backslash_has : (xs : List ℕ) → list_all no_backslash xs ≡ true → has_backslash xs ≡ false
no_backslash_has [] h = refl
no_backslash_has (x ∷ xs) h = rw (not-true (x == 92) (both-left (no_backslash x) (list_all no_backslash xs) h)) (no_backslash_has xs (both-right (no_backslash x) (list_all no_backslash xs) h))

no_escape : (k : Kind) (w : List ℕ) → list_all no_backslash w ≡ true → is_escaped k w ≡ false
no_escape k w h = go _ (has_backslash w) (no_backslash_has w h)
  where
    go : (a b : Bool) → b ≡ false → (a && b) ≡ false
    go true b e = e
    go false b e = refl

-- a name behind which a character stands that no name goes on with, or nothing
pub plain_word : (c : ℕ) (cs rest : List ℕ) → is_ascii_name (c ∷ cs) ≡ true → one_of_kinds core_words (keyword_of (c ∷ cs)) ≡ true → ((d : ℕ) (r : List ℕ) → rest ≡ d ∷ r → (no_backslash d ≡ true) × (is_identifier_part d ≡ false)) → IsPlain (c ∷ cs) rest
plain_word c cs rest h k b =
    let kd : plain_kind (c ∷ cs) rest ≡ Some (keyword_of (c ∷ cs)) = plain_of a_name c cs rest (name_opens c cs (begins is_decimal cs) h) ∙ ap word_of (name-of-plain c cs h) in
    record {
      kind = keyword_of (c ∷ cs);
      longest = both (lexemes_in division (c ∷ cs) rest) (none_longer (lexemes_in division) (c ∷ cs) rest) (ap is_some kd)
          (none_longer-from (lexemes_in division) (c ∷ cs) rest (λ d x more e.
          let f = b d (x ++ more) e in
          ap is_some (plain_of a_name c (cs ++ d ∷ x) more (name_opens c cs (begins is_decimal (cs ++ d ∷ x)) h) ∙ ap word_of (longer_name c cs d x (name_no_backslash c cs h) f.0 f.1))));
      is = kd;
      apart = no_number_apart (keyword_of (c ∷ cs)) rest (kind_member (λ i. not (is_number_code i)) core_words (keyword_of (c ∷ cs)) k refl);
      inside = kind_member (λ i. not (one_of (code Eof ∷ code RegExp ∷ []) i)) core_words (keyword_of (c ∷ cs)) k refl;
      core = kind_passes (one_of_kinds core_kinds) core_words (keyword_of (c ∷ cs)) k refl;
      unescaped = no_escape (keyword_of (c ∷ cs)) (c ∷ cs) (name_no_backslash c cs h);
    }

pub plain_word-kind : (c : ℕ) (cs rest : List ℕ) (h : is_ascii_name (c ∷ cs) ≡ true) (k : one_of_kinds core_words (keyword_of (c ∷ cs)) ≡ true) (b : (d : ℕ) (r : List ℕ) → rest ≡ d ∷ r → (no_backslash d ≡ true) × (is_identifier_part d ≡ false)) → (plain_word c cs rest h k b).kind ≡ keyword_of (c ∷ cs)
unfolding plain_word
plain_word-kind c cs rest h k b = refl

pub plain_name : (c : ℕ) (cs rest : List ℕ) → is_ascii_name (c ∷ cs) ≡ true → none_longer is_core_piece (c ∷ cs) rest ≡ true → one_of_kinds core_words (keyword_of (c ∷ cs)) ≡ true → Before rest → IsPlain (c ∷ cs) rest
plain_name c cs rest h n k b = plain_word c cs rest h k (λ d r e.
    let f = b d r e in
    let m : none_longer is_core_piece (c ∷ cs) (d ∷ r) ≡ true = subst (λ (v : List ℕ). none_longer is_core_piece (c ∷ cs) v ≡ true) e n in
    let m' = none_longer-at is_core_piece (c ∷ cs) d [] r m in
    (core_no_backslash d f, next_no_part c cs d r h (core_ascii d f) m'))
