-- A lexeme that begins with a slash has that byte in the text; where none stands, no lexeme is a regular expression or such a sign (ECMA-262, 12).
use Rattle.std.proofs.Common.{ℕ, ◌+◌, ◌≡◌, ◌≤◌, ◌<◌, ◌⊎◌, inl, inr, Bool, true, false, not, ◌||◌, List, [], ◌∷◌, ◌++◌, length, Some, refl, sym, ap, subst, arith, ◌∙◌}
use Rattle.std.specs.Prelude.{IsCharBoundary, IsUtf8, slice_index}
use Rattle.std.specs.Char.{len_utf8}
use Rattle.std.proofs.lemmas.Bool.{cases_lt, false≢true}
use Rattle.laws_patterns.proofs.laws_primary.RegularExpressions.{which_sign, plain_sign_of}
use Rattle.js_base.specs.declared.kind.Kind.{Kind}
use Rattle.js_base.specs.declared.kind.Kind.TheVariants.{RegExp, Slash, SlashEq}
use Rattle.js_base.specs.Kinds.{same_kind, one_of_kinds}
use Rattle.js_base.proofs.KindLemmas.{kind_of_same}
use Rattle.js_grammar.specs.Characters.{width}
use Rattle.js_grammar.specs.Grammar.{Lexeme, Lexemes}
use Rattle.js_grammar.specs.Lexed.{Lexes}
use Rattle.js_grammar.specs.LexicalFaults.{behind}
use Rattle.js_grammar.specs.Longest.{joined}
use Rattle.js_grammar.specs.Lexemes.{LexicalGoal, division, regular_expression, kind_in}
use Rattle.js_grammar.proofs.Heads.{One, the_last, and_more}
use Rattle.laws_shared.specs.part_words.Places.{Peeks, Word}
use Rattle.laws_shared.specs.js_lex.Reading.{LexemeBehind}
use Rattle.laws_shared.proofs.js_lex.Again.{cancel, passed}
use Rattle.laws_shared.proofs.part_words.KindsOfLexemes.{plain_end, slash_word, slash_equals_word}
use Rattle.laws_shared.proofs.part_words.Places.{at_end, peeks}
use Rattle.laws_shared.proofs.part_scan.StringPlaces.{front_word}
use Rattle.laws_shared.proofs.js_lex.TriviaLemmas.{some_width}
use Rattle.laws_shared.specs.Lexemes.{Lex, other_goals, signs_of, slashes}
use Rattle.laws_shared.proofs.Here.{plainly}
use Rattle.laws_shared.proofs.Slashes.{pattern_goal, sign_there}
use Rattle.laws_operators.specs.Arrows.{NoSlash}
use Rattle.laws_operators.proofs.Arrows.{AllCalm}
use Rattle.laws_operators.proofs.OnePlace.{calm}

-- ---- the words

-- a sign begins with a slash
sign_word : (w rest : List ℕ) (k : Kind) → kind_in division w rest ≡ Some k → (k ≡ Slash) ⊎ (k ≡ SlashEq) → (cs : List ℕ) × (w ≡ 47 ∷ cs)
sign_word [] rest k h (inl e) = absurd (let z = (plain_end rest k h).0 in cc)
sign_word [] rest k h (inr e) = absurd (let z = (plain_end rest k h).0 in cc)
sign_word (c ∷ cs) rest k h (inl e) = (cs, ap (λ (d : ℕ). d ∷ cs) (slash_word c cs rest (h ∙ ap Some e)).0)
sign_word (c ∷ cs) rest k h (inr e) = let f : c ∷ cs ≡ 47 ∷ 61 ∷ [] = slash_equals_word c cs rest (h ∙ ap Some e) in let z : c ≡ 47 = cc in (cs, ap (λ (d : ℕ). d ∷ cs) z)

-- a regular expression has characters
pattern_word : (w rest : List ℕ) (k : Kind) → kind_in regular_expression w rest ≡ Some k → 0 < width w
pattern_word [] rest k h = absurd (let z = h in cc)
pattern_word (c ∷ cs) rest k h = some_width c cs

-- ---- the byte

byte_there : {text : List ℕ} {i : ℕ} (cs : List ℕ) → IsUtf8 text → IsCharBoundary text i → behind text i ≡ 47 ∷ cs → slice_index text i ≡ 47
byte_there {text} {i} cs u b h = go within
  where
    some : length text ≤ i → ⊥
    some n = let e : 47 ∷ cs ≡ [] = sym h ∙ at_end text i n in absurd (cc)

    within : i < length text
    within = let n = some in omega arith

    go : i < length text → slice_index text i ≡ 47
    go w = by (peeks text i u b w)
      where
        ascii : Peeks text i (slice_index text i) → slice_index text i < 128 → slice_index text i ≡ 47
        ascii p l = let e : slice_index text i ∷ behind text (i + 1) ≡ 47 ∷ cs = sym (p.ascii l).splits ∙ h in cc

        high : Peeks text i (slice_index text i) → 128 ≤ slice_index text i → ⊥
        high p l =
            let q = p.high l in
            let e : q.character ∷ behind text (i + len_utf8 q.character) ≡ 47 ∷ cs = sym q.word.splits ∙ h in
            let d : q.character ≡ 47 = cc in
            let g = q.high in omega arith

        by : Peeks text i (slice_index text i) → slice_index text i ≡ 47
        by p = elim (cases_lt (slice_index text i) 128) [
          | inl l ↦ ascii p l
          | inr l ↦ absurd (high p l)
        ]

-- ---- where such a lexeme stands

-- a place of the text where a slash stands, in the lexeme
record SlashAt (text : List ℕ) (s : ℕ) (y : Lexeme) : Type 0 where
  behind : s ≤ y.from
  inside : y.from < y.to
  is : slice_index text y.from ≡ 47

slash_at : {text : List ℕ} {s : ℕ} {y : Lexeme} → IsUtf8 text → IsCharBoundary text s → Lex text s y → calm y.kind ≡ false → SlashAt text s y
slash_at {text} {s} {y} u b l c = go (same_kind RegExp y.kind) refl
  where
    at_sign : {x : Lexeme} → LexemeBehind division text s x → one_of_kinds slashes x.kind ≡ true → (s ≤ x.from) × (slice_index text x.from ≡ 47)
    at_sign {x} h k =
        let p = passed u b h in
        let w = sign_word p.word p.rest x.kind p.lexeme.kind (which_sign x.kind k) in
        let e : behind text x.from ≡ 47 ∷ (w.0 ++ p.rest) = p.here ∙ ap (λ (v : List ℕ). v ++ p.rest) w.1 in
        ((let i = p.stands.end in omega arith), byte_there (w.0 ++ p.rest) u p.stands.boundary e)

    to_end : 0 < width l.0.word → y.from < y.to
    to_end n = let e = l.0.to in omega arith

    sign : (r : Bool) → not (r || one_of_kinds slashes y.kind) ≡ false → r ≡ false → one_of_kinds slashes y.kind ≡ true
    sign true h e = absurd (false≢true (sym e))
    sign false h e = turned (one_of_kinds slashes y.kind) h
      where
        turned : (b : Bool) → not b ≡ false → b ≡ true
        turned true h = refl
        turned false h = absurd (false≢true (sym h))

    go : (r : Bool) → same_kind RegExp y.kind ≡ r → SlashAt text s y
    go true e =
        let k : y.kind ≡ RegExp = sym (kind_of_same RegExp y.kind e) in
        let z = sign_there l.0 (ap (one_of_kinds other_goals) k) in
        let a = at_sign z.stands (subst (λ (v : Kind). one_of_kinds (signs_of v) z.lexeme.kind ≡ true) k z.is) in
        record {
          behind = subst (λ (v : ℕ). s ≤ v) z.from a.0;
          inside = to_end (pattern_word l.0.word l.0.rest y.kind (subst (λ (g : LexicalGoal). kind_in g l.0.word l.0.rest ≡ Some y.kind) (pattern_goal l.0 k) l.0.lexeme.kind));
          is = subst (λ (v : ℕ). slice_index text v ≡ 47) z.from a.1;
        }
    go false e =
        let k = sign (same_kind RegExp y.kind) c e in
        let g = plainly l.0 l.1 (plain_sign_of y.kind k) in
        let a = at_sign (record { lex = l.0; of_goal = g }) k in
        let w = sign_word l.0.word l.0.rest y.kind (subst (λ (g : LexicalGoal). kind_in g l.0.word l.0.rest ≡ Some y.kind) g l.0.lexeme.kind) (which_sign y.kind k) in
        record { behind = a.0; inside = to_end (subst (λ (v : List ℕ). 0 < width v) (sym w.1) (some_width 47 w.0)); is = a.1 }

-- ---- along a list

-- a lexeme begins behind the place, ends behind it, and between characters
lexeme_to : {text : List ℕ} {s : ℕ} {y : Lexeme} → Lex text s y → s ≤ y.to
lexeme_to l = let e = l.0.from in let d = l.0.to in omega arith

lexeme_between : {text : List ℕ} {s : ℕ} {y : Lexeme} → IsUtf8 text → IsCharBoundary text s → Lex text s y → IsCharBoundary text y.to
lexeme_between {text} {s} {y} u b l =
    let h = l.0 in
    let w = front_word text s (joined h.trivia) (h.word ++ h.rest) u b h.stands.splits in
    let i : s + width (joined h.trivia) ≡ y.from = sym h.from in
    let v : Word text s y.from (joined h.trivia) = subst (λ (n : ℕ). Word text s n (joined h.trivia)) i w in
    let here : behind text y.from ≡ h.word ++ h.rest = cancel (joined h.trivia) (behind text y.from) (h.word ++ h.rest) (sym v.splits ∙ h.stands.splits) in
    subst (λ (n : ℕ). IsCharBoundary text n) (sym h.to) (front_word text y.from h.word h.rest u v.boundary here).boundary

one_further : (text : List ℕ) (s : ℕ) {st : List ℕ} {ls r : Lexemes} {e : ℕ} → Lexes (Lex text) s ls → One st ls e r → s ≤ e
one_further text s l (the_last m) = lexeme_to l.0
one_further text s l (and_more {x = x} m o) = let a = lexeme_to l.0 in let b = one_further text x.to l.1 o in omega arith

-- where no slash stands up to where it ends
lexeme_calm : {text : List ℕ} {s e : ℕ} {y : Lexeme} → IsUtf8 text → IsCharBoundary text s → NoSlash text s e → Lex text s y → y.to ≤ e → calm y.kind ≡ true
lexeme_calm {text} {s} {e} {y} u b n l h = go (calm y.kind) refl
  where
    go : (c : Bool) → calm y.kind ≡ c → calm y.kind ≡ true
    go true i = i
    go false i = let a = slash_at u b l i in absurd (n y.from a.behind (let j = a.inside in omega arith) a.is)

pub all_calm : (text : List ℕ) (s : ℕ) {st : List ℕ} {ls r : Lexemes} {e : ℕ} → IsUtf8 text → IsCharBoundary text s → Lexes (Lex text) s ls → (o : One st ls e r) → NoSlash text s e → AllCalm o
all_calm text s u b l (the_last m) n = lexeme_calm u b n l.0 (omega arith)
all_calm text s u b l (and_more {x = x} m o) n = (lexeme_calm u b n l.0 (one_further text x.to l.1 o), all_calm text x.to u (lexeme_between u b l.0) l.1 o (λ k a c. n k (let d = lexeme_to l.0 in omega arith) c))

-- ---- what was looked at so far

pub no_slash_more : {text bytes : List ℕ} {s i : ℕ} → NoSlash text s i → bytes ≡ text → (slice_index bytes i ≡ 47 → ⊥) → NoSlash text s (i + 1)
no_slash_more {text} {bytes} {s} {i} n e m k a b h = elim (cases_lt k i) [
  | inl l ↦ n k a l h
  | inr l ↦ let z : k ≡ i = omega arith in m (subst (λ (t : List ℕ). slice_index t i ≡ 47) (sym e) (subst (λ (v : ℕ). slice_index text v ≡ 47) z h))
]
