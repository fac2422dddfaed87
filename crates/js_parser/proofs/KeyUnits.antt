-- What a lexeme that is a key stands for is the value of its node (ECMA-262, 12.7.1 and 12.9.4.2).
use Rattle.std.proofs.Common.{ℕ, ◌≡◌, ◌++◌, Bool, true, false, List, [], ◌∷◌, Option, Some, None, refl, sym, ap, subst, arith, ◌∙◌}
use Rattle.std.specs.Prelude.{slice_range, unwrap_or, option_map, IsUtf8, IsCharBoundary}
use Rattle.std.specs.Str.{chars}
use Rattle.std.proofs.lemmas.Bool.{false≢true}
use Rattle.js_base.specs.Kinds.{same_kind}
use Rattle.js_base.specs.declared.kind.Kind.{Kind}
use Rattle.js_base.specs.declared.kind.Kind.TheVariants.{Str}
use Rattle.js_base.proofs.KindLemmas.{kind_of_same}
use Rattle.js_base.specs.part_text.Characters.{is_decimal}
use Rattle.js_base.specs.part_text.Decoding.{name_points, string_units}
use Rattle.js_base.specs.part_text.Escapes.{code_units}
use Rattle.js_grammar.specs.Characters.{begins}
use Rattle.js_grammar.specs.EarlyRules.{key_units}
use Rattle.js_grammar.specs.Grammar.{Lexeme, Lexemes, last, next}
use Rattle.js_grammar.specs.Lexed.{Lexes, NextLexeme, all_faults}
use Rattle.js_grammar.specs.LexicalFaults.{behind}
use Rattle.js_grammar.specs.Lexemes.{Opening, a_name, division, is_word, kind_in, kind_of, opening, units_of}
use Rattle.js_grammar.specs.Longest.{joined}
use Rattle.js_grammar.specs.Names.{is_plain_name, name_of, named, word_of}
use Rattle.js_grammar.specs.Strings.{string_inside}
use Rattle.js_grammar.specs.Trees.{Op, Span, identifier_name, string_literal}
use Rattle.js_grammar.proofs.CoverInitialisers.{Led}
use Rattle.js_grammar.proofs.Looks.{covered}
use Rattle.js_cursor.specs.part_words.Places.{Word}
use Rattle.js_cursor.proofs.js_lex.Again.{cancel}
use Rattle.js_cursor.proofs.js_lex.NamesGiven.{word_opened}
use Rattle.js_cursor.proofs.part_scan.StringPlaces.{front_word}
use Rattle.js_cursor.proofs.part_words.Flags.{spelled}
use Rattle.js_cursor.proofs.part_words.KindsOfLexemes.{opened, opened_is, plain_end}
use Rattle.js_parser.proofs.PlainKinds.{plainly, a_word, a_name_kind, words_are, same_opening}

-- ---- a lexeme stands where its characters do

pub record Spelt (text : List ℕ) (s : ℕ) (x : Lexeme) : Type 0 where
  pub led : Led text s x
  pub is : chars (slice_range text x.from x.to) ≡ led.1.word
  pub boundary : IsCharBoundary text x.to

spelt : {text : List ℕ} {s : ℕ} {x : Lexeme} → IsUtf8 text → IsCharBoundary text s → Led text s x → Spelt text s x
spelt {text} {s} {x} u b h =
    let l = h.1 in
    let v : Word text s x.from (joined l.trivia) = subst (λ (n : ℕ). Word text s n (joined l.trivia)) (sym l.from) (front_word text s (joined l.trivia) (l.word ++ l.rest) u b l.stands.splits) in
    let here : behind text x.from ≡ l.word ++ l.rest = cancel (joined l.trivia) (behind text x.from) (l.word ++ l.rest) (sym v.splits ∙ l.stands.splits) in
    let w : Word text x.from x.to l.word = subst (λ (n : ℕ). Word text x.from n l.word) (sym l.to) (front_word text x.from l.word l.rest u v.boundary here) in
    record { led = h; is = spelled text x.from x.to l.word u v.boundary (let e = l.to in omega arith) w; boundary = w.boundary }

pub all_spelt : {text : List ℕ} → IsUtf8 text → (s : ℕ) (ls : Lexemes) → IsCharBoundary text s → Lexes (Led text) s ls → Lexes (Spelt text) s ls
all_spelt u s (last x) b l = spelt u b l
all_spelt u s (next x ls) b l = let a = spelt u b l.0 in (a, all_spelt u x.to ls a.boundary l.1)

-- ---- words

some_name : (o : Option (List ℕ)) (k : Kind) → word_of o ≡ Some k → (ps : List ℕ) × (o ≡ Some ps)
some_name None k e = absurd (let z = e in cc)
some_name (Some ps) k e = (ps, refl)

word_named : (w rest : List ℕ) (k : Kind) → kind_in division w rest ≡ Some k → is_word k ≡ true → (ps : List ℕ) × (name_of w ≡ Some ps)
word_named [] rest k h p = absurd (false≢true (subst (λ (j : Kind). is_word j ≡ true) (plain_end rest k h).0 p))
word_named (c ∷ cs) rest k h p =
    let o : opened k ≡ Some a_name = word_opened k (covered a_word a_name_kind words_are k false false p) in
    let q : opening c (begins is_decimal cs) ≡ a_name = same_opening _ _ (sym (opened_is c cs rest k h) ∙ o) in
    some_name (name_of (c ∷ cs)) k (sym (ap (λ (d : Opening). kind_of d (c ∷ cs) rest) q) ∙ h)

-- a name has the points that it spells
points_of : (o : Option (List ℕ)) (ps : List ℕ) → named o ≡ Some ps → o ≡ Some ps
points_of None ps e = absurd (let z = e in cc)
points_of (Some cs) ps e = go (is_plain_name cs) e
  where
    go : (b : Bool) → elim b [ true ↦ Some cs | false ↦ None ] ≡ Some ps → Some cs ≡ Some ps
    go true f = f
    go false f = absurd (let z = f in cc)

abbrev points_value : Option (List ℕ) → Option (List ℕ)
points_value v = elim v [ None ↦ None | Some cs ↦ Some (code_units cs) ]

some_same : (a b : List ℕ) → Some a ≡ Some b → a ≡ b
some_same a b e = cc

first_of_two : (b : Bool) (xs ys : List ℕ) → b ≡ true → elim b [ true ↦ xs | false ↦ ys ] ≡ xs
first_of_two true xs ys e = refl
first_of_two false xs ys e = absurd (false≢true e)

string_value_units : (w : List ℕ) → units_of Str w ≡ unwrap_or (string_units (string_inside w)) []
string_value_units w = refl

module _ {text : List ℕ} {s : ℕ} {x : Lexeme} (h : Spelt text s x) (o : Op) (n : ℕ) (v : List ℕ) where
  abbrev l : NextLexeme all_faults text s x
  l = h.led.1

  abbrev place : Span
  place = record { from = x.from; to = x.to }

  pub word_units : is_word x.kind ≡ true → key_units text (record { kind = identifier_name; op = o; flags = n; span = place }) ≡ Some v → x.units ≡ v
  word_units p e =
      let k : kind_in division l.word l.rest ≡ Some x.kind = plainly is_word refl refl refl refl l.goal l.word l.rest x.kind l.lexeme.kind p in
      let m = word_named l.word l.rest x.kind k p in
      let points : name_points (chars (slice_range text x.from x.to)) ≡ Some m.0 = ap name_points h.is ∙ points_of (name_points l.word) m.0 m.1 in
      let units : x.units ≡ code_units m.0 = l.units ∙ (first_of_two (is_word x.kind) _ _ p ∙ ap (λ (q : Option (List ℕ)). unwrap_or (option_map code_units q) []) m.1) in
      units ∙ some_same (code_units m.0) v (sym (ap points_value points) ∙ e)

  pub string_key_units : same_kind Str x.kind ≡ true → key_units text (record { kind = string_literal; op = o; flags = n; span = place }) ≡ Some v → x.units ≡ v
  string_key_units p e =
      let value : string_units (string_inside l.word) ≡ Some v = ap (λ (w : List ℕ). string_units (string_inside w)) (sym h.is) ∙ e in
      l.units ∙ (ap (λ (k : Kind). units_of k l.word) (sym (kind_of_same Str x.kind p)) ∙ (string_value_units l.word ∙ ap (λ (q : Option (List ℕ)). unwrap_or q []) value))
