-- Which words are named `constructor` (ECMA-262, 15.7): the one of that kind, with an escape or without.
use Rattle.std.proofs.Common.{ℕ, ◌≡◌, ◌<◌, ◌++◌, ◌+◌, ◌-◌, ◌/◌, ◌%◌, Bool, true, false, cond, List, [], ◌∷◌, Option, Some, None, refl, sym, ap, subst, arith, ◌∙◌}
use Rattle.std.specs.Prelude.{if◌then◌else◌, codes, bytes_eq, nat_lt, flat_map, unwrap_or, option_map}
use Rattle.std.specs.Char.Escape.{encode_utf16}
use Rattle.js_grammar.proofs.CoreFirst.{lt-true}
use Rattle.std.specs.List.{list_all}
use Rattle.std.proofs.lemmas.Bool.{false≢true, and_parts}
use Rattle.std.proofs.lemmas.Slice.Eq.{bytes_eq-Decides}
use Rattle.js_base.specs.declared.kind.Kind.{Kind}
use Rattle.js_base.specs.declared.kind.Kind.TheVariants.{Constructor, Eof, Ident}
use Rattle.js_base.specs.Kinds.{same_kind, one_of_kinds}
use Rattle.js_base.specs.KindSets.{identifier_name_kinds}
use Rattle.js_base.specs.Keywords.{first_with_text, keyword_of}
use Rattle.js_base.specs.Texts.{text_of, words}
use Rattle.js_base.specs.part_text.Characters.{is_decimal}
use Rattle.js_base.specs.part_text.Escapes.{code_units}
use Rattle.js_grammar.specs.Characters.{begins}
use Rattle.js_grammar.specs.Grammar.{Lexeme, Look}
use Rattle.js_grammar.specs.Lexemes.{LexicalGoal, Opening, a_name, division, is_word, kind_in, kind_of, opening, units_of}
use Rattle.js_grammar.specs.Names.{name_of, word_of}
use Rattle.js_grammar.proofs.Looks.{covers, covered, apart}
use Rattle.laws_primary.specs.laws_shared.Lexemes.{Lex, other_goals}
use Rattle.laws_primary.proofs.laws_shared.Here.{plainly}
use Rattle.laws_primary.proofs.laws_shared.js_lex.NamesGiven.{word_opened}
use Rattle.laws_primary.proofs.laws_shared.part_words.KindsOfLexemes.{opened, opened_is, plain_end}
use Rattle.laws_primary.proofs.Properties.{kinds_apart}

-- ---- the text of a word

-- the first kind of a list with this text has it
text_found : (ks : List Kind) (w : List ℕ) (k : Kind) → first_with_text ks w ≡ k → same_kind Ident k ≡ false → text_of k ≡ w
text_found [] w k e n = absurd (false≢true (sym n ∙ subst (λ (v : Kind). same_kind Ident v ≡ true) e refl))
text_found (j ∷ ks) w k e n = go (λ i. text_found ks w k i n) (bytes_eq (text_of j) w) refl e
  where
    go : (first_with_text ks w ≡ k → text_of k ≡ w) → (b : Bool) → bytes_eq (text_of j) w ≡ b → (if b then j else first_with_text ks w) ≡ k → text_of k ≡ w
    go r true h i = subst (λ (v : Kind). text_of v ≡ w) i ((bytes_eq-Decides (text_of j) w).0 h)
    go r false h i = r i

-- code units below the surrogates are the code points themselves
abbrev below : ℕ → Bool
below x = nat_lt x 0xD800

points_of_units : (ps xs : List ℕ) → list_all below xs ≡ true → flat_map encode_utf16 ps ≡ xs → ps ≡ xs
points_of_units [] xs h e = e
points_of_units (c ∷ ps) xs h e = go (λ ys. points_of_units ps ys) (nat_lt c 0x1_0000) xs h e
  where
    go : ((ys : List ℕ) → list_all below ys ≡ true → flat_map encode_utf16 ps ≡ ys → ps ≡ ys) → (b : Bool) (xs : List ℕ) → list_all below xs ≡ true → cond b (c ∷ []) ((0xD800 + (c - 0x1_0000) / 0x400) ∷ (0xDC00 + (c - 0x1_0000) % 0x400) ∷ []) ++ flat_map encode_utf16 ps ≡ xs → c ∷ ps ≡ xs
    go r true [] h e = absurd cc
    go r true (x ∷ xs) h e = let i : c ≡ x = cc in let j : flat_map encode_utf16 ps ≡ xs = cc in rw (i, r xs (and_parts (below x) (list_all below xs) h).1 j) refl
    go r false [] h e = absurd cc
    go r false (x ∷ xs) h e =
        let i : 0xD800 + (c - 0x1_0000) / 0x400 ≡ x = cc in
        let l : x < 0xD800 = lt-true x 0xD800 (and_parts (below x) (list_all below xs) h).0 in
        absurd (omega arith)

-- ---- the lexeme

-- of a lexeme that begins a name, the word that it spells
some_word : (o : Option (List ℕ)) (k : Kind) → word_of o ≡ Some k → (ps : List ℕ) × (o ≡ Some ps) × (keyword_of ps ≡ k)
some_word None k e = absurd cc
some_word (Some ps) k e = (ps, refl, cc)

word_spelled : (w rest : List ℕ) (k : Kind) → kind_in division w rest ≡ Some k → opened k ≡ Some a_name → (ps : List ℕ) × (name_of w ≡ Some ps) × (keyword_of ps ≡ k)
word_spelled [] rest k h o = absurd (let z = (plain_end rest k h).0 in let n : opened Eof ≡ Some a_name = subst (λ (j : Kind). opened j ≡ Some a_name) z o in cc)
word_spelled (c ∷ cs) rest k h o =
    let q : opening c (begins is_decimal cs) ≡ a_name = some-opening _ _ (sym (opened_is c cs rest k h) ∙ o) in
    some_word (name_of (c ∷ cs)) k (sym (ap (λ (p : Opening). kind_of p (c ∷ cs) rest) q) ∙ h)
  where
    some-opening : (a b : Opening) → Some a ≡ Some b → a ≡ b
    some-opening a b e = cc

abbrev a_word : Look
a_word k w e = one_of_kinds identifier_name_kinds k

abbrev any_word : Look
any_word k w e = is_word k

words_are : covers a_word any_word ≡ true
unfolding covers words
words_are = refl

picked : {v : List ℕ} (w : List ℕ) (b : Bool) → b ≡ true → elim b [ true ↦ v | false ↦ w ] ≡ v
picked w true h = refl
picked w false h = absurd (false≢true h)

units_as : (k : Kind) (w ps : List ℕ) → is_word k ≡ true → name_of w ≡ Some ps → units_of k w ≡ code_units ps
units_as k w ps i n = picked _ (is_word k) i ∙ ap (λ (o : Option (List ℕ)). unwrap_or (option_map code_units o) []) n

module _ {text : List ℕ} {s : ℕ} (y : Lexeme) (l : Lex text s y) (w : one_of_kinds identifier_name_kinds y.kind ≡ true) where
  word_units : (ps : List ℕ) × (y.units ≡ code_units ps) × (keyword_of ps ≡ y.kind)
  unfolding apart
  word_units =
      let g : l.0.goal ≡ division = plainly l.0 l.1 (kinds_apart identifier_name_kinds other_goals refl y.kind w) in
      let z = word_spelled l.0.word l.0.rest y.kind (subst (λ (v : LexicalGoal). kind_in v l.0.word l.0.rest ≡ Some y.kind) g l.0.lexeme.kind) (word_opened y.kind w) in
      let i : is_word y.kind ≡ true = covered a_word any_word words_are y.kind false false w in
      (z.0, l.0.units ∙ units_as y.kind l.0.word z.0 i z.1, z.2)

  pub constructor_units : y.kind ≡ Constructor → bytes_eq (codes "constructor") y.units ≡ true
  unfolding keyword_of
  constructor_units k =
      let z = word_units in
      let t : codes "constructor" ≡ z.0 = text_found words z.0 Constructor (z.2 ∙ k) refl in
      (bytes_eq-Decides (codes "constructor") y.units).1 (ap code_units t ∙ sym z.1)

  pub other_units : (y.kind ≡ Constructor → ⊥) → bytes_eq (codes "constructor") y.units ≡ false
  unfolding keyword_of words
  other_units n = go (bytes_eq (codes "constructor") y.units) refl
    where
      go : (b : Bool) → bytes_eq (codes "constructor") y.units ≡ b → bytes_eq (codes "constructor") y.units ≡ false
      go false e = e
      go true e =
          let z = word_units in
          let t : z.0 ≡ codes "constructor" = points_of_units z.0 (codes "constructor") refl (sym z.1 ∙ sym ((bytes_eq-Decides (codes "constructor") y.units).0 e)) in
          absurd (n (sym z.2 ∙ ap keyword_of t))
