-- The tests that the lines of methods put to their names (ECMA-262, 15.7): whether these are `constructor`.
use Rattle.std.proofs.Common.{ℕ, ◌≡◌, ◌++◌, ◌+◌, ◌||◌, Bool, true, false, not, List, [], Option, Some, IsTrue, ◌<◌, length, refl, sym, ap, subst, ◌∙◌}
use Rattle.std.specs.Option.{option_eq}
use Rattle.std.specs.Prelude.{bytes_eq, codes, eqb, get_or, slice_get, unwrap_or}
use Rattle.std.proofs.lemmas.Option.{slice_get-get_or}
use Rattle.std.proofs.lemmas.Bool.{eq-eqb, false≢true}
use Rattle.std.proofs.lemmas.Slice.Eq.{bytes_eq-Decides}
use Rattle.js_base.specs.declared.kind.Kind.{Kind}
use Rattle.js_base.specs.declared.kind.Kind.TheVariants.{Str}
use Rattle.js_base.specs.Kinds.{same_kind, one_of_kinds}
use Rattle.js_base.specs.Texts.{words}
use Rattle.js_base.specs.part_text.Decoding.{string_units}
use Rattle.js_grammar.specs.Characters.{width}
use Rattle.js_grammar.specs.Grammar.{Lexeme, Look, seen}
use Rattle.js_grammar.specs.LexicalFaults.{behind}
use Rattle.js_grammar.specs.Lexemes.{division, is_word, units_of}
use Rattle.js_grammar.specs.Longest.{joined}
use Rattle.js_grammar.specs.Parsing.{plain, full, still, Reads, Fails}
use Rattle.js_grammar.specs.Productions.{Flags}
use Rattle.js_grammar.specs.Strings.{string_inside}
use Rattle.js_grammar.specs.Table.{rule, named_constructor, not_constructor}
use Rattle.js_grammar.specs.Trees.{end}
use Rattle.js_grammar.proofs.Calculus.{◌▹◌, ◌▹✗◌, fails_alt, fails_look, fails_text, looks, reads_text, right}
use Rattle.laws_primary.specs.js_cursor.Parsers.{Parser}
use Rattle.laws_primary.specs.js_cursor.part_words.Places.{Word}
use Rattle.laws_primary.specs.js_cursor.js_lex.Reading.{GivesLexeme}
use Rattle.laws_primary.specs.laws_shared.Lexemes.{Lex, is_read_kind, signs}
use Rattle.laws_primary.specs.laws_shared.NodeTexts.{spelled_at}
use Rattle.laws_primary.specs.laws_shared.States.{At, IsPlain, whole, sign, nothing as none}
use Rattle.laws_primary.proofs.laws_shared.Ahead.{pass_over}
use Rattle.laws_primary.proofs.laws_shared.Paths.{one_read}
use Rattle.laws_primary.proofs.laws_shared.js_lex.Again.{cancel}
use Rattle.laws_primary.proofs.laws_shared.part_scan.StringPlaces.{front_word}
use Rattle.laws_primary.proofs.laws_shared.part_words.Flags.{spelled}
use Rattle.laws_classes.specs.Members.{spells_constructor}

-- which of the two tests holds at a place
abbrev pub Tested : List ℕ → Bool → ℕ → Type 0
Tested text true s = Reads rule (Lex text) (plain full) end named_constructor s s (λ us. us) (still 0) × Fails rule (Lex text) (plain full) end not_constructor s
Tested text false s = Reads rule (Lex text) (plain full) end not_constructor s s (λ us. us) (still 0) × Fails rule (Lex text) (plain full) end named_constructor s

abbrev word_or_string : Look
word_or_string k w e = is_word k || same_kind Str k

-- of a word or a string, by what it spells
module _ {text : List ℕ} {s : ℕ} (i : (y : Lexeme) → Lex text s y → IsTrue (seen word_or_string y)) where
  pub tested : (b : Bool) → ((y : Lexeme) → Lex text s y → bytes_eq (codes "constructor") y.units ≡ b) → Tested text b s
  tested true u = (pass_over (looks word_or_string i) ▹ reads_text (bytes_eq (codes "constructor")) u, fails_alt (fails_look (λ k w e. not (word_or_string k w e)) (λ y l h. false≢true (sym (ap not (i y l)) ∙ h))) (fails_text (λ v. not (bytes_eq (codes "constructor") v)) (λ y l. ap not (u y l))))
  tested false u = (right (fails_look (λ k w e. not (word_or_string k w e)) (λ y l h. false≢true (sym (ap not (i y l)) ∙ h))) ▹ reads_text (λ v. not (bytes_eq (codes "constructor") v)) (λ y l. ap not (u y l)), pass_over (looks word_or_string i) ▹✗ fails_text (bytes_eq (codes "constructor")) u)

-- ---- what a string spells

module _ {text : List ℕ} {f : Flags} {p : Parser} (a : At text f p) (k : p.token.kind ≡ Str) where
  -- the characters of a lexeme that the token tells stand at the token
  characters : (x : GivesLexeme division (λ y. y) p.text p.prev_token_end p.token) → spelled_at p.text p.token ≡ x.stands.lex.word
  characters x =
      let i = a.at in
      let l = x.stands.lex in
      let before : Word p.text p.prev_token_end x.lexeme.from (joined l.trivia) = subst (λ (n : ℕ). Word p.text p.prev_token_end n (joined l.trivia)) (sym l.from) (front_word p.text p.prev_token_end (joined l.trivia) (l.word ++ l.rest) i.utf8 i.between l.stands.splits) in
      let here : behind p.text p.token.span.start ≡ l.word ++ l.rest = ap (behind p.text) x.tells.start ∙ cancel (joined l.trivia) (behind p.text x.lexeme.from) (l.word ++ l.rest) (sym before.splits ∙ l.stands.splits) in
      let until : p.token.span.end ≡ p.token.span.start + width l.word = x.tells.end ∙ l.to ∙ ap (λ (n : ℕ). n + width l.word) (sym x.tells.start) in
      spelled p.text p.token.span.start p.token.span.end l.word i.utf8 i.lies.starts_whole i.lies.ordered (subst (λ (n : ℕ). Word p.text p.token.span.start n l.word) (sym until) (front_word p.text p.token.span.start l.word l.rest i.utf8 i.lies.starts_whole here))

  string_spelled : (y : Lexeme) → Lex text p.prev_token_end y → (y.kind ≡ Str) × (bytes_eq (codes "constructor") y.units ≡ spells_constructor (string_units (string_inside (spelled_at p.text p.token))))
  unfolding words
  string_spelled y l = by a.plain
    where
      units_are : (x : GivesLexeme division (λ y. y) p.text p.prev_token_end p.token) → x.lexeme.kind ≡ Str → x.lexeme.units ≡ unwrap_or (string_units (string_inside (spelled_at p.text p.token))) []
      units_are x e = x.stands.lex.units ∙ ap (λ (v : Kind). units_of v x.stands.lex.word) e ∙ ap (λ (v : List ℕ). unwrap_or (string_units (string_inside v)) []) (sym (characters x))

      by : IsPlain text p → (y.kind ≡ Str) × (bytes_eq (codes "constructor") y.units ≡ spells_constructor (string_units (string_inside (spelled_at p.text p.token))))
      by (whole c n x') =
          let x : GivesLexeme division (λ y. y) p.text p.prev_token_end p.token = subst (λ (t : List ℕ). GivesLexeme division (λ y. y) t p.prev_token_end p.token) (sym a.text_is) x' in
          let e : x.lexeme.kind ≡ Str = sym x.tells.kind ∙ k in
          let o : y ≡ x.lexeme = one_read a (ap (one_of_kinds signs) k) l (subst (λ (t : List ℕ). Lex t p.prev_token_end x.lexeme) a.text_is (x.stands.lex, ap is_read_kind e)) in
          (ap (λ (v : Lexeme). v.kind) o ∙ e, ap (λ (v : Lexeme). bytes_eq (codes "constructor") v.units) o ∙ ap (bytes_eq (codes "constructor")) (units_are x e))
      by (sign c j x) = absurd (let e = sym j ∙ k in cc)
      by (none c j n) = absurd (let e = sym j ∙ k in cc)

  pub string_tested : Tested text (spells_constructor (string_units (string_inside (spelled_at p.text p.token)))) p.prev_token_end
  unfolding words
  string_tested = tested (λ y l. ap (λ (v : Kind). is_word v || same_kind Str v) (string_spelled y l).0) (spells_constructor (string_units (string_inside (spelled_at p.text p.token)))) (λ y l. (string_spelled y l).1)

-- other code units than these
pub differs : (xs ys : List ℕ) → (xs ≡ ys → ⊥) → false ≡ bytes_eq xs ys
differs xs ys n = go (bytes_eq xs ys) refl
  where
    go : (b : Bool) → bytes_eq xs ys ≡ b → false ≡ bytes_eq xs ys
    go true e = absurd (n ((bytes_eq-Decides xs ys).0 e))
    go false e = sym e

pub unlike : (xs ys : List ℕ) (o : Option ℕ) (i x : ℕ) → o ≡ slice_get ys i → i < length xs → get_or xs i 0 ≡ x → true ≡ not (option_eq eqb o (Some x)) → xs ≡ ys → ⊥
unlike xs ys o i x g l r n e = false≢true (ap not (sym (ap (λ (v : Option ℕ). option_eq eqb v (Some x)) there ∙ eq-eqb x x refl)) ∙ sym n)
  where
    there : o ≡ Some x
    there = g ∙ ap (λ (v : List ℕ). slice_get v i) (sym e) ∙ slice_get-get_or xs i 0 l ∙ ap (λ (v : ℕ). Some v) r
