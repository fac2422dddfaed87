-- The first token of a text.
use Rattle.std.proofs.Common.{◌≡◌, ℕ, true, false, List, [], ◌∷◌, ◌++◌, refl, sym, ap, subst, ◌∙◌, arith, Some, inr}
use Rattle.std.specs.Prelude.{IsUtf8, IfOk, Result, Ok, Err, is_some}
use Rattle.js_base.specs.declared.kind.Kind.{Kind}
use Rattle.js_base.specs.declared.token.Token.{Token}
use Rattle.part_words.specs.js_grammar.Trivia.{are_trivia}
use Rattle.part_words.specs.js_grammar.Lexemes.{hashbang, hashbang_kind, division, kind_in}
use Rattle.part_words.specs.js_grammar.LexicalFaults.{behind}
use Rattle.part_words.specs.declared.scan.Scanned.{Scanned}
use Rattle.part_words.specs.Scans.{IsScanned, NoLexeme}
use Rattle.js_lex.specs.States.{State, SameText}
use Rattle.js_lex.specs.Reading.{GivesHashbang, GivesFirst, GivesNext}
use Rattle.js_lex.specs.Settling.{token_of}
use Rattle.std.proofs.lemmas.Str.{IsCharBoundary-start}
use Rattle.part_words.proofs.Places.{none_passed}
use Rattle.js_lex.proofs.TriviaLemmas.{none_piece}
use Rattle.js_lex.proofs.Hashbangs.{begins_so}
use Rattle.js_lex.proofs.Giving.{lexeme_of, lexeme_behind}

no_trivia : (w cs : List ℕ) → hashbang_kind w ≡ Some Rattle.js_base.specs.declared.kind.Kind.TheVariants.HashbangComment → are_trivia true [] (w ++ cs) ≡ true
no_trivia w cs h = let b = begins_so w (ap is_some h) in subst (λ (v : List ℕ). are_trivia true [] (v ++ cs) ≡ true) (sym b.1) (none_piece true 35 (33 ∷ b.0 ++ cs) refl (refl, refl, refl))

-- a hashbang comment, behind no trivia
pub gives_hashbang : (old new : State) (sc : Scanned) (t : Token) → IsUtf8 old.text → SameText old new → new.place ≡ sc.end → new.kept ≡ old.kept → (h : IsScanned hashbang old.text 0 sc) → kind_in hashbang h.word (behind old.text sc.end) ≡ Some Rattle.js_base.specs.declared.kind.Kind.TheVariants.HashbangComment → t ≡ token_of sc 0 false → GivesHashbang old new t
unfolding lexeme_behind
gives_hashbang old new sc t u same place kept h k e = subst (GivesHashbang old new) (sym e) (record {
  same = same;
  lies = record { ordered = omega arith; starts_whole = IsCharBoundary-start old.text u; ends_whole = h.stands.boundary };
  gives = record {
    lexeme = lexeme_of sc 0 false h.word;
    stands = lexeme_behind [] sc (omega arith) (none_passed old.text 0 (IsCharBoundary-start old.text u)) (subst (λ (v : List ℕ). are_trivia true [] v ≡ true) (sym h.stands.splits) (no_trivia h.word (behind old.text sc.end) k)) h;
    tells = record { kind = refl; start = refl; end = refl; newline = refl; escaped = h.escaped };
    separated = h.separated;
  };
  place = place;
  kept = kept;
})

pub ok_first : (old new : State) {E : Type 0} (r : Result Token E) → NoLexeme hashbang old.text 0 → IfOk r (λ t. GivesNext division old new t) → IfOk r (λ t. GivesFirst old new t)
ok_first old new (Ok t) n h = inr (n, h)
ok_first old new (Err e) n h = tt

-- the same of the fields of a lexer at the start of its text
pub hashbang_for : (old : State) (text : List ℕ) (i : ℕ) (sc : Scanned) → text ≡ old.text → i ≡ old.place → old.place ≡ 0 → IsScanned hashbang text i sc → IsScanned hashbang old.text 0 sc
hashbang_for old text i sc e p z h = subst (λ (v : List ℕ). IsScanned hashbang v 0 sc) e (subst (λ (n : ℕ). IsScanned hashbang text n sc) (p ∙ z) h)

pub none_for : (old : State) (text : List ℕ) (i : ℕ) → text ≡ old.text → i ≡ old.place → old.place ≡ 0 → NoLexeme hashbang text i → NoLexeme hashbang old.text 0
none_for old text i e p z h = subst (λ (v : List ℕ). NoLexeme hashbang v 0) e (subst (λ (n : ℕ). NoLexeme hashbang text n) (p ∙ z) h)
