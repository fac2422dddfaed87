-- Readings are valid trees, and valid trees that need no other productions are readings.
use Rattle.std.proofs.Common.{ℕ, ◌≡◌, ◌≤◌, true, List, [], ◌∷◌, ◌++◌, length, inl, inr, refl, sym, subst, ap, eqb-true, arith}
use Rattle.std.proofs.lemmas.Bool.{false≢true, and_parts}
use Rattle.js_base.specs.declared.kind.Kind.{Kind}
use Rattle.js_base.specs.declared.kind.Kind.TheVariants.{Eof, HashbangComment}
use Rattle.js_base.specs.Kinds.{same_kind}
use Rattle.js_base.proofs.KindLemmas.{kind_of_same}
use Rattle.js_grammar.specs.Trees.{Tree}
use Rattle.js_grammar.specs.Grammar.{Lexeme, Lexemes, last, next, Derives}
use Rattle.js_grammar.specs.Characters.{width}
use Rattle.js_grammar.specs.CoreTexts.{max_len}
use Rattle.js_grammar.specs.Lexed.{Passing, in_script, in_module, all_faults, comments_pass, flags_right, NextLexeme, Lexes, passing_of}
use Rattle.js_grammar.specs.Lexemes.{LexicalGoal, may_begin, hashbang}
use Rattle.js_grammar.specs.Longest.{joined}
use Rattle.js_grammar.specs.Options.{Options}
use Rattle.js_grammar.specs.Productions.{Program, at}
use Rattle.js_grammar.specs.Readings.{IsWhole}
use Rattle.js_grammar.specs.Settings.{Goal}
use Rattle.js_grammar.specs.Table.{rule, whole}
use Rattle.js_grammar.specs.TreeForms.{without_pure}
use Rattle.js_grammar.specs.Trivia.{are_trivia}
use Rattle.js_grammar.proofs.BuiltLines.{in_whole, by_built}
use Rattle.js_grammar.proofs.NoEnd.{ends_once_by, ends_behind}
use Rattle.js_cursor.specs.js_lex.Reading.{LexemeBehind}
use Rattle.js_cursor.proofs.js_lex.TriviaLemmas.{some_width}
use Rattle.js_core.specs.laws_shared.Lexemes.{Faultless, is_read}
use Rattle.js_parser.specs.Language.{IsBuilt, ReadingsAreValid}
use Rattle.js_core.specs.Readings.{parameters, AreRead, Reading, from_text_start, behind_a_hashbang}
use Rattle.js_parser.proofs.BuiltTrees.{derived_fine, early_fine, exports_fine, pure_fine, rules_without}
use Rattle.js_parser.proofs.CoreTexts.{plainly}
use Rattle.js_parser.proofs.ReadTexts.{lexemes_read}
use Rattle.js_parser.proofs.ScriptLines.{by_built_in_script}
use Rattle.js_core.proofs.Fronts.{kind_of_hashbang}

-- ---- a hashbang comment is a lexeme of its text at each goal

-- nothing stands before it
no_trivia : (ps : List (List ℕ)) (rest : List ℕ) → are_trivia true ps rest ≡ true → width (joined ps) ≡ 0 → ps ≡ []
no_trivia [] rest h w = refl
no_trivia ([] ∷ ps) rest h w = absurd (false≢true h)
no_trivia ((c ∷ cs) ∷ ps) rest h w = let s = some_width c (cs ++ joined ps) in absurd (omega arith)

comments_right : (p : Passing) (ps : List (List ℕ)) → ps ≡ [] → comments_pass p ps ≡ true
comments_right in_script ps e = refl
comments_right in_module ps e = ap (λ (qs : List (List ℕ)). comments_pass in_module qs) e
comments_right all_faults ps e = refl

no_flags : (p : Passing) (w : List ℕ) → flags_right p HashbangComment w ≡ true
no_flags in_script w = refl
no_flags in_module w = refl
no_flags all_faults w = refl

at_goal : (p : Passing) {text : List ℕ} {y : Lexeme} → LexemeBehind hashbang text 0 y → NextLexeme p text 0 y
at_goal p {y = y} b =
    let l = b.lex in
    let start : y.from ≡ 0 = eqb-true y.from 0 (subst (λ (g : LexicalGoal). may_begin g y.from ≡ true) b.of_goal l.lexeme.begins) in
    let nothing_before : width (joined l.trivia) ≡ 0 = let e = l.from in omega arith in
    let none : l.trivia ≡ [] = no_trivia l.trivia (l.word ++ l.rest) l.stands.trivia nothing_before in
    record {
      trivia = l.trivia;
      goal = l.goal;
      word = l.word;
      rest = l.rest;
      stands = l.stands;
      lexeme = l.lexeme;
      comments = comments_right p l.trivia none;
      flags = subst (λ (k : Kind). flags_right p k l.word ≡ true) (sym (kind_of_hashbang b)) (no_flags p l.word);
      from = l.from;
      to = l.to;
      newline = l.newline;
      escaped = l.escaped;
      units = l.units;
    }

-- ---- lexemes

module _ (text : List ℕ) (goal : Goal) where
  pub all_plain : (ls : Lexemes) → AreRead text goal ls → Lexes (NextLexeme (passing_of goal) text) 0 ls
  all_plain ls (from_text_start l) = plainly text goal 0 ls l
  all_plain ls (behind_a_hashbang b) = subst (λ (ms : Lexemes). Lexes (NextLexeme (passing_of goal) text) 0 ms) (sym b.is) (at_goal (passing_of goal) b.stands, plainly text goal b.comment.to b.others b.lexed)

-- ---- trees

by_lines : (goal : Goal) (o : Options) (t : Tree) {k : ℕ} {ls rest : Lexemes} → IsBuilt goal ls → Derives whole (at Program (parameters goal o)) t 0 ls k rest → Derives rule (at Program (parameters goal o)) t 0 ls k rest
by_lines goal o t (inl e) d = by_built_in_script (at Program (parameters goal o)) t e d
by_lines goal o t (inr c) d = by_built (at Program (parameters goal o)) t c d

module _ {text : List ℕ} (goal : Goal) (o : Options) where
  fine : (t : Tree) → Reading text goal o t → without_pure t ≡ t
  fine t r = pure_fine t (derived_fine (at Program (parameters goal o)) t refl r.strict.derived)

  valid : (t : Tree) → length text ≤ max_len → Reading text goal o t → IsWhole Program text goal o t
  valid t short r =
      let d = r.strict in
      let h = derived_fine (at Program (parameters goal o)) t refl d.derived in
      record {
        short = short;
        derived = record {
          lexemes = d.lexemes;
          lexed = record {
            lexes = all_plain text goal d.lexemes d.lexed;
            ends = ends_once_by (at Program (parameters goal o)) t d.derived (subst (λ (k : Kind). same_kind Eof k ≡ true) (sym d.is_end) refl);
          };
          end = d.place;
          final = d.final;
          derived = subst (λ (v : Tree). Derives whole (at Program (parameters goal o)) v 0 d.lexemes d.place (last d.final)) (sym (pure_fine t h)) (in_whole (at Program (parameters goal o)) t d.derived);
        };
        early = early_fine text t h r.early;
        exports = exports_fine text t h;
      }

  reading : (t : Tree) (w : IsWhole Program text goal o t) → IsBuilt goal w.derived.lexemes → Reading text goal o (without_pure t)
  reading t w c =
      let d = w.derived in
      let b = by_lines goal o (without_pure t) c d.derived in
      record {
        strict = record {
          lexemes = d.lexemes;
          lexed = lexemes_read text goal d.lexemes d.lexed;
          place = d.end;
          final = d.final;
          is_end = sym (kind_of_same Eof d.final.kind (ends_behind (at Program (parameters goal o)) (without_pure t) b d.lexed.ends));
          derived = b;
        };
        early = rules_without text t w.early;
      }

pub readings_are_valid : ReadingsAreValid
readings_are_valid = record {
  valid = λ text goal o t s r. valid goal o t s r;
  unmarked = λ text goal o t r. fine goal o t r;
  reading = λ text goal o t w c. reading goal o t w c;
}
