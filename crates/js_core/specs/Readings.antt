-- What it is that a tree is a reading of a text, and what diagnostics tell of it.
use Rattle.std.specs.Prelude.{ℕ, ◌≡◌, Bool, true, List}
use Rattle.js_base.specs.declared.kind.Kind.TheVariants.{Eof}
use Rattle.js_grammar.specs.Trees.{Tree}
use Rattle.js_grammar.specs.Grammar.{Lexeme, Lexemes, last, next, Derives}
use Rattle.js_grammar.specs.Lexed.{Lexes}
use Rattle.js_grammar.specs.Lexemes.{hashbang}
use Rattle.js_grammar.specs.Options.{Options}
use Rattle.js_grammar.specs.Productions.{at, Program}
use Rattle.js_grammar.specs.CoverInitialisers.{with_cover}
use Rattle.js_grammar.specs.Settings.{Goal}
use Rattle.js_grammar.specs.Table.{rule}
use Rattle.parse_shared.specs.js_lex.Reading.{LexemeBehind}
use Rattle.parse_shared.specs.laws_shared.Heads.{widened}
use Rattle.parse_shared.specs.laws_shared.Lexemes.{Lex}
pub use Rattle.js_grammar.specs.Found.{AreOf}
pub use Rattle.js_grammar.specs.Options.{read_at}
pub use Rattle.js_grammar.specs.TextReadings.{parameters, BehindHashbang, AreRead, from_text_start, behind_a_hashbang, ReadingBy, Reading, HasNoReading, IsOnlyReading}
use Rattle.js_base.specs.declared.options.ParseOptions.{ParseOptions}

-- options as the grammar speaks of them
abbrev pub options_of : ParseOptions → Options
options_of o = record { allow_return = o.allow_return_outside_function; preserve_parens = o.preserve_parens; allow_v8 = o.allow_v8_intrinsics }

-- The same of lexemes that may have a fault which passes: a wrong flag of a regular expression (12.9.5) or, in a module, an HTML-like comment (B.1.1).
pub data AreReadAnyhow (text : List ℕ) (ls : Lexemes) : Type 0 where
  anyhow_from_start : Lexes (Lex text) 0 ls → AreReadAnyhow text ls
  anyhow_behind_hashbang : (comment : Lexeme) (others : Lexemes) → LexemeBehind hashbang text 0 comment → ls ≡ next comment others → Lexes (Lex text) comment.to others → AreReadAnyhow text ls

-- Program derives the tree from such lexemes in the widest form in which a text is read on: by the cover grammar, with `new.target` everywhere and the syntax of modules at each goal, and with what the grammar's `wide` lets in beside (a comma or an initialiser behind a rest, another operator than `=` before the initialiser of a target, a literal as the rest of an object's target).
pub record LooseReading (text : List ℕ) (goal : Goal) (o : Options) (t : Tree) : Type 0 where
  pub lexemes : Lexemes
  pub lexed : AreReadAnyhow text lexemes
  pub place : ℕ
  pub final : Lexeme
  pub is_end : final.kind ≡ Eof
  pub derived : Derives rule (at Program (widened true (with_cover true (parameters goal o)))) t 0 lexemes place (last final)

abbrev pub HasNoLooseReading : List ℕ → Goal → Options → Type 0
HasNoLooseReading text goal o = (t : Tree) → LooseReading text goal o t → ⊥

-- no lexemes of those kinds are a program
abbrev pub HasNoReadingBy : Bool → List ℕ → Goal → Options → Type 0
HasNoReadingBy cover text goal o = (t : Tree) → ReadingBy cover text goal o t → ⊥

-- The tree is derived; every one that is derived is this tree, over the same lexemes.
pub record IsOnlyReadingBy (cover : Bool) (text : List ℕ) (goal : Goal) (o : Options) (tree : Tree) : Type 0 where
  pub reading : ReadingBy cover text goal o tree
  pub only : (t : Tree) (r : ReadingBy cover text goal o t) → (t ≡ tree) × (r.lexemes ≡ reading.lexemes)
