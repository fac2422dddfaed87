-- What contracts see of a lexer: the text that it reads and how, the place that it has reached, and what it has kept.
use Rattle.std.specs.Prelude.{ℕ, ◌≡◌, ◌≤◌, Bool, List, length, IsUtf8, IsCharBoundary, IsTrue}
use Rattle.js_base.specs.declared.TheConstants.{MAX_LEN}
use Rattle.js_base.specs.declared.source_type.SourceType.{SourceType}
use Rattle.js_base.specs.declared.source_type.Goal.TheVariants as source
use Rattle.part_words.specs.js_grammar.Settings.{Goal, script, module_goal, commonjs, unambiguous}
use Rattle.js_lex.specs.declared.output.LexerOutput.{LexerOutput}
use Rattle.js_lex.specs.Comments.{AreInOrder}
use Rattle.js_lex.specs.Kept.{LieIn}

pub record State : Type 0 where
  pub text : List ℕ
  pub goal : Goal
  pub keeps_tokens : Bool
  pub place : ℕ
  pub kept : LexerOutput

-- the goal by which a text of a source type is read
abbrev pub goal_of : SourceType → Goal
goal_of s = elim s.goal [ source.Script ↦ script | source.Module ↦ module_goal | source.CommonJs ↦ commonjs | source.Unambiguous ↦ unambiguous ]

-- the text, the goal and the config are as before
pub record SameText (old new : State) : Type 0 where
  pub text : new.text ≡ old.text
  pub goal : new.goal ≡ old.goal
  pub keeps_tokens : new.keeps_tokens ≡ old.keeps_tokens

-- The text is one of characters and not too long, and the place lies between two of them. What is kept lies in the text. Where it is known, the comments stand in the order of the places that they are attached to.
pub record IsReady (text : List ℕ) (place : ℕ) (kept : LexerOutput) (in_order : Bool) : Type 0 where
  pub utf8 : IsUtf8 text
  pub short : length text ≤ MAX_LEN
  pub between : IsCharBoundary text place
  pub lie : LieIn text kept
  pub order : IsTrue in_order → AreInOrder kept.comments
