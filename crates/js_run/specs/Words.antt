-- What the program's words set.
use Rattle.std.specs.Prelude.{ℕ, ◌≡◌, Bool, true, false, List, ◌++◌, codes, Option, Some, None, Result, Ok, Err}
use Rattle.js_base.specs.declared.source_type.SourceType.{SourceType}
use Rattle.js_run.specs.declared.words.Settings.{Settings}
use Rattle.js_run.specs.declared.words.Print.{Print}
use Rattle.js_run.specs.declared.words.Print.TheVariants.{Tree, Module, Tokens}
use Rattle.js_run.specs.declared.words.WordsError.{WordsError}
use Rattle.js_run.specs.declared.words.WordsError.TheVariants.{Usage, NoMemory}
use Rattle.js_parser.specs.js_lex.States.{goal_of}
use Rattle.js_grammar.specs.CommandLine.{Written, a_goal, goal_word, Admitted}
use Rattle.js_grammar.specs.Settings.{Settings as GrammarSettings, Goal, Print as GrammarPrint, prints_tree, prints_record, prints_tokens}

abbrev pub print_of : Print → GrammarPrint
print_of Tree = prints_tree
print_of Module = prints_record
print_of Tokens = prints_tokens

-- settings as the grammar speaks of them
abbrev pub settings_of : Settings → GrammarSettings
settings_of s = record { goal = goal_of s.goal; print = print_of s.print; preserve_parens = s.options.preserve_parens; allow_return = s.options.allow_return_outside_function; allow_v8 = s.options.allow_v8_intrinsics; generate = s.generate }

-- the settings of a goal, of which the tree is printed
abbrev pub set_to : Goal → Bool → GrammarSettings
set_to g v8 = record { goal = g; print = prints_tree; preserve_parens = true; allow_return = false; allow_v8 = v8; generate = None }

-- an option and its value in one word
abbrev pub joined_word : Goal → List ℕ
joined_word g = codes "--goal=" ++ goal_word g

-- the word names this goal, or none
abbrev pub Names : (Goal → List ℕ) → List ℕ → Option SourceType → Type 0
Names word_of word (Some s) = word ≡ word_of (goal_of s)
Names word_of word None = (g : Goal) → word ≡ word_of g → ⊥

-- so do the words
abbrev pub NamesGoal : List (List ℕ) → Option SourceType → Type 0
NamesGoal words (Some s) = Written (a_goal (goal_of s)) words
NamesGoal words None = (g : Goal) → Written (a_goal g) words → ⊥

abbrev pub IsSetting : Option SourceType → Bool → Result Settings WordsError → Type 0
IsSetting (Some s) v8 (Ok t) = settings_of t ≡ set_to (goal_of s) v8
IsSetting None v8 (Ok t) = ⊥
IsSetting (Some s) v8 (Err e) = ⊥
IsSetting None v8 (Err e) = e ≡ Usage

-- The words set this, and nothing else.
pub record Sets (words : List (List ℕ)) (s : GrammarSettings) : Type 0 where
  pub admitted : Admitted words s
  pub only : (t : GrammarSettings) → Admitted words t → t ≡ s

-- The words are no words of any settings.
abbrev pub NoneAdmitted : List (List ℕ) → Type 0
NoneAdmitted words = (s : GrammarSettings) → Admitted words s → ⊥

-- Reading words takes no memory, so the other refusal doesn't come.
abbrev pub IsRefusal : List (List ℕ) → WordsError → Type 0
IsRefusal words Usage = NoneAdmitted words
IsRefusal words NoMemory = ⊥
