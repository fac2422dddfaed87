-- How the readings of a text, which are by the productions that are built, lie among the trees that are valid for it by all productions of the language.
use Rattle.std.specs.Prelude.{ℕ, ◌≡◌, ◌≤◌, List, length}
use Rattle.js_grammar.specs.Trees.{Tree}
pub use Rattle.js_grammar.specs.BuiltTexts.{IsBuilt}
use Rattle.js_grammar.specs.CoreTexts.{max_len}
use Rattle.js_grammar.specs.Options.{Options}
use Rattle.js_grammar.specs.Productions.{Program}
use Rattle.js_grammar.specs.Readings.{IsWhole}
use Rattle.js_grammar.specs.Settings.{Goal}
use Rattle.js_grammar.specs.TreeForms.{without_pure}
use Rattle.js_core.specs.Readings.{Reading}

-- A reading is valid for the text, where parentheses are kept, and none of its nodes has the mark `pure`. A tree that is valid for a text that needs no other productions is a reading, but for that mark. `IsWhole Program` is what `IsValid` says where parentheses are kept.
pub record ReadingsAreValid : Type 0 where
  pub valid : (text : List ℕ) (goal : Goal) (o : Options) (t : Tree) → length text ≤ max_len → Reading text goal o t → IsWhole Program text goal o t
  pub unmarked : (text : List ℕ) (goal : Goal) (o : Options) (t : Tree) → Reading text goal o t → without_pure t ≡ t
  pub reading : (text : List ℕ) (goal : Goal) (o : Options) (t : Tree) (w : IsWhole Program text goal o t) → IsBuilt goal w.derived.lexemes → Reading text goal o (without_pure t)
