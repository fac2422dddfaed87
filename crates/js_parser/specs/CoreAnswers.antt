-- What a parse of a core text answers, by the readings of core texts.
use Rattle.std.specs.Prelude.{ℕ, ◌≡◌, Bool, true, false, List, []}
use Rattle.std.specs.List.{All}
use Rattle.js_base.specs.declared.diagnostic.Diagnostic.{Diagnostic}
use Rattle.js_base.specs.declared.diagnostic.DiagnosticClass.{DiagnosticClass}
use Rattle.js_base.specs.declared.diagnostic.DiagnosticClass.TheVariants.{Syntax, Form, Early}
use Rattle.js_base.specs.declared.source_type.SourceType.{SourceType}
use Rattle.js_base.specs.Diagnostics.{class_of}
use Rattle.js_base.specs.Spans.{LiesIn}
use Rattle.js_grammar.specs.Trees.{Tree}
use Rattle.js_grammar.specs.Settings.{script, unambiguous}
use Rattle.js_cursor.specs.js_lex.States.{goal_of}
use Rattle.js_tree.specs.Nodes.{Node}
use Rattle.js_tree.specs.Holding.{IsTree}
pub use Rattle.js_grammar.specs.CoreReadings.{IsOnlyCoreReading, HasNoCoreReading}

-- the classes of what may be told of a core text: none of them Lexical, Record, Flow or Overlong
abbrev pub told_of_core : DiagnosticClass → Bool
told_of_core Syntax = true
told_of_core Form = true
told_of_core Early = true
told_of_core _ = false

-- Nothing is found exactly where the core text has a reading, which is then the tree. Each diagnostic is of the class Syntax, Form or Early, and stands at a span inside the text. Where no goal is named the text is read as a script.
pub record IsCoreAnswer (text : List ℕ) (given taken : SourceType) (v8 : Bool) (nodes : List Node) (found : List Diagnostic) : Type 0 where
  pub tree : Tree
  pub is_tree : IsTree nodes tree
  pub clean : found ≡ [] → IsOnlyCoreReading text v8 tree
  pub unclean : (found ≡ [] → ⊥) → HasNoCoreReading text v8
  pub classes : All (λ d. told_of_core (class_of d.kind) ≡ true) found
  pub inside : All (λ d. LiesIn d.span text) found
  pub as_script : goal_of given ≡ unambiguous → goal_of taken ≡ script
