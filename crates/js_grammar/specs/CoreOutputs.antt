-- What is put out for a core text: the lines of its only reading, or of diagnostics, where it has none.
use Rattle.std.specs.Prelude.{ℕ, ◌≡◌, Bool, true, List, [], None}
use Rattle.std.specs.List.{All}
use Rattle.js_base.specs.declared.diagnostic.Diagnostic.{Diagnostic}
use Rattle.js_base.specs.Spans.{LiesIn}
use Rattle.js_grammar.specs.Trees.{Tree}
use Rattle.js_grammar.specs.Lines.{tree_text, diagnostic_text}
use Rattle.js_grammar.specs.Settings.{Settings, prints_tree}
use Rattle.js_grammar.specs.CoreReadings.{IsOnlyCoreReading, HasNoCoreReading}

-- The output is the lines of the core text's only reading.
pub record WritesReading (v8 : Bool) (text out : List ℕ) : Type 0 where
  pub tree : Tree
  pub only : IsOnlyCoreReading text v8 tree
  pub lines : out ≡ tree_text tree

-- The core text has no reading; the output is the lines of diagnostics, one at least, each at a span inside the text.
pub record WritesDiagnostics (v8 : Bool) (text out : List ℕ) : Type 0 where
  pub none : HasNoCoreReading text v8
  pub found : List Diagnostic
  pub some : found ≡ [] → ⊥
  pub inside : All (λ d. LiesIn d.span text) found
  pub lines : out ≡ diagnostic_text found

-- The tree is printed, parentheses are kept, and nothing is generated.
pub record AsksForTree (s : Settings) : Type 0 where
  pub prints : s.print ≡ prints_tree
  pub parens : s.preserve_parens ≡ true
  pub reads : s.generate ≡ None
