-- What is told of a tree in which nothing else was found: of the nodes that break an early rule, and of shorthands with an initialiser that no target took (CoverInitializedName, 13.2.5.1).
use Rattle.std.specs.Prelude.{ℕ, ◌≡◌, List, [], ◌∷◌, ◌++◌, map}
use Rattle.js_base.specs.declared.diagnostic.Diagnostic.{Diagnostic}
use Rattle.js_base.specs.declared.diagnostic.DiagnosticKind.{DiagnosticKind}
use Rattle.js_base.specs.declared.diagnostic.DiagnosticKind.TheVariants.{CoverInitializedName}
use Rattle.js_base.specs.declared.span.Span.{Span}
use Rattle.js_grammar.specs.CoverInitialisers.{initialised_in}
use Rattle.js_grammar.specs.Trees.{Tree}
use Rattle.js_core.specs.laws_shared.Told.{unrelated_at}
use Rattle.js_tree.specs.Covering.{placed}
use Rattle.js_tree.specs.Holding.{IsTree}
use Rattle.js_tree.specs.Nodes.{Node}
use Rattle.js_parser.specs.Broken.{told_in}
use Rattle.js_parser.specs.declared.early.Position.TheVariants.{Anywhere}

-- one of a kind at each span
abbrev pub told_at : DiagnosticKind → List Span → List Diagnostic
told_at kind spans = map (unrelated_at kind) spans

-- of the rules first, as what breaks them stands in the text, since the grammar has these trees; then of the shorthands
abbrev pub leftover : List Diagnostic → List Span → List Diagnostic
leftover early covers = early ++ told_at CoverInitializedName covers

-- they are told where nothing else was found
abbrev pub with_leftover : List Diagnostic → List Diagnostic → List Span → List Diagnostic
with_leftover [] early covers = leftover early covers
with_leftover (d ∷ ds) early covers = d ∷ ds

-- This is told of these nodes, besides what was found: of the tree that they stand for, if they stand for one, these early rules and these shorthands are left.
pub record ToldOf (text : List ℕ) (ns : List Node) (found told : List Diagnostic) : Type 0 where
  pub early : List Diagnostic
  pub covers : List Span
  pub early_are : (t : Tree) → IsTree ns t → early ≡ told_in text Anywhere t.slots
  pub covers_are : (t : Tree) → IsTree ns t → covers ≡ map placed (initialised_in t.slots)
  pub is : told ≡ with_leftover found early covers
