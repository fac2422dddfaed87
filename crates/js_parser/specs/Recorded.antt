-- That a module record is the one of a tree (ECMA-262, 16.2.1.7).
use Rattle.std.specs.Prelude.{ℕ, ◌≡◌, List, []}
use Rattle.js_base.specs.declared.diagnostic.Diagnostic.{Diagnostic}
use Rattle.js_grammar.specs.ModuleRecords.{ModuleRecord}
use Rattle.js_grammar.specs.Modules.{record_of}
use Rattle.js_grammar.specs.Trees.{Tree}
use Rattle.js_tree.specs.Holding.{IsTree}
use Rattle.js_tree.specs.Nodes.{Node}

-- Where nothing was found, the record is that of the tree which the nodes stand for.
abbrev pub HasRecord : List ℕ → List Node → List Diagnostic → ModuleRecord → Type 0
HasRecord text nodes found r = found ≡ [] → (t : Tree) → IsTree nodes t → r ≡ record_of text t
