-- What the early errors of exports are by the record of a module.
use Rattle.std.specs.Prelude.{ℕ, ◌≡◌, List, [], IsTrue, ◌↔◌}
use Rattle.js_grammar.specs.ExportedNames.{exports_differ}
use Rattle.js_grammar.specs.Modules.{record_errors}
use Rattle.js_grammar.specs.Trees.{Tree}

-- No name is exported twice exactly where the record has no errors: of names that stand twice, and of more than one default export.
abbrev pub DifferByRecord : Type 0
DifferByRecord = (text : List ℕ) (t : Tree) → IsTrue (exports_differ text t) ↔ (record_errors text t ≡ [])
