-- A list between brackets, behind items that were read before.
use Rattle.std.specs.Prelude.{ℕ, List, Option}
use Rattle.js_base.specs.declared.kind.Kind.{Kind}
use Rattle.js_grammar.specs.Productions.{G, Flags, tok}
use Rattle.laws_shared.specs.js_tree.declared.id.NodeId.{NodeId}
use Rattle.laws_shared.specs.js_cursor.Parsers.{Parser}
use Rattle.laws_shared.specs.Lists.{OneMore}
use Rattle.laws_shared.specs.States.{At}

-- the list was read up to its closing bracket, behind the children ids, with the children js
abbrev pub ListReadOn : (Flags → G) → Kind → List (Option NodeId) → List (Option NodeId) → Parser → Parser → Type 0
ListReadOn g k ids js p q = (text : List ℕ) (f : Flags) → At text f p → OneMore text f (g f) (tok k) p q ids js
