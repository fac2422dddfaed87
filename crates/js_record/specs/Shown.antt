-- What a node adds to a record, as the numbers of a store show it: the definitions of `Modules` in js_grammar, over lists of numbers in place of slots.
use Rattle.std.specs.Prelude.{ℕ, ◌<◌, List, [], ◌∷◌, Option, Some, None, length, All}
use Rattle.std.specs.List.{flat_map}
use Rattle.js_base.specs.declared.span.Span.{Span}
use Rattle.js_grammar.specs.ModuleRecords.{NameSpan, ImportEntry, ExportEntry, Part, nothing}
use Rattle.js_grammar.specs.Modules.{named, no_name, specifier, syntax, import_entry, own_entry, from_entry, of_import, of_export_named, of_export_from, of_export_all, of_export_default, of_import_call}
use Rattle.js_grammar.specs.NodeNames.{span_of, IsReadFrom, AreReadFrom}
use Rattle.js_grammar.specs.Trees.{Label, Slots}
use Rattle.js_tree.specs.declared.id.NodeId.{NodeId}
use Rattle.js_tree.specs.Holding.{Stands}
use Rattle.js_tree.specs.Nodes.{Node, label, node_at}

-- The number stands for a tree.
pub record IsTree (ns : List Node) (id : NodeId) : Type 0 where
  pub label : Label
  pub slots : Slots
  pub numbers : List ℕ
  pub stands : Stands ns id.0 label slots numbers

-- The number stands for a tree, of which every node below the first is read from the text.
pub record IsRead (ns : List Node) (text : List ℕ) (id : NodeId) : Type 0 where
  pub label : Label
  pub slots : Slots
  pub numbers : List ℕ
  pub stands : Stands ns id.0 label slots numbers
  pub read : AreReadFrom text slots

-- the same, and the first node is read from the text too
pub record IsReadWhole (ns : List Node) (text : List ℕ) (id : NodeId) : Type 0 where
  pub label : Label
  pub slots : Slots
  pub numbers : List ℕ
  pub stands : Stands ns id.0 label slots numbers
  pub itself : IsReadFrom text label
  pub read : AreReadFrom text slots

-- a fact of each tree that the number stands for: there is one at the most
abbrev pub OfTree : List Node → NodeId → (Label → Slots → Type 0) → Type 0
OfTree ns id P = (l : Label) (cs : Slots) (numbers : List ℕ) → Stands ns id.0 l cs numbers → P l cs

abbrev pub label_at : List Node → NodeId → Label
label_at ns id = label (node_at ns id)

abbrev pub ids_of : List Node → NodeId → List (Option NodeId)
ids_of ns id = (node_at ns id).children

abbrev pub rest_of : List (Option NodeId) → List (Option NodeId)
rest_of [] = []
rest_of (id ∷ ids) = ids

abbrev pub first_of : List (Option NodeId) → Option NodeId
first_of [] = None
first_of (id ∷ ids) = id

-- a node of the store, read from the text
abbrev pub IsGood : List Node → List ℕ → NodeId → Type 0
IsGood ns text id = (id.0 < length ns) × IsReadFrom text (label_at ns id)

-- the slot is empty, or its child is a node of the store
abbrev pub IsBelow : List Node → Option NodeId → Type 0
IsBelow ns None = Unit {0}
IsBelow ns (Some id) = id.0 < length ns

module _ (ns : List Node) (text : List ℕ) where
  -- the slot is empty, or its child is a node of the store, read from the text
  abbrev pub IsNear : Option NodeId → Type 0
  IsNear None = Unit {0}
  IsNear (Some id) = (id.0 < length ns) × IsReadFrom text (label_at ns id)

  -- and so are the child's own children
  abbrev pub IsDeep : Option NodeId → Type 0
  IsDeep None = Unit {0}
  IsDeep (Some id) = (id.0 < length ns) × IsReadFrom text (label_at ns id) × All IsNear (ids_of ns id)

  abbrev pub first_shown : List (Option NodeId) → NameSpan
  first_shown [] = no_name
  first_shown (None ∷ ids) = no_name
  first_shown (Some id ∷ ids) = named text (label_at ns id)

  abbrev pub second_shown : List (Option NodeId) → NameSpan
  second_shown ids = first_shown (rest_of ids)

  abbrev pub optional_shown : List (Option NodeId) → List NameSpan
  optional_shown [] = []
  optional_shown (None ∷ ids) = []
  optional_shown (Some id ∷ ids) = named text (label_at ns id) ∷ []

  abbrev pub import_shown : Span → NameSpan → Option NodeId → List ImportEntry
  import_shown statement r None = []
  import_shown statement r (Some id) = import_entry statement r (label_at ns id) (first_shown (ids_of ns id)) (second_shown (ids_of ns id)) ∷ []

  abbrev pub name_shown : Option NodeId → List NameSpan
  name_shown None = []
  name_shown (Some id) = second_shown (ids_of ns id) ∷ []

  abbrev pub own_shown : Span → Option NodeId → List ExportEntry
  own_shown statement None = []
  own_shown statement (Some id) = own_entry statement (span_of (label_at ns id)) (second_shown (ids_of ns id)) (first_shown (ids_of ns id)) ∷ []

  abbrev pub from_shown : Span → NameSpan → Option NodeId → List ExportEntry
  from_shown statement r None = []
  from_shown statement r (Some id) = from_entry statement (span_of (label_at ns id)) r (second_shown (ids_of ns id)) (first_shown (ids_of ns id)) ∷ []

  abbrev pub import_by : Span → Option NodeId → List (Option NodeId) → Part
  import_by statement None ids = syntax
  import_by statement (Some source) ids = of_import statement (specifier text (label_at ns source)) (λ r. flat_map (import_shown statement r) ids)

  abbrev pub import_part_shown : Span → List (Option NodeId) → Part
  import_part_shown statement ids = import_by statement (first_of ids) (rest_of (rest_of ids))

  abbrev pub export_named_shown : Span → List (Option NodeId) → Part
  export_named_shown statement ids = of_export_named (flat_map (own_shown statement) ids) (flat_map name_shown ids)

  abbrev pub export_from_by : Span → Option NodeId → List (Option NodeId) → Part
  export_from_by statement None ids = syntax
  export_from_by statement (Some source) ids = of_export_from statement (specifier text (label_at ns source)) (λ r. flat_map (from_shown statement r) ids) (flat_map name_shown ids)

  abbrev pub export_from_shown : Span → List (Option NodeId) → Part
  export_from_shown statement ids = export_from_by statement (first_of ids) (rest_of (rest_of ids))

  abbrev pub export_all_by : Span → List NameSpan → Option NodeId → Part
  export_all_by statement names None = syntax
  export_all_by statement names (Some source) = of_export_all statement (specifier text (label_at ns source)) names

  abbrev pub export_all_shown : Span → List (Option NodeId) → Part
  export_all_shown statement ids = export_all_by statement (optional_shown ids) (first_of (rest_of ids))

  abbrev pub export_default_by : Span → Span → Option NodeId → Part
  export_default_by statement word None = syntax
  export_default_by statement word (Some d) = of_export_default statement word (label_at ns d) (named text (label_at ns d)) (optional_shown (ids_of ns d))

  abbrev pub export_default_shown : Span → Span → List (Option NodeId) → Part
  export_default_shown statement word ids = export_default_by statement word (first_of ids)

abbrev pub import_call_by : List Node → Span → Option NodeId → Part
import_call_by ns span None = nothing
import_call_by ns span (Some source) = of_import_call span (span_of (label_at ns source))

abbrev pub import_call_shown : List Node → Span → List (Option NodeId) → Part
import_call_shown ns span ids = import_call_by ns span (first_of ids)
