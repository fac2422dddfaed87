-- The walk that finds the nodes of a tree that add something to a record.
use Rattle.std.specs.Prelude.{◌≡◌, ℕ, ◌+◌, ◌<◌, ◌≤◌, Bool, true, cond, List, [], ◌∷◌, ◌++◌, Option, Some, None, get_or, length, nat_lt}
use Rattle.js_grammar.specs.Modules.{adds, by_end}
use Rattle.js_grammar.specs.Trees.{Label, Slots, Tree}
use Rattle.js_tree.specs.declared.id.NodeId.{NodeId}
use Rattle.js_tree.specs.Holding.{Stands, StandsAll}
use Rattle.js_tree.specs.Nodes.{Node, label, node_at}

-- whether the node of a number adds something
abbrev pub adds_at : List Node → NodeId → Bool
adds_at ns id = adds (label (node_at ns id)).kind

abbrev pub end_at : List Node → NodeId → ℕ
end_at ns id = (node_at ns id).span.end

-- The slots are empty or hold trees.
pub record AreStanding (ns : List Node) (ids : List (Option NodeId)) : Type 0 where
  pub slots : Slots
  pub numbers : List ℕ
  pub stand : StandsAll ns (length ns) ids slots numbers

-- the children whose numbers are below a bound, in their order
abbrev pub forward : ℕ → List (Option NodeId) → List NodeId
forward b [] = []
forward b (None ∷ ids) = forward b ids
forward b (Some id ∷ ids) = cond (nat_lt id.0 b) (id ∷ []) [] ++ forward b ids

-- The number stands for a tree that adds something.
pub record IsOne (ns : List Node) (id : NodeId) (t : Tree) : Type 0 where
  pub numbers : List ℕ
  pub stands : Stands ns id.0 t.label t.slots numbers
  pub adds : adds t.label.kind ≡ true

-- The numbers stand for these trees, the last number for the first.
pub data AreFound (ns : List Node) : List NodeId → List Tree → Type 0 where
  none_found : {ts : List Tree} → ts ≡ [] → AreFound ns [] ts
  one_found : {id : NodeId} {ids : List NodeId} {ts : List Tree} (us : List Tree) (t : Tree) → IsOne ns id t → AreFound ns ids us → ts ≡ us ++ t ∷ [] → AreFound ns (id ∷ ids) ts

-- the trees, and one of this label and these slots before the first that ends later, if it adds something
abbrev pub kept_before : Label → Slots → List Tree → List Tree
kept_before l cs ts = cond (adds l.kind) (by_end (record { label = l; slots = cs }) ts) ts

abbrev pub none : NodeId
none = record { 0 = 0 }

-- Behind so many numbers one whose node has this end stands: those before it end there or later, and those behind it before.
pub record IsPlace (ns : List Node) (found : List NodeId) (end at : ℕ) : Type 0 where
  pub within : at ≤ length found
  pub behind : (i : ℕ) → at ≤ i → i < length found → end_at ns (get_or found i none) < end
  pub before : (i : ℕ) → i + 1 ≡ at → end ≤ end_at ns (get_or found i none)
