-- Which tree the node of a number stands for, and which numbers it reaches.
use Rattle.std.specs.Prelude.{◌≡◌, ℕ, ◌<◌, ◌≤◌, List, [], ◌∷◌, ◌++◌, length, Option, Some, None, Result, Ok, Err, slice_get, get_or, drop}
use Rattle.js_base.specs.part_memory.declared.no_memory.NoMemory.{NoMemory}
use Rattle.js_base.specs.declared.span.Span.{Span}
use Rattle.js_grammar.specs.Trees.{Label, Slots, end, hole, tree, Tree}
use Rattle.js_tree.specs.declared.id.NodeId.{NodeId}
use Rattle.js_tree.specs.Nodes.{Node, label, empty_program, program_node}

-- The number stands for the tree of this label and these slots, and reaches these numbers: its own, then those of its children. A child's number lies below its node's.
mutual
  pub data Stands (ns : List Node) : ℕ → Label → Slots → List ℕ → Type 0 where
    stands : {cs : Slots} {rs : List ℕ} (id : ℕ) → id < length ns → StandsAll ns id (get_or ns id empty_program).children cs rs → Stands ns id (label (get_or ns id empty_program)) cs (id ∷ rs)

  pub data StandsAll (ns : List Node) : ℕ → List (Option NodeId) → Slots → List ℕ → Type 0 where
    no_slots : {below : ℕ} → StandsAll ns below [] end []
    next_child : {below : ℕ} {id : NodeId} {ids : List (Option NodeId)} {l : Label} {cs us : Slots} {rs ss : List ℕ} → id.0 < below → Stands ns id.0 l cs rs → StandsAll ns below ids us ss → StandsAll ns below (Some id ∷ ids) (tree l cs us) (rs ++ ss)
    next_hole : {below : ℕ} {ids : List (Option NodeId)} {us : Slots} {rs : List ℕ} → StandsAll ns below ids us rs → StandsAll ns below (None ∷ ids) (hole us) rs

-- the number isn't in the list
abbrev pub Lacks : List ℕ → ℕ → Type 0
Lacks [] r = Unit {0}
Lacks (s ∷ ss) r = (s ≡ r → ⊥) × Lacks ss r

-- no number is in both lists
abbrev pub AreApart : List ℕ → List ℕ → Type 0
AreApart [] ss = Unit {0}
AreApart (r ∷ rs) ss = Lacks ss r × AreApart rs ss

-- no number is twice in the list
abbrev pub AreDistinct : List ℕ → Type 0
AreDistinct [] = Unit {0}
AreDistinct (r ∷ rs) = Lacks rs r × AreDistinct rs

-- each number is one from lo on and below hi
abbrev pub AreWithin : ℕ → ℕ → List ℕ → Type 0
AreWithin lo hi [] = Unit {0}
AreWithin lo hi (r ∷ rs) = (lo ≤ r) × (r < hi) × AreWithin lo hi rs

-- The number stands for the tree, and reaches numbers from lo on and below hi alone, none of them twice.
pub record Holds (ns : List Node) (lo hi id : ℕ) (l : Label) (cs : Slots) : Type 0 where
  pub numbers : List ℕ
  pub stands : Stands ns id l cs numbers
  pub within : AreWithin lo hi numbers
  pub distinct : AreDistinct numbers

-- the same of a list of slots
pub record HoldsAll (ns : List Node) (lo hi : ℕ) (ids : List (Option NodeId)) (cs : Slots) : Type 0 where
  pub order : lo ≤ hi
  pub numbers : List ℕ
  pub stands : StandsAll ns (length ns) ids cs numbers
  pub within : AreWithin lo hi numbers
  pub distinct : AreDistinct numbers

-- every node from before stands as it was, and others may stand behind
pub record Keeps (ns ms : List Node) : Type 0 where
  pub more : List Node
  pub whole : ms ≡ ns ++ more

-- this node stands behind the others, and the number is its
pub record Made (n : Node) (ns ms : List Node) (id : NodeId) : Type 0 where
  pub number : id.0 ≡ length ns
  pub nodes : ms ≡ ns ++ n ∷ []

-- one node more, or all as before
abbrev pub Makes : Node → List Node → List Node → Result NodeId NoMemory → Type 0
Makes n ns ms (Ok id) = Made n ns ms id
Makes n ns ms (Err e) = ms ≡ ns

-- the nodes with another as that of number 0
abbrev pub with_program : Node → List Node → List Node
with_program n ns = n ∷ drop 1 ns

-- The nodes stand for the tree of a program: number 0 has its label, and its slots hold numbers above 0.
pub record IsTree (ns : List Node) (t : Tree) : Type 0 where
  pub program : Node
  pub first : slice_get ns 0 ≡ Some program
  pub label : t.label ≡ label program
  pub children : HoldsAll ns 1 (length ns) program.children t.slots

-- the tree of a program of this span and these slots
abbrev pub program_tree : Span → Slots → Tree
program_tree s cs = record { label = label (program_node s []); slots = cs }
