-- The walk over a tree's nodes: which line a slot has, and which slots stand within it.
use Rattle.std.specs.Prelude.{ℕ, ◌+◌, Bool, true, cond, List, [], ◌∷◌, ◌++◌, length, Option, Some, None, codes, nat_lt}
use Rattle.js_grammar.specs.Lines.{label_text, indent}
use Rattle.js_tree.specs.declared.id.NodeId.{NodeId}
use Rattle.js_tree.specs.declared.lines.PendingSlot.{PendingSlot}
use Rattle.js_tree.specs.Nodes.{Node, label, node_at}

-- the text of a slot: its node's, a `-` where it is empty, nothing where no node has the number
abbrev pub text_at : List Node → Option NodeId → List ℕ
text_at ns None = codes "-"
text_at ns (Some id) = cond (nat_lt id.0 (length ns)) (label_text (label (node_at ns id))) []

abbrev pub line_at : List Node → PendingSlot → List ℕ
line_at ns p = indent p.depth ++ (text_at ns p.slot ++ 10 ∷ [])

-- an empty slot, or one whose number is below the bound
abbrev pub is_slot_below : ℕ → Option NodeId → Bool
is_slot_below b None = true
is_slot_below b (Some id) = nat_lt id.0 b

-- slots at a depth as a stack, the first on top, but for those whose number isn't below the bound
abbrev pub pending : ℕ → ℕ → List (Option NodeId) → List PendingSlot
pending d b [] = []
pending d b (s ∷ ss) = pending d b ss ++ cond (is_slot_below b s) (record { depth = d; slot = s } ∷ []) []

-- the slots within a slot, as a stack
abbrev pub slot_within : List Node → ℕ → Option NodeId → List PendingSlot
slot_within ns d None = []
slot_within ns d (Some id) = pending (d + 1) id.0 (node_at ns id).children

abbrev pub within : List Node → PendingSlot → List PendingSlot
within ns p = slot_within ns p.depth p.slot

-- an op's text behind a space, where there is one
abbrev pub spaced : Option (List ℕ) → List ℕ
spaced None = []
spaced (Some t) = 32 ∷ t
