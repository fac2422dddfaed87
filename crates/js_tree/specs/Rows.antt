-- Columns of nodes: which node the entries of a number make up.
use Rattle.std.specs.Prelude.{◌≡◌, ℕ, zero, suc, ◌+◌, ◌<◌, ◌≤◌, max, List, [], ◌∷◌, ◌++◌, length, Option, None, get_or, take, drop}
use Rattle.std.specs.Ordering.{nat_cmp}
use Rattle.std.specs.BTreeMap.{BTreeMap, get}
use Rattle.js_base.specs.declared.span.Span.{Span}
use Rattle.js_tree.specs.declared.columns.Columns.TheInside.{Inside}
use Rattle.js_tree.specs.declared.columns.Entry.{Entry}
use Rattle.js_tree.specs.declared.id.NodeId.{NodeId}
use Rattle.js_tree.specs.declared.kind.NodeKind.{NodeKind}
use Rattle.js_tree.specs.declared.kind.NodeKind.TheVariants as node
use Rattle.js_tree.specs.declared.op.Op.{Op}
use Rattle.js_tree.specs.declared.op.Op.TheVariants as op
use Rattle.js_tree.specs.Nodes.{Node}
use Rattle.js_tree.specs.Bits.{flags_of}

-- the entries of all columns
pub record Entries : Type 0 where
  pub kinds : List NodeKind
  pub entries : List Entry
  pub slots : List (Option NodeId)
  pub names : ℕ → Option (List ℕ)

abbrev pub entries_of : Inside → Entries
entries_of c = record { kinds = c.kinds.items; entries = c.entries.items; slots = c.slots.items; names = λ i. get nat_cmp c.names i }

abbrev pub entry_of : Span → ℕ → ℕ → ℕ → Op → Entry
entry_of s start count flags o = record { span = s; start = start; count = count; flags = flags; op = o }

-- what is read where there is no entry
abbrev pub no_entry : Entry
no_entry = entry_of record { start = 0; end = 0 } 0 0 0 op.None

-- the slots that an entry tells
abbrev pub slots_of : Entry → List (Option NodeId) → List (Option NodeId)
slots_of e slots = take e.count (drop e.start slots)

-- the values of a function at the numbers below n
abbrev pub table : {A : Type 0} → (ℕ → A) → ℕ → List A
table f zero = []
table f (suc n) = table f n ++ f n ∷ []

-- the node of a number
abbrev pub row : Entries → ℕ → Node
row c i = record { kind = get_or c.kinds i node.Program; op = (get_or c.entries i no_entry).op; flags = flags_of (get_or c.entries i no_entry).flags; span = (get_or c.entries i no_entry).span; name = c.names i; children = slots_of (get_or c.entries i no_entry) c.slots }

unfoldable pub rows : Entries → List Node
rows c = table (row c) (length c.kinds)

-- where the slots of an entry end
abbrev pub slots_end : Entry → ℕ
slots_end e = e.start + e.count

-- how many slots belong to the nodes before this one
abbrev pub slots_before : List Entry → ℕ → ℕ
slots_before es n = max (get_or es n no_entry).start (slots_end (get_or es 0 no_entry))

-- One entry of each node in each column; its children in the column of slots, behind those of the nodes before it, Program aside; a name for no number without a node.
pub record AreEntries (c : Entries) : Type 0 where
  pub some : 0 < length c.kinds
  pub entries : length c.entries ≡ length c.kinds
  pub ranges : (i : ℕ) → (get_or c.entries i no_entry).start + (get_or c.entries i no_entry).count ≤ length c.slots
  pub ordered : (i j : ℕ) → 0 < i → i < j → j < length c.kinds → slots_end (get_or c.entries i no_entry) ≤ (get_or c.entries j no_entry).start
  pub names : (i : ℕ) → length c.kinds ≤ i → c.names i ≡ None

-- the names from a number on are dropped, where there are none from another on
pub record DropsNames (first : ℕ) (old new : BTreeMap ℕ (List ℕ)) : Type 0 where
  pub kept : (i : ℕ) → i < first → get nat_cmp new i ≡ get nat_cmp old i
  pub dropped : (i : ℕ) → first ≤ i → get nat_cmp new i ≡ None

abbrev pub nodes_of : Inside → List Node
nodes_of c = rows (entries_of c)

abbrev pub AreColumns : Inside → Type 0
AreColumns c = AreEntries (entries_of c)
