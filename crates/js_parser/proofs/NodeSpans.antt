-- Where nodes stand in a text, and where those of the tree that they stand for.
use Rattle.std.proofs.Common.{ℕ, List, Option, drop}
use Rattle.std.proofs.lemmas.List.Elements.{All-cons, All-drop, All-get_or}
use Rattle.js_base.specs.Spans.{LiesIn}
use Rattle.js_grammar.specs.Trees.{Label, Slots}
use Rattle.js_tree.specs.declared.id.NodeId.{NodeId}
use Rattle.js_tree.specs.Nodes.{Node, empty_program}
use Rattle.js_tree.specs.Holding.{Stands, stands, StandsAll, no_slots, next_child, next_hole, with_program}
use Rattle.std.specs.Prelude.{chars}
use Rattle.js_tree.specs.Sources.{text_of}
use Rattle.js_core.specs.laws_shared.NodeTexts.{NodeFits, Texted}
use Rattle.js_core.specs.laws_shared.States.{NodesLie}
use Rattle.js_parser.specs.NodeSpans.{NodeLies, SlotsLie}

mutual
  node_lies : {text : List ℕ} {ns : List Node} {id : ℕ} {l : Label} {cs : Slots} {rs : List ℕ} → NodesLie text ns → Stands ns id l cs rs → NodeLies text l × SlotsLie text cs
  node_lies {text} {ns} h (stands id b a) = ((All-get_or (NodeFits text) ns id empty_program b h).lies, slots_lie h a)

  pub slots_lie : {text : List ℕ} {ns : List Node} {below : ℕ} {ids : List (Option NodeId)} {cs : Slots} {rs : List ℕ} → NodesLie text ns → StandsAll ns below ids cs rs → SlotsLie text cs
  slots_lie h no_slots = tt
  slots_lie h (next_child b x a) = let z = node_lies h x in (z.0, z.1, slots_lie h a)
  slots_lie h (next_hole a) = slots_lie h a

-- with Program's node
pub program_lie : {text : List ℕ} (n : Node) → Texted n.kind n.name (chars (text_of n text)) → (ns : List Node) → LiesIn n.span text → NodesLie text ns → NodesLie text (with_program n ns)
program_lie {text} n x ns s h = All-cons (NodeFits text) n (drop 1 ns) (record { lies = s; texted = x }) (All-drop (NodeFits text) 1 ns h)
