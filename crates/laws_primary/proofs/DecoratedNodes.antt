-- Nodes with decorators behind their children (of the proposal Decorators; no section of ECMA-262).
use Rattle.std.proofs.Common.{ℕ, ◌≡◌, List, ◌++◌, length, Option, sym, ap, arith, ◌∙◌}
use Rattle.std.proofs.lemmas.List.{get_or_push}
use Rattle.js_grammar.specs.Trees.{Label, Slots, append}
use Rattle.laws_shared.specs.js_tree.declared.id.NodeId.{NodeId}
use Rattle.laws_shared.specs.js_tree.Nodes.{Node, empty_program, label, node_at}
use Rattle.laws_shared.specs.js_tree.Labels.{kind_of}
use Rattle.laws_shared.specs.js_tree.Holding.{AreDistinct, AreWithin, Holds, HoldsAll, Keeps, Stands, stands}
use Rattle.laws_shared.proofs.js_tree.HoldingLemmas.{HoldsAll-append_late, HoldsAll-kept, StandsAll-wider}
use Rattle.laws_shared.specs.js_cursor.Parsers.{Parser}
use Rattle.laws_shared.specs.Moves.{MadeHere}
use Rattle.laws_shared.proofs.MadeNodes.{node_held}
use Rattle.std.specs.Prelude.{get_or}

-- the children of a node that stands for a tree stand for its slots
pub held_children : {ns : List Node} {lo hi : ℕ} {l : Label} {cs : Slots} (id : NodeId) → Holds ns lo hi id.0 l cs → HoldsAll ns lo hi (node_at ns id).children cs
held_children {ns} {lo} {hi} id h = go id.0 h.stands h.within h.distinct
  where
    go : (n : ℕ) {l : Label} {cs : Slots} {rs : List ℕ} → Stands ns n l cs rs → AreWithin lo hi rs → AreDistinct rs → HoldsAll ns lo hi (get_or ns n empty_program).children cs
    go n (stands {rs = rs} k i d) w e = record { order = let a = w.0 in let b = w.1 in omega arith; numbers = rs; stands = StandsAll-wider (omega arith) d; within = w.2; distinct = e.1 }

-- the node that was made anew, with the decorators that were made before it
pub decorated_held : (p q r w : Parser) {l l' : Label} {cs ds : Slots} {ids : List (Option NodeId)} {id made : NodeId} → HoldsAll q.nodes (length p.nodes) (length q.nodes) ids ds → Keeps q.nodes r.nodes → Holds r.nodes (length q.nodes) (length r.nodes) id.0 l cs → MadeHere l' ((node_at r.nodes id).children ++ ids) r w made
    → Holds w.nodes (length p.nodes) (length w.nodes) made.0 l' (append cs ds)
decorated_held p q r w {id = id} hs ks h m = node_held m (HoldsAll-append_late (held_children id h) (HoldsAll-kept ks hs))

-- the kind of a node that was made
pub made_kind : {l : Label} {ids : List (Option NodeId)} {p q : Parser} {id : NodeId} → MadeHere l ids p q id → kind_of (node_at q.nodes id).kind ≡ l.kind
made_kind {l} {ids} {p} {q} {id} m =
    let at : node_at q.nodes id ≡ m.node = ap (λ (ns : List Node). get_or ns id.0 empty_program) m.made.nodes ∙ get_or_push p.nodes m.node empty_program id.0 (sym m.made.number) in
    ap (λ (v : Label). v.kind) (ap label at ∙ m.label_is)
