-- A number stands for one tree, and nodes for the tree of one program.
use Rattle.std.proofs.Common.{ℕ, ◌≡◌, List, Option, length, refl, sym, ap, subst, ◌∙◌}
use Rattle.js_grammar.specs.Trees.{Label, Slots, tree, hole, Tree}
use Rattle.js_tree.specs.declared.id.NodeId.{NodeId}
use Rattle.js_tree.specs.Nodes.{Node, label}
use Rattle.js_tree.specs.Holding.{Stands, stands, StandsAll, no_slots, next_child, next_hole, IsTree}
use Rattle.js_tree.proofs.CountLemmas.{first_is}

mutual
  one_node : {ns : List Node} {i : ℕ} {l m : Label} {cs ds : Slots} {rs ss : List ℕ} → Stands ns i l cs rs → Stands ns i m ds ss → (l ≡ m) × (cs ≡ ds)
  one_node (stands i w a) (stands j v b) = (refl, one_list a b)

  one_list : {ns : List Node} {b c : ℕ} {ids : List (Option NodeId)} {cs ds : Slots} {rs ss : List ℕ} → StandsAll ns b ids cs rs → StandsAll ns c ids ds ss → cs ≡ ds
  one_list no_slots no_slots = refl
  one_list (next_child w x a) (next_child v y b) = let z = one_node x y in let o = one_list a b in λ j. tree (z.0 j) (z.1 j) (o j)
  one_list (next_hole a) (next_hole b) = ap hole (one_list a b)

-- which program the nodes stand for
pub one_tree : {ns : List Node} {t u : Tree} → IsTree ns t → IsTree ns u → t ≡ u
one_tree {ns} {t} {u} h k =
    let p : h.program ≡ k.program = sym (first_is ns h.program h.first) ∙ first_is ns k.program k.first in
    let l : t.label ≡ u.label = h.label ∙ ap label p ∙ sym k.label in
    let s : t.slots ≡ u.slots = one_list h.children.stands (subst (λ (q : Node). StandsAll ns (length ns) q.children u.slots k.children.numbers) (sym p) k.children.stands) in
    λ j. record { label = l j; slots = s j }
