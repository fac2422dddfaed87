-- Nodes that were just made, and the trees that they stand for.
use Rattle.std.proofs.Common.{ℕ, List, [], ◌∷◌, length, Option, Some, sym, subst, ◌≡◌, ◌≤◌, ◌++◌}
use Rattle.js_grammar.specs.Trees.{Label, Slots, end, tree, Span as TreeSpan}
use Rattle.js_cursor.specs.js_tree.declared.id.NodeId.{NodeId}
use Rattle.js_cursor.specs.js_tree.Nodes.{Node}
use Rattle.js_cursor.specs.js_tree.Holding.{Holds, HoldsAll, Keeps}
use Rattle.js_cursor.proofs.js_tree.HoldingLemmas.{HoldsAll-none, HoldsAll-one, HoldsAll-two, Made-holds, Keeps-longer}
use Rattle.js_cursor.specs.Parsers.{Parser}
use Rattle.laws_shared.specs.Moves.{MadeHere, plain_label}
use Rattle.std.proofs.Common.{Bool, true, false}
use Rattle.std.specs.Prelude.{Result, Ok, Err, IfOk, None, chars, slice_range}
use Rattle.js_base.specs.part_memory.declared.no_memory.NoMemory.{NoMemory}
use Rattle.js_base.specs.declared.span.Span.{Span}
use Rattle.js_cursor.specs.js_tree.declared.flags.NodeFlags.{NodeFlags}
use Rattle.js_cursor.specs.js_tree.declared.kind.NodeKind.{NodeKind}
use Rattle.js_cursor.specs.js_tree.declared.op.Op.{Op}
use Rattle.js_cursor.specs.js_tree.Holding.{Makes}
use Rattle.js_cursor.specs.js_tree.Labels.{kind_of, op_of, number_of}
use Rattle.js_cursor.specs.js_tree.Nodes.{new_node}
use Rattle.js_cursor.specs.js_tree.Sources.{text_of}
use Rattle.laws_shared.specs.NodeTexts.{IsKept, IsKeptPrivate, Texted, is_name_node, is_textual, spelled_at}
use Rattle.js_base.specs.declared.token.Token.{Token}
use Rattle.js_cursor.specs.js_tree.declared.kind.NodeKind.TheVariants as node
use Rattle.js_cursor.specs.js_tree.declared.op.Op.TheVariants as op
use Rattle.laws_shared.proofs.NodeTexts.{textual_name, untextual}
use Rattle.std.proofs.Common.{◌≡◌, refl}
use Rattle.std.specs.Prelude.{get_or, IsCharBoundary}
use Rattle.js_grammar.proofs.Calculus.{left, right}
use Rattle.js_cursor.specs.js_tree.Nodes.{node_at, empty_program, label}
use Rattle.js_cursor.specs.js_tree.Holding.{Stands, stands}
use Rattle.std.proofs.lemmas.List.Elements.{All-same, All-push}
use Rattle.js_base.specs.Spans.{LiesIn}
use Rattle.js_cursor.specs.Places.{IsAt}
use Rattle.laws_shared.specs.NodeTexts.{NodeFits}
use Rattle.laws_shared.specs.States.{NodesLie, Same}

module _ {v w : Parser} {l : Label} {ids : List (Option NodeId)} {id : NodeId} (n : MadeHere l ids v w id) where
  pub node_held : {lo : ℕ} {cs : Slots} → HoldsAll v.nodes lo (length v.nodes) ids cs → Holds w.nodes lo (length w.nodes) id.0 l cs
  node_held {lo} {cs} h = subst (λ (k : Label). Holds w.nodes lo (length w.nodes) id.0 k cs) n.label_is (Made-holds n.made (subst (λ (js : List (Option NodeId)). HoldsAll v.nodes lo (length v.nodes) js cs) (sym n.children) h))

pub leaf_held : {v w : Parser} {l : Label} {id : NodeId} {ns : List Node} → MadeHere l [] v w id → Keeps ns v.nodes → Holds w.nodes (length ns) (length w.nodes) id.0 l end
leaf_held {v} {ns = ns} n k = node_held n (HoldsAll-none v.nodes (length ns) (length v.nodes) (Keeps-longer k))

pub one_held : (ns : List Node) {v w : Parser} {l m : Label} {cs : Slots} {id child : NodeId} → MadeHere l (Some child ∷ []) v w id → Holds v.nodes (length ns) (length v.nodes) child.0 m cs → Holds w.nodes (length ns) (length w.nodes) id.0 l (tree m cs end)
one_held ns {child = child} n h = node_held n (HoldsAll-one child h)

pub two_held : {v w : Parser} {l a b : Label} {cs ds : Slots} {id left right : NodeId} {os ns : List Node} → MadeHere l (Some left ∷ Some right ∷ []) v w id → Holds ns (length os) (length ns) left.0 a cs → Keeps os ns → Holds v.nodes (length ns) (length v.nodes) right.0 b ds → Keeps ns v.nodes → Holds w.nodes (length os) (length w.nodes) id.0 l (tree a cs (tree b ds end))
two_held {left = left} {right = right} n h k i j = node_held n (HoldsAll-two left right j h i)

-- the label of a node that is held
pub held_label : {ns : List Node} {lo hi : ℕ} {l : Label} {cs : Slots} (id : NodeId) → Holds ns lo hi id.0 l cs → l ≡ label (node_at ns id)
held_label {ns} {l = l} id h = go id.0 h.stands
  where
    go : (n : ℕ) {m : Label} {cs : Slots} {rs : List ℕ} → Stands ns n m cs rs → m ≡ label (get_or ns n empty_program)
    go n (stands k i d) = refl

-- ---- where they stand

-- the span of a label lies in the text
abbrev pub LabelLies : List ℕ → Label → Type 0
LabelLies text l = LiesIn (record { start = l.span.from; end = l.span.to }) text

pub one_lies : {v w : Parser} {l : Label} {ids : List (Option NodeId)} {id : NodeId} → MadeHere l ids v w id → LabelLies v.text l → NodesLie v.text v.nodes → NodesLie v.text w.nodes
one_lies {v} {w} n s h = All-same (NodeFits v.text) w.nodes (v.nodes ++ n.node ∷ []) n.made.nodes (All-push (NodeFits v.text) v.nodes n.node h (record { lies = subst (λ (k : Label). LabelLies v.text k) (sym n.label_is) s; texted = n.texted }))

-- the same, of a text that the state has
pub one_lies_in : {text : List ℕ} {v w : Parser} {l : Label} {ids : List (Option NodeId)} {id : NodeId} → v.text ≡ text → MadeHere l ids v w id → LabelLies text l → NodesLie text v.nodes → NodesLie text w.nodes
one_lies_in {v = v} {w} {l} e n = subst (λ (t : List ℕ). LabelLies t l → NodesLie t v.nodes → NodesLie t w.nodes) e (one_lies n)

-- a span from the token of one state up to the place of a later one
pub from_start : {p q : Parser} (l : Label) → Same p q → IsAt q → p.token.span.start ≤ q.prev_token_end → l.span ≡ record { from = p.token.span.start; to = q.prev_token_end } → IsCharBoundary p.text p.token.span.start → LabelLies q.text l
from_start {p} {q} l s i w e b = subst (λ (v : TreeSpan). LiesIn (record { start = v.from; end = v.to }) q.text) (sym e) (record { ordered = w; starts_whole = subst (λ (t : List ℕ). IsCharBoundary t p.token.span.start) (sym s.follows.text) b; ends_whole = i.between })

-- a node with such a span
pub made_lies : {p q w : Parser} {l : Label} {ids : List (Option NodeId)} {id : NodeId} → Same p q → IsAt q → p.token.span.start ≤ q.prev_token_end → MadeHere l ids q w id → l.span ≡ record { from = p.token.span.start; to = q.prev_token_end } → IsCharBoundary p.text p.token.span.start → NodesLie q.text q.nodes → NodesLie q.text w.nodes
made_lies {l = l} s i w n e = λ b h. one_lies n (from_start l s i w e b) h

-- ---- made without flags

made_of : (v : Parser) (ms : List Node) (k : NodeKind) (s : Span) (o : Op) (f : NodeFlags) (name : Option (List ℕ)) (ids : List (Option NodeId)) (r : Result NodeId NoMemory) → number_of f ≡ 0 → Texted k name (chars (text_of (new_node k s o f name ids) v.text)) → Makes (new_node k s o f name ids) v.nodes ms r → IfOk r (λ id. MadeHere (plain_label k o s) ids v (record v { nodes = ms }) id)
made_of v ms k s o f name ids (Ok id) n t m = record {
  node = new_node k s o f name ids;
  made = m;
  label_is = λ i. record { kind = kind_of k; op = op_of o; flags = n i; span = record { from = s.start; to = s.end } };
  children = refl;
  texted = t;
  stays = refl;
}
made_of v ms k s o f name ids (Err x) n t m = tt

-- in a state that is seen so
pub made_seen : {u v : Parser} → v ≡ u → (ms : List Node) (k : NodeKind) (s : Span) (o : Op) (f : NodeFlags) (ids : List (Option NodeId)) (r : Result NodeId NoMemory) → number_of f ≡ 0 → is_textual k ≡ false → Makes (new_node k s o f None ids) v.nodes ms r → IfOk r (λ id. MadeHere (plain_label k o s) ids u (record v { nodes = ms }) id)
made_seen {v = v} h ms k s o f ids r n p m = subst (λ (x : Parser). IfOk r (λ id. MadeHere (plain_label k o s) ids x (record v { nodes = ms }) id)) h (made_of v ms k s o f None ids r n (untextual k None (chars (text_of (new_node k s o f None ids) v.text)) p) m)

-- the same of a node that keeps what the text asks for
pub texted_seen : {u v : Parser} → v ≡ u → (ms : List Node) (k : NodeKind) (s : Span) (o : Op) (f : NodeFlags) (name : Option (List ℕ)) (r : Result NodeId NoMemory) → number_of f ≡ 0 → Texted k name (chars (slice_range u.text s.start s.end)) → Makes (new_node k s o f name []) v.nodes ms r → IfOk r (λ id. MadeHere (plain_label k o s) [] u (record v { nodes = ms }) id)
texted_seen {v = v} h ms k s o f name r n t m = subst (λ (x : Parser). Texted k name (chars (slice_range x.text s.start s.end)) → IfOk r (λ id. MadeHere (plain_label k o s) [] x (record v { nodes = ms }) id)) h (λ y. made_of v ms k s o f name [] r n y m) t

-- a name, by its token
pub name_seen : {u v : Parser} → v ≡ u → (ms : List Node) (k : NodeKind) (t : Token) {s : Span} → s ≡ t.span → (f : NodeFlags) (name : Option (List ℕ)) (r : Result NodeId NoMemory) → number_of f ≡ 0 → is_name_node k ≡ true → IsKept name (spelled_at u.text t) → Makes (new_node k s op.None f name []) v.nodes ms r → IfOk r (λ id. MadeHere (plain_label k op.None t.span) [] u (record v { nodes = ms }) id)
name_seen {u} {v} h ms k t e f name r n i p m = texted_seen h ms k t.span op.None f name r n (textual_name k name (spelled_at u.text t) i p) (subst (λ (x : Span). Makes (new_node k x op.None f name []) v.nodes ms r) e m)

-- a private name, by its token
pub private_seen : {u v : Parser} → v ≡ u → (ms : List Node) (t : Token) {s : Span} → s ≡ t.span → (f : NodeFlags) (name : Option (List ℕ)) (r : Result NodeId NoMemory) → number_of f ≡ 0 → IsKeptPrivate name (spelled_at u.text t) → Makes (new_node node.PrivateIdentifier s op.None f name []) v.nodes ms r → IfOk r (λ id. MadeHere (plain_label node.PrivateIdentifier op.None t.span) [] u (record v { nodes = ms }) id)
private_seen {u} {v} h ms t e f name r n p m = texted_seen h ms node.PrivateIdentifier t.span op.None f name r n p (subst (λ (x : Span). Makes (new_node node.PrivateIdentifier x op.None f name []) v.nodes ms r) e m)
