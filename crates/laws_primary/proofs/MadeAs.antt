-- Nodes of a kind that is no name and no string, made with flags.
use Rattle.std.proofs.Common.{◌≡◌, false, List, Option, None, refl, subst}
use Rattle.std.specs.Prelude.{Result, Ok, Err, IfOk, chars}
use Rattle.js_base.specs.part_memory.declared.no_memory.NoMemory.{NoMemory}
use Rattle.js_base.specs.declared.span.Span.{Span}
use Rattle.js_grammar.specs.Trees.{Label}
use Rattle.laws_shared.specs.js_tree.declared.flags.NodeFlags.{NodeFlags}
use Rattle.laws_shared.specs.js_tree.declared.id.NodeId.{NodeId}
use Rattle.laws_shared.specs.js_tree.declared.kind.NodeKind.{NodeKind}
use Rattle.laws_shared.specs.js_tree.declared.op.Op.{Op}
use Rattle.laws_shared.specs.js_tree.Holding.{Makes}
use Rattle.laws_shared.specs.js_tree.Nodes.{Node, label, new_node}
use Rattle.laws_shared.specs.js_tree.Sources.{text_of}
use Rattle.laws_shared.specs.js_cursor.Parsers.{Parser}
use Rattle.laws_shared.specs.Moves.{MadeHere}
use Rattle.laws_shared.specs.NodeTexts.{is_textual}
use Rattle.laws_shared.proofs.NodeTexts.{untextual}

made_of : (v : Parser) (ms : List Node) (k : NodeKind) (s : Span) (o : Op) (f : NodeFlags) (ids : List (Option NodeId)) (l : Label) (r : Result NodeId NoMemory) → label (new_node k s o f None ids) ≡ l → is_textual k ≡ false → Makes (new_node k s o f None ids) v.nodes ms r → IfOk r (λ id. MadeHere l ids v (record v { nodes = ms }) id)
made_of v ms k s o f ids l (Ok id) n p m = record {
  node = new_node k s o f None ids;
  made = m;
  label_is = n;
  children = refl;
  texted = untextual k None (chars (text_of (new_node k s o f None ids) v.text)) p;
  stays = refl;
}
made_of v ms k s o f ids l (Err x) n p m = tt

-- in a state that is seen so
pub made_as : {u v : Parser} → v ≡ u → (ms : List Node) (k : NodeKind) (s : Span) (o : Op) (f : NodeFlags) (ids : List (Option NodeId)) (l : Label) (r : Result NodeId NoMemory) → label (new_node k s o f None ids) ≡ l → is_textual k ≡ false → Makes (new_node k s o f None ids) v.nodes ms r → IfOk r (λ id. MadeHere l ids u (record v { nodes = ms }) id)
made_as {v = v} h ms k s o f ids l r n p m = subst (λ (x : Parser). IfOk r (λ id. MadeHere l ids x (record v { nodes = ms }) id)) h (made_of v ms k s o f ids l r n p m)
