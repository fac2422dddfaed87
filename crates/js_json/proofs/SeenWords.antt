-- The labels of trees that nodes stand for have words of their own.
use Rattle.std.proofs.Common.{◌≡◌, ℕ, ◌*◌, ◌<◌, ◌^◌, Bool, true, false, List, Option, get_or, refl, subst, sym, arith}
use Rattle.js_base.specs.declared.operator.BinaryOperator.{BinaryOperator}
use Rattle.js_base.specs.declared.operator.BinaryOperator.TheVariants as binary
use Rattle.js_base.specs.declared.operator.UnaryOperator.{UnaryOperator}
use Rattle.js_base.specs.declared.operator.UnaryOperator.TheVariants as unary
use Rattle.js_base.specs.declared.operator.LogicalOperator.{LogicalOperator}
use Rattle.js_base.specs.declared.operator.LogicalOperator.TheVariants as logical
use Rattle.js_base.specs.declared.operator.UpdateOperator.{UpdateOperator}
use Rattle.js_base.specs.declared.operator.UpdateOperator.TheVariants as update
use Rattle.js_base.specs.declared.operator.AssignmentOperator.{AssignmentOperator}
use Rattle.js_base.specs.declared.operator.AssignmentOperator.TheVariants as assignment
use Rattle.js_grammar.specs.Trees.{Label, Slots, end, tree, Tree}
use Rattle.js_tree.specs.declared.flags.NodeFlags.{NodeFlags}
use Rattle.js_tree.specs.declared.id.NodeId.{NodeId}
use Rattle.js_tree.specs.declared.op.Op.{Op}
use Rattle.js_tree.specs.declared.op.Op.TheVariants as op
use Rattle.js_tree.specs.declared.op.DeclarationKind.TheVariants as declaration
use Rattle.js_tree.specs.declared.op.PropertyKind.TheVariants as property
use Rattle.js_tree.specs.declared.op.MethodKind.TheVariants as method
use Rattle.js_tree.specs.declared.op.NumberBase.TheVariants as number
use Rattle.js_tree.specs.declared.op.BigintBase.TheVariants as bigint
use Rattle.js_tree.specs.declared.op.ClauseWord.TheVariants as clause
use Rattle.js_tree.specs.Labels.{op_of, number_of, with_bit, binary_kind, unary_kind, logical_kind, update_kind, assignment_kind}
use Rattle.js_tree.specs.Nodes.{Node, label, empty_program}
use Rattle.js_tree.specs.Holding.{Stands, stands, StandsAll, no_slots, next_child, next_hole, IsTree}
use Rattle.js_grammar.specs.Trees.{of}
use Rattle.js_json.specs.Laws.{is_own_word, HasWords, HaveWords}

own_binary : (o : BinaryOperator) → is_own_word (of (binary_kind o)) ≡ true
own_binary binary.Addition = refl
own_binary o = refl

own_unary : (o : UnaryOperator) → is_own_word (of (unary_kind o)) ≡ true
own_unary unary.Void = refl
own_unary o = refl

own_logical : (o : LogicalOperator) → is_own_word (of (logical_kind o)) ≡ true
own_logical logical.Or = refl
own_logical o = refl

own_update : (o : UpdateOperator) → is_own_word (of (update_kind o)) ≡ true
own_update update.Increment = refl
own_update o = refl

own_assignment : (o : AssignmentOperator) → is_own_word (of (assignment_kind o)) ≡ true
own_assignment assignment.Assign = refl
own_assignment o = refl

own : (o : Op) → is_own_word (op_of o) ≡ true
own op.None = refl
own (op.Binary o) = own_binary o
own (op.Logical o) = own_logical o
own (op.Unary o) = own_unary o
own (op.Update o) = own_update o
own (op.Assignment o) = own_assignment o
own (op.Declaration declaration.Var) = refl
own (op.Declaration declaration.Let) = refl
own (op.Declaration declaration.Const) = refl
own (op.Property property.Init) = refl
own (op.Property property.Get) = refl
own (op.Property property.Set) = refl
own (op.Method method.Constructor) = refl
own (op.Method method.Method) = refl
own (op.Method method.Get) = refl
own (op.Method method.Set) = refl
own (op.Number number.Decimal) = refl
own (op.Number number.Float) = refl
own (op.Number number.Binary) = refl
own (op.Number number.Octal) = refl
own (op.Number number.Hex) = refl
own (op.Number number.Exponential) = refl
own (op.Bigint bigint.Decimal) = refl
own (op.Bigint bigint.Binary) = refl
own (op.Bigint bigint.Octal) = refl
own (op.Bigint bigint.Hex) = refl
own (op.Clause clause.With) = refl
own (op.Clause clause.Assert) = refl

bit : (b : Bool) (n m : ℕ) → n < m → with_bit b n < 2 * m
bit true n m h = omega arith
bit false n m h = omega arith

few : (f : NodeFlags) → number_of f < 2 ^ 14
few f = bit f.prefix _ 8192 (bit f.optional _ 4096 (bit f.computed _ 2048 (bit f.shorthand _ 1024 (bit f.method _ 512 (bit f.is_async _ 256 (bit f.generator _ 128 (bit f.delegate _ 64 (bit f.is_static _ 32 (bit f.is_await _ 16 (bit f.tail _ 8 (bit f.bare _ 4 (bit f.pure _ 2 (bit f.pife 0 1 (omega arith))))))))))))))

words : (n : Node) → HasWords (label n)
words n = record { op = own n.op; flags = few n.flags }

mutual
  node_words : {ns : List Node} {id : ℕ} {l : Label} {cs : Slots} {rs : List ℕ} → Stands ns id l cs rs → HasWords l × HaveWords cs
  node_words {ns} (stands id h a) = (words (get_or ns id empty_program), slots_words a)

  slots_words : {ns : List Node} {b : ℕ} {ids : List (Option NodeId)} {cs : Slots} {rs : List ℕ} → StandsAll ns b ids cs rs → HaveWords cs
  slots_words no_slots = tt
  slots_words (next_child w n a) = let h = node_words n in (h.0, h.1, slots_words a)
  slots_words (next_hole a) = slots_words a

pub seen_words : (ns : List Node) (t : Tree) → IsTree ns t → HaveWords (tree t.label t.slots end)
seen_words ns t h = (subst HasWords (sym h.label) (words h.program), slots_words (h.children).stands, tt)
