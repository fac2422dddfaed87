use Rattle.std.proofs.Common.{false, ◌≡◌, ◌≤◌, ◌*◌, ◌-◌, ◌+◌, ℕ, List, Option, Some, None, arith, ap, ◌∙◌}
use Rattle.std.proofs.lemmas.Bool.{false≢true}
use Rattle.serde_json.specs.Data.{null, depth}
use Rattle.serde_json.specs.Written.{has_float}
use Rattle.serde_json.specs.View.{view}
use Rattle.serde_json.proofs.Views.{view-Array}
use Rattle.js_tree.specs.Nodes.{label, node_at}
use Rattle.js_json.specs.Json.{object_of, list, slots_json}
use Rattle.js_json.specs.Names.{read_name}
use Rattle.js_json.proofs.Values.{Made-start, Made-step, Made-end, node_depth, no_float_node, view-Null}
use Rattle.js_json.proofs.export.+slots_value.Goals as goal
use Rattle.js_json.proofs.export.+slots_value.Goals.{in-Some+else-levels-eq0+in_ok-children-in-Some+in_ok-value-in-Some, in_default, in_default-via-in-Some+else-contains, in_default-via-in_default}

pub loop-slot-init : goal.loop-slot-init
loop-slot-init t c = Made-start c.args.source.now c.args.tree.now c.args.slots.now c.in_ok-values.values.items (2 * c.args.levels) c.in_ok-values.ensures.items

pub loop-slot-preserved : goal.loop-slot-preserved
loop-slot-preserved t c = elim c.match-slot.branch [
  | in-Some+else-levels-eq0+in_ok-children-in-Some+in_ok-value-in-Some w ↦
      (let l = label (node_at c.args.tree.now w.in-Some.id) in
      let name = read_name c.args.source.now (node_at c.args.tree.now w.in-Some.id) in
      let n : view c.match-slot.value ≡ object_of c.args.source.now l name (view w.in_ok-children-in-Some.children) = ap view w.value-is ∙ w.in_ok-value-in-Some.ensures in
      let d : depth (view w.in_ok-children-in-Some.children) ≤ 2 * (c.args.levels - 1) + 1 = w.in_ok-children-in-Some.ensures.depth in
      Made-step c.args.slots.now c.loop-slot.slot-index (Some w.in-Some.id) c.loop-slot.values.items c.push.new.self.items c.match-slot.value (2 * c.args.levels) c.loop-slot-test.true w.in-Some.is
      (λ below cs rs h a k. n ∙ ap (object_of c.args.source.now l name) (w.in_ok-children-in-Some.ensures.values below cs rs (rw w.children.ensures a) k.1) ∙ ap (λ (s : Option (List ℕ)). object_of c.args.source.now l s (list (slots_json c.args.source.now cs))) k.0)
      (let m = node_depth c.args.source.now l name (view w.in_ok-children-in-Some.children) (2 * (c.args.levels - 1) + 1) (omega arith) d in let z = w.if-levels-eq0.false in rw n (omega arith))
      (ap has_float n ∙ no_float_node c.args.source.now l name (view w.in_ok-children-in-Some.children) w.in_ok-children-in-Some.ensures.integers)
      c.in_ok-push.ensures.items c.loop-slot.invariant)
  | in_default w ↦
      (let v : view c.match-slot.value ≡ null = ap view w.value-is ∙ view-Null in
      let d : depth (view c.match-slot.value) ≤ 2 * c.args.levels = rw v (omega arith) in
      let f : has_float (view c.match-slot.value) ≡ false = ap has_float v in
      elim w.in_default.branch [
        | in_default-via-in-Some+else-contains w' ↦
            Made-step c.args.slots.now c.loop-slot.slot-index (Some w'.in-Some.id) c.loop-slot.values.items c.push.new.self.items c.match-slot.value (2 * c.args.levels) c.loop-slot-test.true w'.in-Some.is
            (λ below cs rs h a k. absurd (false≢true (w'.if-contains.ensures.1 h))) d f c.in_ok-push.ensures.items c.loop-slot.invariant
        | in_default-via-in_default w' ↦
            Made-step c.args.slots.now c.loop-slot.slot-index None c.loop-slot.values.items c.push.new.self.items c.match-slot.value (2 * c.args.levels) c.loop-slot-test.true w'.in_default.is v d f c.in_ok-push.ensures.items c.loop-slot.invariant
      ])
]

pub returns-clause-values : goal.returns-clause-values
returns-clause-values t c below cs rs h k = view-Array c.loop-slot.values ∙ Made-end c.args.slots.now c.loop-slot.slot-index c.loop-slot.values.items (2 * c.args.levels) below cs rs (omega (arith, c.loop-slot-test.false)) c.loop-slot.invariant h k

pub returns-clause-integers : goal.returns-clause-integers
returns-clause-integers t c = ap has_float (view-Array c.loop-slot.values) ∙ c.loop-slot.invariant.2
