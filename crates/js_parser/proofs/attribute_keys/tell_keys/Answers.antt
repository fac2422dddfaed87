use Rattle.std.proofs.Common.{◌++◌, ◌<◌, ◌≤◌, ℕ, List, ap, append-nil, length, nat_lt, subst, sym, ◌∙◌}
use Rattle.js_base.specs.declared.diagnostic.Diagnostic.{Diagnostic}
use Rattle.js_tree.specs.Labels.{kind_of}
use Rattle.js_tree.specs.Nodes.{node_at}
use Rattle.js_parser.specs.AttributeKeys.{keys_at}
use Rattle.js_parser.proofs.ClauseKeys.{few_keys, of_clause, telling_end, telling_hole, telling_key, telling_start}
use Rattle.js_parser.proofs.attribute_keys.tell_keys.Goals.{in-Some+in_ok-tell_key, in_default}
use Rattle.js_parser.proofs.attribute_keys.tell_keys.Goals as goal

pub returns-then-not-has_keys : goal.returns-then-not-has_keys
returns-then-not-has_keys c = let n = node_at c.args.tree.now c.args.clause in sym (ap (λ (v : List Diagnostic). c.args.told.now ++ v) (few_keys c.args.source.now c.args.tree.now (kind_of n.kind) n.children (sym c.has_keys.ensures ∙ c.if-not-has_keys.true)) ∙ append-nil c.args.told.now)

pub loop-i-init : goal.loop-i-init
loop-i-init c = telling_start c.args.source.now c.args.tree.now (node_at c.args.tree.now c.args.clause).children c.new-last.result.entries c.args.told.now c.new-last.ensures.empty

pub loop-i-preserved : goal.loop-i-preserved
loop-i-preserved c =
    let within : c.loop-i.i < length (node_at c.args.tree.now c.args.clause).children = subst (λ (n : ℕ). c.loop-i.i < n) c.child_count-i-end.ensures c.loop-i-test.true in
    elim c.match-key_at.branch [
      | in-Some+in_ok-tell_key w ↦ rw (w.told-is, w.last-is) (telling_key c.loop-i.i within c.loop-i.invariant w.in-Some.key w.tell_key.new.last.entries w.tell_key.new.told (sym w.in-Some.is ∙ c.key_at.ensures.is) w.in_ok-tell_key.ensures.told w.in_ok-tell_key.ensures.noted)
      | in_default w ↦ rw (w.told-is, w.last-is) (telling_hole c.loop-i.i within c.loop-i.invariant (sym w.in_default.is ∙ c.key_at.ensures.is))
    ]

pub returns : goal.returns
returns c =
    let n = node_at c.args.tree.now c.args.clause in
    telling_end c.loop-i.i (subst (λ (m : ℕ). m ≤ c.loop-i.i) c.child_count-i-end.ensures c.loop-i-test.false) c.loop-i.invariant ∙ ap (λ (v : List Diagnostic). c.args.told.now ++ v) (sym (of_clause c.args.source.now (kind_of n.kind) (nat_lt 1 (length n.children)) (keys_at c.args.tree.now n.children) (sym c.has_keys.ensures ∙ c.if-not-has_keys.false)))
