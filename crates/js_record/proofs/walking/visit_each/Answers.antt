use Rattle.std.proofs.Common.{◌≡◌, ◌-◌, ◌++◌, ◌∷◌, [], ℕ, List, true, arith, subst, get_or, length, refl}
use Rattle.std.proofs.lemmas.List.{get_or_read_under}
use Rattle.js_grammar.specs.Modules.{part_of}
use Rattle.js_grammar.specs.Trees.{Label, Slots}
use Rattle.js_tree.specs.declared.id.NodeId.{NodeId}
use Rattle.js_tree.specs.Holding.{Stands}
use Rattle.js_record.specs.Walked.{adds_at, none}
use Rattle.js_record.proofs.Finding.{visited_step}
use Rattle.js_record.proofs.walking.visit_each.Goals as goal

pub loop-i-preserved : goal.loop-i-preserved
loop-i-preserved c =
    let k = c.loop-i.i - 1 in
    let ids = c.args.found.now.items in
    let b = c.loop-i.invariant.within in
    let p = c.loop-i-test.true in
    let q : c.index.result.now ≡ get_or ids k none = get_or_read_under ids k (length ids) c.index.result.now none c.index.ensures (omega arith) refl in
    let h = subst (λ (x : NodeId). adds_at c.args.tree.now x ≡ true → (l : Label) (cs : Slots) (rs : List ℕ) → Stands c.args.tree.now x.0 l cs rs → c.visit.new.builder ≡ c.loop-i.builder ++ part_of c.args.source.now (record { label = l; slots = cs }) ∷ []) q c.in_ok-visit.ensures in
    record {
      within = omega arith;
      visited = λ ts a. visited_step c.args.source.now ids c.loop-i.i k c.args.builder.now c.loop-i.builder c.visit.new.builder ts (omega arith) b h (c.loop-i.invariant.visited ts a);
    }
