use Rattle.std.proofs.Common.{length, get_or, arith, None, ◌∙◌, ap, suc}
use Rattle.std.proofs.lemmas.List.{take_all}
use Rattle.js_tree.specs.Counting.{counted}
use Rattle.js_tree.proofs.CountLemmas.{counted_next, counted_none, counted_some, counted_beyond}
use Rattle.js_tree.proofs.count.count_with.Goals as goal
use Rattle.js_tree.proofs.count.count_with.Goals.{in-Some+then-child-counts+in-Some-checked_add, in-Some+else-child-counts, in_default}

pub loop-i-preserved : goal.loop-i-preserved
loop-i-preserved c =
    let counts = c.args.counts.now in
    let child = get_or c.args.children.now c.loop-i.i None in
    let n = counted_next counts (length counts) c.args.children.now c.loop-i.i None c.loop-i-test.true in
    elim c.match-children-i.branch [
      | in-Some+then-child-counts+in-Some-checked_add w ↦ (let e = counted_some counts (length counts) child w.in-Some.child w.in-Some.is w.if-child-counts.true in omega (arith, w.count-is, w.in-Some-checked_add.ensures.1, c.loop-i.invariant, n, e))
      | in-Some+else-child-counts w ↦ (let e = counted_beyond counts (length counts) child w.in-Some.child w.in-Some.is w.if-child-counts.false in omega (arith, w.count-is, c.loop-i.invariant, n, e))
      | in_default w ↦ (let e = counted_none counts (length counts) child w.in_default.not-Some in omega (arith, w.count-is, c.loop-i.invariant, n, e))
    ]

pub returns : goal.returns
returns c = c.loop-i.invariant ∙ ap (λ ids. suc (counted c.args.counts.now (length c.args.counts.now) ids)) (take_all c.loop-i.i c.args.children.now c.loop-i-test.false)
