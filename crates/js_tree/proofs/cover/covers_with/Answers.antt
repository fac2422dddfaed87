use Rattle.std.proofs.Common.{◌∙◌, ◌||◌, ap, sym, Bool, length, get_or, take, None}
use Rattle.std.proofs.lemmas.List.{take_all}
use Rattle.std.proofs.Math.Bool.{or-false}
use Rattle.js_tree.specs.Covering.{covered_in}
use Rattle.js_tree.proofs.Coverings.{known_next, none_known, child_known, beyond_known}
use Rattle.js_tree.proofs.cover.covers_with.Goals as goal
use Rattle.js_tree.proofs.cover.covers_with.Goals.{in-Some+then-child-covers, in-Some+else-child-covers, in_default}

pub loop-i-preserved : goal.loop-i-preserved
loop-i-preserved c =
    let covers = c.args.covers.now in
    let child = get_or c.args.children.now c.loop-i.i None in
    let n = known_next c.args.itself covers (length covers) c.args.children.now c.loop-i.i None c.loop-i-test.true in
    elim c.match-children-i.branch [
      | in-Some+then-child-covers w ↦ (let e = child_known covers (length covers) child w.in-Some.child w.in-Some.is w.if-child-covers.true in w.found-is ∙ (λ j. c.loop-i.invariant j || sym e j) ∙ sym n)
      | in-Some+else-child-covers w ↦ (let e = beyond_known covers (length covers) child w.in-Some.child w.in-Some.is w.if-child-covers.false in w.found-is ∙ c.loop-i.invariant ∙ sym (or-false (c.args.itself || covered_in covers (length covers) (take c.loop-i.i c.args.children.now))) ∙ ap (λ (b : Bool). (c.args.itself || covered_in covers (length covers) (take c.loop-i.i c.args.children.now)) || b) (sym e) ∙ sym n)
      | in_default w ↦ (let e = none_known covers (length covers) child w.in_default.not-Some in w.found-is ∙ c.loop-i.invariant ∙ sym (or-false (c.args.itself || covered_in covers (length covers) (take c.loop-i.i c.args.children.now))) ∙ ap (λ (b : Bool). (c.args.itself || covered_in covers (length covers) (take c.loop-i.i c.args.children.now)) || b) (sym e) ∙ sym n)
    ]

pub returns : goal.returns
returns c = c.loop-i.invariant ∙ ap (λ ids. c.args.itself || covered_in c.args.covers.now (length c.args.covers.now) ids) (take_all c.loop-i.i c.args.children.now c.loop-i-test.false)
