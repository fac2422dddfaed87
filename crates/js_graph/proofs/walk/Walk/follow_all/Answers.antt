use Rattle.std.proofs.Common.{◌<◌, ◌≤◌, ◌+◌, List, [], ◌∷◌, sym, subst, length, arith}
use Rattle.js_graph.specs.declared.resolution.Resolution.{Resolution}
use Rattle.js_graph.specs.Leads.{Pair}
use Rattle.js_graph.proofs.WalkLemmas.{IsWalked, none_walked, step_walked, walked_all, walked_twice}
use Rattle.js_graph.proofs.walk.Walk.follow_all.Goals as goal

pub loop-done-init : goal.loop-done-init
loop-done-init c start begun empty =
    let g = c.args.modules.now.items in
    subst (λ (v : List Pair). IsWalked g start v 0 c.args.self.now.found) (sym begun) (subst (λ (v : Resolution). IsWalked g start (start ∷ []) 0 v) (sym empty) (none_walked g start))

pub returns-in-Ambiguous : goal.returns-in-Ambiguous
returns-in-Ambiguous c start begun empty =
    let within : c.loop-done.done < length c.loop-done.self.reached.keys = omega arith in
    walked_twice c.args.modules.now.items start c.follow_at.new.self.reached.keys (c.loop-done.done + 1) c.follow_at.new.self.found
    (step_walked c.args.modules.now.items start c.loop-done.self c.follow_at.new.self c.loop-done.done (c.loop-done.invariant start begun empty) within c.in_ok-follow_at.ensures)
    c.in-Ambiguous.is

pub loop-done-preserved : goal.loop-done-preserved
loop-done-preserved c start begun empty =
    let within : c.loop-done.done < length c.loop-done.self.reached.keys = omega arith in
    step_walked c.args.modules.now.items start c.loop-done.self c.follow_at.new.self c.loop-done.done (c.loop-done.invariant start begun empty) within c.in_ok-follow_at.ensures

pub returns : goal.returns
returns c start begun empty =
    let past : length c.loop-done.self.reached.keys ≤ c.loop-done.done = omega arith in
    walked_all c.args.modules.now.items start c.loop-done.self.reached.keys c.loop-done.done c.loop-done.self.found (c.loop-done.invariant start begun empty) past
