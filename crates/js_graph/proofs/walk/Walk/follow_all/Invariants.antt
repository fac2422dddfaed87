use Rattle.std.proofs.Common.{◌≡◌, ◌-◌, ◌^◌, [], ◌∷◌}
use Rattle.js_graph.specs.declared.resolution.Resolution.TheVariants as answer
use Rattle.js_graph.specs.Leads.{Pair}
use Rattle.js_graph.proofs.WalkLemmas.{IsWalked}
use Rattle.js_graph.proofs.walk.Walk.follow_all.Given as goal

-- what was followed has given what is known
abbrev pub invariant-loop-done : goal.invariant-loop-done
invariant-loop-done l = (start : Pair) → l.initial.self.reached.keys ≡ start ∷ [] → l.initial.self.found ≡ answer.Null → IsWalked l.modules.items start l.self.reached.keys l.done l.self.found

-- no list has 2 ^ 64 items
abbrev pub decreases-loop-done : goal.decreases-loop-done
decreases-loop-done l = 2 ^ 64 - l.done
