use Rattle.std.proofs.Common.{List, ◌≤◌, length, take}
use Rattle.js_grammar.specs.Trees.{Tree}
use Rattle.js_record.specs.Walked.{AreFound}
use Rattle.js_record.proofs.Finding.{Visited}
use Rattle.js_record.proofs.walking.visit_each.Given as goal

abbrev pub invariant-loop-i : goal.invariant-loop-i
invariant-loop-i l = record { within : l.i ≤ length l.found.items; visited : (ts : List Tree) → AreFound l.tree l.found.items ts → Visited l.tree l.source (take l.i l.found.items) l.initial.builder l.builder ts }

abbrev pub decreases-loop-i : goal.decreases-loop-i
decreases-loop-i l = l.i
