use Rattle.std.proofs.Common.{◌≡◌, ◌||◌, take, length}
use Rattle.js_tree.specs.Covering.{covered_in}
use Rattle.js_tree.proofs.cover.covers_with.Given as goal

-- the children so far are looked at
abbrev pub invariant-loop-i : goal.invariant-loop-i
invariant-loop-i l = l.found ≡ (l.itself || covered_in l.covers (length l.covers) (take l.i l.children))
