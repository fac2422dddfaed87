use Rattle.std.proofs.Common.{◌≡◌, suc, take, length}
use Rattle.js_tree.specs.Counting.{counted}
use Rattle.js_tree.proofs.count.count_with.Given as goal

-- the children so far are counted
abbrev pub invariant-loop-i : goal.invariant-loop-i
invariant-loop-i l = l.count ≡ suc (counted l.counts (length l.counts) (take l.i l.children))
