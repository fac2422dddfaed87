use Rattle.std.proofs.Common.{◌≡◌, ◌++◌, take, drop, map, length, ◌-◌}
use Rattle.js_lex.specs.Comments.{attached}
use Rattle.js_lex.proofs.comment.attach.Given as goal

-- to attach those that are left gives what to attach all from the first on gives
abbrev pub invariant-comments : goal.invariant-comments
invariant-comments l = take l.next l.comments ++ map (attached l.place) (drop l.next l.comments) ≡ take l.from l.initial.comments ++ map (attached l.place) (drop l.from l.initial.comments)

abbrev pub decreases-comments : goal.decreases-comments
decreases-comments l = length l.comments - l.next
