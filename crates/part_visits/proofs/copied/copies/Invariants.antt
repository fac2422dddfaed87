use Rattle.std.proofs.Common.{◌≡◌, take}
use Rattle.part_visits.proofs.copied.copies.Given as goal

-- the copies are those of the items so far
abbrev pub invariant-loop-item : goal.invariant-loop-item
invariant-loop-item g l = l.all.items ≡ take l.item-index l.items.items
