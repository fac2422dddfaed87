use Rattle.std.proofs.Common.{◌≡◌, ◌<◌, ◌≤◌, ℕ, None}
use Rattle.std.specs.BTreeMap.{get}
use Rattle.std.specs.Ordering.{nat_cmp}
use Rattle.js_tree.proofs.columns.drop_names.Given as goal

-- the names up to the number are dropped, and from the last one on there are none
abbrev pub invariant-numbers : goal.invariant-numbers
invariant-numbers l = record { kept : (i : ℕ) → i < l.first → get nat_cmp l.names i ≡ get nat_cmp l.initial.names i; dropped : (i : ℕ) → l.first ≤ i → i < l.number-counter → get nat_cmp l.names i ≡ None; behind : (i : ℕ) → l.last ≤ i → get nat_cmp l.names i ≡ None }
