use Rattle.std.proofs.Common.{◌≡◌, ◌+◌, ◌++◌, take}
use Rattle.std.specs.Vec.{vec_len, vec_capacity}
use Rattle.js_tree.proofs.columns.put_all.Given as goal

-- the slots so far stand behind the others, in the room that was made
abbrev pub invariant-loop-i : goal.invariant-loop-i
invariant-loop-i l = record { put : l.column.items ≡ l.initial.column.items ++ take l.i l.slots; len : vec_len l.column ≡ vec_len l.initial.column + l.i; room : vec_capacity l.column ≡ vec_capacity l.initial.column }
