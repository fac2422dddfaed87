-- Columns that grow.
use Rattle.std.specs.Prelude.{ℕ, ◌≡◌, ◌+◌, ◌≤◌, Result, OnOk, vec_len, Vec}
use Rattle.std.specs.Vec.{vec_capacity}
use Rattle.js_base.specs.part_memory.declared.no_memory.NoMemory.{NoMemory}

-- the entries are as before, and on success there is room for more
pub record HasRoom {T A : Type 0} (r : Result (Unit {0}) NoMemory) (old new : Vec T A) (more : ℕ) : Type 0 where
  pub entries : new.items ≡ old.items
  pub len : vec_len new ≡ vec_len old
  pub room : OnOk r (vec_len new + more ≤ vec_capacity new)
