-- What is said of the two ends of a run.
use Rattle.std.specs.Prelude.{ℕ, ◌≡◌, ◌+◌, ◌-◌, ◌<◌, ◌⊎◌, ◌↔◌, List, ◌++◌, length, take, min, Result, Ok, Err, IsErr}
use Rattle.std.specs.List.{Contains}
use Rattle.js_run.specs.declared.ends.Failed.{Failed}
pub use Rattle.js_grammar.specs.Ends.{last, CountsFault}

-- one more, up to the last value
abbrev pub next_count : ℕ → ℕ
next_count n = min (n + 1) last

-- The next n bytes of those that are left are at the front of a buffer, and no longer left.
pub record GivesNext (left left_after into : List ℕ) (n : ℕ) : Type 0 where
  pub front : left ≡ take n into ++ left_after
  pub count : length (take n into) ≡ n

-- what is told of a source that never fails
pub record Steady : Type 0 where
  pub left : List ℕ

-- what is told of a source that fails at calls that are listed
pub record Failing : Type 0 where
  pub left : List ℕ
  pub fails : List ℕ
  pub calls : ℕ
  pub faults : ℕ

-- A read fails exactly where its number is listed. Then a fault is counted and no byte taken; else as many of the next bytes are given as are left and fit.
abbrev pub FailingGives : Failing → Failing → List ℕ → Result ℕ Failed → Type 0
FailingGives old new into (Ok n) = (n ≡ min (length into) (length old.left)) × GivesNext old.left new.left into n × (new.faults ≡ old.faults)
FailingGives old new into (Err e) = (new.left ≡ old.left) × (new.faults ≡ next_count old.faults)

pub record FailingRead (old new : Failing) (into : List ℕ) (result : Result ℕ Failed) : Type 0 where
  pub calls : new.calls ≡ next_count old.calls
  pub fails : new.fails ≡ old.fails
  pub listed : IsErr result ↔ Contains old.fails new.calls
  pub gives : FailingGives old new into result

-- what is told of a sink with room for so many bytes
pub record Room : Type 0 where
  pub taken : List ℕ
  pub room : ℕ
  pub fails : List ℕ
  pub calls : ℕ
  pub faults : ℕ

-- a piece that is not empty finds no room
pub record IsFull (s : Room) (piece : List ℕ) : Type 0 where
  pub full : s.room ≡ length s.taken
  pub some : 0 < length piece

abbrev pub RoomTakes : Room → Room → List ℕ → Result ℕ Failed → Type 0
RoomTakes old new piece (Ok n) = (n ≡ min (length piece) (old.room - length old.taken)) × (new.taken ≡ old.taken ++ take n piece) × (new.faults ≡ old.faults)
RoomTakes old new piece (Err e) = (new.taken ≡ old.taken) × (new.faults ≡ next_count old.faults)

-- A write fails exactly where its number is listed or there is no room for a piece that is not empty. Then a fault is counted and no byte taken; else as much of the piece is taken as there is room for.
pub record RoomWrite (old new : Room) (piece : List ℕ) (result : Result ℕ Failed) : Type 0 where
  pub calls : new.calls ≡ next_count old.calls
  pub room : new.room ≡ old.room
  pub fails : new.fails ≡ old.fails
  pub listed : IsErr result ↔ (Contains old.fails new.calls ⊎ IsFull old piece)
  pub takes : RoomTakes old new piece result
