-- How a history is recorded: what stands at each place in a map, and the changes in a list.
use Rattle.std.specs.Prelude.{ℕ, ◌≡◌, ◌≤◌, ◌<◌, ◌+◌, cond, List, [], ◌∷◌, Option, Some, None, IsSome, is_some, length, map}
use Rattle.std.specs.List.{All, count_by}
use Rattle.std.specs.Ordering.{nat_cmp}
use Rattle.std.specs.BTreeMap.{BTreeMap, get, values, Updates}
use Rattle.js_cursor.specs.declared.history.Change.{Change}
use Rattle.js_cursor.specs.Histories.{put, nowhere, standing}

module _ {V : Type 0} where
  abbrev pub steps : List (Change V) → List (ℕ × Option V)
  steps cs = map (λ (c : Change V). (c.place, c.value)) cs

  abbrev pub joined : Option (Option V) → Option V
  joined None = None
  joined (Some v) = v

  -- what the map says of a place
  abbrev pub found : BTreeMap ℕ (Option V) → ℕ → Option V
  found m k = joined (get nat_cmp m k)

  -- each change tells what stood there before
  abbrev pub Tells : (ℕ → Option V) → List (Change V) → Type 0
  Tells m [] = Unit {0}
  Tells m (c ∷ cs) = (c.before ≡ m c.place) × Tells (put c.place c.value m) cs

  -- 1 where something stands
  abbrev pub weight : Option V → ℕ
  weight v = cond (is_some v) 1 0

  -- how many places something stands at
  abbrev pub count : BTreeMap ℕ (Option V) → ℕ
  count m = count_by is_some (values m)

  -- each place fits 32 bits
  abbrev pub IsNarrow : BTreeMap ℕ (Option V) → Type 0
  IsNarrow m = (k : ℕ) → IsSome (get nat_cmp m k) → k < 4294967296

  pub record IsRecorded (m : BTreeMap ℕ (Option V)) (cs : List (Change V)) (room floor : ℕ) : Type 0 where
    pub stands : (k : ℕ) → found m k ≡ standing (steps cs) k
    pub tells : Tells nowhere cs
    pub known : All (λ (c : Change V). IsSome (get nat_cmp m c.place)) cs
    pub narrow : IsNarrow m
    pub has_room : length cs + count m ≤ room
    pub least : (k : ℕ) → IsSome (standing (steps cs) k) → floor ≤ k

  -- the first place from here on that the map knows, and what stands there
  abbrev pub NextFrom : BTreeMap ℕ (Option V) → ℕ → Option (ℕ × Option V) → Type 0
  NextFrom m from (Some e) = (from ≤ e.0) × (get nat_cmp m e.0 ≡ Some e.1) × ((q : ℕ) → from ≤ q → IsSome (get nat_cmp m q) → e.0 ≤ q)
  NextFrom m from None = (q : ℕ) → from ≤ q → get nat_cmp m q ≡ None

  -- something else stands at a place that the map knows
  pub record IsReplaced (m n : BTreeMap ℕ (Option V)) (k : ℕ) (v : Option V) : Type 0 where
    pub updates : Updates nat_cmp m n k (Some v)
    pub counts : count n + weight (found m k) ≡ count m + weight v

  -- the first place from here on at which something stands
  abbrev pub FirstFrom : BTreeMap ℕ (Option V) → ℕ → Option ℕ → Type 0
  FirstFrom m floor (Some k) = (floor ≤ k) × IsSome (found m k) × ((q : ℕ) → floor ≤ q → IsSome (found m q) → k ≤ q)
  FirstFrom m floor None = (q : ℕ) → floor ≤ q → found m q ≡ None
