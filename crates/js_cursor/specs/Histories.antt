-- Values by place, as the list of the changes that made them.
use Rattle.std.specs.Prelude.{ℕ, ◌≡◌, ◌≤◌, ◌<◌, ◌==◌, cond, List, [], ◌∷◌, ◌++◌, Option, Some, None, IsSome, is_some}

module _ {V : Type 0} where
  abbrev pub nowhere : ℕ → Option V
  nowhere k = None

  -- this stands at the place k, and elsewhere what m says
  abbrev pub put : ℕ → Option V → (ℕ → Option V) → ℕ → Option V
  put k v m q = cond (k == q) v (m q)

  -- what stands at a place after some changes, each a place and what stands there from it on
  abbrev pub after : (ℕ → Option V) → List (ℕ × Option V) → ℕ → Option V
  after m [] = m
  after m (c ∷ cs) = after (put c.0 c.1 m) cs

  abbrev pub standing : List (ℕ × Option V) → ℕ → Option V
  standing cs = after nowhere cs

  -- everything stands before this place
  abbrev pub StandBefore : List (ℕ × Option V) → ℕ → Type 0
  StandBefore cs i = (k : ℕ) → IsSome (standing cs k) → k < i

  -- what stands at the place is taken out, where something does
  abbrev pub without : List (ℕ × Option V) → ℕ → List (ℕ × Option V)
  without cs k = cond (is_some (standing cs k)) (cs ++ (k, None) ∷ []) cs

  -- something stands at k, and nowhere below
  pub record IsLeast (cs : List (ℕ × Option V)) (k : ℕ) : Type 0 where
    pub stands : IsSome (standing cs k)
    pub least : (q : ℕ) → IsSome (standing cs q) → k ≤ q

  -- What stands at the least place was taken out; nothing stands anywhere where nothing was.
  abbrev pub Pops : List (ℕ × Option V) → List (ℕ × Option V) → Option V → Type 0
  Pops old new (Some v) = (k : ℕ) × IsLeast old k × (standing old k ≡ Some v) × (new ≡ old ++ (k, None) ∷ [])
  Pops old new None = ((q : ℕ) → standing old q ≡ None) × (new ≡ old)
