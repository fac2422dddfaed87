-- The texts that a run takes, and what its two ends tell of it.
use Rattle.std.specs.Prelude.{ℕ, ◌≡◌, ◌≤◌, ◌<◌, ◌-◌, ◌^◌, ◌⊎◌, List, length, Option}
use Rattle.std.specs.Str.{IsUtf8}

-- the greatest number of bytes of a text
abbrev pub limit : ℕ
limit = 67108864

-- The bytes are a text that is short enough.
pub record IsText (text : List ℕ) : Type 0 where
  pub short : length text ≤ limit
  pub utf8 : IsUtf8 text

-- the last value of a count
abbrev pub last : ℕ
last = 2 ^ 64 - 1

-- A fault was counted, from one count to another, or the count stood at its last value.
abbrev pub CountsFault : ℕ → ℕ → Type 0
CountsFault before after = (before < after) ⊎ (before ≡ last)

-- What the ends of a run tell: the source's bytes and faults at first and in the end, the sink's bytes and faults at first and in the end.
pub record Told : Type 0 where
  pub given : Option (List ℕ)
  pub left : Option (List ℕ)
  pub read_faults : ℕ
  pub read_faults_after : ℕ
  pub before : Option (List ℕ)
  pub after : Option (List ℕ)
  pub write_faults : ℕ
  pub write_faults_after : ℕ
