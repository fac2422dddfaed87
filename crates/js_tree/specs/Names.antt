-- Names that are kept by number.
use Rattle.std.specs.Prelude.{ℕ, ◌==◌, List, Option, Some, None, if◌then◌else◌}
use Rattle.std.specs.Ordering.{nat_cmp}
use Rattle.std.specs.BTreeMap.{BTreeMap, get}

-- the name of a number, once a name was kept for one of them, or none was
abbrev pub kept_name : BTreeMap ℕ (List ℕ) → ℕ → Option (List ℕ) → ℕ → Option (List ℕ)
kept_name names number None i = get nat_cmp names i
kept_name names number (Some name) i = if i == number then Some name else get nat_cmp names i
