-- The flags that a number stands for: each is a bit of it, the first the lowest.
use Rattle.std.specs.Prelude.{ℕ, zero, suc, ◌/◌, ◌%◌, ◌==◌, Bool}
use Rattle.js_tree.specs.declared.flags.NodeFlags.{NodeFlags}

abbrev pub low : ℕ → Bool
low n = n % 2 == 1

-- the number without its lowest bits
abbrev pub above : ℕ → ℕ → ℕ
above zero n = n
above (suc k) n = above k (n / 2)

abbrev pub flag : ℕ → ℕ → Bool
flag k n = low (above k n)

unfoldable pub flags_of : ℕ → NodeFlags
flags_of n = record { prefix = flag 0 n; optional = flag 1 n; computed = flag 2 n; shorthand = flag 3 n; method = flag 4 n; is_async = flag 5 n; generator = flag 6 n; delegate = flag 7 n; is_static = flag 8 n; is_await = flag 9 n; tail = flag 10 n; bare = flag 11 n; pure = flag 12 n; pife = flag 13 n }
