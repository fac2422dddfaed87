-- Sets of grammar parameters (ECMA-262, 5.1.5), by the bits that stand for them.
use Rattle.std.specs.Prelude.{ℕ, Bool, ◌≡◌, ◌≢◌, ◌==◌, ◌&&◌, ◌||◌}
use Rattle.std.specs.Int.{bit_at}
use Rattle.js_base.specs.declared.context.Context.{Context}

-- the bits of a set
abbrev pub bits_of : Context → ℕ
bits_of c = c.0

-- the flag of a number is the bit of this number: In is 1, Yield 2, Await 4 and so on
abbrev pub in_flag : ℕ
in_flag = 0

abbrev pub yield_flag : ℕ
yield_flag = 1

abbrev pub await_flag : ℕ
await_flag = 2

abbrev pub return_flag : ℕ
return_flag = 3

abbrev pub decorator_flag : ℕ
decorator_flag = 4

abbrev pub disallow_conditional_types_flag : ℕ
disallow_conditional_types_flag = 5

abbrev pub ambient_flag : ℕ
ambient_flag = 6

abbrev pub top_level_flag : ℕ
top_level_flag = 7

abbrev pub new_target_flag : ℕ
new_target_flag = 8

abbrev pub await_expression_flag : ℕ
await_expression_flag = 9

-- whether a set has the flag of a number
abbrev pub has_flag : ℕ → Context → Bool
has_flag k c = bit_at (bits_of c) k == 1

-- `await` is no name, and it is an operator
abbrev pub reads_await : Context → Bool
reads_await c = has_flag await_flag c && has_flag await_expression_flag c

-- one flag has the value, and every other flag stays
pub record SetsFlag (k : ℕ) (value : Bool) (old new : Context) : Type 0 where
  pub flag : has_flag k new ≡ value
  pub others : (j : ℕ) → j ≢ k → has_flag j new ≡ has_flag j old

-- one flag is added where the value is true, and every other flag stays
pub record AddsFlag (k : ℕ) (value : Bool) (old new : Context) : Type 0 where
  pub flag : has_flag k new ≡ (value || has_flag k old)
  pub others : (j : ℕ) → j ≢ k → has_flag j new ≡ has_flag j old
