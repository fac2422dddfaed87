-- Parameters of productions that parse functions set (ECMA-262, 5.1.5).
use Rattle.std.specs.Prelude.{ℕ, ◌≡◌, ◌≢◌, ◌||◌, Bool, true, false}
use Rattle.js_base.specs.declared.context.Context.{Context}
use Rattle.js_base.specs.Contexts.{has_flag, reads_await, in_flag, yield_flag, await_flag, await_expression_flag, return_flag, new_target_flag}
use Rattle.js_grammar.specs.Productions.{Flags}

-- The parameters under which the parameters of an arrow function are read; with a, of an asynchronous one: there `await` is no name, and an operator where it is one around them.
abbrev pub arrow_head : Bool → Flags → Flags
arrow_head a f = record f { await_ = f.await_ || a }

-- those under which an arrow function's body is read
abbrev pub arrow_body : Bool → Flags → Flags
arrow_body a f = record f { yield_ = false; await_ = a; awaits = a }

-- and those of one in braces
abbrev pub braced_body : Bool → Flags → Flags
braced_body a f = record (arrow_body a f) { in_ = true; return_ = true }

-- `await` is an operator and no name, or a name and no operator; every other flag stays
pub record SetsAwait (value : Bool) (old new : Context) : Type 0 where
  pub flag : has_flag await_flag new ≡ value
  pub reads : reads_await new ≡ value
  pub others : (j : ℕ) → j ≢ await_flag → j ≢ await_expression_flag → has_flag j new ≡ has_flag j old

-- from what is in force around an asynchronous arrow function to what is in its parameters: `await` is no name, and an operator where it was one; every other flag stays
pub record EntersAsyncHead (old new : Context) : Type 0 where
  pub flag : has_flag await_flag new ≡ true
  pub reads : reads_await new ≡ reads_await old
  pub others : (j : ℕ) → j ≢ await_flag → j ≢ await_expression_flag → has_flag j new ≡ has_flag j old

-- from what is in force around a method to what is in its parameters; it is asynchronous or not, and a generator or not (ECMA-262, 15.4, 15.5, 15.6, 15.8)
pub record EntersMethod (asynchronous generator : Bool) (old new : Context) : Type 0 where
  pub allows_in : has_flag in_flag new ≡ true
  pub allows_yield : has_flag yield_flag new ≡ generator
  pub allows_await : has_flag await_flag new ≡ asynchronous
  pub awaits : reads_await new ≡ asynchronous
  pub allows_new_target : has_flag new_target_flag new ≡ true
  pub returns_same : has_flag return_flag new ≡ has_flag return_flag old
