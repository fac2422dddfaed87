-- What a parse is asked for beside its goal, and under which parameters the whole of a text is read.
use Rattle.std.specs.Prelude.{Bool, true, false, ◌||◌}
use Rattle.js_grammar.specs.Settings.{Goal, script, module_goal, commonjs, unambiguous, Settings}
use Rattle.js_grammar.specs.Productions.{Flags}

pub record Options : Type 0 where
  -- `return` may stand outside functions
  pub allow_return : Bool
  -- an expression in parentheses has a node for them
  pub preserve_parens : Bool
  -- calls of V8's own functions are read
  pub allow_v8 : Bool

abbrev pub options_of : Settings → Options
options_of s = record { allow_return = s.allow_return; preserve_parens = s.preserve_parens; allow_v8 = s.allow_v8 }

abbrev pub is_module : Goal → Bool
is_module module_goal = true
is_module _ = false

abbrev pub is_commonjs : Goal → Bool
is_commonjs commonjs = true
is_commonjs _ = false

-- Script (16.1) has no Await; Module (16.2) has it. A CommonJS text is the body of a function: `return` and `new.target` may stand in it.
abbrev pub program_flags : Goal → Options → Flags
program_flags goal o = record { in_ = true; yield_ = false; await_ = is_module goal; awaits = is_module goal; return_ = is_commonjs goal || o.allow_return; new_target = is_commonjs goal; module_goal = is_module goal; v8 = o.allow_v8; cover = false; wide = false }

-- The goal at which a text is read: an unambiguous one as a script, since what shows a module isn't read yet.
abbrev pub read_at : Goal → Goal
read_at unambiguous = script
read_at goal = goal
