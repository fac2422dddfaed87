use Rattle.std.proofs.Common.{◌≡◌, drop, length}
use Rattle.std.specs.Prelude.{chars}
use Rattle.js_parser.specs.FlagScans.{both_behind}
use Rattle.js_parser.specs.declared.flags.Read.TheVariants.{Nothing}
use Rattle.js_parser.proofs.flags.has_u_and_v.Given as goal

-- what was read and what is left tell what the whole does
abbrev pub invariant-loop-c : goal.invariant-loop-c
invariant-loop-c l = both_behind l.read (drop (length l.yielded) (chars l.literal)) ≡ both_behind Nothing (chars l.literal)
