use Rattle.std.proofs.Common.{◌≡◌, take}
use Rattle.js_parser.proofs.key_value.KeyValue.of_string.Given as goal

-- those so far are there
abbrev pub invariant-loop-i : goal.invariant-loop-i
invariant-loop-i l = l.units.items ≡ take l.i l.string
