use Rattle.std.proofs.Common.{◌≡◌}
use Rattle.js_base.specs.part_text.Escapes.{code_units}
use Rattle.js_parser.proofs.key_value.KeyValue.of_name.Given as goal

-- those of the characters so far are there
abbrev pub invariant-loop-c : goal.invariant-loop-c
invariant-loop-c l = l.units.items ≡ code_units l.yielded
