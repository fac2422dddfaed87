use Rattle.std.proofs.Common.{◌≡◌, ◌++◌, take}
use Rattle.std.specs.List.{flat_map}
use Rattle.js_grammar.specs.RecordLines.{binding_line}
use Rattle.js_record.proofs.lines.write_bindings.Given as goal

-- the lines of the members so far stand behind the others
abbrev pub invariant-loop-i : goal.invariant-loop-i
invariant-loop-i l = l.out.items ≡ l.initial.out.items ++ flat_map binding_line (take l.i l.bindings.entries)
