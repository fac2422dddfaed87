use Rattle.std.proofs.Common.{◌≡◌, ◌++◌, take}
use Rattle.std.specs.List.{flat_map}
use Rattle.js_grammar.specs.RecordLines.{request_line}
use Rattle.js_record.proofs.lines.write_modules.Given as goal

-- the lines of the members so far stand behind the others
abbrev pub invariant-loop-i : goal.invariant-loop-i
invariant-loop-i l = l.out.items ≡ l.initial.out.items ++ flat_map (λ e. flat_map request_line e.1) (take l.i l.modules.entries)
