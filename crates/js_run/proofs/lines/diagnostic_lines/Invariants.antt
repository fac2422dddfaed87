use Rattle.std.proofs.Common.{◌≡◌, take}
use Rattle.js_grammar.specs.Lines.{diagnostic_text}
use Rattle.js_run.proofs.lines.diagnostic_lines.Given as goal

abbrev pub invariant-loop-i : goal.invariant-loop-i
invariant-loop-i l = l.out.items ≡ diagnostic_text (take l.i l.found)
