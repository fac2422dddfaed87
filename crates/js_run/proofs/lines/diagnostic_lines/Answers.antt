use Rattle.std.proofs.Common.{sym, arith, add-one}
use Rattle.js_run.proofs.DiagnosticLines.{diagnostics_more, diagnostics_within}
use Rattle.js_run.proofs.lines.diagnostic_lines.Goals as goal
use Rattle.js_run.proofs.lines.diagnostic_lines.Goals.{in-Some+in_ok-write_diagnostic, in_default}

pub loop-i-preserved : goal.loop-i-preserved
loop-i-preserved c = elim c.match-get.branch [ in-Some+in_ok-write_diagnostic w ↦ rw (w.out-is, w.in_ok-write_diagnostic.ensures, c.loop-i.invariant, add-one) (sym (diagnostics_more c.args.found.now c.loop-i.i _ (sym w.in-Some.ensures))) | in_default w ↦ absurd (diagnostics_within c.args.found.now c.loop-i.i (omega (arith, c.len-i-end.ensures)) (sym w.in_default.ensures)) ]
