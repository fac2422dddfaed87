use Rattle.std.proofs.Common.{arith}
use Rattle.std.proofs.lemmas.Grind.{common_steps}
use Rattle.js_run.proofs.Runs.{takes_on, took_front}
use Rattle.js_run.proofs.program.write_all.Goals as goal

pub loop-done-preserved : goal.loop-done-preserved
loop-done-preserved g c = record {
  within = grind (arith, common_steps, c.in-Ok.ensures.fits);
  took = takes_on _ _ _ _ _ _ c.loop-done.invariant.took (grind (arith, common_steps, c.in-Ok.ensures.bytes));
  counts = omega arith;
}

pub returns-in-Err-clause-part : goal.returns-in-Err-clause-part
returns-in-Err-clause-part g c = took_front _ _ _ _ _ c.loop-done.invariant.took c.in-Err.ensures.bytes
