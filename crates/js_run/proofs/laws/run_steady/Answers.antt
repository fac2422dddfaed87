use Rattle.std.proofs.Common.{refl}
use Rattle.js_run.proofs.Runs.{no_read_fault}
use Rattle.js_run.proofs.laws.run_steady.Goals as goal

pub returns-clause-cause : goal.returns-clause-cause
returns-clause-cause g c = c.run.ensures.cause

pub returns-clause-words : goal.returns-clause-words
returns-clause-words g c = c.run.ensures.words

pub returns-clause-no_read_fault : goal.returns-clause-no_read_fault
returns-clause-no_read_fault g c = no_read_fault c.run.result _ _ refl refl c.run.ensures.cause
