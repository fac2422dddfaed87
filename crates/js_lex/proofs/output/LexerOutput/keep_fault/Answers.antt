use Rattle.js_lex.proofs.Keeping.{faults_on_err}
use Rattle.js_lex.proofs.output.LexerOutput.keep_fault.Goals as goal

pub returns-clause-err : goal.returns-clause-err
returns-clause-err c = faults_on_err c.push.result c.args.self.now c.push.new.self c.push.ensures.err
