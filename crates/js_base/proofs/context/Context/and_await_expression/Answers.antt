use Rattle.std.proofs.Common.{lit<}
use Rattle.js_base.proofs.ContextLemmas.{sets-flag}
use Rattle.js_base.proofs.context.Context.and_await_expression.Goals as goal

pub returns : goal.returns
returns c = sets-flag 9 c.args.include c.args.self c.and.result (lit< tt) c.and.ensures.small c.and.ensures.bits
