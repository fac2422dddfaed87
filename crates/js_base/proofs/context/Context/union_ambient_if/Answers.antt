use Rattle.js_base.proofs.ContextLemmas.{adds-flag}
use Rattle.js_base.proofs.context.Context.union_ambient_if.Goals as goal

pub returns : goal.returns
returns c = adds-flag 6 c.args.include c.args.self c.union_if.result c.union_if.ensures
