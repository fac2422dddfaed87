use Rattle.std.proofs.Common.{◌∙◌}
use Rattle.js_base.proofs.ContextLemmas.{contains-flag}
use Rattle.js_base.proofs.context.Context.has_await_expression.Goals as goal

pub returns : goal.returns
returns c = c.contains.ensures tt ∙ contains-flag c.args.self.0 9
