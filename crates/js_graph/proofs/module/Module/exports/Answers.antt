use Rattle.std.proofs.Common.{sym, ◌∙◌}
use Rattle.js_graph.proofs.NameLemmas.{exports_here, exports_there}
use Rattle.js_graph.proofs.module.Module.exports.Goals as goal

pub returns-then-is_some : goal.returns-then-is_some
returns-then-is_some c = c.if-is_some.true ∙ exports_here c.args.self.now.module_record c.args.name.now c.local_export.result c.local_export.ensures (sym c.is_some.ensures ∙ c.if-is_some.true)

pub returns-else-is_some : goal.returns-else-is_some
returns-else-is_some c = c.is_some-else-is_some.ensures ∙ exports_there c.args.self.now.module_record c.args.name.now c.local_export.result c.indirect_export.result c.local_export.ensures (sym c.is_some.ensures ∙ c.if-is_some.false) c.indirect_export.ensures
