use Rattle.std.proofs.Common.{[], ◌∷◌, ◌++◌, ap, ◌∙◌}
use Rattle.std.proofs.lemmas.Result.{on_ok_weaker}
use Rattle.js_record.proofs.TreeLemmas.{read_deep, export_default_is}
use Rattle.js_record.proofs.builder.ModuleRecordBuilderModuleVisits.visit_export_default_declaration.Goals as goal

pub export_default_part-requires-clause-deep : goal.export_default_part-requires-clause-deep
export_default_part-requires-clause-deep c = read_deep c.args.tree.now c.args.source.now c.args.id c.requires

pub returns-clause-ok : goal.returns-clause-ok
returns-clause-ok c = on_ok_weaker c.keep.result (λ e l cs rs s. e ∙ ap (λ v. c.args.self.now ++ v ∷ []) (c.in_ok-visit.ensures ∙ export_default_is c.args.tree.now c.args.source.now c.args.default_keyword_span c.args.id.0 l cs rs s)) c.keep.ensures.ok
