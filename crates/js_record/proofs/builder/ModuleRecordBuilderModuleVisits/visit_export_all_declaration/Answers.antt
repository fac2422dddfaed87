use Rattle.std.proofs.Common.{[], ◌∷◌, ◌++◌, ap, ◌∙◌}
use Rattle.std.proofs.lemmas.Result.{on_ok_weaker}
use Rattle.js_record.proofs.TreeLemmas.{read_near, export_all_is}
use Rattle.js_record.proofs.builder.ModuleRecordBuilderModuleVisits.visit_export_all_declaration.Goals as goal

pub export_all_part-requires-clause-near : goal.export_all_part-requires-clause-near
export_all_part-requires-clause-near c = read_near c.args.tree.now c.args.source.now c.args.id c.requires

pub returns-clause-ok : goal.returns-clause-ok
returns-clause-ok c = on_ok_weaker c.keep.result (λ e l cs rs s. e ∙ ap (λ v. c.args.self.now ++ v ∷ []) (c.in_ok-visit.ensures ∙ export_all_is c.args.tree.now c.args.source.now c.args.id.0 l cs rs s)) c.keep.ensures.ok
