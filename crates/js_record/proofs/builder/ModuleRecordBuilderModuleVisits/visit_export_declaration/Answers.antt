use Rattle.std.proofs.Common.{[], ◌∷◌, ◌++◌, ap, ◌∙◌}
use Rattle.std.proofs.lemmas.Result.{on_ok_weaker}
use Rattle.js_record.proofs.builder.ModuleRecordBuilderModuleVisits.visit_export_declaration.Goals as goal

pub returns-clause-ok : goal.returns-clause-ok
returns-clause-ok c = on_ok_weaker c.keep.result (λ e l cs rs s. e ∙ ap (λ v. c.args.self.now ++ v ∷ []) (c.in_ok-visit.ensures l cs rs s)) c.keep.ensures.ok
