use Rattle.std.proofs.Common.{[], ◌∷◌, ◌++◌, ap, ◌∙◌}
use Rattle.std.proofs.lemmas.Result.{on_ok_weaker}
use Rattle.js_record.proofs.TreeLemmas.{tree_below, import_call_is}
use Rattle.js_record.proofs.builder.ModuleRecordBuilderModuleVisits.visit_import_expression.Goals as goal

pub import_call_part-requires-clause-children : goal.import_call_part-requires-clause-children
import_call_part-requires-clause-children c = tree_below c.args.tree.now c.args.id c.requires

pub returns-clause-ok : goal.returns-clause-ok
returns-clause-ok c = on_ok_weaker c.keep.result (λ e l cs rs s. e ∙ ap (λ v. c.args.self.now ++ v ∷ []) (c.in_ok-visit.ensures ∙ import_call_is c.args.tree.now [] c.args.id.0 l cs rs s)) c.keep.ensures.ok
