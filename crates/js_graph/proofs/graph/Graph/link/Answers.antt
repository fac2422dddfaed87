use Rattle.std.proofs.Common.{◌<◌, length, ap, ◌∙◌, sym, subst, List}
use Rattle.std.specs.Prelude.{slice_set}
use Rattle.std.proofs.lemmas.Result.{on_ok_weaker}
use Rattle.js_graph.specs.Modules.{Module, with_link}
use Rattle.js_graph.proofs.LinkLemmas.{module_put}
use Rattle.js_graph.proofs.graph.Graph.link.Goals as goal

pub returns-clause-ok : goal.returns-clause-ok
returns-clause-ok c =
    let ms : List Module = c.self.inside.modules.items in
    let within : c.args.module < length ms = subst (λ (v : List Module). c.args.module < length v) (sym c.self.view_is) c.requires.module_exists in
    on_ok_weaker c.link.result (λ e. ap (slice_set ms c.args.module) e ∙ module_put ms c.args.module c.args.request.now c.args.target c.index_mut.result.now within c.index_mut.ensures.value ∙ ap (λ v. with_link v c.args.module c.args.request.now c.args.target) c.self.view_is) c.link.ensures.ok
