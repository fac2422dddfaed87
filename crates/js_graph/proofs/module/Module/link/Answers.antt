use Rattle.std.proofs.Common.{List, ℕ, ap, ◌∙◌}
use Rattle.js_graph.specs.Modules.{Module, linked}
use Rattle.js_graph.proofs.LinkLemmas.{target_put}
use Rattle.js_graph.proofs.module.Module.link.Goals as goal

pub returns-clause-ok : goal.returns-clause-ok
returns-clause-ok c =
    let with_targets : List (List ℕ × ℕ) → Module = λ ts. record { module_record = c.self.inside.module_record; targets = ts } in
    ap with_targets (c.in_ok-insert.ensures.entries ∙ target_put c.self.inside.targets.entries c.in_ok-request.request c.args.target)
    ∙ ap (λ v. linked (with_targets c.self.inside.targets.entries) v c.args.target) c.in_ok-request.ensures
    ∙ ap (λ v. linked v c.args.request.now c.args.target) c.self.view_is
