use Rattle.std.proofs.Common.{List, ℕ, ap, ◌∙◌, subst}
use Rattle.js_graph.specs.Collecting.{AreSorted, taken_from}
use Rattle.js_graph.proofs.NameLemmas.{are_star_names}
use Rattle.js_graph.proofs.names.star_names.Goals as goal

pub returns : goal.returns
returns c =
    let g = c.args.modules.now.items in
    let first = c.index.result.now in
    are_star_names g c.args.number first c.requires c.index.ensures c.in_ok-reached.reached.keys c.sort_names.new.names.items c.in_ok-reached.ensures
    (subst (λ (v : List (List ℕ)). AreSorted v c.sort_names.new.names.items) (c.in_ok-names.ensures ∙ ap (taken_from g first) c.as_slice.ensures.keys) c.sort_names.ensures)
