use Rattle.std.proofs.Common.{◌≡◌, ◌<◌, ◌≤◌, List, [], ◌∷◌, ℕ, length, sym, ap, ◌∙◌, subst, arith}
use Rattle.std.specs.Prelude.{nat_eq}
use Rattle.indexmap.specs.IndexSet.{insert_key}
use Rattle.js_graph.specs.Names.{stars_at}
use Rattle.js_graph.proofs.PathLemmas.{AreFollowed, none_followed}
use Rattle.js_graph.proofs.NameLemmas.{next_star, all_stars}
use Rattle.js_graph.proofs.names.star_modules.Goals as goal

pub loop-done-init : goal.loop-done-init
loop-done-init c =
    let g = c.args.modules.now.items in
    let first : c.insert.new.self.keys ≡ c.args.number ∷ [] = c.in_ok-insert.ensures.keys ∙ ap (λ v. insert_key nat_eq v c.args.number) c.new-reached.ensures.empty in
    subst (λ (v : List ℕ). AreFollowed (stars_at g) c.args.number v 0) (sym first) (none_followed (stars_at g) c.args.number)

pub loop-done-preserved : goal.loop-done-preserved
loop-done-preserved c =
    let within : c.loop-done.done < length c.loop-done.reached.keys = omega arith in
    next_star c.args.modules.now.items c.args.number c.loop-done.reached.keys c.reach_next.new.reached.keys c.loop-done.done c.loop-done.invariant within c.in_ok-reach_next.ensures

pub returns : goal.returns
returns c =
    let past : length c.loop-done.reached.keys ≤ c.loop-done.done = omega arith in
    all_stars c.args.modules.now.items c.args.number c.loop-done.reached.keys c.loop-done.done c.loop-done.invariant past
