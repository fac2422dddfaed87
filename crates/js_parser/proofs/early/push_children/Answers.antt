use Rattle.std.proofs.Common.{◌≡◌, ◌++◌, List, subst, ◌∙◌}
use Rattle.std.specs.Prelude.{OnOk}
use Rattle.std.proofs.lemmas.List.{take_rest}
use Rattle.js_parser.specs.Broken.{pending_alike}
use Rattle.js_parser.specs.declared.early.Pending.{Pending}
use Rattle.js_parser.proofs.Broken.{pushed}
use Rattle.js_parser.proofs.early.push_children.Goals as goal

pub returns : goal.returns
returns c =
    let behind = c.in_ok-push_alike.ensures ∙ (λ i. c.args.stack.now.items ++ pending_alike (c.past.ensures i) c.args.below (take_rest c.args.slots.now c.first_end-end.result i)) in
    subst (λ (v : List Pending). OnOk c.push_alike-2.result (c.push_alike-2.new.stack.items ≡ v)) (pushed c.args.first c.args.below c.first_end-end.result c.args.slots.now c.args.stack.now.items c.push_alike.new.stack.items c.first_end-end.ensures.is behind) c.push_alike-2.ensures
