use Rattle.std.proofs.Common.{◌∙◌, List, [], ◌∷◌, ◌++◌, Option, ap}
use Rattle.std.proofs.lemmas.Result.{err_from_is_err_and}
use Rattle.parse_shared.specs.js_tree.declared.id.NodeId.{NodeId}
use Rattle.parse_shared.proofs.laws_shared.Moving.{standing, stops_so}
use Rattle.parse_shared.proofs.laws_shared.Nesting.{later_room, nests_later}
use Rattle.laws_statements.proofs.ForHeads.{head_answers, no_head_from}
use Rattle.parse_control.proofs.for_statement.parse_for_head.Goals as goal

pub returns-in_err-first : goal.returns-in_err-first
returns-in_err-first g c =
    let p = err_from_is_err_and c.from_residual.result c.from_residual.ensures.1 in
    rw (p.1, p.2) (λ text f a. stops_so _ _ _ (λ n d. no_head_from f c.args.is_await d (n d)) (c.in_err-first.ensures text f a))

pub parse_head_rest-requires-clause-at : goal.parse_head_rest-requires-clause-at
parse_head_rest-requires-clause-at g c = standing (c.in_ok-first.ensures _ _ c.requires.at).at

pub parse_head_rest-requires-clause-nests : goal.parse_head_rest-requires-clause-nests
parse_head_rest-requires-clause-nests g c = nests_later c.requires.nests (let x = c.in_ok-first.ensures _ _ c.requires.at in later_room x.forward x.same)

pub returns : goal.returns
returns g c = head_answers _ _ _ c.parse_head_rest.result (c.in_ok-push.ensures.items ∙ ap (λ (is : List (Option NodeId)). is ++ c.in_ok-first.first ∷ []) c.requires.none) c.in_ok-first.ensures c.parse_head_rest.ensures
