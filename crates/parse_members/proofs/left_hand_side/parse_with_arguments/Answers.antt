use Rattle.std.proofs.Common.{◌∙◌, ◌∷◌, ◌++◌, [], Bool, List, Option, Some, ap, arith, subst}
use Rattle.parse_shared.specs.js_tree.declared.id.NodeId.{NodeId}
use Rattle.parse_shared.specs.laws_shared.Arguments.{Arguments}
use Rattle.parse_members.proofs.left_hand_side.parse_with_arguments.Goals as goal

pub make_with_arguments-requires-clause-start : goal.make_with_arguments-requires-clause-start
make_with_arguments-requires-clause-start t c = let x = c.in_ok-arguments.ensures _ _ c.requires.at in let a = x.further in let b = c.requires.at.behind in let s = c.requires.start in omega arith

pub returns : goal.returns
returns t c = record {
  behind = c.parse_call_arguments.new.p;
  children = c.in_ok-arguments.arguments.items;
  arguments = subst (λ (b : Bool). Arguments b (Some c.args.callee ∷ []) c.in_ok-arguments.arguments.items c.args.p.now c.parse_call_arguments.new.p) c.takes_spreads.ensures (subst (λ (ids : List (Option NodeId)). Arguments c.takes_spreads.result ids c.in_ok-arguments.arguments.items c.args.p.now c.parse_call_arguments.new.p) (c.in_ok-push.ensures.items ∙ ap (λ (ids : List (Option NodeId)). ids ++ Some c.args.callee ∷ []) c.new-children.ensures.items) c.in_ok-arguments.ensures);
  made = c.in_ok-node.ensures;
}
