use Rattle.std.proofs.Common.{inr, refl, sym, subst}
use Rattle.std.proofs.lemmas.Result.{IfOk-weaker}
use Rattle.std.specs.Prelude.{IfOk}
use Rattle.parse_shared.specs.js_cursor.Places.{goal as source}
use Rattle.parse_targets.specs.Taken.{PlaceTold}
use Rattle.parse_targets.specs.Targets.{Spotted, Fits}
use Rattle.parse_targets.specs.declared.widening.Widening.{Widening}
use Rattle.parse_targets.proofs.PlacesTold.{argument_marked, operator_marked}
use Rattle.parse_targets.proofs.widening.tell_place.Goals as goal

pub tell_comma-requires-clause-ended : goal.tell_comma-requires-clause-ended
tell_comma-requires-clause-ended g c = subst (λ (w : Widening). Fits c.args.p.now.text w) c.in-Rest.is c.requires.fits

pub tell_operator-requires-clause-mark : goal.tell_operator-requires-clause-mark
tell_operator-requires-clause-mark g c = operator_marked (source c.args.p.now) c.in-Operator.element (subst (λ (w : Widening). Spotted c.args.p.now.text w) c.in-Operator.is c.requires.spotted)

pub tell_rest_target-requires-clause-mark : goal.tell_rest_target-requires-clause-mark
tell_rest_target-requires-clause-mark g c = argument_marked (source c.args.p.now) c.in-RestTarget.argument (subst (λ (w : Widening). Spotted c.args.p.now.text w) c.in-RestTarget.is c.requires.spotted)

pub returns-in-RestTarget : goal.returns-in-RestTarget
returns-in-RestTarget g c = subst (λ (w : Widening). IfOk c.tell_rest_target.result (λ _. PlaceTold w c.args.p.now c.tell_rest_target.new.p)) (sym c.in-RestTarget.is) (IfOk-weaker c.tell_rest_target.result _ _ (λ x k. inr ((λ n. n), (_, refl, k))) c.tell_rest_target.ensures)

pub returns-in-Rest : goal.returns-in-Rest
returns-in-Rest g c = subst (λ (w : Widening). IfOk c.tell_comma.result (λ _. PlaceTold w c.args.p.now c.tell_comma.new.p)) (sym c.in-Rest.is) c.tell_comma.ensures

pub returns-in-Operator : goal.returns-in-Operator
returns-in-Operator g c = subst (λ (w : Widening). IfOk c.tell_operator.result (λ _. PlaceTold w c.args.p.now c.tell_operator.new.p)) (sym c.in-Operator.is) (IfOk-weaker c.tell_operator.result _ _ (λ x k. inr ((λ n. n), (_, refl, k))) c.tell_operator.ensures)
