use Rattle.std.proofs.Common.{◌++◌, ◌∷◌, [], ◌<◌, ℕ, List, Vec, Global, ap, subst, sym, ◌∙◌}
use Rattle.js_parser.proofs.ClauseKeys.{unit_more, unit_there}
use Rattle.js_parser.proofs.key_value.KeyValue.of_string.Goals.{in-Some+in_ok-push, in_default}
use Rattle.js_parser.proofs.key_value.KeyValue.of_string.Goals as goal

pub loop-i-preserved : goal.loop-i-preserved
loop-i-preserved c = elim c.match-unit.branch [
  | in-Some+in_ok-push w ↦ ap (λ (v : Vec ℕ Global). v.items) w.units-is ∙ w.in_ok-push.ensures.items ∙ ap (λ (us : List ℕ). us ++ w.in-Some.unit ∷ []) c.loop-i.invariant ∙ unit_more c.args.string.now c.loop-i.i w.in-Some.unit (sym w.in-Some.is ∙ c.unit.ensures)
  | in_default w ↦ absurd (unit_there c.args.string.now c.loop-i.i (subst (λ (n : ℕ). c.loop-i.i < n) c.len-i-end.ensures c.loop-i-test.true) (sym w.in_default.is ∙ c.unit.ensures))
]
