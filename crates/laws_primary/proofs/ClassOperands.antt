-- A ClassExpression as an operand (ECMA-262, 13.2, 15.7), with decorators before it or none.
use Rattle.std.proofs.Common.{ℕ, ◌≡◌, List, true, refl}
use Rattle.std.specs.Prelude.{Result}
use Rattle.js_base.specs.Kinds.{one_of_kinds}
use Rattle.js_grammar.specs.Productions.{Flags, at, ClassExpr, Primary}
use Rattle.js_grammar.specs.Table.{rule, rule_of}
use Rattle.js_grammar.proofs.Looks.{apart, covers}
use Rattle.laws_shared.specs.js_tree.declared.id.NodeId.{NodeId}
use Rattle.laws_shared.specs.js_cursor.Parsers.{Parser}
use Rattle.laws_shared.specs.js_cursor.declared.stop.Stop.{Stop}
use Rattle.laws_shared.specs.Answers.{Outcome}
use Rattle.laws_shared.specs.States.{At}
use Rattle.laws_shared.proofs.Paths.{at_kinds}
use Rattle.laws_shared.proofs.Phrases.{lift_result}
use Rattle.laws_primary.specs.Decorators.{class_kinds}
use Rattle.laws_primary.proofs.Operands.{behind_primary}

pub class_operand : {text : List ℕ} {f : Flags} {p : Parser} → At text f p → one_of_kinds class_kinds p.token.kind ≡ true → (q : Parser) (r : Result NodeId Stop) → Outcome text f (at ClassExpr f) p q r → Outcome text f (at Primary f) p q r
unfolding rule rule_of covers apart
class_operand {text} {f} {p} a h q r x = lift_result (at Primary f) (at ClassExpr f) refl refl text f p q r (at_kinds a class_kinds refl h) (λ i y. y.answer.row) (λ i y z l. behind_primary f.in_ y.answer.label y.answer.slots text q.prev_token_end z l) x
