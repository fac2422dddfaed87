use Rattle.std.proofs.Common.{ap, arith, sym, subst}
use Rattle.parse_shared.specs.js_cursor.Parsers.{Parser}
use Rattle.js_grammar.specs.Productions.{at, Assignment}
use Rattle.parse_shared.specs.laws_shared.Answers.{Answers}
use Rattle.parse_shared.specs.laws_shared.Nesting.{room}
use Rattle.parse_shared.specs.laws_shared.States.{Standing}
use Rattle.parse_shared.proofs.laws_shared.Nesting.{nests_later}
use Rattle.laws_operators.specs.HeadOperands.{TellsOperand}
use Rattle.laws_operators.proofs.ClosedOperands.{closed_answers, closed_operand, none_closed, some_closed}
use Rattle.parse_operators.proofs.assignment.parse_assignment_expression.Goals as goal

pub returns-in-Some-clause-answers : goal.returns-in-Some-clause-answers
returns-in-Some-clause-answers g c = let t = some_closed c.parse_closed_operand.new.p _ _ c.in-Some.is c.in_ok-operand.ensures in closed_answers t.0 t.1 c.requires.at

pub returns-in-Some-clause-operand : goal.returns-in-Some-clause-operand
returns-in-Some-clause-operand g c = let t = some_closed c.parse_closed_operand.new.p _ _ c.in-Some.is c.in_ok-operand.ensures in closed_operand t.0 t.1

pub parse_any_assignment-requires-clause-at : goal.parse_any_assignment-requires-clause-at
parse_any_assignment-requires-clause-at g c = subst (λ (v : Parser). Standing v) (sym (none_closed c.parse_closed_operand.new.p _ c.in_default.is c.in_ok-operand.ensures)) c.requires.at

pub parse_any_assignment-requires-clause-nests : goal.parse_any_assignment-requires-clause-nests
parse_any_assignment-requires-clause-nests g c = nests_later c.requires.nests (let e = ap room (none_closed c.parse_closed_operand.new.p _ c.in_default.is c.in_ok-operand.ensures) in omega arith)

pub returns-clause-answers : goal.returns-clause-answers
returns-clause-answers g c = subst (λ (v : Parser). Answers (at Assignment) v c.parse_any_assignment.new.p c.parse_any_assignment.result) (none_closed c.parse_closed_operand.new.p _ c.in_default.is c.in_ok-operand.ensures) c.parse_any_assignment.ensures.answers

pub returns-clause-operand : goal.returns-clause-operand
returns-clause-operand g c = subst (λ (v : Parser). TellsOperand v c.parse_any_assignment.new.p c.parse_any_assignment.result) (none_closed c.parse_closed_operand.new.p _ c.in_default.is c.in_ok-operand.ensures) c.parse_any_assignment.ensures.operand
