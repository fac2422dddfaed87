use Rattle.std.proofs.Common.{subst, inl, inr}
use Rattle.parse_shared.specs.laws_shared.declared.nested.Nonterminal.{Nonterminal}
use Rattle.parse_shared.specs.laws_shared.Nesting.{Ready}
use Rattle.parse_shared.proofs.laws_shared.Deeper.{ready_at}
use Rattle.js_core.proofs.parse.parse_nonterminal.Goals as goal

pub returns-in-Assignment : goal.returns-in-Assignment
returns-in-Assignment t c = elim c.in-Assignment.is [
  | inl e ↦ rw e c.parse_assignment_expression.ensures.answers
  | inr e ↦ rw e c.parse_assignment_expression.ensures.answers
]

pub returns-in-Unary : goal.returns-in-Unary
returns-in-Unary t c = rw (c.in-Unary.is) c.parse_unary_expression_or_higher.ensures

pub returns-in-Exponentiation : goal.returns-in-Exponentiation
returns-in-Exponentiation t c = rw (c.in-Exponentiation.is) c.parse_exponentiation.ensures

pub returns-in-Expression : goal.returns-in-Expression
returns-in-Expression t c = rw (c.in-Expression.is) c.parse_sequence_expression.ensures.answers

pub returns-in-Binding : goal.returns-in-Binding
returns-in-Binding t c = rw (c.in-Binding.is) c.parse_binding_pattern.ensures

pub returns-in-Statement : goal.returns-in-Statement
returns-in-Statement t c = rw (c.in-Statement.is) c.parse_statement.ensures

pub returns-in-ListItem : goal.returns-in-ListItem
returns-in-ListItem t c = rw (c.in-ListItem.is) c.parse_statement_list_item.ensures

pub returns-in-Body : goal.returns-in-Body
returns-in-Body t c = rw (c.in-Body.is) c.parse_body.ensures

pub returns-in-Params : goal.returns-in-Params
returns-in-Params t c = rw (c.in-Params.is) c.parse_parameters.ensures

pub parse_parameters-requires-clause-at : goal.parse_parameters-requires-clause-at
parse_parameters-requires-clause-at t c = ready_at c.args.what c.requires.at

pub returns-in-MethodParameters : goal.returns-in-MethodParameters
returns-in-MethodParameters t c = rw (c.in-MethodParameters.is) c.parse_parameters_of_method.ensures

pub parse_parameters_of_method-requires-clause-at : goal.parse_parameters_of_method-requires-clause-at
parse_parameters_of_method-requires-clause-at t c = ready_at c.args.what c.requires.at

pub parse_sequence_expression-requires-clause-at : goal.parse_sequence_expression-requires-clause-at
parse_sequence_expression-requires-clause-at t c = ready_at c.args.what c.requires.at

pub parse_assignment_expression-requires-clause-at : goal.parse_assignment_expression-requires-clause-at
parse_assignment_expression-requires-clause-at t c = ready_at c.args.what c.requires.at

pub parse_unary_expression_or_higher-requires-clause-at : goal.parse_unary_expression_or_higher-requires-clause-at
parse_unary_expression_or_higher-requires-clause-at t c = ready_at c.args.what c.requires.at

pub parse_exponentiation-requires-clause-at : goal.parse_exponentiation-requires-clause-at
parse_exponentiation-requires-clause-at t c = ready_at c.args.what c.requires.at

pub parse_binding_pattern-requires-clause-at : goal.parse_binding_pattern-requires-clause-at
parse_binding_pattern-requires-clause-at t c = ready_at c.args.what c.requires.at

pub parse_statement-requires-clause-at : goal.parse_statement-requires-clause-at
parse_statement-requires-clause-at t c = ready_at c.args.what c.requires.at

pub parse_statement-requires-clause-allows_in : goal.parse_statement-requires-clause-allows_in
parse_statement-requires-clause-allows_in t c = (subst (λ (g : Nonterminal). Ready g c.args.p.now) c.in-Statement.is c.requires.at).1

pub parse_statement_list_item-requires-clause-at : goal.parse_statement_list_item-requires-clause-at
parse_statement_list_item-requires-clause-at t c = ready_at c.args.what c.requires.at

pub parse_statement_list_item-requires-clause-allows_in : goal.parse_statement_list_item-requires-clause-allows_in
parse_statement_list_item-requires-clause-allows_in t c = (subst (λ (g : Nonterminal). Ready g c.args.p.now) c.in-ListItem.is c.requires.at).1

pub parse_body-requires-clause-at : goal.parse_body-requires-clause-at
parse_body-requires-clause-at t c = ready_at c.args.what c.requires.at

pub parse_body-requires-clause-allows_in : goal.parse_body-requires-clause-allows_in
parse_body-requires-clause-allows_in t c = (subst (λ (g : Nonterminal). Ready g c.args.p.now) c.in-Body.is c.requires.at).1

pub returns-in-LeftHandSide : goal.returns-in-LeftHandSide
returns-in-LeftHandSide t c = rw (c.in-LeftHandSide.is) c.parse_left_hand_side.ensures

pub parse_left_hand_side-requires-clause-at : goal.parse_left_hand_side-requires-clause-at
parse_left_hand_side-requires-clause-at t c = ready_at c.args.what c.requires.at

pub returns-in-ClassBody : goal.returns-in-ClassBody
returns-in-ClassBody t c = rw (c.in-ClassBody.is) c.parse_class_body.ensures

pub parse_class_body-requires-clause-at : goal.parse_class_body-requires-clause-at
parse_class_body-requires-clause-at t c = ready_at c.args.what c.requires.at
