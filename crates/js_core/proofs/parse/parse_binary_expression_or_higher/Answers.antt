use Rattle.std.proofs.Common.{inl, inr}
use Rattle.js_core.proofs.parse.parse_binary_expression_or_higher.Goals as goal

pub returns-in-Comma : goal.returns-in-Comma
returns-in-Comma c = rw (c.in-Comma.is) c.parse_binary_expression_or_higher.ensures

pub returns-in-NullishCoalescing : goal.returns-in-NullishCoalescing
returns-in-NullishCoalescing c = rw (c.in-NullishCoalescing.is) c.parse_operators.ensures

pub returns-in-LogicalOr : goal.returns-in-LogicalOr
returns-in-LogicalOr c = rw (c.in-LogicalOr.is) c.parse_operators-in-LogicalOr.ensures

pub returns-in-LogicalAnd : goal.returns-in-LogicalAnd
returns-in-LogicalAnd c = rw (c.in-LogicalAnd.is) c.parse_operators-in-LogicalAnd.ensures

pub returns-in-BitwiseOr : goal.returns-in-BitwiseOr
returns-in-BitwiseOr c = rw (c.in-BitwiseOr.is) c.parse_operators-in-BitwiseOr.ensures

pub returns-in-BitwiseXor : goal.returns-in-BitwiseXor
returns-in-BitwiseXor c = rw (c.in-BitwiseXor.is) c.parse_operators-in-BitwiseXor.ensures

pub returns-in-BitwiseAnd : goal.returns-in-BitwiseAnd
returns-in-BitwiseAnd c = rw (c.in-BitwiseAnd.is) c.parse_operators-in-BitwiseAnd.ensures

pub returns-in-Equals : goal.returns-in-Equals
returns-in-Equals c = rw (c.in-Equals.is) c.parse_operators-in-Equals.ensures

pub returns-in-Compare : goal.returns-in-Compare
returns-in-Compare c = rw (c.in-Compare.is) c.parse_operators-in-Compare.ensures

pub returns-in-Shift : goal.returns-in-Shift
returns-in-Shift c = rw (c.in-Shift.is) c.parse_operators-in-Shift.ensures

pub returns-in-Add : goal.returns-in-Add
returns-in-Add c = rw (c.in-Add.is) c.parse_operators-in-Add.ensures

pub returns-in-Multiply : goal.returns-in-Multiply
returns-in-Multiply c = elim c.in-Multiply.is [
  | inl e ↦ rw e c.parse_exponentiation_expression.ensures
  | inr e ↦ rw e c.parse_exponentiation_expression.ensures
]
