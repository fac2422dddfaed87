-- The nodes of numbers (ECMA-262, 12.9.3), by the kinds of their lexemes.
use Rattle.js_base.specs.declared.kind.Kind.{Kind}
use Rattle.js_base.specs.declared.kind.Kind.TheVariants.{Float, Binary, Octal, Hex, PositiveExponential, NegativeExponential, DecimalBigInt, BinaryBigInt, OctalBigInt, HexBigInt}
use Rattle.laws_shared.specs.js_tree.declared.kind.NodeKind.{NodeKind}
use Rattle.laws_shared.specs.js_tree.declared.kind.NodeKind.TheVariants as node
use Rattle.laws_shared.specs.js_tree.declared.op.Op.{Op}
use Rattle.laws_shared.specs.js_tree.declared.op.Op.TheVariants as op
use Rattle.laws_shared.specs.js_tree.declared.op.NumberBase.TheVariants as number
use Rattle.laws_shared.specs.js_tree.declared.op.BigintBase.TheVariants as bigint

abbrev pub node_of_number : Kind → NodeKind
node_of_number DecimalBigInt = node.BigIntLiteral
node_of_number BinaryBigInt = node.BigIntLiteral
node_of_number OctalBigInt = node.BigIntLiteral
node_of_number HexBigInt = node.BigIntLiteral
node_of_number _ = node.NumericLiteral

abbrev pub op_of_number : Kind → Op
op_of_number Float = op.Number number.Float
op_of_number Binary = op.Number number.Binary
op_of_number Octal = op.Number number.Octal
op_of_number Hex = op.Number number.Hex
op_of_number PositiveExponential = op.Number number.Exponential
op_of_number NegativeExponential = op.Number number.Exponential
op_of_number DecimalBigInt = op.Bigint bigint.Decimal
op_of_number BinaryBigInt = op.Bigint bigint.Binary
op_of_number OctalBigInt = op.Bigint bigint.Octal
op_of_number HexBigInt = op.Bigint bigint.Hex
op_of_number _ = op.Number number.Decimal
