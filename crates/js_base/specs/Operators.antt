-- The operators of expressions: how each is written, and the kind of lexeme that stands for it.
use Rattle.std.specs.Prelude.{ℕ, List, [], ◌∷◌, Option, Some, None, codes, if◌then◌else◌}
use Rattle.js_base.specs.declared.kind.Kind.{Kind}
use Rattle.js_base.specs.declared.kind.Kind.TheVariants as kind
use Rattle.js_base.specs.Kinds.{same_kind}
use Rattle.js_base.specs.declared.operator.BinaryOperator.{BinaryOperator}
use Rattle.js_base.specs.declared.operator.BinaryOperator.TheVariants as binary
use Rattle.js_base.specs.declared.operator.UnaryOperator.{UnaryOperator}
use Rattle.js_base.specs.declared.operator.UnaryOperator.TheVariants as unary
use Rattle.js_base.specs.declared.operator.LogicalOperator.{LogicalOperator}
use Rattle.js_base.specs.declared.operator.LogicalOperator.TheVariants as logical
use Rattle.js_base.specs.declared.operator.UpdateOperator.{UpdateOperator}
use Rattle.js_base.specs.declared.operator.UpdateOperator.TheVariants as update
use Rattle.js_base.specs.declared.operator.AssignmentOperator.{AssignmentOperator}
use Rattle.js_base.specs.declared.operator.AssignmentOperator.TheVariants as assignment

-- 13.6 to 13.12: how the operators of binary expressions are written
abbrev pub binary_text : BinaryOperator → List ℕ
binary_text binary.Equality = codes "=="
binary_text binary.Inequality = codes "!="
binary_text binary.StrictEquality = codes "==="
binary_text binary.StrictInequality = codes "!=="
binary_text binary.LessThan = codes "<"
binary_text binary.LessEqualThan = codes "<="
binary_text binary.GreaterThan = codes ">"
binary_text binary.GreaterEqualThan = codes ">="
binary_text binary.ShiftLeft = codes "<<"
binary_text binary.ShiftRight = codes ">>"
binary_text binary.ShiftRightZeroFill = codes ">>>"
binary_text binary.Addition = codes "+"
binary_text binary.Subtraction = codes "-"
binary_text binary.Multiplication = codes "*"
binary_text binary.Division = codes "/"
binary_text binary.Remainder = codes "%"
binary_text binary.BitwiseOR = codes "|"
binary_text binary.BitwiseXOR = codes "^"
binary_text binary.BitwiseAnd = codes "&"
binary_text binary.In = codes "in"
binary_text binary.Instanceof = codes "instanceof"
binary_text binary.Exponential = codes "**"

-- 13.5: how the operators of unary expressions are written
abbrev pub unary_text : UnaryOperator → List ℕ
unary_text unary.UnaryNegation = codes "-"
unary_text unary.UnaryPlus = codes "+"
unary_text unary.LogicalNot = codes "!"
unary_text unary.BitwiseNot = codes "~"
unary_text unary.Typeof = codes "typeof"
unary_text unary.Void = codes "void"
unary_text unary.Delete = codes "delete"

-- 13.13: how the operators of logical expressions are written
abbrev pub logical_text : LogicalOperator → List ℕ
logical_text logical.Or = codes "||"
logical_text logical.And = codes "&&"
logical_text logical.Coalesce = codes "??"

-- 13.4: how the operators of update expressions are written
abbrev pub update_text : UpdateOperator → List ℕ
update_text update.Increment = codes "++"
update_text update.Decrement = codes "--"

-- 13.15: how the operators of assignments are written
abbrev pub assignment_text : AssignmentOperator → List ℕ
assignment_text assignment.Assign = codes "="
assignment_text assignment.Addition = codes "+="
assignment_text assignment.Subtraction = codes "-="
assignment_text assignment.Multiplication = codes "*="
assignment_text assignment.Division = codes "/="
assignment_text assignment.Remainder = codes "%="
assignment_text assignment.ShiftLeft = codes "<<="
assignment_text assignment.ShiftRight = codes ">>="
assignment_text assignment.ShiftRightZeroFill = codes ">>>="
assignment_text assignment.BitwiseOR = codes "|="
assignment_text assignment.BitwiseXOR = codes "^="
assignment_text assignment.BitwiseAnd = codes "&="
assignment_text assignment.LogicalAnd = codes "&&="
assignment_text assignment.LogicalOr = codes "||="
assignment_text assignment.LogicalNullish = codes "??="
assignment_text assignment.Exponential = codes "**="

-- what a table has for a kind: that of the first row of this kind
abbrev pub row_of : {A : Type 0} → List (Kind × A) → Kind → Option A
row_of [] k = None
row_of (row ∷ rows) k = if same_kind row.0 k then Some row.1 else row_of rows k

-- 13.6 to 13.12: the kind of each operator of binary expressions
abbrev pub binary_operators : List (Kind × BinaryOperator)
binary_operators =
    (kind.Eq2, binary.Equality) ∷
    (kind.Neq, binary.Inequality) ∷
    (kind.Eq3, binary.StrictEquality) ∷
    (kind.Neq2, binary.StrictInequality) ∷
    (kind.LAngle, binary.LessThan) ∷
    (kind.LtEq, binary.LessEqualThan) ∷
    (kind.RAngle, binary.GreaterThan) ∷
    (kind.GtEq, binary.GreaterEqualThan) ∷
    (kind.ShiftLeft, binary.ShiftLeft) ∷
    (kind.ShiftRight, binary.ShiftRight) ∷
    (kind.ShiftRight3, binary.ShiftRightZeroFill) ∷
    (kind.Plus, binary.Addition) ∷
    (kind.Minus, binary.Subtraction) ∷
    (kind.Star, binary.Multiplication) ∷
    (kind.Slash, binary.Division) ∷
    (kind.Percent, binary.Remainder) ∷
    (kind.Pipe, binary.BitwiseOR) ∷
    (kind.Caret, binary.BitwiseXOR) ∷
    (kind.Amp, binary.BitwiseAnd) ∷
    (kind.In, binary.In) ∷
    (kind.Instanceof, binary.Instanceof) ∷
    (kind.Star2, binary.Exponential) ∷
    []

-- 13.5: the kind of each operator of unary expressions
abbrev pub unary_operators : List (Kind × UnaryOperator)
unary_operators =
    (kind.Minus, unary.UnaryNegation) ∷
    (kind.Plus, unary.UnaryPlus) ∷
    (kind.Bang, unary.LogicalNot) ∷
    (kind.Tilde, unary.BitwiseNot) ∷
    (kind.Typeof, unary.Typeof) ∷
    (kind.Void, unary.Void) ∷
    (kind.Delete, unary.Delete) ∷
    []

-- 13.13: the kind of each operator of logical expressions
abbrev pub logical_operators : List (Kind × LogicalOperator)
logical_operators =
    (kind.Pipe2, logical.Or) ∷
    (kind.Amp2, logical.And) ∷
    (kind.Question2, logical.Coalesce) ∷
    []

-- 13.4: the kind of each operator of update expressions
abbrev pub update_operators : List (Kind × UpdateOperator)
update_operators =
    (kind.Plus2, update.Increment) ∷
    (kind.Minus2, update.Decrement) ∷
    []

-- 13.15: the kind of each operator of assignments
abbrev pub assignment_operators : List (Kind × AssignmentOperator)
assignment_operators =
    (kind.Eq, assignment.Assign) ∷
    (kind.PlusEq, assignment.Addition) ∷
    (kind.MinusEq, assignment.Subtraction) ∷
    (kind.StarEq, assignment.Multiplication) ∷
    (kind.SlashEq, assignment.Division) ∷
    (kind.PercentEq, assignment.Remainder) ∷
    (kind.ShiftLeftEq, assignment.ShiftLeft) ∷
    (kind.ShiftRightEq, assignment.ShiftRight) ∷
    (kind.ShiftRight3Eq, assignment.ShiftRightZeroFill) ∷
    (kind.PipeEq, assignment.BitwiseOR) ∷
    (kind.CaretEq, assignment.BitwiseXOR) ∷
    (kind.AmpEq, assignment.BitwiseAnd) ∷
    (kind.Amp2Eq, assignment.LogicalAnd) ∷
    (kind.Pipe2Eq, assignment.LogicalOr) ∷
    (kind.Question2Eq, assignment.LogicalNullish) ∷
    (kind.Star2Eq, assignment.Exponential) ∷
    []
