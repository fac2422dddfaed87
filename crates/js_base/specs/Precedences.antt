-- How tightly the operators between two operands bind (ECMA-262, 13.6 to 13.13).
use Rattle.std.specs.Prelude.{Bool, ◌||◌, List, [], ◌∷◌, is_some}
use Rattle.js_base.specs.declared.kind.Kind.{Kind}
use Rattle.js_base.specs.declared.kind.Kind.TheVariants as kind
use Rattle.js_base.specs.Kinds.{one_of_kinds}
use Rattle.js_base.specs.Operators.{binary_operators, logical_operators, row_of}
use Rattle.js_base.specs.declared.precedence.Precedence.{Precedence}
use Rattle.js_base.specs.declared.precedence.Precedence.TheVariants.{NullishCoalescing, LogicalOr, LogicalAnd, BitwiseOr, BitwiseXor, BitwiseAnd, Equals, Compare, Shift, Add, Multiply, Exponentiation}

-- the precedence of each kind, loosest first; `as` and `satisfies` are the operators of TypeScript
abbrev pub precedences : List (Kind × Precedence)
precedences =
    (kind.Question2, NullishCoalescing) ∷  -- 13.13
    (kind.Pipe2, LogicalOr) ∷  -- 13.13
    (kind.Amp2, LogicalAnd) ∷  -- 13.13
    (kind.Pipe, BitwiseOr) ∷  -- 13.12
    (kind.Caret, BitwiseXor) ∷  -- 13.12
    (kind.Amp, BitwiseAnd) ∷  -- 13.12
    (kind.Eq2, Equals) ∷ (kind.Eq3, Equals) ∷ (kind.Neq, Equals) ∷ (kind.Neq2, Equals) ∷  -- 13.11
    (kind.LAngle, Compare) ∷ (kind.RAngle, Compare) ∷ (kind.LtEq, Compare) ∷ (kind.GtEq, Compare) ∷ (kind.Instanceof, Compare) ∷ (kind.In, Compare) ∷ (kind.As, Compare) ∷ (kind.Satisfies, Compare) ∷  -- 13.10
    (kind.ShiftLeft, Shift) ∷ (kind.ShiftRight, Shift) ∷ (kind.ShiftRight3, Shift) ∷  -- 13.9
    (kind.Plus, Add) ∷ (kind.Minus, Add) ∷  -- 13.8
    (kind.Star, Multiply) ∷ (kind.Slash, Multiply) ∷ (kind.Percent, Multiply) ∷  -- 13.7
    (kind.Star2, Exponentiation) ∷  -- 13.6
    []

-- whether a kind stands between two operands: as a binary or a logical operator, or as `as` or `satisfies`
abbrev pub is_infix : Kind → Bool
is_infix k = is_some (row_of binary_operators k) || (is_some (row_of logical_operators k) || one_of_kinds (kind.As ∷ kind.Satisfies ∷ []) k)
