-- How tight operators bind, as a parser sees it: the levels of operators by one number (ECMA-262, 13.6 to 13.13).
use Rattle.std.specs.Prelude.{ℕ, Bool, cond, List, [], ◌∷◌}
use Rattle.js_base.specs.declared.kind.Kind.{Kind}
use Rattle.js_base.specs.declared.kind.Kind.TheVariants.{Plus, Minus, Star, Slash, Percent, Eq2, Eq3, Neq, Neq2, LAngle, LtEq, RAngle, GtEq, ShiftLeft, ShiftRight, ShiftRight3, Amp, Amp2, Pipe, Pipe2, Caret, In, Instanceof, Bang, Tilde, Typeof, Void, Delete}

-- the power of an operator that groups to the left; `in` where it is allowed; 0: it is none
abbrev pub power_of : Bool → Kind → ℕ
power_of b Pipe2 = 5
power_of b Amp2 = 6
power_of b Pipe = 7
power_of b Caret = 8
power_of b Amp = 9
power_of b Eq2 = 10
power_of b Neq = 10
power_of b Eq3 = 10
power_of b Neq2 = 10
power_of b LAngle = 11
power_of b RAngle = 11
power_of b LtEq = 11
power_of b GtEq = 11
power_of b Instanceof = 11
power_of b In = cond b 11 0
power_of b ShiftLeft = 12
power_of b ShiftRight = 12
power_of b ShiftRight3 = 12
power_of b Plus = 13
power_of b Minus = 13
power_of b Star = 14
power_of b Slash = 14
power_of b Percent = 14
power_of b _ = 0

abbrev pub unary_kinds : List Kind
unary_kinds = Minus ∷ Plus ∷ Bang ∷ Tilde ∷ Typeof ∷ Void ∷ Delete ∷ []
