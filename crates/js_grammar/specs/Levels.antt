-- The levels of operators by number, as a loop over binding power meets them.
use Rattle.std.specs.Prelude.{ℕ, zero, suc, Bool, cond, List, [], ◌∷◌}
use Rattle.js_base.specs.declared.kind.Kind.{Kind}
use Rattle.js_base.specs.declared.kind.Kind.TheVariants.{Comma, Question, Question2, Star2, RegExp, Plus, Minus, Star, Slash, Percent, Eq2, Eq3, Neq, Neq2, LAngle, LtEq, RAngle, GtEq, ShiftLeft, ShiftRight, ShiftRight3, Amp, Amp2, Pipe, Pipe2, Caret}
use Rattle.js_grammar.specs.Words.{'in', 'instanceof'}
use Rattle.js_grammar.specs.Trees.{NodeKind, logical_expression, binary_expression, private_in_expression}
use Rattle.js_grammar.specs.Grammar.{never, when, ◌▸◌}
use Rattle.js_grammar.specs.Productions.{Flags, Symbol, G, at, sym, tok, op, Or, And, BitOr, BitXor, BitAnd, Equality, Relational, Shift, Additive, Multiply, Exponent, PrivateName}

-- The levels whose operators group to the left (13.6 to 13.13), from the loosest on; above the last one stands Exponent.
abbrev pub level_at : Flags → ℕ → Symbol
level_at f zero = at Or f
level_at f (suc zero) = at And f
level_at f (suc (suc zero)) = at BitOr f
level_at f (suc (suc (suc zero))) = at BitXor f
level_at f (suc (suc (suc (suc zero)))) = at BitAnd f
level_at f (suc (suc (suc (suc (suc zero))))) = at Equality f
level_at f (suc (suc (suc (suc (suc (suc zero)))))) = at Relational f
level_at f (suc (suc (suc (suc (suc (suc (suc zero))))))) = at Shift f
level_at f (suc (suc (suc (suc (suc (suc (suc (suc zero)))))))) = at Additive f
level_at f (suc (suc (suc (suc (suc (suc (suc (suc (suc zero))))))))) = at Multiply f
level_at f _ = at Exponent f

abbrev pub top_level : ℕ
top_level = 9

-- the operators of each level; `in` where it is allowed
abbrev pub comparisons : Bool → List Kind
comparisons b = LAngle ∷ RAngle ∷ LtEq ∷ GtEq ∷ 'instanceof' ∷ cond b ('in' ∷ []) []

abbrev pub operators_of : Bool → ℕ → List Kind
operators_of b zero = Pipe2 ∷ []
operators_of b (suc zero) = Amp2 ∷ []
operators_of b (suc (suc zero)) = Pipe ∷ []
operators_of b (suc (suc (suc zero))) = Caret ∷ []
operators_of b (suc (suc (suc (suc zero)))) = Amp ∷ []
operators_of b (suc (suc (suc (suc (suc zero))))) = Eq2 ∷ Neq ∷ Eq3 ∷ Neq2 ∷ []
operators_of b (suc (suc (suc (suc (suc (suc zero)))))) = comparisons b
operators_of b (suc (suc (suc (suc (suc (suc (suc zero))))))) = ShiftLeft ∷ ShiftRight ∷ ShiftRight3 ∷ []
operators_of b (suc (suc (suc (suc (suc (suc (suc (suc zero)))))))) = Plus ∷ Minus ∷ []
operators_of b (suc (suc (suc (suc (suc (suc (suc (suc (suc zero))))))))) = Star ∷ Slash ∷ Percent ∷ []
operators_of b _ = []

abbrev pub operators_at : Flags → ℕ → List Kind
operators_at f p = operators_of f.in_ p

-- the nodes of each level
abbrev pub node_at : ℕ → NodeKind
node_at zero = logical_expression
node_at (suc zero) = logical_expression
node_at _ = binary_expression

-- what a level has beside the next one and its operators: `#x in ..`
abbrev pub private_in : Flags → G
private_in f = when f.in_ (op private_in_expression 'in' (sym PrivateName f ▸ tok 'in' ▸ sym Shift f))

abbrev pub feet_at : Flags → ℕ → G
feet_at f (suc (suc (suc (suc (suc (suc zero)))))) = private_in f
feet_at f _ = never

-- How tight an operator binds what stands before it (13), from the comma on; `in` where it is allowed; 0: it is no operator.
abbrev pub binds : Bool → Kind → ℕ
binds b Comma = 1
binds b Question = 3
binds b Question2 = 4
binds b Pipe2 = 5
binds b Amp2 = 6
binds b Pipe = 7
binds b Caret = 8
binds b Amp = 9
binds b Eq2 = 10
binds b Neq = 10
binds b Eq3 = 10
binds b Neq2 = 10
binds b LAngle = 11
binds b RAngle = 11
binds b LtEq = 11
binds b GtEq = 11
binds b 'instanceof' = 11
binds b 'in' = cond b 11 0
binds b ShiftLeft = 12
binds b ShiftRight = 12
binds b ShiftRight3 = 12
binds b Plus = 13
binds b Minus = 13
binds b Star = 14
binds b Slash = 14
binds b RegExp = 14
binds b Percent = 14
binds b Star2 = 15
binds b _ = 0
