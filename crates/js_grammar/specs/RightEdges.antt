-- Right edges: which rows of the table of what may stand behind an expression the trees of a nonterminal may have.
use Rattle.std.specs.Prelude.{Bool, true, false, ◌||◌}
use Rattle.js_grammar.specs.Insertion.{Row, after_expression, after_postfix, after_body, after_yield, after_declarator, after_word}
use Rattle.js_grammar.specs.Productions.{Name, Body, Expression, Assignment, Yield, Conditional, Short, Coalesce, Or, And, BitOr, BitXor, BitAnd, Equality, Relational, Shift, Additive, Multiply, Exponent, Unary, Update, Arrow', Argument, LeftHandSide, New, Member, Call, Chain, Links, Super, Primary, Template, Object, FuncExpr, ClassExpr, IdentifierReference, SimpleTarget}

abbrev pub same_row : Row → Row → Bool
same_row after_expression after_expression = true
same_row after_postfix after_postfix = true
same_row after_body after_body = true
same_row after_yield after_yield = true
same_row after_declarator after_declarator = true
same_row after_word after_word = true
same_row _ _ = false

-- The rows that an operand may have, and those of an assignment.
abbrev pub of_operand : Row → Bool
of_operand r = same_row after_expression r || same_row after_postfix r

abbrev pub of_assignment : Row → Bool
of_assignment r = of_operand r || (same_row after_body r || same_row after_yield r)

-- Which rows the trees of each nonterminal may have; of those not named here nothing is claimed.
abbrev pub may_end : Name → Row → Bool
may_end LeftHandSide r = same_row after_expression r
may_end New r = same_row after_expression r
may_end Member r = same_row after_expression r
may_end Call r = same_row after_expression r
may_end Chain r = same_row after_expression r
may_end Links r = same_row after_expression r
may_end Super r = same_row after_expression r
may_end Primary r = same_row after_expression r
may_end Template r = same_row after_expression r
may_end Object r = same_row after_expression r
may_end FuncExpr r = same_row after_expression r
may_end ClassExpr r = same_row after_expression r
may_end IdentifierReference r = same_row after_expression r
may_end SimpleTarget r = same_row after_expression r
may_end Update r = of_operand r
may_end Unary r = of_operand r
may_end Exponent r = of_operand r
may_end Multiply r = of_operand r
may_end Additive r = of_operand r
may_end Shift r = of_operand r
may_end Relational r = of_operand r
may_end Equality r = of_operand r
may_end BitAnd r = of_operand r
may_end BitXor r = of_operand r
may_end BitOr r = of_operand r
may_end And r = of_operand r
may_end Or r = of_operand r
may_end Coalesce r = of_operand r
may_end Short r = of_operand r
may_end Body r = same_row after_body r
may_end Arrow' r = of_assignment r
may_end Yield r = of_assignment r
may_end Conditional r = of_assignment r
may_end Assignment r = of_assignment r
may_end Argument r = of_assignment r
may_end Expression r = of_assignment r
may_end _ r = true
