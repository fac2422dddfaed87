-- What the lexeme behind an opening parenthesis says of the head of an arrow function (ECMA-262, 15.3).
use Rattle.std.specs.Prelude.{ℕ, Bool, ◌||◌, List, [], ◌∷◌, is_some}
use Rattle.js_base.specs.declared.kind.Kind.{Kind}
use Rattle.js_base.specs.declared.kind.Kind.TheVariants.{LParen, New, This}
use Rattle.js_base.specs.Kinds.{one_of_kinds}
use Rattle.js_base.specs.KindSets.{literal_kinds}
use Rattle.js_base.specs.Operators.{row_of, unary_operators, update_operators}
use Rattle.js_grammar.specs.Productions.{Flags}
use Rattle.laws_shared.specs.js_cursor.Parsers.{Parser}
use Rattle.laws_shared.specs.Heads.{NoHead}
use Rattle.laws_shared.specs.States.{At}
use Rattle.laws_operators.specs.Arrows.{NoOperandHere, Unmoved}
use Rattle.laws_operators.specs.declared.forms.HeadLookahead.{HeadLookahead}
use Rattle.laws_operators.specs.declared.forms.HeadLookahead.TheVariants as lookahead

-- some of the lexemes that begin an expression, and neither a parameter nor a rest
abbrev pub begins_operand : Kind → Bool
begins_operand k = ((one_of_kinds literal_kinds k || is_some (row_of unary_operators k)) || is_some (row_of update_operators k)) || one_of_kinds (LParen ∷ This ∷ New ∷ []) k

-- no parameters in parentheses with `=>` behind them are derived here, whatever parameters of productions are in force
abbrev pub NoHeadThere : Parser → Type 0
NoHeadThere p = (text : List ℕ) (f g : Flags) → At text f p → NoHead text g p.prev_token_end

-- the parser is where it was
abbrev pub LooksAhead : Parser → Parser → HeadLookahead → Type 0
LooksAhead p q lookahead.Head = Unmoved p q × NoOperandHere p
LooksAhead p q lookahead.Maybe = Unmoved p q
LooksAhead p q lookahead.NoHead = Unmoved p q × NoHeadThere p
