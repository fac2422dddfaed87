-- Where a semicolon may be left out: what goes on with a statement, by its right edge.
use Rattle.std.specs.Prelude.{ℕ, Bool, true, false, not, cond, ◌&&◌, ◌||◌, List, [], ◌∷◌, nat_eq, nat_lt}
use Rattle.js_base.specs.declared.kind.Kind.{Kind}
use Rattle.js_base.specs.declared.kind.Kind.TheVariants.{LParen, LCurly, LBrack, Comma, Dot, Arrow, Question, QuestionDot, Question2, Question2Eq, Plus, PlusEq, Minus, MinusEq, Star, Star2, StarEq, Star2Eq, Slash, SlashEq, Percent, PercentEq, Eq, Eq2, Eq3, Neq, Neq2, LAngle, LtEq, RAngle, GtEq, ShiftLeft, ShiftLeftEq, ShiftRight, ShiftRightEq, ShiftRight3, ShiftRight3Eq, Amp, Amp2, AmpEq, Amp2Eq, Pipe, Pipe2, PipeEq, Pipe2Eq, Caret, CaretEq, Ident, PrivateIdentifier, Str, RegExp, NoSubstitutionTemplate, TemplateHead}
use Rattle.js_base.specs.Kinds.{code, same_kind, one_of_kinds}
use Rattle.js_grammar.specs.Words.{'in', 'instanceof', 'get', 'set', 'static'}
use Rattle.js_grammar.specs.Trees.{NodeKind, Slots, end, hole, tree, sequence_expression, assignment_expression, conditional_expression, logical_expression, binary_expression, private_in_expression, unary_expression, await_expression, yield_expression, arrow_function_expression, variable_declarator, update_expression, function_body, label_identifier, with_clause}
use Rattle.js_grammar.specs.Grammar.{Lexeme, Look}
use Rattle.js_grammar.specs.Lexemes.{is_word}
use Rattle.js_grammar.specs.Numbers.{is_number}

-- the assignment operators but `=`
abbrev pub other_operators : List Kind
other_operators = PlusEq ∷ MinusEq ∷ StarEq ∷ SlashEq ∷ PercentEq ∷ ShiftLeftEq ∷ ShiftRightEq ∷ ShiftRight3Eq ∷ PipeEq ∷ CaretEq ∷ AmpEq ∷ Amp2Eq ∷ Pipe2Eq ∷ Question2Eq ∷ Star2Eq ∷ []

abbrev pub assign_operators : List Kind
assign_operators = Eq ∷ PlusEq ∷ MinusEq ∷ StarEq ∷ SlashEq ∷ PercentEq ∷ ShiftLeftEq ∷ ShiftRightEq ∷ ShiftRight3Eq ∷ PipeEq ∷ CaretEq ∷ AmpEq ∷ Amp2Eq ∷ Pipe2Eq ∷ Question2Eq ∷ Star2Eq ∷ []

abbrev pub binary_operators : List Kind
binary_operators = Question2 ∷ Pipe2 ∷ Amp2 ∷ Pipe ∷ Caret ∷ Amp ∷ Eq2 ∷ Neq ∷ Eq3 ∷ Neq2 ∷ LAngle ∷ LtEq ∷ RAngle ∷ GtEq ∷ 'instanceof' ∷ 'in' ∷ ShiftLeft ∷ ShiftRight ∷ ShiftRight3 ∷ Plus ∷ Minus ∷ Star ∷ Slash ∷ Percent ∷ Star2 ∷ []

-- a name, or a word that may be one
abbrev pub may_bind : Kind → Bool
may_bind k = is_word k && not (nat_lt (code k) 36)

-- what a name of an object or a class begins with
abbrev pub begins_name : Look
begins_name k w e = is_word k || is_number k || one_of_kinds (Str ∷ PrivateIdentifier ∷ LBrack ∷ []) k

-- The rows of the table.
pub data Row : Type 0 where
  after_expression after_postfix after_body after_yield after_declarator after_word : Row

abbrev pub goes_on : Row → Look
goes_on after_expression k w e = not e && (one_of_kinds binary_operators k || one_of_kinds assign_operators k || one_of_kinds (RegExp ∷ Question ∷ Comma ∷ Dot ∷ QuestionDot ∷ Arrow ∷ LParen ∷ LBrack ∷ NoSubstitutionTemplate ∷ TemplateHead ∷ []) k)
goes_on after_postfix k w e = not e && (one_of_kinds binary_operators k || one_of_kinds assign_operators k || one_of_kinds (RegExp ∷ Question ∷ Comma ∷ Dot ∷ QuestionDot ∷ Arrow ∷ []) k)
goes_on after_body k w e = same_kind Comma k
-- a `yield` with nothing behind it goes on as a body does; on its own line more may not stand behind it
goes_on after_yield k w e = same_kind Comma k
goes_on after_declarator k w e = one_of_kinds (Eq ∷ Comma ∷ []) k
goes_on after_word k w e = false

-- The right edge of a node lies in its last slot.
abbrev pub edge_is_last : NodeKind → Bool
edge_is_last sequence_expression = true
edge_is_last assignment_expression = true
edge_is_last conditional_expression = true
edge_is_last logical_expression = true
edge_is_last binary_expression = true
edge_is_last private_in_expression = true
edge_is_last unary_expression = true
edge_is_last await_expression = true
edge_is_last yield_expression = true
edge_is_last arrow_function_expression = true
edge_is_last variable_declarator = true
edge_is_last _ = false

-- the row of a node that is itself a right edge
abbrev pub own_row : NodeKind → ℕ → Row
own_row update_expression flags = cond (nat_eq flags 0) after_postfix after_expression
own_row function_body flags = after_body
own_row label_identifier flags = after_word
own_row with_clause flags = after_word
own_row _ flags = after_expression

-- and of one whose last slot is empty
abbrev pub empty_row : NodeKind → Row
empty_row variable_declarator = after_declarator
empty_row yield_expression = after_yield
empty_row _ = after_word

abbrev pub edge : Row → Row → Slots → Row
edge own empty end = own
edge own empty (hole end) = empty
edge own empty (tree l cs end) = cond (edge_is_last l.kind) (edge (own_row l.kind l.flags) (empty_row l.kind) cs) (own_row l.kind l.flags)
edge own empty (hole ts) = edge own empty ts
edge own empty (tree l cs ts) = edge own empty ts

-- What goes on with a statement: `return`, `break`, `continue` and `debugger` alone are words, with nothing after them.
abbrev pub by_edge : Lexeme → Slots → Look
by_edge first cs = goes_on (edge after_word after_word cs)

abbrev pub only_by : Look → Lexeme → Slots → Look
only_by p first cs = p

-- What goes on with a field. Behind a name `get`, `set` or `static` that could be a prefix there stands more.
abbrev pub after_name : Bool → Bool → Lexeme → Look
after_name could_be_static could_be_get first k w e = one_of_kinds (Eq ∷ LParen ∷ []) k
    || (could_be_get && not first.escaped && one_of_kinds ('get' ∷ 'set' ∷ []) first.kind && begins_name k w e)
    || (could_be_static && not first.escaped && same_kind 'static' first.kind && (begins_name k w e || one_of_kinds (Star ∷ LCurly ∷ []) k))

abbrev pub by_field : Bool → Bool → Lexeme → Slots → Look
by_field s g first (tree key cs (hole end)) = after_name s g first
by_field s g first cs = goes_on (edge after_word after_word cs)
