-- The core grammar: what is left of the whole one on core lexemes, a line for each production (ECMA-262, 13, 14.5, 14.13, 15.3).
use Rattle.std.specs.Prelude.{Bool, List, [], false, true, ◌||◌, ◌∷◌}
use Rattle.js_base.specs.declared.kind.Kind.{Kind}
use Rattle.js_base.specs.declared.kind.Kind.TheVariants.{Amp, Amp2, Amp2Eq, AmpEq, Arrow, Bang, Caret, CaretEq, Colon, Comma, Decimal, Dot, Dot3, Eof, Eq, Eq2, Eq3, GtEq, Ident, LAngle, LBrack, LParen, LtEq, Minus, Minus2, MinusEq, Neq, Neq2, Percent, PercentEq, Pipe, Pipe2, Pipe2Eq, PipeEq, Plus, Plus2, PlusEq, Question, Question2, Question2Eq, QuestionDot, RAngle, RBrack, RParen, Semicolon, ShiftLeft, ShiftLeftEq, ShiftRight, ShiftRight3, ShiftRight3Eq, ShiftRightEq, Star, Star2, Star2Eq, StarEq, Str, Tilde}
use Rattle.js_grammar.specs.Words.{'delete', 'false', 'in', 'instanceof', 'new', 'null', 'this', 'true', 'typeof', 'void'}
use Rattle.js_grammar.specs.Trees.{array_expression, array_pattern, arrow_function_expression, assignment_expression, assignment_pattern, binary_expression, binding_identifier, boolean_literal, call_expression, chain_expression, computed_member_expression, conditional_expression, directive, elision, empty_statement, expression_statement, formal_parameter, formal_parameter_rest, formal_parameters, identifier_name, identifier_reference, label_identifier, labeled_statement, logical_expression, new_expression, no_op, null_literal, numeric_literal, of, program, sequence_expression, spread_element, static_member_expression, this_expression, unary_expression, update_expression, v8_intrinsic_expression, array_assignment_target, assignment_target_rest, assignment_target_with_default}
use Rattle.js_grammar.specs.Grammar.{commas, empty_slot, ended, lexeme, many, node, nothing, when, whole_text, ◌▸◌, ◌◇◌, never}
use Rattle.js_grammar.specs.Insertion.{by_edge}
use Rattle.js_grammar.specs.Lexemes.{is_word}
use Rattle.js_grammar.specs.Productions.{Additive, And, Argument, ArrayTarget, Arrow', Assignment, Attrs, BElement, Binding, BindingIdentifier, BindingRest, BitAnd, BitOr, BitXor, Block, Body, Break, Call, Case, Catch, Chain, Class, ClassBody, ClassExpr, Coalesce, Conditional, Continue, Debugger, Decorator, Directive, Do, Empty, Equality, Exponent, ExportDecl, ExprStmt, Expression, Flags, For, ForIn, ForOf, FuncExpr, Function, G, IdentifierName, IdentifierReference, If, ImportDecl, Init, Item, LabelIdentifier, Labeled, LeftHandSide, Lexical, Links, ListItem, Member, Multiply, Name, New, Object, ObjectTarget, Or, Param, Params, Pattern, Primary, PrivateName, Program, Relational, Rest, Return, Shift, Short, SimpleTarget, Statement, Sub, Super, Switch, Symbol, Target, Template, Throw, Try, Unary, Update, Var, While, With, Yield, any_of, branches, make, mk, no_newline, op, opt, optional_flag, parens, plus_in, prefix_flag, slot, sym, tok, TargetElement, ForInit, Element, DecoratorMember, Property, TargetProperty, PatternProperty, Spec, ExportName, Attr, LooseHead, items}
use Rattle.js_grammar.specs.Table.{args, bound_rest, directives_then, identifier, level, paren_expression, rest_of, string}

-- The kinds of lexemes of core texts, and the end.
abbrev pub core_kinds : List Kind
core_kinds = Eof ∷ Ident ∷ 'this' ∷ 'null' ∷ 'true' ∷ 'false' ∷ 'new' ∷ 'typeof' ∷ 'void' ∷ 'delete' ∷ 'in' ∷ 'instanceof' ∷ Decimal ∷ Str ∷ LParen ∷ RParen ∷ LBrack ∷ RBrack ∷ Semicolon ∷ Comma ∷ Colon ∷ Dot ∷ Dot3 ∷ Arrow ∷ Tilde ∷ Bang ∷ Question ∷ QuestionDot ∷ Question2 ∷ Question2Eq ∷ Plus ∷ Plus2 ∷ PlusEq ∷ Minus ∷ Minus2 ∷ MinusEq ∷ Star ∷ Star2 ∷ StarEq ∷ Star2Eq ∷ Percent ∷ PercentEq ∷ Eq ∷ Eq2 ∷ Eq3 ∷ Neq ∷ Neq2 ∷ LAngle ∷ LtEq ∷ RAngle ∷ GtEq ∷ ShiftLeft ∷ ShiftLeftEq ∷ ShiftRight ∷ ShiftRightEq ∷ ShiftRight3 ∷ ShiftRight3Eq ∷ Amp ∷ Amp2 ∷ AmpEq ∷ Amp2Eq ∷ Pipe ∷ Pipe2 ∷ PipeEq ∷ Pipe2Eq ∷ Caret ∷ CaretEq ∷ []

-- the nonterminals that need another lexeme
abbrev pub needs_more : Name → Bool
needs_more Block = true
needs_more Var = true
needs_more Lexical = true
needs_more If = true
needs_more Do = true
needs_more While = true
needs_more With = true
needs_more For = true
needs_more ForIn = true
needs_more ForOf = true
needs_more Continue = true
needs_more Break = true
needs_more Return = true
needs_more Throw = true
needs_more Switch = true
needs_more Case = true
needs_more Try = true
needs_more Catch = true
needs_more Debugger = true
needs_more Function = true
needs_more FuncExpr = true
needs_more Body = true
needs_more Class = true
needs_more ClassExpr = true
needs_more ClassBody = true
needs_more Decorator = true
needs_more Object = true
needs_more Yield = true
needs_more Super = true
needs_more PrivateName = true
needs_more Template = true
needs_more ObjectTarget = true
needs_more Attrs = true
needs_more ImportDecl = true
needs_more ExportDecl = true
needs_more _ = false

abbrev pub dead : Symbol → Bool
dead s = needs_more s.name

-- the nonterminals that stand only inside such
abbrev pub stands_inside : Name → Bool
stands_inside ForInit = true
stands_inside Element = true
stands_inside DecoratorMember = true
stands_inside Property = true
stands_inside TargetProperty = true
stands_inside PatternProperty = true
stands_inside Spec = true
stands_inside ExportName = true
stands_inside Attr = true
stands_inside LooseHead = true
stands_inside _ = false

-- A member, by a name or in brackets.
abbrev pub core_access : G → Flags → G
core_access base f = mk static_member_expression (base ▸ tok Dot ▸ sym IdentifierName f) ◇ mk computed_member_expression (base ▸ tok LBrack ▸ sym Expression (plus_in f) ▸ tok RBrack)

-- the assignment operators but `=` and `/=`
abbrev pub core_operators : List Kind
core_operators = PlusEq ∷ MinusEq ∷ StarEq ∷ PercentEq ∷ ShiftLeftEq ∷ ShiftRightEq ∷ ShiftRight3Eq ∷ PipeEq ∷ CaretEq ∷ AmpEq ∷ Amp2Eq ∷ Pipe2Eq ∷ Question2Eq ∷ Star2Eq ∷ []

-- The lines, as in Table; what isn't written out here is no part of a core text.
unfoldable pub core_of : Name → Flags → G
core_of Program f = node (record { kind = program; op = no_op; flags = 0; extent = whole_text }) (directives_then Item f)
core_of Directive f = mk directive (ended by_edge string)
core_of Item f = sym ListItem f
core_of ListItem f = sym Statement f ◇ sym ExprStmt f
core_of ExprStmt f = mk expression_statement (ended by_edge (sym Expression f))
core_of Statement f = sym Empty f ◇ sym Labeled f
core_of Empty f = mk empty_statement (tok Semicolon)
core_of Labeled f = mk labeled_statement (sym LabelIdentifier f ▸ tok Colon ▸ sym Sub f)
core_of Sub f = sym Statement f ◇ sym ExprStmt f
core_of Init f = tok Eq ▸ sym Assignment f
core_of Params f = mk formal_parameters (parens (many (sym Param f ▸ tok Comma) ▸ (sym Param f ◇ rest_of f (sym Rest f) ◇ nothing)))
core_of Param f = mk formal_parameter (sym Binding f ▸ slot (sym Init (plus_in f)))
core_of Rest f = mk formal_parameter_rest (sym BindingRest f)
core_of BindingRest f = bound_rest f (sym Binding f)
core_of Binding f = sym BindingIdentifier f ◇ sym Pattern f
core_of BElement f = sym Binding f ◇ mk assignment_pattern (sym Binding f ▸ tok Eq ▸ sym Assignment (plus_in f))
core_of Pattern f = mk array_pattern (tok LBrack ▸ (many (empty_slot ▸ tok Comma ◇ sym BElement f ▸ tok Comma) ▸ (sym BElement f ◇ rest_of f (sym BindingRest f) ◇ nothing)) ▸ tok RBrack)
core_of Arrow' f = mk arrow_function_expression ((mk formal_parameters (mk formal_parameter (sym BindingIdentifier (record f { await_ = f.await_ || false }) ▸ empty_slot)) ◇ sym Params (record f { await_ = f.await_ || false }))
    ▸ no_newline ▸ tok Arrow ▸ sym Assignment (record f { yield_ = false; await_ = false; awaits = false }))
core_of Expression f = sym Assignment f ◇ mk sequence_expression (sym Assignment f ▸ tok Comma ▸ commas false (sym Assignment f))
core_of Assignment f = sym Conditional f ◇ sym Arrow' f ◇ branches (Eq ∷ core_operators) (λ o. op assignment_expression o (sym SimpleTarget f ▸ tok o ▸ sym Assignment f))
    ◇ op assignment_expression Eq (sym ArrayTarget f ▸ tok Eq ▸ sym Assignment f)
core_of Conditional f = sym Short f ◇ mk conditional_expression (sym Short f ▸ tok Question ▸ sym Assignment (plus_in f) ▸ tok Colon ▸ sym Assignment f)
core_of Short f = sym Or f ◇ sym Coalesce f
core_of Coalesce f = op logical_expression Question2 ((sym Coalesce f ◇ sym BitOr f) ▸ tok Question2 ▸ sym BitOr f)
core_of Or f = level Or And (Pipe2 ∷ []) logical_expression f
core_of And f = level And BitOr (Amp2 ∷ []) logical_expression f
core_of BitOr f = level BitOr BitXor (Pipe ∷ []) binary_expression f
core_of BitXor f = level BitXor BitAnd (Caret ∷ []) binary_expression f
core_of BitAnd f = level BitAnd Equality (Amp ∷ []) binary_expression f
core_of Equality f = level Equality Relational (Eq2 ∷ Neq ∷ Eq3 ∷ Neq2 ∷ []) binary_expression f
core_of Relational f = level Relational Shift (LAngle ∷ RAngle ∷ LtEq ∷ GtEq ∷ 'instanceof' ∷ []) binary_expression f ◇ when f.in_ (op binary_expression 'in' (sym Relational f ▸ tok 'in' ▸ sym Shift f))
core_of Shift f = level Shift Additive (ShiftLeft ∷ ShiftRight ∷ ShiftRight3 ∷ []) binary_expression f
core_of Additive f = level Additive Multiply (Plus ∷ Minus ∷ []) binary_expression f
core_of Multiply f = level Multiply Exponent (Star ∷ Percent ∷ []) binary_expression f
core_of Exponent f = sym Unary f ◇ op binary_expression Star2 (sym Update f ▸ tok Star2 ▸ sym Exponent f)
core_of Unary f = sym Update f ◇ branches (Minus ∷ Plus ∷ Bang ∷ Tilde ∷ 'typeof' ∷ 'void' ∷ 'delete' ∷ []) (λ o. op unary_expression o (tok o ▸ sym Unary f))
core_of Update f = sym LeftHandSide f ◇ branches (Plus2 ∷ Minus2 ∷ []) (λ o. op update_expression o (sym SimpleTarget f ▸ no_newline ▸ tok o) ◇ make update_expression (of o) prefix_flag (tok o ▸ sym SimpleTarget f))
core_of LeftHandSide f = sym New f ◇ sym Call f ◇ sym Chain f
core_of New f = sym Member f ◇ mk new_expression (tok 'new' ▸ sym New f)
core_of Member f = sym Primary f ◇ mk new_expression (tok 'new' ▸ sym Member f ▸ args f) ◇ core_access (sym Member f) f
core_of Call f = mk call_expression ((sym Member f ◇ sym Call f) ▸ args f) ◇ core_access (sym Call f) f
core_of Chain f = mk chain_expression (sym Links f)
core_of Links f = (make call_expression no_op optional_flag ((sym Member f ◇ sym Call f ◇ sym Links f) ▸ tok QuestionDot ▸ args f)
    ◇ make static_member_expression no_op optional_flag ((sym Member f ◇ sym Call f ◇ sym Links f) ▸ tok QuestionDot ▸ sym IdentifierName f)
    ◇ make computed_member_expression no_op optional_flag ((sym Member f ◇ sym Call f ◇ sym Links f) ▸ tok QuestionDot ▸ tok LBrack ▸ sym Expression (plus_in f) ▸ tok RBrack))
    ◇ core_access (sym Links f) f ◇ mk call_expression (sym Links f ▸ args f)
core_of Argument f = sym Assignment (plus_in f) ◇ mk spread_element (tok Dot3 ▸ sym Assignment (plus_in f))
core_of Primary f = mk this_expression (tok 'this') ◇ sym IdentifierReference f ◇ mk null_literal (tok 'null') ◇ mk boolean_literal (any_of ('true' ∷ 'false' ∷ [])) ◇ op numeric_literal Decimal (tok Decimal) ◇ string
    ◇ mk array_expression (tok LBrack ▸ (many (mk elision (tok Comma) ◇ sym Argument f ▸ tok Comma) ▸ (sym Argument f ◇ nothing)) ▸ tok RBrack) ◇ paren_expression f
    ◇ when f.v8 (mk v8_intrinsic_expression (tok Percent ▸ sym IdentifierName f ▸ parens (opt (commas true (sym Assignment (plus_in f))))))
core_of IdentifierReference f = identifier identifier_reference f
core_of BindingIdentifier f = identifier binding_identifier f
core_of LabelIdentifier f = identifier label_identifier f
core_of IdentifierName f = mk identifier_name (lexeme (λ k w e. is_word k))
core_of Target f = sym SimpleTarget f ◇ sym ArrayTarget f
core_of SimpleTarget f = sym IdentifierReference f ◇ core_access (sym Member f) f ◇ core_access (sym Call f) f ◇ parens (sym SimpleTarget f)
core_of ArrayTarget f = mk array_assignment_target (tok LBrack ▸ items (empty_slot ▸ tok Comma) (sym TargetElement f) (rest_of f (mk assignment_target_rest (tok Dot3 ▸ sym Target f))) ▸ tok RBrack)
core_of TargetElement f = sym Target f ◇ mk assignment_target_with_default (sym Target f ▸ tok Eq ▸ sym Assignment (plus_in f))
    ◇ when f.wide (branches core_operators (λ o. mk assignment_target_with_default (sym SimpleTarget f ▸ tok o ▸ sym Assignment (plus_in f))))
core_of _ f = never

unfoldable pub core_rule : Symbol → G
unfolding core_of
core_rule s = core_of s.name s.flags
