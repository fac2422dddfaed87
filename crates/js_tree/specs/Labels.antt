-- What a node is, as the definitions of trees see it: its kind, its op, its flags and its span.
use Rattle.std.specs.Prelude.{ℕ, ◌+◌, ◌*◌, Bool, true, false}
use Rattle.js_base.specs.declared.kind.Kind.{Kind}
use Rattle.js_base.specs.declared.kind.Kind.TheVariants as kind
use Rattle.js_base.specs.declared.span.Span.{Span}
use Rattle.js_base.specs.declared.operator.BinaryOperator.{BinaryOperator}
use Rattle.js_base.specs.declared.operator.BinaryOperator.TheVariants as binary
use Rattle.js_base.specs.declared.operator.UnaryOperator.{UnaryOperator}
use Rattle.js_base.specs.declared.operator.UnaryOperator.TheVariants as unary
use Rattle.js_base.specs.declared.operator.LogicalOperator.{LogicalOperator}
use Rattle.js_base.specs.declared.operator.LogicalOperator.TheVariants as logical
use Rattle.js_base.specs.declared.operator.UpdateOperator.{UpdateOperator}
use Rattle.js_base.specs.declared.operator.UpdateOperator.TheVariants as update
use Rattle.js_base.specs.declared.operator.AssignmentOperator.{AssignmentOperator}
use Rattle.js_base.specs.declared.operator.AssignmentOperator.TheVariants as assignment
use Rattle.js_tree.specs.declared.kind.NodeKind.{NodeKind}
use Rattle.js_tree.specs.declared.kind.NodeKind.TheVariants as node
use Rattle.js_grammar.specs.Trees.{NodeKind as TreeKind, program, hashbang, directive, block_statement, empty_statement, expression_statement, variable_declaration, variable_declarator, if_statement, do_while_statement, while_statement, with_statement, for_statement, for_in_statement, for_of_statement, continue_statement, break_statement, return_statement, throw_statement, switch_statement, switch_case, try_statement, catch_clause, catch_parameter, debugger_statement, labeled_statement, function_declaration, function_expression, formal_parameters, formal_parameter, formal_parameter_rest, binding_rest_element, function_body, arrow_function_expression, class_declaration, class_expression, class_body, method_definition, property_definition, accessor_property, static_block, decorator, object_expression, object_property, spread_element, sequence_expression, assignment_expression, yield_expression, conditional_expression, logical_expression, binary_expression, private_in_expression, unary_expression, await_expression, update_expression, new_expression, static_member_expression, computed_member_expression, private_field_expression, tagged_template_expression, new_target_expression, import_meta, call_expression, import_expression, chain_expression, super_expression, this_expression, null_literal, boolean_literal, numeric_literal, big_int_literal, string_literal, reg_exp_literal, array_expression, elision, parenthesized_expression, v8_intrinsic_expression, template_literal, template_element, identifier_reference, binding_identifier, label_identifier, identifier_name, private_identifier, array_assignment_target, object_assignment_target, assignment_target_rest, assignment_target_with_default, assignment_target_property_identifier, assignment_target_property_property, array_pattern, object_pattern, binding_property, assignment_pattern, import_declaration, import_default_specifier, import_namespace_specifier, import_specifier, with_clause, import_attribute, export_all_declaration, export_from_declaration, export_named_declaration, export_declaration, export_default_declaration, export_specifier, Op as TreeOp, no_op, init, method_op, constructor_op, exponential, of, Label}
use Rattle.js_tree.specs.declared.op.Op.{Op}
use Rattle.js_tree.specs.declared.op.Op.TheVariants as op
use Rattle.js_tree.specs.declared.op.DeclarationKind.{DeclarationKind}
use Rattle.js_tree.specs.declared.op.DeclarationKind.TheVariants as declaration
use Rattle.js_tree.specs.declared.op.PropertyKind.{PropertyKind}
use Rattle.js_tree.specs.declared.op.PropertyKind.TheVariants as property
use Rattle.js_tree.specs.declared.op.MethodKind.{MethodKind}
use Rattle.js_tree.specs.declared.op.MethodKind.TheVariants as method
use Rattle.js_tree.specs.declared.op.NumberBase.{NumberBase}
use Rattle.js_tree.specs.declared.op.NumberBase.TheVariants as number
use Rattle.js_tree.specs.declared.op.BigintBase.{BigintBase}
use Rattle.js_tree.specs.declared.op.BigintBase.TheVariants as bigint
use Rattle.js_tree.specs.declared.op.ClauseWord.{ClauseWord}
use Rattle.js_tree.specs.declared.op.ClauseWord.TheVariants as clause
use Rattle.js_tree.specs.declared.flags.NodeFlags.{NodeFlags}

abbrev pub kind_of : NodeKind → TreeKind
kind_of node.Program = program
kind_of node.Hashbang = hashbang
kind_of node.Directive = directive
kind_of node.BlockStatement = block_statement
kind_of node.EmptyStatement = empty_statement
kind_of node.ExpressionStatement = expression_statement
kind_of node.VariableDeclaration = variable_declaration
kind_of node.VariableDeclarator = variable_declarator
kind_of node.IfStatement = if_statement
kind_of node.DoWhileStatement = do_while_statement
kind_of node.WhileStatement = while_statement
kind_of node.WithStatement = with_statement
kind_of node.ForStatement = for_statement
kind_of node.ForInStatement = for_in_statement
kind_of node.ForOfStatement = for_of_statement
kind_of node.ContinueStatement = continue_statement
kind_of node.BreakStatement = break_statement
kind_of node.ReturnStatement = return_statement
kind_of node.ThrowStatement = throw_statement
kind_of node.SwitchStatement = switch_statement
kind_of node.SwitchCase = switch_case
kind_of node.TryStatement = try_statement
kind_of node.CatchClause = catch_clause
kind_of node.CatchParameter = catch_parameter
kind_of node.DebuggerStatement = debugger_statement
kind_of node.LabeledStatement = labeled_statement
kind_of node.FunctionDeclaration = function_declaration
kind_of node.FunctionExpression = function_expression
kind_of node.FormalParameters = formal_parameters
kind_of node.FormalParameter = formal_parameter
kind_of node.FormalParameterRest = formal_parameter_rest
kind_of node.BindingRestElement = binding_rest_element
kind_of node.FunctionBody = function_body
kind_of node.ArrowFunctionExpression = arrow_function_expression
kind_of node.ClassDeclaration = class_declaration
kind_of node.ClassExpression = class_expression
kind_of node.ClassBody = class_body
kind_of node.MethodDefinition = method_definition
kind_of node.PropertyDefinition = property_definition
kind_of node.AccessorProperty = accessor_property
kind_of node.StaticBlock = static_block
kind_of node.Decorator = decorator
kind_of node.ObjectExpression = object_expression
kind_of node.ObjectProperty = object_property
kind_of node.SpreadElement = spread_element
kind_of node.SequenceExpression = sequence_expression
kind_of node.AssignmentExpression = assignment_expression
kind_of node.YieldExpression = yield_expression
kind_of node.ConditionalExpression = conditional_expression
kind_of node.LogicalExpression = logical_expression
kind_of node.BinaryExpression = binary_expression
kind_of node.PrivateInExpression = private_in_expression
kind_of node.UnaryExpression = unary_expression
kind_of node.AwaitExpression = await_expression
kind_of node.UpdateExpression = update_expression
kind_of node.NewExpression = new_expression
kind_of node.StaticMemberExpression = static_member_expression
kind_of node.ComputedMemberExpression = computed_member_expression
kind_of node.PrivateFieldExpression = private_field_expression
kind_of node.TaggedTemplateExpression = tagged_template_expression
kind_of node.NewTarget = new_target_expression
kind_of node.ImportMeta = import_meta
kind_of node.CallExpression = call_expression
kind_of node.ImportExpression = import_expression
kind_of node.ChainExpression = chain_expression
kind_of node.Super = super_expression
kind_of node.ThisExpression = this_expression
kind_of node.NullLiteral = null_literal
kind_of node.BooleanLiteral = boolean_literal
kind_of node.NumericLiteral = numeric_literal
kind_of node.BigIntLiteral = big_int_literal
kind_of node.StringLiteral = string_literal
kind_of node.RegExpLiteral = reg_exp_literal
kind_of node.ArrayExpression = array_expression
kind_of node.Elision = elision
kind_of node.ParenthesizedExpression = parenthesized_expression
kind_of node.V8IntrinsicExpression = v8_intrinsic_expression
kind_of node.TemplateLiteral = template_literal
kind_of node.TemplateElement = template_element
kind_of node.IdentifierReference = identifier_reference
kind_of node.BindingIdentifier = binding_identifier
kind_of node.LabelIdentifier = label_identifier
kind_of node.IdentifierName = identifier_name
kind_of node.PrivateIdentifier = private_identifier
kind_of node.ArrayAssignmentTarget = array_assignment_target
kind_of node.ObjectAssignmentTarget = object_assignment_target
kind_of node.AssignmentTargetRest = assignment_target_rest
kind_of node.AssignmentTargetWithDefault = assignment_target_with_default
kind_of node.AssignmentTargetPropertyIdentifier = assignment_target_property_identifier
kind_of node.AssignmentTargetPropertyProperty = assignment_target_property_property
kind_of node.ArrayPattern = array_pattern
kind_of node.ObjectPattern = object_pattern
kind_of node.BindingProperty = binding_property
kind_of node.AssignmentPattern = assignment_pattern
kind_of node.ImportDeclaration = import_declaration
kind_of node.ImportDefaultSpecifier = import_default_specifier
kind_of node.ImportNamespaceSpecifier = import_namespace_specifier
kind_of node.ImportSpecifier = import_specifier
kind_of node.WithClause = with_clause
kind_of node.ImportAttribute = import_attribute
kind_of node.ExportAllDeclaration = export_all_declaration
kind_of node.ExportFromDeclaration = export_from_declaration
kind_of node.ExportNamedDeclaration = export_named_declaration
kind_of node.ExportDeclaration = export_declaration
kind_of node.ExportDefaultDeclaration = export_default_declaration
kind_of node.ExportSpecifier = export_specifier

-- the kind of lexeme that stands for a binary operator
abbrev pub binary_kind : BinaryOperator → Kind
binary_kind binary.Equality = kind.Eq2
binary_kind binary.Inequality = kind.Neq
binary_kind binary.StrictEquality = kind.Eq3
binary_kind binary.StrictInequality = kind.Neq2
binary_kind binary.LessThan = kind.LAngle
binary_kind binary.LessEqualThan = kind.LtEq
binary_kind binary.GreaterThan = kind.RAngle
binary_kind binary.GreaterEqualThan = kind.GtEq
binary_kind binary.ShiftLeft = kind.ShiftLeft
binary_kind binary.ShiftRight = kind.ShiftRight
binary_kind binary.ShiftRightZeroFill = kind.ShiftRight3
binary_kind binary.Addition = kind.Plus
binary_kind binary.Subtraction = kind.Minus
binary_kind binary.Multiplication = kind.Star
binary_kind binary.Division = kind.Slash
binary_kind binary.Remainder = kind.Percent
binary_kind binary.BitwiseOR = kind.Pipe
binary_kind binary.BitwiseXOR = kind.Caret
binary_kind binary.BitwiseAnd = kind.Amp
binary_kind binary.In = kind.In
binary_kind binary.Instanceof = kind.Instanceof
binary_kind binary.Exponential = kind.Star2

-- the kind of lexeme that stands for an unary operator
abbrev pub unary_kind : UnaryOperator → Kind
unary_kind unary.UnaryNegation = kind.Minus
unary_kind unary.UnaryPlus = kind.Plus
unary_kind unary.LogicalNot = kind.Bang
unary_kind unary.BitwiseNot = kind.Tilde
unary_kind unary.Typeof = kind.Typeof
unary_kind unary.Void = kind.Void
unary_kind unary.Delete = kind.Delete

-- the kind of lexeme that stands for a logical operator
abbrev pub logical_kind : LogicalOperator → Kind
logical_kind logical.Or = kind.Pipe2
logical_kind logical.And = kind.Amp2
logical_kind logical.Coalesce = kind.Question2

-- the kind of lexeme that stands for an update operator
abbrev pub update_kind : UpdateOperator → Kind
update_kind update.Increment = kind.Plus2
update_kind update.Decrement = kind.Minus2

-- the kind of lexeme that stands for an assignment operator
abbrev pub assignment_kind : AssignmentOperator → Kind
assignment_kind assignment.Assign = kind.Eq
assignment_kind assignment.Addition = kind.PlusEq
assignment_kind assignment.Subtraction = kind.MinusEq
assignment_kind assignment.Multiplication = kind.StarEq
assignment_kind assignment.Division = kind.SlashEq
assignment_kind assignment.Remainder = kind.PercentEq
assignment_kind assignment.ShiftLeft = kind.ShiftLeftEq
assignment_kind assignment.ShiftRight = kind.ShiftRightEq
assignment_kind assignment.ShiftRightZeroFill = kind.ShiftRight3Eq
assignment_kind assignment.BitwiseOR = kind.PipeEq
assignment_kind assignment.BitwiseXOR = kind.CaretEq
assignment_kind assignment.BitwiseAnd = kind.AmpEq
assignment_kind assignment.LogicalAnd = kind.Amp2Eq
assignment_kind assignment.LogicalOr = kind.Pipe2Eq
assignment_kind assignment.LogicalNullish = kind.Question2Eq
assignment_kind assignment.Exponential = kind.Star2Eq

-- `var`, `let`, `const` (14.3)
abbrev pub declaration_kind : DeclarationKind → Kind
declaration_kind declaration.Var = kind.Var
declaration_kind declaration.Let = kind.Let
declaration_kind declaration.Const = kind.Const

-- a property that is no getter and no setter, `get`, `set` (13.2.5)
abbrev pub property_op : PropertyKind → TreeOp
property_op property.Init = init
property_op property.Get = of kind.Get
property_op property.Set = of kind.Set

-- the constructor, a method, `get`, `set` (15.4, 15.7)
abbrev pub method_op_of : MethodKind → TreeOp
method_op_of method.Constructor = constructor_op
method_op_of method.Method = method_op
method_op_of method.Get = of kind.Get
method_op_of method.Set = of kind.Set

-- how a number is written (12.9.3)
abbrev pub number_op : NumberBase → TreeOp
number_op number.Decimal = of kind.Decimal
number_op number.Float = of kind.Float
number_op number.Binary = of kind.Binary
number_op number.Octal = of kind.Octal
number_op number.Hex = of kind.Hex
number_op number.Exponential = exponential

abbrev pub bigint_kind : BigintBase → Kind
bigint_kind bigint.Decimal = kind.Decimal
bigint_kind bigint.Binary = kind.Binary
bigint_kind bigint.Octal = kind.Octal
bigint_kind bigint.Hex = kind.Hex

-- `with`, `assert` (16.2.2)
abbrev pub clause_kind : ClauseWord → Kind
clause_kind clause.With = kind.With
clause_kind clause.Assert = kind.Assert

abbrev pub op_of : Op → TreeOp
op_of op.None = no_op
op_of (op.Binary o) = of (binary_kind o)
op_of (op.Logical o) = of (logical_kind o)
op_of (op.Unary o) = of (unary_kind o)
op_of (op.Update o) = of (update_kind o)
op_of (op.Assignment o) = of (assignment_kind o)
op_of (op.Declaration w) = of (declaration_kind w)
op_of (op.Property p) = property_op p
op_of (op.Method m) = method_op_of m
op_of (op.Number b) = number_op b
op_of (op.Bigint b) = of (bigint_kind b)
op_of (op.Clause w) = of (clause_kind w)

-- a flag in a number, before the others
abbrev pub with_bit : Bool → ℕ → ℕ
with_bit true n = 1 + 2 * n
with_bit false n = 2 * n

-- the flags as a sum of powers of two
abbrev pub number_of : NodeFlags → ℕ
number_of f = with_bit f.prefix (with_bit f.optional (with_bit f.computed (with_bit f.shorthand (with_bit f.method (with_bit f.is_async (with_bit f.generator (with_bit f.delegate (with_bit f.is_static (with_bit f.is_await (with_bit f.tail (with_bit f.bare (with_bit f.pure (with_bit f.pife 0)))))))))))))

abbrev pub label_of : NodeKind → Op → NodeFlags → Span → Label
label_of k o f s = record { kind = kind_of k; op = op_of o; flags = number_of f; span = record { from = s.start; to = s.end } }
