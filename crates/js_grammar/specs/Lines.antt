-- What the program prints: the lines of a tree and of diagnostics. Every line ends with LF.
use Rattle.std.specs.Prelude.{ℕ, suc, ◌*◌, ◌/◌, ◌%◌, List, [], ◌∷◌, ◌++◌, cond, codes, nat_eq, Option, Some, None, replicate}
use Rattle.js_base.specs.Texts.{text_of}
use Rattle.js_base.specs.Diagnostics.{name_of}
use Rattle.js_base.specs.declared.diagnostic.Diagnostic.{Diagnostic}
use Rattle.js_base.specs.declared.span.Span.{Span}
use Rattle.js_grammar.specs.Trees.{NodeKind, program, hashbang, directive, block_statement, empty_statement, expression_statement, variable_declaration, variable_declarator, if_statement, do_while_statement, while_statement, with_statement, for_statement, for_in_statement, for_of_statement, continue_statement, break_statement, return_statement, throw_statement, switch_statement, switch_case, try_statement, catch_clause, catch_parameter, debugger_statement, labeled_statement, function_declaration, function_expression, formal_parameters, formal_parameter, formal_parameter_rest, binding_rest_element, function_body, arrow_function_expression, class_declaration, class_expression, class_body, method_definition, property_definition, accessor_property, static_block, decorator, object_expression, object_property, spread_element, sequence_expression, assignment_expression, yield_expression, conditional_expression, logical_expression, binary_expression, private_in_expression, unary_expression, await_expression, update_expression, new_expression, static_member_expression, computed_member_expression, private_field_expression, tagged_template_expression, new_target_expression, import_meta, call_expression, import_expression, chain_expression, super_expression, this_expression, null_literal, boolean_literal, numeric_literal, big_int_literal, string_literal, reg_exp_literal, array_expression, elision, parenthesized_expression, v8_intrinsic_expression, template_literal, template_element, identifier_reference, binding_identifier, label_identifier, identifier_name, private_identifier, array_assignment_target, object_assignment_target, assignment_target_rest, assignment_target_with_default, assignment_target_property_identifier, assignment_target_property_property, array_pattern, object_pattern, binding_property, assignment_pattern, import_declaration, import_default_specifier, import_namespace_specifier, import_specifier, with_clause, import_attribute, export_all_declaration, export_from_declaration, export_named_declaration, export_declaration, export_default_declaration, export_specifier, Op, no_op, init, method_op, constructor_op, exponential, of, Label, Slots, end, hole, tree, Tree}
pub use Rattle.js_base.specs.Spans.{places_text, span_text}

-- the name of a node's kind
abbrev pub kind_text : NodeKind → List ℕ
kind_text program = codes "Program"
kind_text hashbang = codes "Hashbang"
kind_text directive = codes "Directive"
kind_text block_statement = codes "BlockStatement"
kind_text empty_statement = codes "EmptyStatement"
kind_text expression_statement = codes "ExpressionStatement"
kind_text variable_declaration = codes "VariableDeclaration"
kind_text variable_declarator = codes "VariableDeclarator"
kind_text if_statement = codes "IfStatement"
kind_text do_while_statement = codes "DoWhileStatement"
kind_text while_statement = codes "WhileStatement"
kind_text with_statement = codes "WithStatement"
kind_text for_statement = codes "ForStatement"
kind_text for_in_statement = codes "ForInStatement"
kind_text for_of_statement = codes "ForOfStatement"
kind_text continue_statement = codes "ContinueStatement"
kind_text break_statement = codes "BreakStatement"
kind_text return_statement = codes "ReturnStatement"
kind_text throw_statement = codes "ThrowStatement"
kind_text switch_statement = codes "SwitchStatement"
kind_text switch_case = codes "SwitchCase"
kind_text try_statement = codes "TryStatement"
kind_text catch_clause = codes "CatchClause"
kind_text catch_parameter = codes "CatchParameter"
kind_text debugger_statement = codes "DebuggerStatement"
kind_text labeled_statement = codes "LabeledStatement"
kind_text function_declaration = codes "FunctionDeclaration"
kind_text function_expression = codes "FunctionExpression"
kind_text formal_parameters = codes "FormalParameters"
kind_text formal_parameter = codes "FormalParameter"
kind_text formal_parameter_rest = codes "FormalParameterRest"
kind_text binding_rest_element = codes "BindingRestElement"
kind_text function_body = codes "FunctionBody"
kind_text arrow_function_expression = codes "ArrowFunctionExpression"
kind_text class_declaration = codes "ClassDeclaration"
kind_text class_expression = codes "ClassExpression"
kind_text class_body = codes "ClassBody"
kind_text method_definition = codes "MethodDefinition"
kind_text property_definition = codes "PropertyDefinition"
kind_text accessor_property = codes "AccessorProperty"
kind_text static_block = codes "StaticBlock"
kind_text decorator = codes "Decorator"
kind_text object_expression = codes "ObjectExpression"
kind_text object_property = codes "ObjectProperty"
kind_text spread_element = codes "SpreadElement"
kind_text sequence_expression = codes "SequenceExpression"
kind_text assignment_expression = codes "AssignmentExpression"
kind_text yield_expression = codes "YieldExpression"
kind_text conditional_expression = codes "ConditionalExpression"
kind_text logical_expression = codes "LogicalExpression"
kind_text binary_expression = codes "BinaryExpression"
kind_text private_in_expression = codes "PrivateInExpression"
kind_text unary_expression = codes "UnaryExpression"
kind_text await_expression = codes "AwaitExpression"
kind_text update_expression = codes "UpdateExpression"
kind_text new_expression = codes "NewExpression"
kind_text static_member_expression = codes "StaticMemberExpression"
kind_text computed_member_expression = codes "ComputedMemberExpression"
kind_text private_field_expression = codes "PrivateFieldExpression"
kind_text tagged_template_expression = codes "TaggedTemplateExpression"
kind_text new_target_expression = codes "NewTarget"
kind_text import_meta = codes "ImportMeta"
kind_text call_expression = codes "CallExpression"
kind_text import_expression = codes "ImportExpression"
kind_text chain_expression = codes "ChainExpression"
kind_text super_expression = codes "Super"
kind_text this_expression = codes "ThisExpression"
kind_text null_literal = codes "NullLiteral"
kind_text boolean_literal = codes "BooleanLiteral"
kind_text numeric_literal = codes "NumericLiteral"
kind_text big_int_literal = codes "BigIntLiteral"
kind_text string_literal = codes "StringLiteral"
kind_text reg_exp_literal = codes "RegExpLiteral"
kind_text array_expression = codes "ArrayExpression"
kind_text elision = codes "Elision"
kind_text parenthesized_expression = codes "ParenthesizedExpression"
kind_text v8_intrinsic_expression = codes "V8IntrinsicExpression"
kind_text template_literal = codes "TemplateLiteral"
kind_text template_element = codes "TemplateElement"
kind_text identifier_reference = codes "IdentifierReference"
kind_text binding_identifier = codes "BindingIdentifier"
kind_text label_identifier = codes "LabelIdentifier"
kind_text identifier_name = codes "IdentifierName"
kind_text private_identifier = codes "PrivateIdentifier"
kind_text array_assignment_target = codes "ArrayAssignmentTarget"
kind_text object_assignment_target = codes "ObjectAssignmentTarget"
kind_text assignment_target_rest = codes "AssignmentTargetRest"
kind_text assignment_target_with_default = codes "AssignmentTargetWithDefault"
kind_text assignment_target_property_identifier = codes "AssignmentTargetPropertyIdentifier"
kind_text assignment_target_property_property = codes "AssignmentTargetPropertyProperty"
kind_text array_pattern = codes "ArrayPattern"
kind_text object_pattern = codes "ObjectPattern"
kind_text binding_property = codes "BindingProperty"
kind_text assignment_pattern = codes "AssignmentPattern"
kind_text import_declaration = codes "ImportDeclaration"
kind_text import_default_specifier = codes "ImportDefaultSpecifier"
kind_text import_namespace_specifier = codes "ImportNamespaceSpecifier"
kind_text import_specifier = codes "ImportSpecifier"
kind_text with_clause = codes "WithClause"
kind_text import_attribute = codes "ImportAttribute"
kind_text export_all_declaration = codes "ExportAllDeclaration"
kind_text export_from_declaration = codes "ExportFromDeclaration"
kind_text export_named_declaration = codes "ExportNamedDeclaration"
kind_text export_declaration = codes "ExportDeclaration"
kind_text export_default_declaration = codes "ExportDefaultDeclaration"
kind_text export_specifier = codes "ExportSpecifier"

-- the text of an op: an operator, a word, or the name of a base
abbrev pub op_text : Op → List ℕ
op_text no_op = []
op_text init = codes " init"
op_text method_op = codes " method"
op_text constructor_op = codes " constructor"
op_text exponential = codes " Exponential"
op_text (of k) = 32 ∷ text_of k

-- the flags, each of which is a bit of their number, in this order
abbrev pub flag_words : List (List ℕ)
flag_words = codes "prefix" ∷ codes "optional" ∷ codes "computed" ∷ codes "shorthand" ∷ codes "method" ∷ codes "async" ∷ codes "generator" ∷ codes "delegate" ∷ codes "static" ∷ codes "await" ∷ codes "tail" ∷ codes "bare" ∷ codes "pure" ∷ codes "pife" ∷ []

abbrev pub words_of : List (List ℕ) → ℕ → List ℕ
words_of [] n = []
words_of (w ∷ ws) n = cond (nat_eq (n % 2) 1) (32 ∷ w) [] ++ words_of ws (n / 2)

-- a node's line: its kind, its span, its op, its flags
abbrev pub label_text : Label → List ℕ
label_text l = kind_text l.kind ++ (32 ∷ (places_text l.span.from l.span.to ++ (op_text l.op ++ words_of flag_words l.flags)))

-- two spaces for each level
abbrev pub indent : ℕ → List ℕ
indent d = replicate (2 * d) 32

-- the lines of slots at a depth, a node before its own slots; an empty slot is a `-`
abbrev pub slots_text : ℕ → Slots → List ℕ
slots_text d end = []
slots_text d (hole us) = indent d ++ (codes "-" ++ (10 ∷ slots_text d us))
slots_text d (tree l cs us) = indent d ++ (label_text l ++ (10 ∷ (slots_text (suc d) cs ++ slots_text d us)))

abbrev pub tree_text : Tree → List ℕ
tree_text t = slots_text 0 (tree t.label t.slots end)

abbrev pub related_text : Option Span → List ℕ
related_text None = []
related_text (Some s) = 32 ∷ span_text s

-- a diagnostic's line: its span, its kind, its related places
abbrev pub diagnostic_line : Diagnostic → List ℕ
diagnostic_line d = span_text d.span ++ (32 ∷ (name_of d.kind ++ (related_text d.first ++ (related_text d.second ++ (10 ∷ [])))))

abbrev pub diagnostic_text : List Diagnostic → List ℕ
diagnostic_text [] = []
diagnostic_text (d ∷ ds) = diagnostic_line d ++ diagnostic_text ds
