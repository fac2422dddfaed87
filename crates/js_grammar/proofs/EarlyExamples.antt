-- The early rules: for each of them a tree that meets it and one that breaks it.
use Rattle.std.specs.Prelude.{true, false, ◌≡◌, codes}
use Rattle.std.proofs.Common.{refl}
use Rattle.std.specs.Str.{chars}
use Rattle.js_base.specs.declared.kind.Kind.TheVariants.{Decimal}
use Rattle.js_grammar.specs.Words.{'get', 'with'}
use Rattle.js_grammar.specs.Trees.{binding_identifier, block_statement, class_body, class_declaration, expression_statement, formal_parameters, function_body, function_expression, identifier_name, identifier_reference, import_attribute, import_declaration, method_definition, numeric_literal, private_identifier, program, property_definition, reg_exp_literal, string_literal, switch_case, switch_statement, tagged_template_expression, template_element, template_literal, try_statement, with_clause, method_op, no_op, of, end, hole, tree}
use Rattle.js_grammar.specs.EarlyRules.{everywhere, one_default, catch_or_finally, not_u_and_v, templates_cooked, attribute_keys_differ, no_private_constructor, no_field_constructor, no_static_prototype, plain_constructor}
use Rattle.js_grammar.proofs.Worked.{label}

-- "switch (a) { case b: default: }"
meets_1 : everywhere one_default (tree (label program no_op 0 0 31) (tree (label switch_statement no_op 0 0 31) (tree (label identifier_reference no_op 0 8 9) end (tree (label switch_case no_op 0 13 20) (tree (label identifier_reference no_op 0 18 19) end end) (tree (label switch_case no_op 0 21 29) (hole end) end))) end) end) ≡ true
unfolding chars
meets_1 = refl

-- two defaults
breaks_1 : everywhere one_default (tree (label program no_op 0 0 31) (tree (label switch_statement no_op 0 0 31) (tree (label identifier_reference no_op 0 8 9) end (tree (label switch_case no_op 0 13 20) (hole end) (tree (label switch_case no_op 0 21 29) (hole end) end))) end) end) ≡ false
unfolding chars
breaks_1 = refl

-- "try {} finally {}"
meets_2 : everywhere catch_or_finally (tree (label program no_op 0 0 17) (tree (label try_statement no_op 0 0 17) (tree (label block_statement no_op 0 4 6) end (hole (tree (label block_statement no_op 0 15 17) end end))) end) end) ≡ true
unfolding chars
meets_2 = refl

-- neither
breaks_2 : everywhere catch_or_finally (tree (label program no_op 0 0 17) (tree (label try_statement no_op 0 0 17) (tree (label block_statement no_op 0 4 6) end (hole (hole end))) end) end) ≡ false
unfolding chars
breaks_2 = refl

-- "/a/gu"
meets_3 : everywhere (not_u_and_v (codes "/a/gu")) (tree (label program no_op 0 0 5) (tree (label expression_statement no_op 0 0 5) (tree (label reg_exp_literal no_op 0 0 5) end end) end) end) ≡ true
unfolding chars
meets_3 = refl

-- "/a/vu"
breaks_3 : everywhere (not_u_and_v (codes "/a/vu")) (tree (label program no_op 0 0 5) (tree (label expression_statement no_op 0 0 5) (tree (label reg_exp_literal no_op 0 0 5) end end) end) end) ≡ false
unfolding chars
breaks_3 = refl

-- "`\\u{a}`"
meets_4 : templates_cooked (codes "`\\u{a}`") (tree (label program no_op 0 0 7) (tree (label expression_statement no_op 0 0 7) (tree (label template_literal no_op 0 0 7) (tree (label template_element no_op 1024 1 6) end end) end) end) end) ≡ true
unfolding chars
meets_4 = refl

-- "`\\u{g}`"
breaks_4 : templates_cooked (codes "`\\u{g}`") (tree (label program no_op 0 0 7) (tree (label expression_statement no_op 0 0 7) (tree (label template_literal no_op 0 0 7) (tree (label template_element no_op 1024 1 6) end end) end) end) end) ≡ false
unfolding chars
breaks_4 = refl

-- "a`\\u{g}`"
meets_5 : templates_cooked (codes "a`\\u{g}`") (tree (label program no_op 0 0 8) (tree (label expression_statement no_op 0 0 8) (tree (label tagged_template_expression no_op 0 0 8) (tree (label identifier_reference no_op 0 0 1) end (tree (label template_literal no_op 0 1 8) (tree (label template_element no_op 1024 2 7) end end) end)) end) end) end) ≡ true
unfolding chars
meets_5 = refl

-- "import 'a' with { b: 'c', d: 'e' }"
meets_6 : everywhere (attribute_keys_differ (codes "import 'a' with { b: 'c', d: 'e' }")) (tree (label program no_op 0 0 34) (tree (label import_declaration no_op 2048 0 34) (tree (label string_literal no_op 0 7 10) end (tree (label with_clause (of 'with') 0 16 34) (tree (label import_attribute no_op 0 18 24) (tree (label identifier_name no_op 0 18 19) end (tree (label string_literal no_op 0 21 24) end end)) (tree (label import_attribute no_op 0 26 32) (tree (label identifier_name no_op 0 26 27) end (tree (label string_literal no_op 0 29 32) end end)) end)) end)) end) end) ≡ true
unfolding chars
meets_6 = refl

-- "import 'a' with { b: 'c', b: 'e' }"
breaks_6 : everywhere (attribute_keys_differ (codes "import 'a' with { b: 'c', b: 'e' }")) (tree (label program no_op 0 0 34) (tree (label import_declaration no_op 2048 0 34) (tree (label string_literal no_op 0 7 10) end (tree (label with_clause (of 'with') 0 16 34) (tree (label import_attribute no_op 0 18 24) (tree (label identifier_name no_op 0 18 19) end (tree (label string_literal no_op 0 21 24) end end)) (tree (label import_attribute no_op 0 26 32) (tree (label identifier_name no_op 0 26 27) end (tree (label string_literal no_op 0 29 32) end end)) end)) end)) end) end) ≡ false
unfolding chars
breaks_6 = refl

-- "import 'a' with { b: 'c', 'd': 'e' }"
meets_7 : everywhere (attribute_keys_differ (codes "import 'a' with { b: 'c', 'd': 'e' }")) (tree (label program no_op 0 0 36) (tree (label import_declaration no_op 2048 0 36) (tree (label string_literal no_op 0 7 10) end (tree (label with_clause (of 'with') 0 16 36) (tree (label import_attribute no_op 0 18 24) (tree (label identifier_name no_op 0 18 19) end (tree (label string_literal no_op 0 21 24) end end)) (tree (label import_attribute no_op 0 26 34) (tree (label string_literal no_op 0 26 29) end (tree (label string_literal no_op 0 31 34) end end)) end)) end)) end) end) ≡ true
unfolding chars
meets_7 = refl

-- "import 'a' with { b: 'c', 'b': 'e' }"
breaks_7 : everywhere (attribute_keys_differ (codes "import 'a' with { b: 'c', 'b': 'e' }")) (tree (label program no_op 0 0 36) (tree (label import_declaration no_op 2048 0 36) (tree (label string_literal no_op 0 7 10) end (tree (label with_clause (of 'with') 0 16 36) (tree (label import_attribute no_op 0 18 24) (tree (label identifier_name no_op 0 18 19) end (tree (label string_literal no_op 0 21 24) end end)) (tree (label import_attribute no_op 0 26 34) (tree (label string_literal no_op 0 26 29) end (tree (label string_literal no_op 0 31 34) end end)) end)) end)) end) end) ≡ false
unfolding chars
breaks_7 = refl

-- "class A { #Constructor }"
meets_8 : everywhere (no_private_constructor (codes "class A { #Constructor }")) (tree (label program no_op 0 0 24) (tree (label class_declaration no_op 0 0 24) (tree (label binding_identifier no_op 0 6 7) end (hole (tree (label class_body no_op 0 8 24) (tree (label property_definition no_op 0 10 22) (tree (label private_identifier no_op 0 10 22) end (hole end)) end) end))) end) end) ≡ true
unfolding chars
meets_8 = refl

-- "class A { #constructor }"
breaks_8 : everywhere (no_private_constructor (codes "class A { #constructor }")) (tree (label program no_op 0 0 24) (tree (label class_declaration no_op 0 0 24) (tree (label binding_identifier no_op 0 6 7) end (hole (tree (label class_body no_op 0 8 24) (tree (label property_definition no_op 0 10 22) (tree (label private_identifier no_op 0 10 22) end (hole end)) end) end))) end) end) ≡ false
unfolding chars
breaks_8 = refl

-- "class A { Constructor = 1 }"
meets_9 : everywhere (no_field_constructor (codes "class A { Constructor = 1 }")) (tree (label program no_op 0 0 27) (tree (label class_declaration no_op 0 0 27) (tree (label binding_identifier no_op 0 6 7) end (hole (tree (label class_body no_op 0 8 27) (tree (label property_definition no_op 0 10 25) (tree (label identifier_name no_op 0 10 21) end (tree (label numeric_literal (of Decimal) 0 24 25) end end)) end) end))) end) end) ≡ true
unfolding chars
meets_9 = refl

-- "class A { constructor = 1 }"
breaks_9 : everywhere (no_field_constructor (codes "class A { constructor = 1 }")) (tree (label program no_op 0 0 27) (tree (label class_declaration no_op 0 0 27) (tree (label binding_identifier no_op 0 6 7) end (hole (tree (label class_body no_op 0 8 27) (tree (label property_definition no_op 0 10 25) (tree (label identifier_name no_op 0 10 21) end (tree (label numeric_literal (of Decimal) 0 24 25) end end)) end) end))) end) end) ≡ false
unfolding chars
breaks_9 = refl

-- "class A { ['constructor'] = 1 }"
meets_10 : everywhere (no_field_constructor (codes "class A { ['constructor'] = 1 }")) (tree (label program no_op 0 0 31) (tree (label class_declaration no_op 0 0 31) (tree (label binding_identifier no_op 0 6 7) end (hole (tree (label class_body no_op 0 8 31) (tree (label property_definition no_op 4 10 29) (tree (label string_literal no_op 0 11 24) end (tree (label numeric_literal (of Decimal) 0 28 29) end end)) end) end))) end) end) ≡ true
unfolding chars
meets_10 = refl

-- "class A { static 'Prototype'() {} }"
meets_11 : everywhere (no_static_prototype (codes "class A { static 'Prototype'() {} }")) (tree (label program no_op 0 0 35) (tree (label class_declaration no_op 0 0 35) (tree (label binding_identifier no_op 0 6 7) end (hole (tree (label class_body no_op 0 8 35) (tree (label method_definition method_op 256 10 33) (tree (label string_literal no_op 0 17 28) end (tree (label function_expression no_op 0 28 33) (hole (tree (label formal_parameters no_op 0 28 30) end (tree (label function_body no_op 0 31 33) end end))) end)) end) end))) end) end) ≡ true
unfolding chars
meets_11 = refl

-- "class A { static 'prototype'() {} }"
breaks_11 : everywhere (no_static_prototype (codes "class A { static 'prototype'() {} }")) (tree (label program no_op 0 0 35) (tree (label class_declaration no_op 0 0 35) (tree (label binding_identifier no_op 0 6 7) end (hole (tree (label class_body no_op 0 8 35) (tree (label method_definition method_op 256 10 33) (tree (label string_literal no_op 0 17 28) end (tree (label function_expression no_op 0 28 33) (hole (tree (label formal_parameters no_op 0 28 30) end (tree (label function_body no_op 0 31 33) end end))) end)) end) end))) end) end) ≡ false
unfolding chars
breaks_11 = refl

-- "class A { static #prototype }"
meets_12 : everywhere (no_static_prototype (codes "class A { static #prototype }")) (tree (label program no_op 0 0 29) (tree (label class_declaration no_op 0 0 29) (tree (label binding_identifier no_op 0 6 7) end (hole (tree (label class_body no_op 0 8 29) (tree (label property_definition no_op 256 10 27) (tree (label private_identifier no_op 0 17 27) end (hole end)) end) end))) end) end) ≡ true
unfolding chars
meets_12 = refl

-- "class A { get Constructor() {} }"
meets_13 : everywhere (plain_constructor (codes "class A { get Constructor() {} }")) (tree (label program no_op 0 0 32) (tree (label class_declaration no_op 0 0 32) (tree (label binding_identifier no_op 0 6 7) end (hole (tree (label class_body no_op 0 8 32) (tree (label method_definition (of 'get') 0 10 30) (tree (label identifier_name no_op 0 14 25) end (tree (label function_expression no_op 0 25 30) (hole (tree (label formal_parameters no_op 0 25 27) end (tree (label function_body no_op 0 28 30) end end))) end)) end) end))) end) end) ≡ true
unfolding chars
meets_13 = refl

-- "class A { get constructor() {} }"
breaks_13 : everywhere (plain_constructor (codes "class A { get constructor() {} }")) (tree (label program no_op 0 0 32) (tree (label class_declaration no_op 0 0 32) (tree (label binding_identifier no_op 0 6 7) end (hole (tree (label class_body no_op 0 8 32) (tree (label method_definition (of 'get') 0 10 30) (tree (label identifier_name no_op 0 14 25) end (tree (label function_expression no_op 0 25 30) (hole (tree (label formal_parameters no_op 0 25 27) end (tree (label function_body no_op 0 28 30) end end))) end)) end) end))) end) end) ≡ false
unfolding chars
breaks_13 = refl

-- "class A { static get constructor() {} }"
meets_14 : everywhere (plain_constructor (codes "class A { static get constructor() {} }")) (tree (label program no_op 0 0 39) (tree (label class_declaration no_op 0 0 39) (tree (label binding_identifier no_op 0 6 7) end (hole (tree (label class_body no_op 0 8 39) (tree (label method_definition (of 'get') 256 10 37) (tree (label identifier_name no_op 0 21 32) end (tree (label function_expression no_op 0 32 37) (hole (tree (label formal_parameters no_op 0 32 34) end (tree (label function_body no_op 0 35 37) end end))) end)) end) end))) end) end) ≡ true
unfolding chars
meets_14 = refl

-- "class A { *Constructor() {} }"
meets_15 : everywhere (plain_constructor (codes "class A { *Constructor() {} }")) (tree (label program no_op 0 0 29) (tree (label class_declaration no_op 0 0 29) (tree (label binding_identifier no_op 0 6 7) end (hole (tree (label class_body no_op 0 8 29) (tree (label method_definition method_op 0 10 27) (tree (label identifier_name no_op 0 11 22) end (tree (label function_expression no_op 64 22 27) (hole (tree (label formal_parameters no_op 0 22 24) end (tree (label function_body no_op 0 25 27) end end))) end)) end) end))) end) end) ≡ true
unfolding chars
meets_15 = refl

-- "class A { *constructor() {} }"
breaks_15 : everywhere (plain_constructor (codes "class A { *constructor() {} }")) (tree (label program no_op 0 0 29) (tree (label class_declaration no_op 0 0 29) (tree (label binding_identifier no_op 0 6 7) end (hole (tree (label class_body no_op 0 8 29) (tree (label method_definition method_op 0 10 27) (tree (label identifier_name no_op 0 11 22) end (tree (label function_expression no_op 64 22 27) (hole (tree (label formal_parameters no_op 0 22 24) end (tree (label function_body no_op 0 25 27) end end))) end)) end) end))) end) end) ≡ false
unfolding chars
breaks_15 = refl
