-- Worked examples: the lines of the records of short modules, computed by the definitions.
use Rattle.std.proofs.Common.{◌≡◌, ℕ, ◌++◌, refl}
use Rattle.std.specs.Prelude.{codes}
use Rattle.std.specs.Char.Utf16.{utf16_chars}
use Rattle.std.specs.Fmt.{digits}
use Rattle.std.specs.Str.{chars}
use Rattle.js_base.specs.declared.kind.Kind.TheVariants.{Var, Eq, Decimal}
use Rattle.js_grammar.specs.Modules.{record_of, record_errors}
use Rattle.js_grammar.specs.Lines.{diagnostic_text}
use Rattle.js_grammar.specs.RecordLines.{record_text}
use Rattle.js_grammar.specs.Trees.{NodeKind, assignment_expression, binding_identifier, export_all_declaration, export_declaration, export_default_declaration, export_from_declaration, export_named_declaration, export_specifier, expression_statement, formal_parameters, function_body, function_declaration, identifier_name, identifier_reference, import_declaration, import_default_specifier, import_expression, import_meta, import_namespace_specifier, import_specifier, numeric_literal, parenthesized_expression, program, static_member_expression, string_literal, variable_declaration, variable_declarator, Op, no_op, of, Label, end, hole, tree, Tree}

abbrev label : NodeKind → Op → ℕ → ℕ → ℕ → Label
label k o f a b = record { kind = k; op = o; flags = f; span = record { from = a; to = b } }

-- `import v from 'mod'`
abbrev default_import : Tree
default_import = record { label = label program no_op 0 0 19; slots = tree (label import_declaration no_op 0 0 19) (tree (label string_literal no_op 0 14 19) end (hole (tree (label import_default_specifier no_op 0 7 8) (tree (label binding_identifier no_op 0 7 8) end end) end))) end }

default_import_record : record_text (record_of (codes "import v from 'mod'") default_import) ≡ codes "syntax yes\n" ++ codes "request 14..19 0..19 import\n" ++ codes "import 0..19 request 14..19 default 7..8 local 7..8\n"
unfolding utf16_chars chars digits lib.Utf8.encode
default_import_record = refl

-- `import * as ns from 'mod'`
abbrev namespace_import : Tree
namespace_import = record { label = label program no_op 0 0 25; slots = tree (label import_declaration no_op 0 0 25) (tree (label string_literal no_op 0 20 25) end (hole (tree (label import_namespace_specifier no_op 0 7 14) (tree (label binding_identifier no_op 0 12 14) end end) end))) end }

namespace_import_record : record_text (record_of (codes "import * as ns from 'mod'") namespace_import) ≡ codes "syntax yes\n" ++ codes "request 20..25 0..25 import\n" ++ codes "import 0..25 request 20..25 namespace local 12..14\n"
unfolding utf16_chars chars digits lib.Utf8.encode
namespace_import_record = refl

-- `import { x as v } from 'mod'`
abbrev named_import : Tree
named_import = record { label = label program no_op 0 0 28; slots = tree (label import_declaration no_op 0 0 28) (tree (label string_literal no_op 0 23 28) end (hole (tree (label import_specifier no_op 0 9 15) (tree (label identifier_name no_op 0 9 10) end (tree (label binding_identifier no_op 0 14 15) end end)) end))) end }

named_import_record : record_text (record_of (codes "import { x as v } from 'mod'") named_import) ≡ codes "syntax yes\n" ++ codes "request 23..28 0..28 import\n" ++ codes "import 0..28 request 23..28 name 9..10 local 14..15\n"
unfolding utf16_chars chars digits lib.Utf8.encode
named_import_record = refl

-- `import 'mod'`
abbrev bare_import : Tree
bare_import = record { label = label program no_op 0 0 12; slots = tree (label import_declaration no_op 2048 0 12) (tree (label string_literal no_op 0 7 12) end (hole end)) end }

bare_import_record : record_text (record_of (codes "import 'mod'") bare_import) ≡ codes "syntax yes\n" ++ codes "request 7..12 0..12 import\n"
unfolding utf16_chars chars digits lib.Utf8.encode
bare_import_record = refl

-- `export * from 'mod'`
abbrev export_star : Tree
export_star = record { label = label program no_op 0 0 19; slots = tree (label export_all_declaration no_op 0 0 19) (hole (tree (label string_literal no_op 0 14 19) end (hole end))) end }

export_star_record : record_text (record_of (codes "export * from 'mod'") export_star) ≡ codes "syntax yes\n" ++ codes "request 14..19 0..19 export\n" ++ codes "star 0..19 0..19 request 14..19 import all-but-default export null local null\n"
unfolding utf16_chars chars digits lib.Utf8.encode
export_star_record = refl

-- `export { x }; var x`
abbrev own_export : Tree
own_export = record { label = label program no_op 0 0 19; slots = tree (label export_named_declaration no_op 0 0 13) (tree (label export_specifier no_op 0 9 10) (tree (label identifier_reference no_op 0 9 10) end (tree (label identifier_name no_op 0 9 10) end end)) end) (tree (label variable_declaration (of Var) 0 14 19) (tree (label variable_declarator no_op 0 18 19) (tree (label binding_identifier no_op 0 18 19) end (hole end)) end) end) }

own_export_record : record_text (record_of (codes "export { x }; var x") own_export) ≡ codes "syntax yes\n" ++ codes "exported 9..10\n" ++ codes "local 0..13 9..10 request null import null export name 9..10 local name 9..10\n"
unfolding utf16_chars chars digits lib.Utf8.encode
own_export_record = refl

-- `export { x as v }; var x`
abbrev own_export_as : Tree
own_export_as = record { label = label program no_op 0 0 24; slots = tree (label export_named_declaration no_op 0 0 18) (tree (label export_specifier no_op 0 9 15) (tree (label identifier_reference no_op 0 9 10) end (tree (label identifier_name no_op 0 14 15) end end)) end) (tree (label variable_declaration (of Var) 0 19 24) (tree (label variable_declarator no_op 0 23 24) (tree (label binding_identifier no_op 0 23 24) end (hole end)) end) end) }

own_export_as_record : record_text (record_of (codes "export { x as v }; var x") own_export_as) ≡ codes "syntax yes\n" ++ codes "exported 14..15\n" ++ codes "local 0..18 9..15 request null import null export name 14..15 local name 9..10\n"
unfolding utf16_chars chars digits lib.Utf8.encode
own_export_as_record = refl

-- `export { x as v } from 'mod'`
abbrev export_from : Tree
export_from = record { label = label program no_op 0 0 28; slots = tree (label export_from_declaration no_op 0 0 28) (tree (label string_literal no_op 0 23 28) end (hole (tree (label export_specifier no_op 0 9 15) (tree (label identifier_name no_op 0 9 10) end (tree (label identifier_name no_op 0 14 15) end end)) end))) end }

export_from_record : record_text (record_of (codes "export { x as v } from 'mod'") export_from) ≡ codes "syntax yes\n" ++ codes "request 23..28 0..28 export\n" ++ codes "exported 14..15\n" ++ codes "indirect 0..28 9..15 request 23..28 import name 9..10 export name 14..15 local null\n"
unfolding utf16_chars chars digits lib.Utf8.encode
export_from_record = refl

-- `export var v`
abbrev exported_variable : Tree
exported_variable = record { label = label program no_op 0 0 12; slots = tree (label export_declaration no_op 0 0 12) (tree (label variable_declaration (of Var) 0 7 12) (tree (label variable_declarator no_op 0 11 12) (tree (label binding_identifier no_op 0 11 12) end (hole end)) end) end) end }

exported_variable_record : record_text (record_of (codes "export var v") exported_variable) ≡ codes "syntax yes\n" ++ codes "exported 11..12\n" ++ codes "local 0..12 7..12 request null import null export name 11..12 local name 11..12\n"
unfolding utf16_chars chars digits lib.Utf8.encode
exported_variable_record = refl

-- `export default function f() {}`
abbrev default_function : Tree
default_function = record { label = label program no_op 0 0 30; slots = tree (label export_default_declaration no_op 0 0 30) (tree (label function_declaration no_op 0 15 30) (tree (label binding_identifier no_op 0 24 25) end (tree (label formal_parameters no_op 0 25 27) end (tree (label function_body no_op 0 28 30) end end))) end) end }

default_function_record : record_text (record_of (codes "export default function f() {}") default_function) ≡ codes "syntax yes\n" ++ codes "local 0..30 15..30 request null import null export default 7..14 local name 24..25\n"
unfolding utf16_chars chars digits lib.Utf8.encode
default_function_record = refl

-- `export default 42`
abbrev default_expression : Tree
default_expression = record { label = label program no_op 0 0 17; slots = tree (label export_default_declaration no_op 0 0 17) (tree (label numeric_literal (of Decimal) 0 15 17) end end) end }

default_expression_record : record_text (record_of (codes "export default 42") default_expression) ≡ codes "syntax yes\n" ++ codes "local 0..17 15..17 request null import null export default 7..14 local null\n"
unfolding utf16_chars chars digits lib.Utf8.encode
default_expression_record = refl

-- `export { default } from 'mod'`
abbrev default_from : Tree
default_from = record { label = label program no_op 0 0 29; slots = tree (label export_from_declaration no_op 0 0 29) (tree (label string_literal no_op 0 24 29) end (hole (tree (label export_specifier no_op 0 9 16) (tree (label identifier_name no_op 0 9 16) end (tree (label identifier_name no_op 0 9 16) end end)) end))) end }

default_from_record : record_text (record_of (codes "export { default } from 'mod'") default_from) ≡ codes "syntax yes\n" ++ codes "request 24..29 0..29 export\n" ++ codes "exported 9..16\n" ++ codes "indirect 0..29 9..16 request 24..29 import name 9..16 export name 9..16 local null\n"
unfolding utf16_chars chars digits lib.Utf8.encode
default_from_record = refl

-- `import.meta.foo; import.meta.bar`
abbrev metas : Tree
metas = record { label = label program no_op 0 0 32; slots = tree (label expression_statement no_op 0 0 16) (tree (label static_member_expression no_op 0 0 15) (tree (label import_meta no_op 0 0 11) end (tree (label identifier_name no_op 0 12 15) end end)) end) (tree (label expression_statement no_op 0 17 32) (tree (label static_member_expression no_op 0 17 32) (tree (label import_meta no_op 0 17 28) end (tree (label identifier_name no_op 0 29 32) end end)) end) end) }

metas_record : record_text (record_of (codes "import.meta.foo; import.meta.bar") metas) ≡ codes "syntax yes\n" ++ codes "meta 0..11\n" ++ codes "meta 17..28\n"
unfolding utf16_chars chars digits lib.Utf8.encode
metas_record = refl

-- `import source from 'source'`
abbrev source_import : Tree
source_import = record { label = label program no_op 0 0 27; slots = tree (label import_declaration no_op 0 0 27) (tree (label string_literal no_op 0 19 27) end (hole (tree (label import_default_specifier no_op 0 7 13) (tree (label binding_identifier no_op 0 7 13) end end) end))) end }

source_import_record : record_text (record_of (codes "import source from 'source'") source_import) ≡ codes "syntax yes\n" ++ codes "request 19..27 0..27 import\n" ++ codes "import 0..27 request 19..27 default 7..13 local 7..13\n"
unfolding utf16_chars chars digits lib.Utf8.encode
source_import_record = refl

-- `(a = import('x'))`
abbrev dynamic_import : Tree
dynamic_import = record { label = label program no_op 0 0 17; slots = tree (label expression_statement no_op 0 0 17) (tree (label parenthesized_expression no_op 0 0 17) (tree (label assignment_expression (of Eq) 0 1 16) (tree (label identifier_reference no_op 0 1 2) end (tree (label import_expression no_op 0 5 16) (tree (label string_literal no_op 0 12 15) end (hole end)) end)) end) end) end }

dynamic_import_record : record_text (record_of (codes "(a = import('x'))") dynamic_import) ≡ codes "syntax no\n" ++ codes "dynamic 5..16 request 12..15\n"
unfolding utf16_chars chars digits lib.Utf8.encode
dynamic_import_record = refl

-- `import { x } from 'mod';export { x };export * as ns from 'mod';`
abbrev three_declarations : Tree
three_declarations = record { label = label program no_op 0 0 63; slots = tree (label import_declaration no_op 0 0 24) (tree (label string_literal no_op 0 18 23) end (hole (tree (label import_specifier no_op 0 9 10) (tree (label identifier_name no_op 0 9 10) end (tree (label binding_identifier no_op 0 9 10) end end)) end))) (tree (label export_named_declaration no_op 0 24 37) (tree (label export_specifier no_op 0 33 34) (tree (label identifier_reference no_op 0 33 34) end (tree (label identifier_name no_op 0 33 34) end end)) end) (tree (label export_all_declaration no_op 0 37 63) (tree (label identifier_name no_op 0 49 51) end (tree (label string_literal no_op 0 57 62) end (hole end))) end)) }

three_declarations_record : record_text (record_of (codes "import { x } from 'mod';export { x };export * as ns from 'mod';") three_declarations) ≡ codes "syntax yes\n" ++ codes "request 18..23 0..24 import\n" ++ codes "request 57..62 37..63 export\n" ++ codes "exported 33..34\n" ++ codes "exported 49..51\n" ++ codes "import 0..24 request 18..23 name 9..10 local 9..10\n" ++ codes "indirect 0..24 33..34 request 18..23 import name 9..10 export name 33..34 local null\n" ++ codes "indirect 37..63 37..63 request 57..62 import all export name 49..51 local null\n"
unfolding utf16_chars chars digits lib.Utf8.encode
three_declarations_record = refl

-- `import d from 'm'; export { d }`
abbrev default_again : Tree
default_again = record { label = label program no_op 0 0 31; slots = tree (label import_declaration no_op 0 0 18) (tree (label string_literal no_op 0 14 17) end (hole (tree (label import_default_specifier no_op 0 7 8) (tree (label binding_identifier no_op 0 7 8) end end) end))) (tree (label export_named_declaration no_op 0 19 31) (tree (label export_specifier no_op 0 28 29) (tree (label identifier_reference no_op 0 28 29) end (tree (label identifier_name no_op 0 28 29) end end)) end) end) }

default_again_record : record_text (record_of (codes "import d from 'm'; export { d }") default_again) ≡ codes "syntax yes\n" ++ codes "request 14..17 0..18 import\n" ++ codes "exported 28..29\n" ++ codes "import 0..18 request 14..17 default 7..8 local 7..8\n" ++ codes "indirect 0..18 28..29 request 14..17 import name 7..8 export name 28..29 local null\n"
unfolding utf16_chars chars digits lib.Utf8.encode
default_again_record = refl

-- `import * as n from 'm'; export { n }`
abbrev namespace_again : Tree
namespace_again = record { label = label program no_op 0 0 36; slots = tree (label import_declaration no_op 0 0 23) (tree (label string_literal no_op 0 19 22) end (hole (tree (label import_namespace_specifier no_op 0 7 13) (tree (label binding_identifier no_op 0 12 13) end end) end))) (tree (label export_named_declaration no_op 0 24 36) (tree (label export_specifier no_op 0 33 34) (tree (label identifier_reference no_op 0 33 34) end (tree (label identifier_name no_op 0 33 34) end end)) end) end) }

namespace_again_record : record_text (record_of (codes "import * as n from 'm'; export { n }") namespace_again) ≡ codes "syntax yes\n" ++ codes "request 19..22 0..23 import\n" ++ codes "exported 33..34\n" ++ codes "import 0..23 request 19..22 namespace local 12..13\n" ++ codes "local 24..36 33..34 request null import null export name 33..34 local name 33..34\n"
unfolding utf16_chars chars digits lib.Utf8.encode
namespace_again_record = refl

-- `import(import('a'))`
abbrev nested_dynamic : Tree
nested_dynamic = record { label = label program no_op 0 0 19; slots = tree (label expression_statement no_op 0 0 19) (tree (label import_expression no_op 0 0 19) (tree (label import_expression no_op 0 7 18) (tree (label string_literal no_op 0 14 17) end (hole end)) (hole end)) end) end }

nested_dynamic_record : record_text (record_of (codes "import(import('a'))") nested_dynamic) ≡ codes "syntax no\n" ++ codes "dynamic 7..18 request 14..17\n" ++ codes "dynamic 0..19 request 7..18\n"
unfolding utf16_chars chars digits lib.Utf8.encode
nested_dynamic_record = refl

-- `export /* default */ default 42`
abbrev comment_before_default : Tree
comment_before_default = record { label = label program no_op 0 0 31; slots = tree (label export_default_declaration no_op 0 0 31) (tree (label numeric_literal (of Decimal) 0 29 31) end end) end }

comment_before_default_record : record_text (record_of (codes "export /* default */ default 42") comment_before_default) ≡ codes "syntax yes\n" ++ codes "local 0..31 29..31 request null import null export default 21..28 local null\n"
unfolding utf16_chars chars digits lib.Utf8.encode
comment_before_default_record = refl

-- `export { a, a }; var a`
abbrev duplicate : Tree
duplicate = record { label = label program no_op 0 0 22; slots = tree (label export_named_declaration no_op 0 0 16) (tree (label export_specifier no_op 0 9 10) (tree (label identifier_reference no_op 0 9 10) end (tree (label identifier_name no_op 0 9 10) end end)) (tree (label export_specifier no_op 0 12 13) (tree (label identifier_reference no_op 0 12 13) end (tree (label identifier_name no_op 0 12 13) end end)) end)) (tree (label variable_declaration (of Var) 0 17 22) (tree (label variable_declarator no_op 0 21 22) (tree (label binding_identifier no_op 0 21 22) end (hole end)) end) end) }

duplicate_errors : diagnostic_text (record_errors (codes "export { a, a }; var a") duplicate) ≡ codes "9..10 duplicate_export 12..13\n"
unfolding utf16_chars chars digits lib.Utf8.encode
duplicate_errors = refl

-- `export default 1; export { a as default }; var a`
abbrev two_defaults : Tree
two_defaults = record { label = label program no_op 0 0 48; slots = tree (label export_default_declaration no_op 0 0 17) (tree (label numeric_literal (of Decimal) 0 15 16) end end) (tree (label export_named_declaration no_op 0 18 42) (tree (label export_specifier no_op 0 27 39) (tree (label identifier_reference no_op 0 27 28) end (tree (label identifier_name no_op 0 32 39) end end)) end) (tree (label variable_declaration (of Var) 0 43 48) (tree (label variable_declarator no_op 0 47 48) (tree (label binding_identifier no_op 0 47 48) end (hole end)) end) end)) }

two_defaults_errors : diagnostic_text (record_errors (codes "export default 1; export { a as default }; var a") two_defaults) ≡ codes "7..14 duplicate_default_export 32..39\n"
unfolding utf16_chars chars digits lib.Utf8.encode
two_defaults_errors = refl
