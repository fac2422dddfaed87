-- What is told of members of classes by their names, worked out.
use Rattle.std.proofs.Common.{◌≡◌, ◌+◌, ℕ, List, [], ◌∷◌, codes, length, refl}
use Rattle.js_base.specs.declared.diagnostic.Diagnostic.{Diagnostic}
use Rattle.js_base.specs.declared.diagnostic.DiagnosticKind.TheVariants.{PrivateNameConstructor, StaticPrototype, FieldConstructor, ConstructorAccessor, ConstructorGetterSetter, ConstructorAsync, ConstructorGenerator}
use Rattle.js_grammar.specs.Productions.{async_flag, computed_flag, generator_flag, static_flag}
use Rattle.js_grammar.specs.Trees.{NodeKind, accessor_property, function_expression, identifier_name, method_definition, private_identifier, property_definition, string_literal, Op, constructor_op, method_op, no_op, of, end, tree}
use Rattle.js_grammar.specs.Words.{'get'}
use Rattle.std.specs.Str.{chars}
use Rattle.js_core.specs.laws_shared.Told.{unrelated_at}
use Rattle.js_parser.specs.Broken.{told_in}
use Rattle.js_parser.specs.declared.early.Position.TheVariants.{Anywhere}

-- of a text that is a member with these flags, with a key of a kind from one place to another, and behind it a function with flags
abbrev told : List ℕ → NodeKind → Op → ℕ → NodeKind → ℕ → ℕ → ℕ → List Diagnostic
told text k o n key from to f = told_in text Anywhere (tree (record { kind = k; op = o; flags = n; span = record { from = 0; to = length text } }) (tree (record { kind = key; op = no_op; flags = 0; span = record { from = from; to = to } }) end (tree (record { kind = function_expression; op = no_op; flags = f; span = record { from = to; to = length text } }) end end)) end)

getter : told (codes "get constructor(){}") method_definition (of 'get') 0 identifier_name 4 15 0 ≡ unrelated_at ConstructorGetterSetter (record { start = 4; end = 15 }) ∷ []
unfolding chars
getter = refl

asynchronous : told (codes "async*constructor(){}") method_definition method_op 0 identifier_name 6 17 (async_flag + generator_flag) ≡ unrelated_at ConstructorAsync (record { start = 6; end = 17 }) ∷ []
unfolding chars
asynchronous = refl

generator : told (codes "*'constructor'(){}") method_definition method_op 0 string_literal 1 14 generator_flag ≡ unrelated_at ConstructorGenerator (record { start = 1; end = 14 }) ∷ []
unfolding chars
generator = refl

plain : told (codes "constructor(){}") method_definition constructor_op 0 identifier_name 0 11 0 ≡ []
unfolding chars
plain = refl

-- a static one is another method
static_getter : told (codes "static get constructor(){}") method_definition (of 'get') static_flag identifier_name 11 22 0 ≡ []
unfolding chars
static_getter = refl

static_method : told (codes "static prototype(){}") method_definition method_op static_flag identifier_name 7 16 0 ≡ unrelated_at StaticPrototype (record { start = 7; end = 16 }) ∷ []
unfolding chars
static_method = refl

-- by what a string stands for
field : told (codes "'construct\\u006fr'") property_definition no_op 0 string_literal 0 18 0 ≡ unrelated_at FieldConstructor (record { start = 0; end = 18 }) ∷ []
unfolding chars
field = refl

-- and a name
escaped_field : told (codes "\\u{63}onstructor") property_definition no_op static_flag identifier_name 0 16 0 ≡ unrelated_at FieldConstructor (record { start = 0; end = 16 }) ∷ []
unfolding chars
escaped_field = refl

-- in brackets it is no name
computed_field : told (codes "['constructor']") property_definition no_op computed_flag string_literal 1 14 0 ≡ []
unfolding chars
computed_field = refl

accessor : told (codes "accessor constructor") accessor_property no_op 0 identifier_name 9 20 0 ≡ unrelated_at ConstructorAccessor (record { start = 9; end = 20 }) ∷ []
unfolding chars
accessor = refl

private : told (codes "static #constructor") property_definition no_op static_flag private_identifier 7 19 0 ≡ unrelated_at PrivateNameConstructor (record { start = 7; end = 19 }) ∷ []
unfolding chars
private = refl

-- a private name is no other one
private_prototype : told (codes "static #prototype") property_definition no_op static_flag private_identifier 7 17 0 ≡ []
unfolding chars
private_prototype = refl
