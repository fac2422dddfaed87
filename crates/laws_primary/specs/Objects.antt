-- What the parse functions of object literals answer (ECMA-262, 13.2.5): each form of a property, and the list of them as far as it was read.
use Rattle.std.specs.Prelude.{ℕ, ◌+◌, ◌≡◌, ◌||◌, Bool, false, true, List, [], ◌∷◌, ◌++◌, Option, Some, None, if◌then◌else◌, Result, Ok, Err}
use Rattle.js_base.specs.declared.kind.Kind.{Kind}
use Rattle.js_base.specs.declared.kind.Kind.TheVariants.{Async, Colon, Comma, Eq, Get, LCurly, LParen, RBrack, RCurly, RParen, Set, Star}
use Rattle.js_base.specs.declared.span.Span.{Span}
use Rattle.js_base.specs.Kinds.{same_kind, one_of_kinds}
use Rattle.js_grammar.specs.Trees.{Label, Op, end, function_expression, init, no_op, object_property, of}
use Rattle.js_grammar.specs.Grammar.{ahead, commas, never, nothing, when, ◌▸◌, ◌◇◌}
use Rattle.js_grammar.specs.Parsing.{plain, full, Fails}
use Rattle.js_grammar.specs.Productions.{G, Flags, async_flag, computed_flag, each, flag, generator_flag, make, method_flag, no_newline, only, opt, params_of, plus_in, shorthand_flag, tok, Assignment, IdentifierName, IdentifierReference, Init, Property}
use Rattle.js_grammar.specs.Productions.{sym as symbol}
use Rattle.js_grammar.specs.Table.{rule, getter, method_function, name, plain_method, setter}
use Rattle.laws_shared.specs.js_tree.declared.id.NodeId.{NodeId}
use Rattle.laws_shared.specs.js_tree.declared.op.PropertyKind.{PropertyKind}
use Rattle.laws_shared.specs.js_tree.declared.op.PropertyKind.TheVariants as property
use Rattle.laws_shared.specs.js_tree.Labels.{property_op}
use Rattle.laws_shared.specs.js_cursor.Parsers.{Parser}
use Rattle.laws_shared.specs.js_cursor.declared.stop.Stop.{Stop}
use Rattle.laws_primary.specs.declared.forms.PropertyName.{PropertyName}
use Rattle.laws_primary.specs.PropertyNames.{NameRead}
use Rattle.laws_primary.specs.Spreads.{PartOutcome}
use Rattle.laws_shared.specs.declared.nested.MethodForm.{MethodForm}
use Rattle.laws_shared.specs.declared.nested.MethodForm.TheVariants.{Method, Getter, Setter}
use Rattle.laws_shared.specs.Answers.{Stops}
use Rattle.laws_shared.specs.Arguments.{Partway}
use Rattle.laws_shared.specs.Lexemes.{Lex, may_name}
use Rattle.laws_shared.specs.Methods.{parameters_of}
use Rattle.laws_shared.specs.Moves.{Moved}
use Rattle.laws_shared.specs.States.{At}

-- ---- the forms of a property

-- a name alone, or with its initialiser
abbrev pub shorthand : Flags → G
shorthand f = make object_property init shorthand_flag (ahead (symbol IdentifierName f) ▸ symbol IdentifierReference f ▸ opt (when f.cover (symbol Init (plus_in f))))

-- what stands behind a name: a value, or the parameters and the body of a method, which is asynchronous or not, and a generator or not
abbrev pub value_left : Flags → G
value_left f = tok Colon ▸ symbol Assignment (plus_in f)

abbrev pub method_left : MethodForm → Bool → Bool → Flags → G
method_left form a s f = method_function a s f (parameters_of form (params_of a s f))

-- a name, in brackets or not, with a value or with a method
abbrev pub with_value : Bool → Flags → G
with_value c f = make object_property init (flag c computed_flag) (name c false f ▸ value_left f)

abbrev pub with_method : Bool → Flags → G
with_method c f = make object_property init (flag c computed_flag + method_flag) (plain_method nothing c false f)

abbrev pub named : Bool → Flags → G
named c f = with_value c f ◇ with_method c f

-- a getter, a setter; whichever of them the word begins
abbrev pub getter_of : Bool → Flags → G
getter_of c f = make object_property (of Get) (flag c computed_flag) (getter c false f)

abbrev pub setter_of : Bool → Flags → G
setter_of c f = make object_property (of Set) (flag c computed_flag) (setter c false f)

abbrev pub accessors : MethodForm → Flags → G
accessors Method f = never
accessors Getter f = each (λ c. getter_of c f)
accessors Setter f = each (λ c. setter_of c f)

abbrev pub Begins : MethodForm → Kind → Type 0
Begins Method k = ⊥
Begins Getter k = k ≡ Get
Begins Setter k = k ≡ Set

-- of the node of a property with a method
abbrev pub op_of_form : MethodForm → Op
op_of_form Method = init
op_of_form Getter = of Get
op_of_form Setter = of Set

abbrev pub flags_of_form : MethodForm → Bool → ℕ
flags_of_form Method c = flag c computed_flag + method_flag
flags_of_form Getter c = flag c computed_flag
flags_of_form Setter c = flag c computed_flag

-- what the node of a property is: its kind among properties, its flags, and where it stands
abbrev pub kind_of_form : MethodForm → PropertyKind
kind_of_form Method = property.Init
kind_of_form Getter = property.Get
kind_of_form Setter = property.Set

abbrev pub property_label : PropertyKind → ℕ → ℕ → ℕ → Label
property_label k fl from to = record { kind = object_property; op = property_op k; flags = fl; span = record { from = from; to = to } }

-- what the node of a method's function is
abbrev pub function_label : Bool → Bool → ℕ → ℕ → Label
function_label a s from to = record { kind = function_expression; op = no_op; flags = flag a async_flag + flag s generator_flag; span = record { from = from; to = to } }

-- before these `get`, `set` and `async` are names
abbrev pub ends_name_kinds : List Kind
ends_name_kinds = Colon ∷ LParen ∷ Eq ∷ Comma ∷ RParen ∷ RBrack ∷ RCurly ∷ []

-- which accessor a word begins before another lexeme
abbrev pub form_of : Kind → Kind → Option MethodForm
form_of word behind = if one_of_kinds ends_name_kinds behind then None else (if same_kind Get word then Some Getter else (if same_kind Set word then Some Setter else None))

-- whether a word is the `async` of a method before another lexeme, which stands on a new line or not
abbrev pub begins_async : Kind → Kind → Bool → Bool
begins_async word behind w = if one_of_kinds ends_name_kinds behind || w then false else same_kind Async word

-- the line of an asynchronous method, which is a generator or not; it isn't derived from the place
abbrev pub async_line : Bool → Bool → Flags → G
async_line c s f = (tok Async ▸ no_newline) ▸ only s (tok Star) ▸ nothing ▸ name c false f ▸ method_left Method true s f

abbrev pub NoAsyncMethod : List ℕ → Bool → Flags → ℕ → Type 0
NoAsyncMethod text c f s = (b : Bool) → Fails rule (Lex text) (plain full) end (async_line c b f) s

-- the methods that are none of accessors
abbrev pub methods : Flags → G
methods f = each (λ c. with_method c f)

-- ---- their answers

-- From the state `first`, where the property began, up to the old one its name was read; now what stands behind the name is.
abbrev pub ReadsValue : ℕ → PropertyName → Parser → Parser → Result NodeId Stop → Type 0
ReadsValue start n old new r = (text : List ℕ) (f : Flags) (first : Parser) (g : G) → At text f first → start ≡ first.token.span.start → Partway text f g (value_left f) first old [] (Some n.key ∷ []) → PartOutcome text f (make object_property init (flag n.computed computed_flag) g) first new r

abbrev pub ReadsMethod : ℕ → PropertyName → MethodForm → Bool → Bool → Parser → Parser → Result NodeId Stop → Type 0
ReadsMethod start n form b s old new r = (text : List ℕ) (f : Flags) (first : Parser) (g : G) → At text f first → start ≡ first.token.span.start → Partway text f g (method_left form b s f) first old [] (Some n.key ∷ []) → PartOutcome text f (make object_property (op_of_form form) (flags_of_form form n.computed) g) first new r

abbrev pub ReadsBehindName : ℕ → PropertyName → Parser → Parser → Result NodeId Stop → Type 0
ReadsBehindName start n old new r = (text : List ℕ) (f : Flags) (first : Parser) → At text f first → start ≡ first.token.span.start → one_of_kinds (Star ∷ []) first.token.kind ≡ false → NoAsyncMethod text n.computed f first.prev_token_end → NameRead text f n.computed first old n.key → PartOutcome text f (named n.computed f) first new r

-- a name stands here, by these parameters
pub record IsName (f : Flags) (p : Parser) : Type 0 where
  pub kind : may_name f.yield_ f.await_ p.token.kind ≡ true

-- Its first word was passed: what stands behind it makes of it an accessor, or a name alone.
abbrev pub ReadsAccessor : ℕ → MethodForm → Parser → Parser → Result NodeId Stop → Type 0
ReadsAccessor start form old new r = (text : List ℕ) (f : Flags) (first : Parser) → At text f first → start ≡ first.token.span.start → Begins form first.token.kind → first.token.escaped ≡ false → Moved text f first old → PartOutcome text f (accessors form f) first new r

-- its `async` was passed, and what stands behind it on the line makes of it a method
abbrev pub ReadsAsyncMethod : ℕ → Parser → Parser → Result NodeId Stop → Type 0
ReadsAsyncMethod start old new r = (text : List ℕ) (f : Flags) (first : Parser) → At text f first → start ≡ first.token.span.start → first.token.kind ≡ Async → first.token.escaped ≡ false → one_of_kinds ends_name_kinds old.token.kind ≡ false → Moved text f first old → PartOutcome text f (methods f) first new r

abbrev pub ReadsShorthand : Span → Parser → Parser → Result NodeId Stop → Type 0
ReadsShorthand word old new r = (text : List ℕ) (f : Flags) (first : Parser) → At text f first → word ≡ first.token.span → IsName f first → Moved text f first old → PartOutcome text f (shorthand f) first new r

-- ---- the list

-- from a property on up to the closing brace; and with the opening one
abbrev pub properties : Flags → G
properties f = opt (commas true (symbol Property f)) ▸ tok RCurly

abbrev pub object_of : Flags → G
object_of f = tok LCurly ▸ properties f

-- One more child, with its comma: what is left is properties too.
abbrev pub TakesProperty : Parser → Parser → Result NodeId Stop → Type 0
TakesProperty p q (Ok id) = (text : List ℕ) (f : Flags) → At text f p → (ids : List (Option NodeId)) → Partway text f (properties f) (properties f) p q ids (ids ++ Some id ∷ [])
TakesProperty p q (Err e) = (text : List ℕ) (f : Flags) → At text f p → Stops p q e (Fails rule (Lex text) (plain full) end (properties f) p.prev_token_end)

-- the literal with its braces
abbrev pub Properties : List (Option NodeId) → Parser → Parser → Type 0
Properties ids p q = (text : List ℕ) (f : Flags) → At text f p → Partway text f (object_of f) nothing p q [] ids

abbrev pub NoProperties : Parser → Parser → Stop → Type 0
NoProperties p q e = (text : List ℕ) (f : Flags) → At text f p → Stops p q e (Fails rule (Lex text) (plain full) end (object_of f) p.prev_token_end)
