-- Members of classes (ECMA-262, 15.7): the lines of an element but the static block, by what is read of them first.
use Rattle.std.specs.Prelude.{ℕ, ◌≡◌, ◌⊎◌, Bool, true, false, not, cond, ◌&&◌, ◌||◌, List, [], ◌∷◌, Option, Some, None, if◌then◌else◌, Result, bytes_eq, codes, unwrap_or}
use Rattle.js_base.specs.declared.kind.Kind.{Kind}
use Rattle.js_base.specs.declared.kind.Kind.TheVariants.{Accessor, Async, Constructor, Get, LCurly, Set, Star, Static, Str}
use Rattle.js_base.specs.KindSets.{identifier_name_kinds}
use Rattle.js_base.specs.Kinds.{same_kind, one_of_kinds}
use Rattle.js_base.specs.declared.token.Token.{Token}
use Rattle.js_grammar.specs.Trees.{accessor_property, constructor_op, method_definition, method_op, no_op, of, property_definition}
use Rattle.js_grammar.specs.Grammar.{alt, never, nothing, ◌▸◌}
use Rattle.js_grammar.specs.Productions.{G, Flags, make, no_newline, tok}
use Rattle.js_grammar.specs.Table.{field, getter, named_constructor, not_constructor, plain_method, setter}
use Rattle.laws_primary.specs.js_tree.declared.id.NodeId.{NodeId}
use Rattle.laws_primary.specs.js_tree.declared.op.MethodKind.{MethodKind}
use Rattle.laws_primary.specs.js_tree.declared.op.MethodKind.TheVariants as kind
use Rattle.laws_primary.specs.js_cursor.Parsers.{Parser}
use Rattle.laws_primary.specs.js_cursor.declared.stop.Stop.{Stop}
use Rattle.laws_primary.specs.laws_shared.Moves.{Moved, Moves}
use Rattle.laws_primary.specs.laws_shared.States.{At}
use Rattle.laws_classes.specs.declared.forms.ElementHead.{ElementHead}
use Rattle.laws_classes.specs.Elements.{Begun, ElementOutcome, element_flags, element_slots}
pub use Rattle.laws_classes.specs.Elements.{name_kinds, other_name_kinds}

-- st: behind `static`; c: with a name in brackets
abbrev pub method_line : Bool → Bool → Flags → G
method_line st c f = make method_definition method_op (element_flags st c) (element_slots st f (plain_method (cond (st || c) nothing not_constructor) c true f))

abbrev pub getter_line : Bool → Bool → Flags → G
getter_line st c f = make method_definition (of Get) (element_flags st c) (element_slots st f (getter c true f))

abbrev pub setter_line : Bool → Bool → Flags → G
setter_line st c f = make method_definition (of Set) (element_flags st c) (element_slots st f (setter c true f))

abbrev pub field_line : Bool → Bool → Flags → G
field_line st c f = make property_definition no_op (element_flags st c) (element_slots st f (field c (not st) true f))

abbrev pub accessor_line : Bool → Bool → Flags → G
accessor_line st c f = make accessor_property no_op (element_flags st c) (element_slots st f (tok Accessor ▸ no_newline ▸ field c false false f))

abbrev pub constructor_line : Flags → G
constructor_line f = make method_definition constructor_op (element_flags false false) (element_slots false f (plain_method named_constructor false true f))

-- all of them
abbrev pub forms : Bool → Bool → Flags → G
forms st c f = alt (method_line st c f) (alt (getter_line st c f) (alt (setter_line st c f) (alt (field_line st c f) (accessor_line st c f))))

abbrev pub constructors : Bool → Flags → G
constructors st f = cond st never (constructor_line f)

abbrev pub members : Bool → Flags → G
members st f = alt (alt (forms st false f) (forms st true f)) (constructors st f)

-- ---- their answers

-- The word that a getter or a setter begins with was passed, before a name.
abbrev pub BeginsAccessor : MethodKind → Kind → Type 0
BeginsAccessor kind.Get k = k ≡ Get
BeginsAccessor kind.Set k = k ≡ Set
BeginsAccessor kind.Method k = ⊥
BeginsAccessor kind.Constructor k = ⊥

abbrev pub ReadsAccessorMethod : ElementHead → MethodKind → Parser → Parser → Result NodeId Stop → Type 0
ReadsAccessorMethod h k old new r = (text : List ℕ) (f : Flags) (first p : Parser) → At text f first → h.start ≡ first.token.span.start → At text f p → Begun h.is_static text f first p → BeginsAccessor k p.token.kind → p.token.escaped ≡ false → one_of_kinds name_kinds old.token.kind ≡ true → Moved text f p old → ElementOutcome text f (members h.is_static f) first new r

-- and `accessor`, before a name on its line
abbrev pub ReadsAccessorField : ElementHead → Parser → Parser → Result NodeId Stop → Type 0
ReadsAccessorField h old new r = (text : List ℕ) (f : Flags) (first p : Parser) → At text f first → h.start ≡ first.token.span.start → At text f p → Begun h.is_static text f first p → p.token.kind ≡ Accessor → p.token.escaped ≡ false → old.token.is_on_new_line ≡ false → one_of_kinds name_kinds old.token.kind ≡ true → Moved text f p old → ElementOutcome text f (members h.is_static f) first new r

-- A word that is a name was passed, and parameters stand behind it.
abbrev pub ReadsWordMethod : ElementHead → Token → Parser → Parser → Result NodeId Stop → Type 0
ReadsWordMethod h word old new r = (text : List ℕ) (f : Flags) (first p : Parser) → At text f first → h.start ≡ first.token.span.start → At text f p → Begun h.is_static text f first p → word ≡ p.token → one_of_kinds identifier_name_kinds p.token.kind ≡ true → Moves p old → ElementOutcome text f (members h.is_static f) first new r

-- which method it is: the constructor, by its name, where no `static` stands before it
abbrev pub kind_of_word : Bool → Kind → MethodKind
kind_of_word st k = cond (not st && same_kind Constructor k) kind.Constructor kind.Method

-- the same by a string, of these code units (12.9.4.2)
abbrev pub spells_constructor : Option (List ℕ) → Bool
spells_constructor units = bytes_eq (codes "constructor") (unwrap_or units [])

abbrev pub kind_of_string : Bool → Option (List ℕ) → MethodKind
kind_of_string st units = cond (not st && spells_constructor units) kind.Constructor kind.Method

-- which accessor a word begins before another lexeme, if one
abbrev pub accessor_of : Kind → Kind → Option MethodKind
accessor_of word behind = if not (one_of_kinds name_kinds behind) then None else (if same_kind Get word then Some kind.Get else (if same_kind Set word then Some kind.Set else None))

-- whether it is the `async` of a method, or the `accessor` of a field, before a lexeme that stands on a new line or not
abbrev pub begins_async : Kind → Kind → Bool → Bool
begins_async word behind w = if not (one_of_kinds (Star ∷ name_kinds) behind) || w then false else same_kind Async word

abbrev pub begins_accessor : Kind → Kind → Bool → Bool
begins_accessor word behind w = if not (one_of_kinds name_kinds behind) || w then false else same_kind Accessor word

-- A word that was passed is no prefix before what stands behind it.
pub record NamesMember (st : Bool) (p q : Parser) : Type 0 where
  pub accessor_method : p.token.escaped ≡ false → one_of_kinds (Get ∷ Set ∷ []) p.token.kind ≡ true → one_of_kinds name_kinds q.token.kind ≡ false
  pub async_method : p.token.escaped ≡ false → p.token.kind ≡ Async → (q.token.is_on_new_line ≡ true) ⊎ (one_of_kinds (Star ∷ name_kinds) q.token.kind ≡ false)
  pub accessor_field : p.token.escaped ≡ false → p.token.kind ≡ Accessor → (q.token.is_on_new_line ≡ true) ⊎ (one_of_kinds name_kinds q.token.kind ≡ false)
  pub static_member : st ≡ false → p.token.escaped ≡ false → p.token.kind ≡ Static → one_of_kinds (LCurly ∷ Star ∷ name_kinds) q.token.kind ≡ false

-- So it is the name of a member, whose rest is read.
abbrev pub ReadsBehindWord : ElementHead → Token → Parser → Parser → Result NodeId Stop → Type 0
ReadsBehindWord h word old new r = (text : List ℕ) (f : Flags) (first p : Parser) → At text f first → h.start ≡ first.token.span.start → At text f p → Begun h.is_static text f first p → word ≡ p.token → one_of_kinds identifier_name_kinds p.token.kind ≡ true → Moves p old → NamesMember h.is_static p old → ElementOutcome text f (members h.is_static f) first new r

-- words and `*`, which may begin a member before its name
abbrev pub prefix_kinds : List Kind
prefix_kinds = Star ∷ identifier_name_kinds

-- these and strings
abbrev pub special_firsts : List Kind
special_firsts = Str ∷ prefix_kinds

-- A member begins here, behind `static` or not.
abbrev pub ReadsMember : ElementHead → Parser → Parser → Result NodeId Stop → Type 0
ReadsMember h old new r = (text : List ℕ) (f : Flags) (first : Parser) → At text f first → h.start ≡ first.token.span.start → Begun h.is_static text f first old → ElementOutcome text f (members h.is_static f) first new r
