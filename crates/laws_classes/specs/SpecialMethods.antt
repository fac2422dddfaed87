-- Generators and asynchronous methods of classes (ECMA-262, 15.5, 15.6 and 15.8): what stands before their names.
use Rattle.std.specs.Prelude.{ℕ, ◌≡◌, Bool, true, false, cond, List, [], ◌∷◌, Result}
use Rattle.js_base.specs.declared.kind.Kind.TheVariants.{Async, Star}
use Rattle.js_base.specs.Kinds.{one_of_kinds}
use Rattle.js_grammar.specs.Grammar.{kept, nothing, ◌▸◌}
use Rattle.js_grammar.specs.Productions.{Flags}
use Rattle.js_grammar.specs.Table.{name, named_constructor, not_constructor, plain_method}
use Rattle.laws_primary.specs.Objects.{method_left}
use Rattle.laws_primary.specs.js_tree.declared.id.NodeId.{NodeId}
use Rattle.laws_primary.specs.js_cursor.Parsers.{Parser}
use Rattle.laws_primary.specs.js_cursor.declared.stop.Stop.{Stop}
use Rattle.laws_primary.specs.laws_shared.Arguments.{Partway}
use Rattle.laws_primary.specs.laws_shared.Moves.{Moved}
use Rattle.laws_primary.specs.laws_shared.States.{At}
use Rattle.laws_primary.specs.laws_shared.declared.nested.MethodForm.TheVariants.{Method}
use Rattle.laws_classes.specs.declared.forms.ElementHead.{ElementHead}
use Rattle.laws_classes.specs.Elements.{Begun, ElementOutcome, NoElement, element_slots}
use Rattle.laws_classes.specs.Members.{accessor_line, field_line, getter_line, members, name_kinds, setter_line}

-- From the state `first`, where the element began, all before the name of a method was read, which is asynchronous (a) or not, and a generator (s) or not. No other line is derived.
pub record BeginsMethod (text : List ℕ) (f : Flags) (st a s : Bool) (first p : Parser) : Type 0 where
  pub at : At text f p
  pub method : (b c : Bool) → Partway text f (element_slots st f (plain_method (cond b nothing not_constructor) c true f)) ((cond b nothing not_constructor ▸ name c true f ▸ method_left Method a s f) ▸ kept) first p [] []
  pub constructor : Partway text f (element_slots st f (plain_method named_constructor false true f)) ((named_constructor ▸ name false true f ▸ method_left Method a s f) ▸ kept) first p [] []
  pub getter : (c : Bool) → NoElement text (getter_line st c f) first.prev_token_end
  pub setter : (c : Bool) → NoElement text (setter_line st c f) first.prev_token_end
  pub field : (c : Bool) → NoElement text (field_line st c f) first.prev_token_end
  pub accessor : (c : Bool) → NoElement text (accessor_line st c f) first.prev_token_end

-- Now its name is read, and what stands behind that.
abbrev pub ReadsNamedMethod : ElementHead → Bool → Bool → Parser → Parser → Result NodeId Stop → Type 0
ReadsNamedMethod h a s old new r = (text : List ℕ) (f : Flags) (first : Parser) → At text f first → h.start ≡ first.token.span.start → BeginsMethod text f h.is_static a s first old → ElementOutcome text f (members h.is_static f) first new r

-- `async` was passed, before `*` or a name on its line.
abbrev pub ReadsAsyncMethod : ElementHead → Parser → Parser → Result NodeId Stop → Type 0
ReadsAsyncMethod h old new r = (text : List ℕ) (f : Flags) (first p : Parser) → At text f first → h.start ≡ first.token.span.start → At text f p → Begun h.is_static text f first p → p.token.kind ≡ Async → p.token.escaped ≡ false → old.token.is_on_new_line ≡ false → one_of_kinds (Star ∷ name_kinds) old.token.kind ≡ true → Moved text f p old → ElementOutcome text f (members h.is_static f) first new r
