-- Methods of classes (ECMA-262, 15.4 to 15.8).
use Rattle.std.specs.Prelude.{ℕ, ◌≡◌, Bool, List, [], ◌∷◌, Some, Result}
use Rattle.js_grammar.specs.Trees.{Label, method_definition}
use Rattle.js_grammar.specs.Grammar.{kept, ◌▸◌}
use Rattle.js_grammar.specs.Productions.{G, Flags, make}
use Rattle.laws_primary.specs.declared.forms.PropertyName.{PropertyName}
use Rattle.laws_primary.specs.Objects.{method_left}
use Rattle.laws_primary.specs.js_tree.declared.id.NodeId.{NodeId}
use Rattle.laws_primary.specs.js_tree.declared.op.MethodKind.{MethodKind}
use Rattle.laws_primary.specs.js_tree.declared.op.MethodKind.TheVariants as kind
use Rattle.laws_primary.specs.js_tree.Labels.{method_op_of}
use Rattle.laws_primary.specs.js_cursor.Parsers.{Parser}
use Rattle.laws_primary.specs.js_cursor.declared.stop.Stop.{Stop}
use Rattle.laws_primary.specs.laws_shared.Arguments.{Partway}
use Rattle.laws_primary.specs.laws_shared.States.{At}
use Rattle.laws_primary.specs.laws_shared.declared.nested.MethodForm.{MethodForm}
use Rattle.laws_primary.specs.laws_shared.declared.nested.MethodForm.TheVariants.{Method, Getter, Setter}
use Rattle.laws_classes.specs.declared.forms.ElementHead.{ElementHead}
use Rattle.laws_classes.specs.Elements.{ElementOutcome, element_flags}

-- which parameters a method of this kind has
abbrev pub form_of_method : MethodKind → MethodForm
form_of_method kind.Constructor = Method
form_of_method kind.Method = Method
form_of_method kind.Get = Getter
form_of_method kind.Set = Setter

-- the label of the node of a method
abbrev pub method_label : MethodKind → ℕ → ℕ → ℕ → Label
method_label k fl from to = record { kind = method_definition; op = method_op_of k; flags = fl; span = record { from = from; to = to } }

-- From the state `first`, where the element began, up to the old one its name was read; now its parameters and its body are.
abbrev pub ReadsMethod : ElementHead → MethodKind → PropertyName → Bool → Bool → Parser → Parser → Result NodeId Stop → Type 0
ReadsMethod h k n a s old new r = (text : List ℕ) (f : Flags) (first : Parser) (g : G) → At text f first → h.start ≡ first.token.span.start → Partway text f g (method_left (form_of_method k) a s f ▸ kept) first old [] (Some n.key ∷ []) → ElementOutcome text f (make method_definition (method_op_of k) (element_flags h.is_static n.computed) g) first new r
