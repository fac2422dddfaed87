-- Members of classes as nodes by number: their keys, and what is asked of them beside the names of these (ECMA-262, 15.7.1).
use Rattle.std.specs.Prelude.{ℕ, Bool, cond, ◌&&◌, List, Option, Some, None, length, nat_le, nat_lt, slice_get}
use Rattle.js_base.specs.declared.diagnostic.DiagnosticKind.{DiagnosticKind}
use Rattle.js_base.specs.declared.diagnostic.DiagnosticKind.TheVariants.{FieldConstructor, ConstructorAccessor, ConstructorGetterSetter, ConstructorAsync, ConstructorGenerator}
use Rattle.js_grammar.specs.Trees.{NodeKind, method_definition, property_definition, accessor_property, Op, method_op, constructor_op, of}
use Rattle.js_tree.specs.declared.id.NodeId.{NodeId}
use Rattle.js_tree.specs.Labels.{kind_of, op_of}
use Rattle.js_tree.specs.Nodes.{Node, node_at}
use Rattle.js_grammar.specs.EarlyRules.{is_member}

-- the child in a slot, if it has a node
abbrev pub with_node : List Node → Option (Option NodeId) → Option NodeId
with_node ns (Some (Some id)) = cond (nat_lt id.0 (length ns)) (Some id) None
with_node ns _ = None

abbrev pub child_at : List Node → NodeId → ℕ → Option NodeId
child_at ns id slot = with_node ns (slice_get (node_at ns id).children slot)

-- the key of a member of a class; none of any other node
abbrev pub key_at : List Node → NodeId → Option NodeId
key_at ns id = cond (is_member (kind_of (node_at ns id).kind)) (child_at ns id 0) None

-- small letters, of which the names that are asked for consist
abbrev pub is_small : ℕ → Bool
is_small c = nat_le 97 c && nat_le c 122

-- What is told of a member of a class, where it is named as a constructor; none where it may be.
abbrev pub function_fault : List Node → Option NodeId → Option DiagnosticKind
function_fault ns None = None
function_fault ns (Some f) = cond (node_at ns f).flags.is_async (Some ConstructorAsync) (cond (node_at ns f).flags.generator (Some ConstructorGenerator) None)

abbrev pub op_fault : Op → Option DiagnosticKind → Option DiagnosticKind
op_fault (of k) f = Some ConstructorGetterSetter
op_fault method_op f = f
op_fault constructor_op f = f
op_fault _ f = None

abbrev pub method_fault_at : List Node → NodeId → Option DiagnosticKind
method_fault_at ns id = cond (node_at ns id).flags.is_static None (op_fault (op_of (node_at ns id).op) (function_fault ns (child_at ns id 1)))

abbrev pub fault_by_kind : NodeKind → Option DiagnosticKind → Option DiagnosticKind
fault_by_kind method_definition f = f
fault_by_kind property_definition f = Some FieldConstructor
fault_by_kind accessor_property f = Some ConstructorAccessor
fault_by_kind _ f = None

abbrev pub constructor_fault_at : List Node → NodeId → Option DiagnosticKind
constructor_fault_at ns id = fault_by_kind (kind_of (node_at ns id).kind) (method_fault_at ns id)
