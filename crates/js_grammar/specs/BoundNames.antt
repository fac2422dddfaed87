-- The names that a pattern or a declaration binds (ECMA-262, 8.2.1 BoundNames).
use Rattle.std.specs.Prelude.{List, [], ◌∷◌, ◌++◌, Bool, true, false, if◌then◌else◌}
use Rattle.js_grammar.specs.Trees.{NodeKind, variable_declaration, variable_declarator, catch_parameter, function_declaration, formal_parameters, formal_parameter, formal_parameter_rest, binding_rest_element, class_declaration, binding_identifier, array_pattern, object_pattern, binding_property, assignment_pattern, import_declaration, import_default_specifier, import_namespace_specifier, import_specifier, export_declaration, export_default_declaration, Label, Slots, end, hole, tree}

-- Of which slots of a node its bound names are those.
pub data Part : Type 0 where
  none itself first second every : Part

-- BindingIdentifier binds its own name. A declarator, an element or a parameter with an initialiser, a function and a class have those of their first slot, a property of a pattern those of its second, the value; patterns, lists and what has one slot those of all. `export default` has those of a declaration behind it. Nothing else binds a name.
abbrev pub part_of : NodeKind → Part
part_of binding_identifier = itself
part_of variable_declaration = every
part_of variable_declarator = first
part_of array_pattern = every
part_of object_pattern = every
part_of binding_property = second
part_of assignment_pattern = first
part_of binding_rest_element = every
part_of formal_parameters = every
part_of formal_parameter = first
part_of formal_parameter_rest = every
part_of catch_parameter = every
part_of function_declaration = first
part_of class_declaration = first
part_of import_declaration = every
part_of import_default_specifier = every
part_of import_namespace_specifier = every
part_of import_specifier = second
part_of export_declaration = every
part_of export_default_declaration = every
part_of k = none

-- whether the next slot counts, and which part is meant of those behind it
abbrev pub takes : Part → Bool
takes first = true
takes every = true
takes p = false

abbrev pub behind : Part → Part
behind second = first
behind every = every
behind p = none

-- the node alone, or what its slots bind
abbrev pub own_or : Part → Label → List Label → List Label
own_or itself l ls = l ∷ []
own_or p l ls = ls

-- the labels of the nodes that bind a name, in the order of the text, of a part of some slots
abbrev pub bound_in : Part → Slots → List Label
bound_in p end = []
bound_in p (hole us) = bound_in (behind p) us
bound_in p (tree l cs us) = (if takes p then own_or (part_of l.kind) l (bound_in (part_of l.kind) cs) else []) ++ bound_in (behind p) us

-- BoundNames of a node
abbrev pub bound_names : Label → Slots → List Label
bound_names l cs = bound_in first (tree l cs end)
