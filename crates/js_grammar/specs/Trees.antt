-- Trees: the slots of a node are a forest, first child and next sibling at once.
use Rattle.std.specs.Prelude.{ℕ}
use Rattle.js_base.specs.declared.kind.Kind.{Kind}

pub data NodeKind : Type 0 where
  program hashbang directive block_statement empty_statement expression_statement variable_declaration variable_declarator if_statement do_while_statement : NodeKind
  while_statement with_statement for_statement for_in_statement for_of_statement continue_statement break_statement return_statement throw_statement : NodeKind
  switch_statement switch_case try_statement catch_clause catch_parameter debugger_statement labeled_statement : NodeKind
  function_declaration function_expression formal_parameters formal_parameter formal_parameter_rest binding_rest_element function_body arrow_function_expression : NodeKind
  class_declaration class_expression class_body method_definition property_definition accessor_property static_block decorator : NodeKind
  object_expression object_property spread_element : NodeKind
  sequence_expression assignment_expression yield_expression conditional_expression logical_expression binary_expression private_in_expression : NodeKind
  unary_expression await_expression update_expression new_expression static_member_expression computed_member_expression private_field_expression : NodeKind
  tagged_template_expression new_target_expression import_meta call_expression import_expression chain_expression super_expression this_expression : NodeKind
  null_literal boolean_literal numeric_literal big_int_literal string_literal reg_exp_literal array_expression elision parenthesized_expression : NodeKind
  v8_intrinsic_expression template_literal template_element : NodeKind
  identifier_reference binding_identifier label_identifier identifier_name private_identifier : NodeKind
  array_assignment_target object_assignment_target assignment_target_rest assignment_target_with_default assignment_target_property_identifier assignment_target_property_property : NodeKind
  array_pattern object_pattern binding_property assignment_pattern : NodeKind
  import_declaration import_default_specifier import_namespace_specifier import_specifier with_clause import_attribute : NodeKind
  export_all_declaration export_from_declaration export_named_declaration export_declaration export_default_declaration export_specifier : NodeKind

-- The op of a node: an operator, a word (var let const get set with assert), a base (that of a number or a big integer), or one of four names of its own.
pub data Op : Type 0 where
  no_op init method_op constructor_op exponential : Op
  of : Kind → Op

pub record Span : Type 0 where
  pub from : ℕ
  pub to : ℕ

-- What a node is, its slots aside. The flags are a sum of powers of two, the first for the first flag of `flag_words` in Lines.
pub record Label : Type 0 where
  pub kind : NodeKind
  pub op : Op
  pub flags : ℕ
  pub span : Span

-- A list of slots: none, an empty slot and more, or a node, with its own slots, and more.
pub data Slots : Type 0 where
  end : Slots
  hole : Slots → Slots
  tree : Label → Slots → Slots → Slots

pub record Tree : Type 0 where
  pub label : Label
  pub slots : Slots

abbrev pub put : Tree → Slots → Slots
put t rest = tree t.label t.slots rest

-- the slots behind the first
abbrev pub after_first : Slots → Slots
after_first end = end
after_first (hole us) = us
after_first (tree l cs us) = us

abbrev pub append : Slots → Slots → Slots
append end us = us
append (hole ts) us = hole (append ts us)
append (tree l cs ts) us = tree l cs (append ts us)
