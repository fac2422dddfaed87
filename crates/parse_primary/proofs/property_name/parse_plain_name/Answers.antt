use Rattle.std.proofs.Common.{sym, ap, ◌∙◌}
use Rattle.js_base.specs.KindSets.{number_kinds}
use Rattle.js_base.specs.Kinds.{one_of_kinds}
use Rattle.laws_primary.proofs.PropertyNames.{none_literal, number_outcome, number_plain, number_whole, string_outcome, string_plain, word_outcome}
use Rattle.parse_primary.proofs.property_name.parse_plain_name.Goals as goal

pub parse_leaf-requires-clause-whole : goal.parse_leaf-requires-clause-whole
parse_leaf-requires-clause-whole g c = number_whole c.requires.at (sym (ap (one_of_kinds number_kinds) c.cur_kind-kind.ensures) ∙ (sym c.is_number.ensures ∙ c.if-is_number.true))

pub returns-then-is_number : goal.returns-then-is_number
returns-then-is_number g c = λ text f a. number_outcome text f _ _ _ _ _ c.parse_leaf.result a c.requires.no_bracket c.cur_kind-kind.ensures (sym c.is_number.ensures ∙ c.if-is_number.true) c.number_node.ensures.node c.number_op.ensures (number_plain a (sym (ap (one_of_kinds number_kinds) c.cur_kind-kind.ensures) ∙ (sym c.is_number.ensures ∙ c.if-is_number.true))) c.parse_leaf.ensures

pub returns-in-Str : goal.returns-in-Str
returns-in-Str g c = λ text f a. string_outcome text f _ _ c.parse_string.result a c.requires.no_bracket (sym c.cur_kind-kind.ensures ∙ c.in-Str.is) (string_plain a (sym c.cur_kind-kind.ensures ∙ c.in-Str.is)) c.parse_string.ensures

pub returns-in_default : goal.returns-in_default
returns-in_default g c = λ text f a. word_outcome a c.requires.no_bracket (none_literal (λ k. c.in_default.not-Str (c.cur_kind-kind.ensures ∙ k)) (sym (ap (one_of_kinds number_kinds) c.cur_kind-kind.ensures) ∙ (sym c.is_number.ensures ∙ c.if-is_number.false))) _ _ (c.parse_identifier_name.ensures text f a)

pub parse_private_key-requires-clause-private : goal.parse_private_key-requires-clause-private
parse_private_key-requires-clause-private g c = sym c.cur_kind-kind.ensures ∙ c.in-PrivateIdentifier.is
