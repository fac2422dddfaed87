use Rattle.std.proofs.Common.{refl, sym, ◌∙◌}
use Rattle.laws_classes.proofs.Prefixes.{name_begins}
use Rattle.parse_classes.proofs.member.begins_name.Goals as goal

pub returns-then-begins_other_name : goal.returns-then-begins_other_name
returns-then-begins_other_name c = name_begins c.args.kind (sym c.begins_other_name.ensures ∙ c.if-begins_other_name.true) refl refl

pub returns-then-is_number : goal.returns-then-is_number
returns-then-is_number c = name_begins c.args.kind (sym c.begins_other_name.ensures ∙ c.if-begins_other_name.false) (sym c.is_number.ensures ∙ c.if-is_number.true) refl

pub returns : goal.returns
returns c = c.is_identifier_name.ensures ∙ name_begins c.args.kind (sym c.begins_other_name.ensures ∙ c.if-begins_other_name.false) (sym c.is_number.ensures ∙ c.if-is_number.false) refl
