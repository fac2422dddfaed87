use Rattle.std.proofs.Common.{ap, sym, ◌∙◌}
use Rattle.js_base.specs.Kinds.{one_of_kinds}
use Rattle.laws_classes.specs.Elements.{behind_kinds}
use Rattle.laws_classes.proofs.Fields.{end_told, no_end_told, no_end_unexpected}
use Rattle.parse_classes.proofs.field.end_field.Goals as goal

pub returns-then-at : goal.returns-then-at
returns-then-at t c = no_end_told _ _ c.refuse_annotation.result c.requires (ap (one_of_kinds behind_kinds) (c.at.ensures.0 c.if-at.true)) c.refuse_annotation.ensures

pub returns-then-not-follows_element : goal.returns-then-not-follows_element
returns-then-not-follows_element t c = no_end_unexpected _ _ c.set_unexpected.result c.requires (sym (ap (one_of_kinds behind_kinds) c.cur_kind.ensures) ∙ (sym c.follows_element.ensures ∙ c.if-not-follows_element.true)) c.set_unexpected.ensures

pub returns : goal.returns
returns t c = end_told _ _ c.asi.result c.requires (sym (ap (one_of_kinds behind_kinds) c.cur_kind.ensures) ∙ (sym c.follows_element.ensures ∙ c.if-not-follows_element.false)) c.asi.ensures
