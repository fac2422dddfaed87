use Rattle.std.proofs.Common.{ap, sym, ◌∙◌}
use Rattle.js_base.specs.declared.kind.Kind.TheVariants.{QuestionDot}
use Rattle.js_base.specs.Kinds.{one_of_kinds}
use Rattle.parse_primary.specs.laws_primary.Templates.{heads}
use Rattle.parse_primary.proofs.laws_primary.Members.{call_left, link_is, stands_so, tag_is}
use Rattle.parse_members.proofs.left_hand_side.parse_chain_link.Goals as goal

pub parse_chained_template-requires-clause-template : goal.parse_chained_template-requires-clause-template
parse_chained_template-requires-clause-template t c = ap (one_of_kinds heads) (sym c.cur_kind.ensures) ∙ (sym c.begins_template.ensures ∙ c.if-begins_template.true)

pub returns-then-begins_template : goal.returns-then-begins_template
returns-then-begins_template t c = λ text f a. tag_is text f _ _ _ _ c.parse_chained_template.result (c.parse_chained_template.ensures.read text f a)

pub parse_optional_link-requires-clause-sign : goal.parse_optional_link-requires-clause-sign
parse_optional_link-requires-clause-sign t c = stands_so c.args.p.now QuestionDot c.if-stands.true c.stands.ensures

pub parse_link-requires-clause-link : goal.parse_link-requires-clause-link
parse_link-requires-clause-link t c = call_left c.requires.link (ap (one_of_kinds heads) (sym c.cur_kind.ensures) ∙ (sym c.begins_template.ensures ∙ c.if-begins_template.false)) (stands_so c.args.p.now QuestionDot c.if-stands.false c.stands.ensures)

pub returns : goal.returns
returns t c = λ text f a. link_is text f _ _ _ _ c.parse_link.result (c.parse_link.ensures text f a)
