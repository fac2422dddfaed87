use Rattle.std.proofs.Common.{ap, inr, sym, ◌∙◌}
use Rattle.js_base.specs.Kinds.{one_of_kinds}
use Rattle.parse_primary.specs.laws_primary.Templates.{heads}
use Rattle.parse_primary.proofs.laws_primary.Members.{goes_on}
use Rattle.parse_members.proofs.left_hand_side.goes_on.Goals as goal

pub returns-then-begins_template : goal.returns-then-begins_template
returns-then-begins_template g c = inr (ap (one_of_kinds heads) (sym c.cur_kind.ensures) ∙ (sym c.begins_template.ensures ∙ c.if-begins_template.true))

pub returns : goal.returns
returns g c = goes_on c.args.p.now c.args.base c.link_here.result (ap (one_of_kinds heads) (sym c.cur_kind.ensures) ∙ (sym c.begins_template.ensures ∙ c.if-begins_template.false)) c.link_here.ensures
