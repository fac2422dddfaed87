use Rattle.std.proofs.Common.{ap, sym, ◌∙◌}
use Rattle.std.proofs.lemmas.Result.{err_from_is_err_and}
use Rattle.js_base.specs.Kinds.{one_of_kinds}
use Rattle.parse_primary.specs.laws_primary.declared.forms.LinkBase.TheVariants as base
use Rattle.parse_primary.specs.laws_primary.Templates.{heads}
use Rattle.parse_primary.proofs.laws_primary.Members.{call_closed, call_linked, call_stops, call_tag_stops, call_tagged, first_loop, goes_on_so, link_left, link_less, next_loop, next_tagged, tagged_less}
use Rattle.parse_shared.proofs.laws_shared.Nesting.{nests_later}
use Rattle.parse_members.proofs.left_hand_side.parse_call_links.Goals as goal

pub links-init : goal.links-init
links-init t c = first_loop c.requires.at c.requires.start (λ text f o e x. x)

pub parse_tagged_template-requires-clause-at : goal.parse_tagged_template-requires-clause-at
parse_tagged_template-requires-clause-at t c = c.links.invariant.at

pub parse_tagged_template-requires-clause-nests : goal.parse_tagged_template-requires-clause-nests
parse_tagged_template-requires-clause-nests t c = nests_later c.requires.nests c.links.invariant.later

pub parse_tagged_template-requires-clause-start : goal.parse_tagged_template-requires-clause-start
parse_tagged_template-requires-clause-start t c = c.links.invariant.before

pub parse_tagged_template-requires-clause-template : goal.parse_tagged_template-requires-clause-template
parse_tagged_template-requires-clause-template t c = ap (one_of_kinds heads) (sym c.cur_kind.ensures) ∙ (sym c.begins_template.ensures ∙ c.if-begins_template.true)

pub returns-in_err-left : goal.returns-in_err-left
returns-in_err-left t c = λ text f o e x.
    let p = err_from_is_err_and c.from_residual.result c.from_residual.ensures.1 in
    let z = c.links.invariant.goes text f o e x in
    rw (p.1, p.2) (call_tag_stops z (ap (one_of_kinds heads) (sym c.cur_kind.ensures) ∙ (sym c.begins_template.ensures ∙ c.if-begins_template.true)) _ _ (c.in_err-left.ensures text f z.at))

pub links-smaller-then-begins_template : goal.links-smaller-then-begins_template
links-smaller-then-begins_template t c = tagged_less c.links.invariant.at (c.in_ok-left.ensures _ _ c.links.invariant.at)

pub links-preserved-then-begins_template : goal.links-preserved-then-begins_template
links-preserved-then-begins_template t c = next_tagged c.links.invariant c.in_ok-left.ensures (λ text f o e x. let z = c.links.invariant.goes text f o e x in call_tagged z (ap (one_of_kinds heads) (sym c.cur_kind.ensures) ∙ (sym c.begins_template.ensures ∙ c.if-begins_template.true)) e (c.in_ok-left.ensures text f z.at))

pub parse_link-requires-clause-at : goal.parse_link-requires-clause-at
parse_link-requires-clause-at t c = c.links.invariant.at

pub parse_link-requires-clause-nests : goal.parse_link-requires-clause-nests
parse_link-requires-clause-nests t c = nests_later c.requires.nests c.links.invariant.later

pub parse_link-requires-clause-start : goal.parse_link-requires-clause-start
parse_link-requires-clause-start t c = c.links.invariant.before

pub parse_link-requires-clause-link : goal.parse_link-requires-clause-link
parse_link-requires-clause-link t c = link_left base.Call (goes_on_so c.links.p base.Call c.links-test.true c.goes_on.ensures) (ap (one_of_kinds heads) (sym c.cur_kind.ensures) ∙ (sym c.begins_template.ensures ∙ c.if-begins_template.false))

pub returns-in_err-left-2 : goal.returns-in_err-left-2
returns-in_err-left-2 t c = λ text f o e x.
    let p = err_from_is_err_and c.from_residual-in_err-left-2.result c.from_residual-in_err-left-2.ensures.1 in
    let z = c.links.invariant.goes text f o e x in
    rw (p.1, p.2) (call_stops z (link_left base.Call (goes_on_so c.links.p base.Call c.links-test.true c.goes_on.ensures) (ap (one_of_kinds heads) (sym c.cur_kind.ensures) ∙ (sym c.begins_template.ensures ∙ c.if-begins_template.false))) _ _ (c.in_err-left-2.ensures text f z.at))

pub links-smaller : goal.links-smaller
links-smaller t c = link_less c.links.invariant.at (c.in_ok-left-2.ensures _ _ c.links.invariant.at)

pub links-preserved : goal.links-preserved
links-preserved t c = next_loop c.links.invariant c.in_ok-left-2.ensures (λ text f o e x. let z = c.links.invariant.goes text f o e x in call_linked z (link_left base.Call (goes_on_so c.links.p base.Call c.links-test.true c.goes_on.ensures) (ap (one_of_kinds heads) (sym c.cur_kind.ensures) ∙ (sym c.begins_template.ensures ∙ c.if-begins_template.false))) e (c.in_ok-left-2.ensures text f z.at))

pub returns : goal.returns
returns t c = λ text f o e x. call_closed (c.links.invariant.goes text f o e x) (goes_on_so c.links.p base.Call c.links-test.false c.goes_on.ensures)
