use Rattle.std.proofs.Common.{ap, arith, ◌∙◌}
use Rattle.js_base.specs.declared.token.Token.{Token}
use Rattle.std.proofs.lemmas.Result.{err_from_is_err_and}
use Rattle.laws_primary.proofs.PropertyLists.{property_less, loop_property, loop_end, loop_start, loop_stops}
use Rattle.laws_primary.proofs.laws_shared.Nesting.{nests_later}
use Rattle.parse_primary.proofs.object.parse_properties.Goals as goal

pub properties-init : goal.properties-init
properties-init g c = loop_start c.new-properties.ensures.items (c.span-opening.ensures ∙ ap (λ (t : Token). t.span) c.cur_token.ensures) c.requires.at c.requires.open c.in_ok-advance.ensures

pub parse_listed_property-requires-clause-at : goal.parse_listed_property-requires-clause-at
parse_listed_property-requires-clause-at g c = c.properties.invariant.at

pub parse_listed_property-requires-clause-nests : goal.parse_listed_property-requires-clause-nests
parse_listed_property-requires-clause-nests g c = nests_later c.requires.nests (let z = c.properties.invariant.less in omega arith)

pub parse_listed_property-requires-clause-opened : goal.parse_listed_property-requires-clause-opened
parse_listed_property-requires-clause-opened g c = c.properties.invariant.opened

pub returns-in_err-property : goal.returns-in_err-property
returns-in_err-property g c =
    let p = err_from_is_err_and c.from_residual-in_err-property.result c.from_residual-in_err-property.ensures.1 in
    rw (p.1, p.2) (λ text f a. loop_stops _ _ c.properties.invariant a c.in_err-property.ensures)

pub properties-smaller : goal.properties-smaller
properties-smaller g c = property_less c.properties.invariant c.in_ok-property.ensures

pub properties-preserved : goal.properties-preserved
properties-preserved g c = loop_property c.properties.invariant c.in_ok-property.ensures c.in_ok-push.ensures.items

pub expect_closing-requires-clause-at : goal.expect_closing-requires-clause-at
expect_closing-requires-clause-at g c = c.properties.invariant.at.at

pub expect_closing-requires-clause-opened : goal.expect_closing-requires-clause-opened
expect_closing-requires-clause-opened g c = c.properties.invariant.opened

pub returns : goal.returns
returns g c = loop_end c.properties.invariant c.in_ok-expect_closing.ensures.0 c.in_ok-expect_closing.ensures.1
