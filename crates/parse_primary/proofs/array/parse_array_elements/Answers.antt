use Rattle.std.proofs.Common.{ap, arith, ◌∙◌}
use Rattle.js_base.specs.declared.token.Token.{Token}
use Rattle.std.proofs.lemmas.Result.{err_from_is_err_and}
use Rattle.laws_primary.proofs.Arrays.{element_less, loop_element, loop_end, loop_start, loop_stops}
use Rattle.laws_primary.proofs.laws_shared.Nesting.{nests_later}
use Rattle.parse_primary.proofs.array.parse_array_elements.Goals as goal

pub elements-init : goal.elements-init
elements-init g c = loop_start c.new-elements.ensures.items (c.span-opening.ensures ∙ ap (λ (t : Token). t.span) c.cur_token.ensures) c.requires.at c.requires.open c.in_ok-advance.ensures

pub parse_array_element-requires-clause-at : goal.parse_array_element-requires-clause-at
parse_array_element-requires-clause-at g c = c.elements.invariant.at

pub parse_array_element-requires-clause-nests : goal.parse_array_element-requires-clause-nests
parse_array_element-requires-clause-nests g c = nests_later c.requires.nests (let z = c.elements.invariant.less in omega arith)

pub parse_array_element-requires-clause-opened : goal.parse_array_element-requires-clause-opened
parse_array_element-requires-clause-opened g c = c.elements.invariant.opened

pub returns-in_err-element : goal.returns-in_err-element
returns-in_err-element g c =
    let p = err_from_is_err_and c.from_residual-in_err-element.result c.from_residual-in_err-element.ensures.1 in
    rw (p.1, p.2) (λ text f a. loop_stops _ _ c.elements.invariant a c.in_err-element.ensures)

pub elements-smaller : goal.elements-smaller
elements-smaller g c = element_less c.elements.invariant c.in_ok-element.ensures

pub elements-preserved : goal.elements-preserved
elements-preserved g c = loop_element c.elements.invariant c.in_ok-element.ensures c.in_ok-push.ensures.items

pub expect_closing-requires-clause-at : goal.expect_closing-requires-clause-at
expect_closing-requires-clause-at g c = c.elements.invariant.at.at

pub expect_closing-requires-clause-opened : goal.expect_closing-requires-clause-opened
expect_closing-requires-clause-opened g c = c.elements.invariant.opened

pub returns : goal.returns
returns g c = loop_end c.elements.invariant c.in_ok-expect_closing.ensures.0 c.in_ok-expect_closing.ensures.1
