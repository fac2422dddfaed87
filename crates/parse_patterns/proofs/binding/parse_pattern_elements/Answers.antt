use Rattle.std.proofs.Common.{[], ◌≡◌, arith}
use Rattle.std.proofs.lemmas.Result.{err_from_is_err_and}
use Rattle.js_base.specs.declared.kind.Kind.TheVariants.{RBrack}
use Rattle.laws_patterns.specs.Bindings.{elements_left}
use Rattle.laws_patterns.proofs.Lists.{loop_end, loop_less, loop_more, loop_start, loop_stops, more_so}
use Rattle.parse_shared.proofs.laws_shared.Nesting.{nests_later}
use Rattle.parse_patterns.proofs.binding.parse_pattern_elements.Goals as goal

pub elements-init : goal.elements-init
elements-init g c = loop_start (let e : c.new-elements.result.items ≡ [] = search in e) c.requires.at

pub parse_next_element-requires-clause-at : goal.parse_next_element-requires-clause-at
parse_next_element-requires-clause-at g c = c.elements.invariant.at

pub parse_next_element-requires-clause-nests : goal.parse_next_element-requires-clause-nests
parse_next_element-requires-clause-nests g c = nests_later c.requires.nests (let l = c.elements.invariant.less in omega arith)

pub returns-in_err-more : goal.returns-in_err-more
returns-in_err-more g c =
    let p = err_from_is_err_and c.from_residual.result c.from_residual.ensures.1 in
    rw (p.1, p.2) (loop_stops _ _ c.elements.invariant c.in_err-more.ensures)

pub elements-smaller : goal.elements-smaller
elements-smaller g c = loop_less RBrack c.elements.invariant (more_so elements_left RBrack _ _ _ _ c.if-not-more.false c.in_ok-more.ensures)

pub elements-preserved : goal.elements-preserved
elements-preserved g c = loop_more RBrack c.elements.invariant (more_so elements_left RBrack _ _ _ _ c.if-not-more.false c.in_ok-more.ensures)

pub returns : goal.returns
returns g c = loop_end RBrack c.elements.invariant (more_so elements_left RBrack _ _ _ _ c.if-not-more.true c.in_ok-more.ensures)
