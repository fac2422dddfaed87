use Rattle.std.proofs.Common.{[], ◌≡◌, arith}
use Rattle.std.proofs.lemmas.Result.{err_from_is_err_and}
use Rattle.js_base.specs.declared.kind.Kind.TheVariants.{RCurly}
use Rattle.laws_patterns.specs.ObjectPatterns.{properties_left}
use Rattle.laws_patterns.proofs.Lists.{loop_end, loop_less, loop_more, loop_start, loop_stops, more_so}
use Rattle.parse_shared.proofs.laws_shared.Nesting.{nests_later}
use Rattle.parse_patterns.proofs.object_pattern.parse_binding_properties.Goals as goal

pub properties-init : goal.properties-init
properties-init g c = loop_start (let e : c.new-properties.result.items ≡ [] = search in e) c.requires.at

pub parse_next_property-requires-clause-at : goal.parse_next_property-requires-clause-at
parse_next_property-requires-clause-at g c = c.properties.invariant.at

pub parse_next_property-requires-clause-nests : goal.parse_next_property-requires-clause-nests
parse_next_property-requires-clause-nests g c = nests_later c.requires.nests (let l = c.properties.invariant.less in omega arith)

pub returns-in_err-more : goal.returns-in_err-more
returns-in_err-more g c =
    let p = err_from_is_err_and c.from_residual.result c.from_residual.ensures.1 in
    rw (p.1, p.2) (loop_stops _ _ c.properties.invariant c.in_err-more.ensures)

pub properties-smaller : goal.properties-smaller
properties-smaller g c = loop_less RCurly c.properties.invariant (more_so properties_left RCurly _ _ _ _ c.if-not-more.false c.in_ok-more.ensures)

pub properties-preserved : goal.properties-preserved
properties-preserved g c = loop_more RCurly c.properties.invariant (more_so properties_left RCurly _ _ _ _ c.if-not-more.false c.in_ok-more.ensures)

pub returns : goal.returns
returns g c = loop_end RCurly c.properties.invariant (more_so properties_left RCurly _ _ _ _ c.if-not-more.true c.in_ok-more.ensures)
