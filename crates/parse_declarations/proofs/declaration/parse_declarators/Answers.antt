use Rattle.std.proofs.Common.{[], ◌≡◌}
use Rattle.std.proofs.lemmas.Result.{err_from_is_err_and}
use Rattle.parse_shared.proofs.laws_shared.Nesting.{nests_later}
use Rattle.parse_declarations.proofs.DeclaratorLists.{loop_end, loop_less, loop_more, loop_start, loop_stops}
use Rattle.parse_declarations.proofs.declaration.parse_declarators.Goals as goal

pub declarators-init : goal.declarators-init
declarators-init g c = loop_start (let e : c.new-declarators.result.items ≡ [] = search in e) c.requires.at

pub parse_declarator_and_comma-requires-clause-at : goal.parse_declarator_and_comma-requires-clause-at
parse_declarator_and_comma-requires-clause-at g c = c.declarators.invariant.at

pub parse_declarator_and_comma-requires-clause-nests : goal.parse_declarator_and_comma-requires-clause-nests
parse_declarator_and_comma-requires-clause-nests g c = nests_later c.requires.nests c.declarators.invariant.less

pub returns-in_err-more : goal.returns-in_err-more
returns-in_err-more g c =
    let p = err_from_is_err_and c.from_residual.result c.from_residual.ensures.1 in
    rw (p.1, p.2) (loop_stops _ _ c.declarators.invariant c.in_err-more.ensures)

pub declarators-smaller : goal.declarators-smaller
declarators-smaller g c = loop_less c.declarators.invariant c.in_ok-more.ensures c.if-not-more.false

pub declarators-preserved : goal.declarators-preserved
declarators-preserved g c = loop_more c.declarators.invariant c.in_ok-more.ensures c.if-not-more.false

pub returns : goal.returns
returns g c = loop_end c.declarators.invariant c.in_ok-more.ensures c.if-not-more.true
