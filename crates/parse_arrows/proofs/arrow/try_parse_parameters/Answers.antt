use Rattle.std.proofs.Common.{ap, refl}
use Rattle.parse_shared.specs.js_cursor.Tokens.{may_be_read_again}
use Rattle.parse_shared.proofs.js_cursor.Changing.{may_return}
use Rattle.laws_operators.proofs.Arrows.{dropped, none_looked, some_looked, unmoved, went_back}
use Rattle.laws_operators.proofs.NotedHeads.{noted_here, noted_none}
use Rattle.parse_arrows.proofs.arrow.try_parse_parameters.Goals as goal

pub returns-then-arrow_failed : goal.returns-then-arrow_failed
returns-then-arrow_failed g c = (unmoved refl, noted_none c.prev_token_end-place.ensures c.arrow_failed.ensures.small c.arrow_failed.ensures.found c.if-arrow_failed.true)

pub returns-in-Some : goal.returns-in-Some
returns-in-Some g c = some_looked _ _ c.parse_parenthesized_head.new.p _ _ c.in_ok-here.ensures.same c.in-Some.is c.in_ok-parameters.ensures

pub rewind-requires-clause-at : goal.rewind-requires-clause-at
rewind-requires-clause-at g c = (none_looked _ _ c.parse_parenthesized_head.new.p _ c.in_ok-here.ensures.same c.in_default.is c.in_ok-parameters.ensures).0.0.1

pub rewind-requires-clause-may : goal.rewind-requires-clause-may
rewind-requires-clause-may g c = may_return c.requires.at.at c.in_ok-here.ensures.remembers refl (none_looked _ _ c.parse_parenthesized_head.new.p _ c.in_ok-here.ensures.same c.in_default.is c.in_ok-parameters.ensures).0.0.0

pub note_arrow_failed-requires : goal.note_arrow_failed-requires
note_arrow_failed-requires g c =
    let n = none_looked _ _ c.parse_parenthesized_head.new.p _ c.in_ok-here.ensures.same c.in_default.is c.in_ok-parameters.ensures in
    ((dropped c.node_count-nodes.ensures.count (went_back (ap may_be_read_again c.requires.open) c.in_ok-here.ensures.remembers n.0 c.rewind.ensures) c.drop_nodes.ensures).at _ _ c.requires.at).at

pub returns : goal.returns
returns g c =
    let n = none_looked _ _ c.parse_parenthesized_head.new.p _ c.in_ok-here.ensures.same c.in_default.is c.in_ok-parameters.ensures in
    (noted_here c.requires.at (dropped c.node_count-nodes.ensures.count (went_back (ap may_be_read_again c.requires.open) c.in_ok-here.ensures.remembers n.0 c.rewind.ensures) c.drop_nodes.ensures) n.1 c.prev_token_end-place.ensures c.in_ok-note_arrow_failed.ensures.ok, n.1)

pub drop_nodes-requires : goal.drop_nodes-requires
drop_nodes-requires g c = c.node_count-nodes.ensures.some
