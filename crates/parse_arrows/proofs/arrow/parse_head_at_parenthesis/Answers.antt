use Rattle.std.proofs.Common.{false, arith, ◌∙◌}
use Rattle.parse_shared.proofs.laws_shared.Moving.{standing}
use Rattle.parse_shared.proofs.laws_shared.Nesting.{later_room, nests_later}
use Rattle.laws_operators.proofs.Lookaheads.{none_read, operand_there, seen_so, seen_unmoved, searches_there}
use Rattle.laws_operators.proofs.SlashedHeads.{attempted, attempted_there}
use Rattle.parse_arrows.proofs.arrow.parse_head_at_parenthesis.Goals as goal

pub find_certain_head-requires-clause-at : goal.find_certain_head-requires-clause-at
find_certain_head-requires-clause-at g c = standing ((seen_unmoved c.args.p.now c.is_parenthesized_head.new.p c.in_ok-is_parenthesized_head.field-0 c.in_ok-is_parenthesized_head.ensures).at _ _ c.requires.at)

pub find_certain_head-requires-clause-nests : goal.find_certain_head-requires-clause-nests
find_certain_head-requires-clause-nests g c =
    let u = seen_unmoved c.args.p.now c.is_parenthesized_head.new.p c.in_ok-is_parenthesized_head.field-0 c.in_ok-is_parenthesized_head.ensures in
    nests_later c.requires.nests (let v = u.place in later_room (omega arith) u.same)

pub find_certain_head-requires-clause-open : goal.find_certain_head-requires-clause-open
find_certain_head-requires-clause-open g c = (seen_unmoved c.args.p.now c.is_parenthesized_head.new.p c.in_ok-is_parenthesized_head.field-0 c.in_ok-is_parenthesized_head.ensures).kind ∙ c.requires.open

pub find_certain_head-requires-clause-certain : goal.find_certain_head-requires-clause-certain
find_certain_head-requires-clause-certain g c =
    let x = seen_so c.args.p.now c.is_parenthesized_head.new.p c.in-Head.is c.in_ok-is_parenthesized_head.ensures in
    operand_there c.requires.at x.0 x.1

pub returns-in-Head : goal.returns-in-Head
returns-in-Head g c =
    let x = seen_so c.args.p.now c.is_parenthesized_head.new.p c.in-Head.is c.in_ok-is_parenthesized_head.ensures in
    searches_there c.find_certain_head.new.p c.find_certain_head.result x.0 x.1 c.find_certain_head.ensures

pub attempt_head-requires-clause-at : goal.attempt_head-requires-clause-at
attempt_head-requires-clause-at g c = standing ((seen_unmoved c.args.p.now c.is_parenthesized_head.new.p c.in_ok-is_parenthesized_head.field-0 c.in_ok-is_parenthesized_head.ensures).at _ _ c.requires.at)

pub attempt_head-requires-clause-nests : goal.attempt_head-requires-clause-nests
attempt_head-requires-clause-nests g c =
    let u = seen_unmoved c.args.p.now c.is_parenthesized_head.new.p c.in_ok-is_parenthesized_head.field-0 c.in_ok-is_parenthesized_head.ensures in
    nests_later c.requires.nests (let v = u.place in later_room (omega arith) u.same)

pub attempt_head-requires-clause-open : goal.attempt_head-requires-clause-open
attempt_head-requires-clause-open g c = (seen_unmoved c.args.p.now c.is_parenthesized_head.new.p c.in_ok-is_parenthesized_head.field-0 c.in_ok-is_parenthesized_head.ensures).kind ∙ c.requires.open

pub returns-in_ok-found-in-Maybe : goal.returns-in_ok-found-in-Maybe
returns-in_ok-found-in-Maybe g c = attempted c.args.p.now c.attempt_head.new.p _ c.requires.open (attempted_there (seen_unmoved c.args.p.now c.is_parenthesized_head.new.p c.in_ok-is_parenthesized_head.field-0 c.in_ok-is_parenthesized_head.ensures) false c.attempt_head.new.p _ c.in_ok-found-in-Maybe.ensures)

pub returns-in-NoHead : goal.returns-in-NoHead
returns-in-NoHead g c = none_read c.requires.open (seen_so c.args.p.now c.is_parenthesized_head.new.p c.in-NoHead.is c.in_ok-is_parenthesized_head.ensures)
