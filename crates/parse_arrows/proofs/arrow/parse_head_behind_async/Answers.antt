use Rattle.std.proofs.Common.{arith, ◌∙◌}
use Rattle.js_base.specs.declared.kind.Kind.TheVariants.{LParen}
use Rattle.parse_shared.proofs.laws_shared.Moving.{standing}
use Rattle.parse_shared.proofs.laws_shared.Nesting.{later_room, nests_later}
use Rattle.parse_primary.proofs.laws_primary.Members.{stands_so}
use Rattle.laws_operators.proofs.AsyncHeads.{lists_behind, no_list_behind}
use Rattle.laws_operators.proofs.Lookaheads.{seen_so, seen_unmoved}
use Rattle.parse_arrows.proofs.arrow.parse_head_behind_async.Goals as goal

pub parse_name_behind_async-requires-clause-no_list : goal.parse_name_behind_async-requires-clause-no_list
parse_name_behind_async-requires-clause-no_list g c = stands_so c.args.p.now LParen c.if-not-stands.true c.stands.ensures

pub is_parenthesized_head-requires-clause-open : goal.is_parenthesized_head-requires-clause-open
is_parenthesized_head-requires-clause-open g c = (stands_so c.args.p.now LParen c.if-not-stands.false c.stands.ensures).0

pub returns-in-NoHead : goal.returns-in-NoHead
returns-in-NoHead g c = no_list_behind c.requires.at (stands_so c.args.p.now LParen c.if-not-stands.false c.stands.ensures).0 (seen_so c.args.p.now c.is_parenthesized_head.new.p c.in-NoHead.is c.in_ok-is_parenthesized_head.ensures)

pub attempt_head-requires-clause-at : goal.attempt_head-requires-clause-at
attempt_head-requires-clause-at g c = standing ((seen_unmoved c.args.p.now c.is_parenthesized_head.new.p c.in_ok-is_parenthesized_head.field-0 c.in_ok-is_parenthesized_head.ensures).at _ _ c.requires.at)

pub attempt_head-requires-clause-nests : goal.attempt_head-requires-clause-nests
attempt_head-requires-clause-nests g c =
    let u = seen_unmoved c.args.p.now c.is_parenthesized_head.new.p c.in_ok-is_parenthesized_head.field-0 c.in_ok-is_parenthesized_head.ensures in
    nests_later c.requires.nests (let v = u.place in later_room (omega arith) u.same)

pub attempt_head-requires-clause-open : goal.attempt_head-requires-clause-open
attempt_head-requires-clause-open g c = (seen_unmoved c.args.p.now c.is_parenthesized_head.new.p c.in_ok-is_parenthesized_head.field-0 c.in_ok-is_parenthesized_head.ensures).kind ∙ (stands_so c.args.p.now LParen c.if-not-stands.false c.stands.ensures).0

pub returns-in_default : goal.returns-in_default
returns-in_default g c = lists_behind c.args.p.now c.is_parenthesized_head.new.p c.attempt_head.new.p _ (seen_unmoved c.args.p.now c.is_parenthesized_head.new.p c.in_ok-is_parenthesized_head.field-0 c.in_ok-is_parenthesized_head.ensures) c.requires.at (stands_so c.args.p.now LParen c.if-not-stands.false c.stands.ensures).0 c.attempt_head.ensures
