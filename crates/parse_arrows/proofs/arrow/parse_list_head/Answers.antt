use Rattle.js_base.specs.declared.kind.Kind.TheVariants.{LParen}
use Rattle.parse_primary.proofs.laws_primary.Members.{stands_so}
use Rattle.laws_operators.proofs.Lists.{async_list_found, begins_so, list_found, none_listed}
use Rattle.parse_arrows.proofs.arrow.parse_list_head.Goals as goal

pub parse_head_at_parenthesis-requires-clause-open : goal.parse_head_at_parenthesis-requires-clause-open
parse_head_at_parenthesis-requires-clause-open g c = (stands_so c.args.p.now LParen c.if-stands.true c.stands.ensures).0

pub returns-then-stands : goal.returns-then-stands
returns-then-stands g c = list_found c.requires.at (stands_so c.args.p.now LParen c.if-stands.true c.stands.ensures).0 _ _ _ c.in_ok-found.ensures c.head_of.ensures

pub returns-then-not-branch : goal.returns-then-not-branch
returns-then-not-branch g c = none_listed (stands_so c.args.p.now LParen c.if-stands.false c.stands.ensures) (begins_so c.args.p.now c.begins_async_list.new.p c.if-not-branch.true c.in_ok-begins_async_list.ensures)

pub returns : goal.returns
returns g c = async_list_found (begins_so c.args.p.now c.begins_async_list.new.p c.if-not-branch.false c.in_ok-begins_async_list.ensures) c.parse_async_head.new.p _ _ c.in_ok-found-2.ensures c.head_of-2.ensures
