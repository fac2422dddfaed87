use Rattle.parse_shared.proofs.laws_shared.NameKinds.{name_so}
use Rattle.laws_operators.proofs.HeadContexts.{head_stands_at, name_missing, name_read}
use Rattle.std.proofs.Common.{true}
use Rattle.parse_arrows.proofs.arrow.parse_name_behind_async.Goals as goal

pub returns-then-not-name_stands : goal.returns-then-not-name_stands
returns-then-not-name_stands g c = name_missing c.requires.at c.context-outer.ensures c.in_async_head.ensures c.set_context.ensures c.requires.no_list (name_so c.set_context.new.p c.if-not-name_stands.true c.name_stands.ensures) c.set_context-then-not-name_stands.ensures

pub parse_name_head-requires-clause-at : goal.parse_name_head-requires-clause-at
parse_name_head-requires-clause-at g c = head_stands_at true c.requires.at c.context-outer.ensures c.in_async_head.ensures c.set_context.ensures

pub parse_name_head-requires-clause-name : goal.parse_name_head-requires-clause-name
parse_name_head-requires-clause-name g c = name_so c.set_context.new.p c.if-not-name_stands.false c.name_stands.ensures

pub returns : goal.returns
returns g c = name_read c.requires.at c.context-outer.ensures c.in_async_head.ensures c.set_context.ensures c.parse_name_head.new.p (name_so c.set_context.new.p c.if-not-name_stands.false c.name_stands.ensures) c.set_context-2.ensures _ c.in_ok-found.ensures
