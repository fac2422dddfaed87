use Rattle.laws_operators.proofs.HeadContexts.{enters_async, enters_plain}
use Rattle.parse_arrows.proofs.arrow.in_head.Goals as goal

pub returns-then-is_async : goal.returns-then-is_async
returns-then-is_async c = enters_async c.if-is_async.true c.in_async_head.ensures

pub returns : goal.returns
returns c = enters_plain _ c.if-is_async.false
