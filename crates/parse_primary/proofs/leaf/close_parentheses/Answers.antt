use Rattle.laws_primary.proofs.Parentheses.{closes}
use Rattle.parse_primary.proofs.leaf.close_parentheses.Goals as goal

pub returns : goal.returns
returns t c = closes _ _ _ c.expect_closing.result c.expect_closing.ensures
