use Rattle.std.proofs.Common.{◌∙◌, sym}
use Rattle.std.proofs.lemmas.Bool.{false≢true}
use Rattle.laws_operators.proofs.Arrows.{head_read, head_refused, head_unread}
use Rattle.parse_arrows.proofs.arrow.parse_parenthesized_head.Goals as goal

pub returns-then-at : goal.returns-then-at
returns-then-at g c = head_read c.requires.at c.requires.open c.in-Ok.ensures (c.at.ensures.0 c.if-at.true)

pub returns-else-at : goal.returns-else-at
returns-else-at g c = head_unread c.requires.at c.requires.open c.in-Ok.ensures (λ k. false≢true (sym c.if-at.false ∙ c.at.ensures.1 k))

pub returns-in-Err-Fatal : goal.returns-in-Err-Fatal
returns-in-Err-Fatal g c = head_refused _ c.requires.at c.in-Err-Fatal.field-0-is c.in-Err-Fatal.ensures
