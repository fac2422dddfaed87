use Rattle.std.proofs.Common.{◌∙◌, sym}
use Rattle.parse_operators.proofs.operators.has_or_and.Goals as goal

pub returns-then-is_or_and : goal.returns-then-is_or_and
returns-then-is_or_and g c = λ a b v w l m cs ds h k. rw (sym (c.is_or_and.ensures a b l cs h) ∙ c.if-is_or_and.true) c.if-is_or_and.true

pub returns-else-is_or_and : goal.returns-else-is_or_and
returns-else-is_or_and g c = λ a b v w l m cs ds h k. rw (sym (c.is_or_and.ensures a b l cs h) ∙ c.if-is_or_and.false) (c.is_or_and-else-is_or_and.ensures v w m ds k)
