use Rattle.std.proofs.Common.{sym, ◌∙◌, inl, inr}
use Rattle.part_scan.proofs.Punctuators.{alone_told}
use Rattle.part_scan.proofs.punctuator.stands_alone.Goals as goal

pub returns-then-is_alone : goal.returns-then-is_alone
returns-then-is_alone c = λ t. inl (alone_told c.class_of.ensures (sym c.is_alone.ensures ∙ c.if-is_alone.true))

pub returns-else-is_alone : goal.returns-else-is_alone
returns-else-is_alone c = λ t. inr (c.ends_sign_at.ensures t)
