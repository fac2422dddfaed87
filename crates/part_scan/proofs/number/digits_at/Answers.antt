use Rattle.std.proofs.Common.{subst}
use Rattle.part_scan.proofs.Numbers.{Passed, passed_digit, passed_separator}
use Rattle.part_scan.proofs.number.digits_at.Goals as goal

pub digits-preserved-then-digit_at : goal.digits-preserved-then-digit_at
digits-preserved-then-digit_at c = passed_digit c.requires.radix_within c.digits.invariant c.if-digit_at.ensures

pub digits-preserved : goal.digits-preserved
digits-preserved c = passed_separator (subst (λ b. Passed c.args.radix c.args.text.now c.args.at c.digits.end b c.digits.has_separator) c.if-complete.true c.digits.invariant) c.if-digit_at.ensures c.if-is_at.ensures
