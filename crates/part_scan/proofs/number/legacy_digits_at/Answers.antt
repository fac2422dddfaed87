use Rattle.std.proofs.Common.{subst, sym, ◌+◌}
use Rattle.part_scan.proofs.Numbers.{Decimals, decimals_above, decimals_below}
use Rattle.part_scan.proofs.number.legacy_digits_at.Goals.{then-is_either_at, else-is_either_at}
use Rattle.part_scan.proofs.number.legacy_digits_at.Goals as goal

pub digits-preserved : goal.digits-preserved
digits-preserved c = elim c.if-is_either_at.branch [
  | then-is_either_at w ↦ subst (λ b. Decimals c.args.text.now c.args.at (c.digits.end + 1) b) (sym w.above-is) (decimals_above c.digits.invariant c.digits-test.ensures w.if-is_either_at.ensures)
  | else-is_either_at w ↦ subst (λ b. Decimals c.args.text.now c.args.at (c.digits.end + 1) b) (sym w.above-is) (decimals_below c.digits.invariant c.digits-test.ensures w.if-is_either_at.ensures)
]
