-- One flag of a set of grammar parameters.
use Rattle.std.proofs.Common.{ℕ, zero, suc, ◌≡◌, ◌≢◌, ◌-◌, ◌*◌, ◌^◌, ◌<◌, Bool, true, false, inl, inr, ap, ◌∙◌, arith, bit_and, bit_or, w16}
use Rattle.std.specs.Prelude.{◌==◌, if◌then◌else◌}
use Rattle.std.specs.Int.{bit_at, bit_not}
use Rattle.std.proofs.lemmas.Nat.Bits.{and_pow, bit_at_or, bit_at_and, bit_at-pow_same, bit_at-pow_other, bit_at_not, bit_at_above, bit_at-lt}
use Rattle.std.proofs.lemmas.Nat.{pow_pos}
use Rattle.std.proofs.lemmas.Bool.{cases_lt}
use Rattle.std.proofs.Math.Pow.{pow-lt}
use Rattle.std.proofs.lemmas.Bool.Decides.{nat_tests}
use Rattle.bitflags.specs.Sets.{without}
use Rattle.js_base.specs.declared.context.Context.{Context}
use Rattle.js_base.specs.Contexts.{SetsFlag, AddsFlag}

-- a bit times a power is the power exactly where the bit is 1
bit_times : (b m : ℕ) → b < 2 → 0 < m → (b * m == m) ≡ (b == 1)
bit_times zero m h p = grind (arith, nat_tests)
bit_times (suc zero) m h p = grind (arith, nat_tests)
bit_times (suc (suc b)) m h p = absurd (omega arith)

pub contains-flag : (n k : ℕ) → (bit_and n (2 ^ k) == 2 ^ k) ≡ (bit_at n k == 1)
contains-flag n k = rw (and_pow n k) (bit_times (bit_at n k) (2 ^ k) (bit_at-lt n k) (pow_pos k))

set_same : (n k : ℕ) → bit_at (bit_or n (2 ^ k)) k ≡ 1
set_same n k = rw (bit_at_or n (2 ^ k) k, bit_at-pow_same k) (omega (arith, bit_at-lt n k))

set_other : (n k j : ℕ) → j ≢ k → bit_at (bit_or n (2 ^ k)) j ≡ bit_at n j
set_other n k j h = rw (bit_at_or n (2 ^ k) j, bit_at-pow_other k j h) (omega arith)

clear_same : (n k : ℕ) → k < 16 → bit_at (without 16 n (2 ^ k)) k ≡ 0
clear_same n k h =
    let off : bit_at (bit_not w16 (2 ^ k)) k ≡ 1 - bit_at (2 ^ k) k = bit_at_not w16 (2 ^ k) k (pow-lt h) h in
    bit_at_and n (bit_not w16 (2 ^ k)) k ∙ rw (off, bit_at-pow_same k) (omega arith)

clear_other : (n k j : ℕ) → n < 2 ^ 16 → k < 16 → j ≢ k → bit_at (without 16 n (2 ^ k)) j ≡ bit_at n j
clear_other n k j f h d = elim (cases_lt j 16) as (λ _. bit_at (without 16 n (2 ^ k)) j ≡ bit_at n j) [
  | inl low ↦
      let off : bit_at (bit_not w16 (2 ^ k)) j ≡ 1 - bit_at (2 ^ k) j = bit_at_not w16 (2 ^ k) j (pow-lt h) low in
      bit_at_and n (bit_not w16 (2 ^ k)) j ∙ rw (off, bit_at-pow_other k j d) (omega (arith, bit_at-lt n j))
  | inr high ↦ bit_at_and n (bit_not w16 (2 ^ k)) j ∙ rw (bit_at_above n 16 j f high) (omega arith)
]

-- a test of a bit
is_one : (b c : ℕ) → b ≡ c → (b == 1) ≡ (c == 1)
is_one b c e = ap (λ x. x == 1) e

pub sets-flag : (k : ℕ) (include : Bool) (old new : Context) → k < 16 → old.0 < 2 ^ 16
    → new.0 ≡ (if include then bit_or old.0 (2 ^ k) else without 16 old.0 (2 ^ k)) → SetsFlag k include old new
sets-flag k true old new h f e = record {
  flag = is_one _ 1 (ap (λ x. bit_at x k) e ∙ set_same old.0 k);
  others = λ j d. is_one _ _ (ap (λ x. bit_at x j) e ∙ set_other old.0 k j d);
}
sets-flag k false old new h f e = record {
  flag = is_one _ 0 (ap (λ x. bit_at x k) e ∙ clear_same old.0 k h);
  others = λ j d. is_one _ _ (ap (λ x. bit_at x j) e ∙ clear_other old.0 k j f h d);
}

pub adds-flag : (k : ℕ) (include : Bool) (old new : Context)
    → new.0 ≡ (if include then bit_or old.0 (2 ^ k) else old.0) → AddsFlag k include old new
adds-flag k true old new e = record {
  flag = is_one _ 1 (ap (λ x. bit_at x k) e ∙ set_same old.0 k);
  others = λ j d. is_one _ _ (ap (λ x. bit_at x j) e ∙ set_other old.0 k j d);
}
adds-flag k false old new e = record {
  flag = is_one _ _ (ap (λ x. bit_at x k) e);
  others = λ j d. is_one _ _ (ap (λ x. bit_at x j) e);
}
