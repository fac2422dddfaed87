use Rattle.std.proofs.Common.{◌≡◌, ℕ, false, ap, arith, inl, inr, refl, ◌∙◌}
use Rattle.std.proofs.lemmas.Bool.{cases_eq, cases_lt}
use Rattle.std.proofs.lemmas.Grind.{common_steps}
use Rattle.std.specs.BTreeMap.{get, is_at}
use Rattle.std.specs.Ordering.{nat_cmp}
use Rattle.js_tree.proofs.columns.drop_names.Goals as goal

other : (n i : ℕ) → (i ≡ n → ⊥) → is_at (nat_cmp n) i ≡ false
other n i ne = grind (arith, common_steps)

pub numbers-init : goal.numbers-init
numbers-init c = record { kept = λ i w. refl; dropped = λ i v w. absurd (omega arith); behind = c.requires.none }

pub numbers-preserved : goal.numbers-preserved
numbers-preserved c =
    let at = c.numbers.number-counter in
    let u = c.remove.ensures.updates in
    record {
      kept = λ i w. u.2 i (other at i (λ e. let a = c.numbers.auto.number-counter in absurd (omega arith))) ∙ c.numbers.invariant.kept i w;
      dropped = λ i v w. elim (cases_eq i at) [ inl e ↦ ap (get nat_cmp c.remove.new.self) e ∙ u.1 | inr ne ↦ u.2 i (other at i ne) ∙ c.numbers.invariant.dropped i v (omega arith) ];
      behind = λ i w. u.2 i (other at i (λ e. let t = c.numbers-test.true in absurd (omega arith))) ∙ c.numbers.invariant.behind i w;
    }

pub returns : goal.returns
returns c = record { kept = c.numbers.invariant.kept; dropped = λ i v. elim (cases_lt i c.args.last) [ inl w ↦ c.numbers.invariant.dropped i v (omega arith) | inr w ↦ c.numbers.invariant.behind i w ] }
