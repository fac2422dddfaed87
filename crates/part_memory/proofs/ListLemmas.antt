-- The last item of a list, replaced.
use Rattle.std.proofs.Common.{ℕ, ◌-◌, ◌+◌, ◌<◌, List, [], ◌∷◌, length, take, slice_set, ◌≡◌, sym, ◌∙◌, arith}
use Rattle.std.proofs.lemmas.List.{take_more_set, take_all, length-set}
use Rattle.part_memory.specs.Lists.{replaced}

-- the item at the last number, set
pub replaced-set : {A : Type 0} → (xs : List A) (n : ℕ) (t : A) → n ≡ length xs → 0 < n → slice_set xs (n - 1) t ≡ replaced xs t
replaced-set [] n t e p = absurd none
  where
    none : ⊥
    none = omega arith
replaced-set (u ∷ us) n t e p =
    rw last (sym whole ∙ take_more_set (u ∷ us) (length us) t (omega arith))
  where
    last : n - 1 ≡ length us
    last = omega arith

    whole : take (length us + 1) (slice_set (u ∷ us) (length us) t) ≡ slice_set (u ∷ us) (length us) t
    whole = take_all (length us + 1) (slice_set (u ∷ us) (length us) t) (omega (arith, length-set (u ∷ us) (length us) t))
