-- Places that are noted, each by the parameters in force there.
use Rattle.std.proofs.Common.{ℕ, ◌+◌, ◌*◌, ◌≡◌, ◌<◌, ◌==◌, Bool, true, false, List, refl, sym, ap, subst, arith, ◌∙◌}
use Rattle.std.specs.List.{list_any}
use Rattle.std.specs.Ordering.{nat_cmp}
use Rattle.std.specs.BTreeMap.{is_at}
use Rattle.std.proofs.lemmas.Bool.{eqb-true, eqb-false}
use Rattle.js_base.specs.Contexts.{bits_of}
use Rattle.js_base.specs.declared.context.Context.{Context}
use Rattle.js_cursor.specs.Notes.{NotesPlace, is_noted, noted_number}
use Rattle.js_cursor.proofs.Recording.{apart}

abbrev of_bits : ℕ → Context
of_bits n = record { 0 = n }

same_context : (c d : Context) → bits_of c ≡ bits_of d → c ≡ d
same_context c d e = ap (λ (n : ℕ). of_bits n) e

-- one number stands for one place under the same parameters
same_place : (c d : Context) (place q : ℕ) → bits_of c < 65536 → bits_of d < 65536 → noted_number c place ≡ noted_number d q → (d ≡ c) × (q ≡ place)
same_place c d place q s t e =
    let p : q ≡ place = omega arith in
    let b : bits_of d ≡ bits_of c = omega arith in
    (same_context d c b, p)

-- the number of another place, or of other parameters, is another one
other_number : (c d : Context) (place q : ℕ) → bits_of c < 65536 → bits_of d < 65536 → ((d ≡ c) × (q ≡ place) → ⊥) → (noted_number c place == noted_number d q) ≡ false
other_number c d place q s t n = go (noted_number c place == noted_number d q) refl
  where
    go : (b : Bool) → (noted_number c place == noted_number d q) ≡ b → (noted_number c place == noted_number d q) ≡ false
    go true e = absurd (n (same_place c d place q s t (eqb-true (noted_number c place) (noted_number d q) e)))
    go false e = e

-- its number is one more of those that are kept
pub place_noted : {c : Context} {place k : ℕ} {old new : List ℕ} → bits_of c < 65536 → k ≡ noted_number c place → list_any (is_at (nat_cmp k)) new ≡ true → ((q : ℕ) → is_at (nat_cmp k) q ≡ false → list_any (is_at (nat_cmp q)) new ≡ list_any (is_at (nat_cmp q)) old) → NotesPlace c place old new
place_noted {c} {place} {k} {old} {new} s e h o = record {
  noted = subst (λ (n : ℕ). list_any (is_at (nat_cmp n)) new ≡ true) e h;
  others = λ d q t n. o (noted_number d q) (apart k (noted_number d q) (ap (λ (m : ℕ). m == noted_number d q) e ∙ other_number c d place q s t n));
}

-- What holds wherever it was noted, and where it is noted now, holds wherever it is.
pub noted_step : {c : Context} {place : ℕ} {old new : List ℕ} (P : Context → ℕ → Type 0) → NotesPlace c place old new → P c place → ((d : Context) (q : ℕ) → bits_of d < 65536 → is_noted old d q ≡ true → P d q) → (d : Context) (q : ℕ) → bits_of d < 65536 → is_noted new d q ≡ true → P d q
noted_step {c} {place} {old} {new} P n h o d q s i = go (bits_of d == bits_of c) (q == place) refl refl
  where
    go : (b e : Bool) → (bits_of d == bits_of c) ≡ b → (q == place) ≡ e → P d q
    go true true x y = subst (λ (v : Context). P v q) (same_context c d (sym (eqb-true (bits_of d) (bits_of c) x))) (subst (λ (v : ℕ). P c v) (sym (eqb-true q place y)) h)
    go true false x y = o d q s (sym (n.others d q s (λ z. eqb-false q place y z.1)) ∙ i)
    go false e x y = o d q s (sym (n.others d q s (λ z. eqb-false (bits_of d) (bits_of c) x (ap (λ (v : Context). bits_of v) z.0))) ∙ i)
