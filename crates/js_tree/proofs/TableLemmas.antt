-- The values of a function at the numbers below a number.
use Rattle.std.proofs.Common.{◌≡◌, ℕ, zero, suc, ◌<◌, ◌≤◌, List, [], ◌∷◌, ◌++◌, length, get_or, set, take, drop, refl, ap, sym, ◌∙◌, arith, inl, inr, length-set, get_or-set_same, get_or-set_other}
use Rattle.std.proofs.lemmas.List.{get_or_append_left, get_or_push, get_or-take, length-take-le, length_push, same_lists}
use Rattle.std.proofs.lemmas.Bool.{cases_lt, cases_eq}
use Rattle.js_tree.specs.Rows.{table}

pub length-table : {A : Type 0} (f : ℕ → A) (n : ℕ) → length (table f n) ≡ n
length-table f zero = refl
length-table f (suc n) = let e = length-table f n in let h = length_push (table f n) (f n) in omega arith

pub get-table : {A : Type 0} (f : ℕ → A) (n i : ℕ) (d : A) → i < n → get_or (table f n) i d ≡ f i
get-table f zero i d h = absurd (omega arith)
get-table f (suc n) i d h = elim (cases_lt i n) [ inl b ↦ get_or_append_left (table f n) (f n ∷ []) d i (let e = length-table f n in omega arith) ∙ get-table f n i d b | inr w ↦ let e : n ≡ i = omega arith in get_or_push (table f n) (f n) d i (length-table f n ∙ e) ∙ ap f e ]

pub table-same : {A : Type 0} (f g : ℕ → A) (n : ℕ) → ((i : ℕ) → i < n → g i ≡ f i) → table g n ≡ table f n
table-same f g zero h = refl
table-same f g (suc n) h = let e = table-same f g n (λ i b. h i (omega arith)) in let q = h n (omega arith) in rw (e, q)

-- the first values
pub take-table : {A : Type 0} (f : ℕ → A) (n m : ℕ) → m ≤ n → take m (table f n) ≡ table f m
take-table f n m w = same_lists _ _ (length-take-le m (table f n) (let l = length-table f n in omega arith) ∙ sym (length-table f m))
    (λ k d b. let l = length-take-le m (table f n) (let x = length-table f n in omega arith) in let q : k < m = omega arith in get_or-take m (table f n) k d q ∙ get-table f n k d (omega arith) ∙ sym (get-table f m k d q))

-- one value more
pub table-more : {A : Type 0} (f g : ℕ → A) (n : ℕ) (x : A) → ((i : ℕ) → i < n → g i ≡ f i) → g n ≡ x → table g (suc n) ≡ table f n ++ x ∷ []
table-more f g n x h e = rw (table-same f g n h, e)

-- another value at one number
pub table-set : {A : Type 0} (f g : ℕ → A) (n i : ℕ) (x : A) → i < n → ((k : ℕ) → k < n → (k ≡ i → ⊥) → g k ≡ f k) → g i ≡ x → table g n ≡ set (table f n) i x
table-set f g n i x h others at =
    same_lists _ _ (length-table g n ∙ sym (length-set (table f n) i x ∙ length-table f n))
    (λ k d b. let w : k < n = (let l = length-table g n in omega arith) in
    elim (cases_eq k i) [
      | inl e ↦ get-table g n k d w ∙ (ap g e ∙ at) ∙ sym (ap (λ m. get_or (set (table f n) i x) m d) e ∙ get_or-set_same (table f n) i x d (let l = length-table f n in omega arith))
      | inr ne ↦ get-table g n k d w ∙ others k w ne ∙ sym (get_or-set_other (table f n) i k x d ne ∙ get-table f n k d w)
    ])

-- the first replaced
pub set-first : {A : Type 0} (xs : List A) (x : A) → 0 < length xs → set xs 0 x ≡ x ∷ drop 1 xs
set-first [] x h = absurd (omega arith)
set-first (y ∷ ys) x h = refl
