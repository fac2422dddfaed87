-- The longest front of a class is one alone.
use Rattle.std.proofs.Common.{◌≡◌, ℕ, Bool, true, false, List, [], ◌∷◌, ◌++◌, refl, sym, subst, not, ◌&&◌, append_assoc, ◌⊎◌, inl, inr}
pub use Rattle.std.proofs.lemmas.Bool.{not-true}
use Rattle.js_grammar.specs.Longest.{Class, longest, none_longer}

pub both-left : (a b : Bool) → (a && b) ≡ true → a ≡ true
both-left true b h = refl
both-left false b h = h

pub both-right : (a b : Bool) → (a && b) ≡ true → b ≡ true
both-right true b h = h
both-right false b h = cc

pub both : (a b : Bool) → a ≡ true → b ≡ true → (a && b) ≡ true
both a b h k = rw (h, k) refl

-- no longer front is of the class
pub none_longer-at : (class : Class) (w : List ℕ) (c : ℕ) (x more : List ℕ) → none_longer class w (c ∷ x ++ more) ≡ true → class (w ++ c ∷ x) more ≡ false
none_longer-at class w c [] more h = not-true (class (w ++ c ∷ []) more) (both-left (not (class (w ++ c ∷ []) more)) (none_longer class (w ++ c ∷ []) more) h)
none_longer-at class w c (d ∷ x) more h =
    let k = none_longer-at class (w ++ c ∷ []) d x more (both-right (not (class (w ++ c ∷ []) (d ∷ x ++ more))) (none_longer class (w ++ c ∷ []) (d ∷ x ++ more)) h) in
    subst (λ (v : List ℕ). class v more ≡ false) (append_assoc w (c ∷ []) (d ∷ x)) k

-- of two fronts of one list, the second goes on behind the first
pub record GoesOn (w rest v more : List ℕ) : Type 0 where
  pub head : ℕ
  pub tail : List ℕ
  pub longer : v ≡ w ++ head ∷ tail
  pub left : rest ≡ head ∷ tail ++ more

pub record Same (w rest v more : List ℕ) : Type 0 where
  pub front : w ≡ v
  pub back : rest ≡ more

pub fronts : (w rest v more : List ℕ) → w ++ rest ≡ v ++ more → Same w rest v more ⊎ (GoesOn w rest v more ⊎ GoesOn v more w rest)
fronts [] rest [] more e = inl (record { front = refl; back = e })
fronts [] rest (d ∷ v) more e = inr (inl (record { head = d; tail = v; longer = refl; left = e }))
fronts (c ∷ w) rest [] more e = inr (inr (record { head = c; tail = w; longer = refl; left = sym e }))
fronts (c ∷ w) rest (d ∷ v) more e =
    let h : c ≡ d = cc in
    let t : w ++ rest ≡ v ++ more = cc in
    elim (fronts w rest v more t) [
      | inl s ↦ inl (record { front = (let f = s.front in cc); back = s.back })
      | inr o ↦ inr (elim o [
        | inl g ↦ inl (record { head = g.head; tail = g.tail; longer = (let f = g.longer in cc); left = g.left })
        | inr g ↦ inr (record { head = g.head; tail = g.tail; longer = (let f = g.longer in cc); left = g.left })
      ])
    ]

-- a longer front than the longest isn't of the class
pub too_long : (class : Class) (w rest v more : List ℕ) → longest class w rest ≡ true → GoesOn w rest v more → class v more ≡ false
too_long class w rest v more h g =
    let n : none_longer class w (g.head ∷ g.tail ++ more) ≡ true = subst (λ (u : List ℕ). none_longer class w u ≡ true) g.left (both-right (class w rest) (none_longer class w rest) h) in
    subst (λ (u : List ℕ). class u more ≡ false) (sym g.longer) (none_longer-at class w g.head g.tail more n)

pub longest-same : (class : Class) (w rest v more : List ℕ) → w ++ rest ≡ v ++ more → longest class w rest ≡ true → longest class v more ≡ true → Same w rest v more
longest-same class w rest v more e h k =
    elim (fronts w rest v more e) [
      | inl s ↦ s
      | inr o ↦ elim o [
        | inl g ↦ absurd (let a = too_long class w rest v more h g in let b = both-left (class v more) (none_longer class v more) k in cc)
        | inr g ↦ absurd (let a = too_long class v more w rest k g in let b = both-left (class w rest) (none_longer class w rest) h in cc)
      ]
    ]
