-- What is reached by following what was reached, each once.
use Rattle.std.proofs.Common.{◌≡◌, ℕ, ◌+◌, ◌<◌, ◌≤◌, Bool, true, false, cond, List, [], ◌∷◌, ◌++◌, length, take, get_or, slice_get, Some, refl, sym, ap, ◌∙◌, subst, ◌⊎◌, inl, inr, append_assoc, arith}
use Rattle.std.specs.Prelude.{All, Contains}
use Rattle.std.specs.List.{list_any}
use Rattle.std.proofs.lemmas.List.{take-append-le, take_more, take_all}
use Rattle.std.proofs.lemmas.List.Elements.{All-nil, All-push, All-head, All-tail, All-weaker, All-contains, Contains-push, Contains-push_cases, Contains-append_left, Contains-append_cases, Contains-get_or}
use Rattle.std.proofs.lemmas.Map.Views.{Contains-from_any}
use Rattle.std.proofs.lemmas.Option.{slice_get_within, get_or_from_slice_get}
use Rattle.indexmap.specs.IndexSet.{insert_key, insert_all}
use Rattle.js_graph.specs.Paths.{Reaches, itself, onward}

module _ {A : Type 0} where
  append-nil : (xs : List A) → xs ++ [] ≡ xs
  append-nil [] = refl
  append-nil (x ∷ xs) = ap (λ v. x ∷ v) (append-nil xs)

  -- nothing is in no list, and one thing in a list of one
  pub none_in : (x : A) → Contains [] x → ⊥
  none_in x h = omega (arith, h.1)

  pub only_in : (y x : A) → Contains (y ∷ []) x → y ≡ x
  only_in y x h = elim (Contains-push_cases [] y x h) [ inl n ↦ absurd (none_in x n) | inr e ↦ e ]

  pub in_first : (y : A) (xs : List A) (x : A) → Contains (y ∷ xs) x → (y ≡ x) ⊎ Contains xs x
  in_first y xs x h = elim (Contains-append_cases (y ∷ []) xs x h) [ inl n ↦ inl (only_in y x n) | inr n ↦ inr n ]

  -- what holds of each thing in a list
  pub each : (P : A → Type 0) (xs : List A) → ((y : A) → Contains xs y → P y) → All P xs
  each P xs h k d lt = h (get_or xs k d) (Contains-get_or xs k d lt)

  -- the first ones, and the next
  pub take_next : (ks more : List A) (d : ℕ) (x : A) → slice_get ks d ≡ Some x → take (d + 1) (ks ++ more) ≡ take d ks ++ x ∷ []
  take_next ks more d x h =
      let within : d < length ks = slice_get_within ks d x h in
      take-append-le (d + 1) ks more (omega arith)
      ∙ take_more ks d x within
      ∙ ap (λ v. take d ks ++ v ∷ []) (get_or_from_slice_get ks d x x h)

  module _ (eq : A → A → Bool) where
    key_behind : (x : A) (ys : List A) → (more : List A) × (insert_key eq ys x ≡ ys ++ more)
    key_behind x ys = by (list_any (eq x) ys)
      where
        by : (b : Bool) → (more : List A) × (cond b ys (ys ++ x ∷ []) ≡ ys ++ more)
        by true = ([], sym (append-nil ys))
        by false = (x ∷ [], refl)

    -- what is put in stands behind what is there
    pub all_behind : (xs ys : List A) → (more : List A) × (insert_all eq ys xs ≡ ys ++ more)
    all_behind [] ys = ([], sym (append-nil ys))
    all_behind (x ∷ xs) ys =
        let one = key_behind x ys in
        let rest = all_behind xs (insert_key eq ys x) in
        (one.0 ++ rest.0, rest.1 ∙ ap (λ v. v ++ rest.0) one.1 ∙ append_assoc ys one.0 rest.0)

    pub kept : (xs ys : List A) (x : A) → Contains ys x → Contains (insert_all eq ys xs) x
    kept xs ys x h =
        let all = all_behind xs ys in
        subst (λ (v : List A). Contains v x) (sym all.1) (Contains-append_left ys all.0 x h)

    module _ (same : (x y : A) → eq x y ≡ true → x ≡ y) where
      key_put : (x : A) (ys : List A) → Contains (insert_key eq ys x) x
      key_put x ys = by (list_any (eq x) ys) refl
        where
          by : (b : Bool) → list_any (eq x) ys ≡ b → Contains (cond b ys (ys ++ x ∷ [])) x
          by true e = Contains-from_any same x ys e
          by false e = Contains-push ys x

      pub put : (xs ys : List A) (x : A) → Contains xs x → Contains (insert_all eq ys xs) x
      put [] ys x h = absurd (none_in x h)
      put (y ∷ xs) ys x h = elim (in_first y xs x h) [
        | inl e ↦ subst (λ (v : A). Contains (insert_all eq (insert_key eq ys y) xs) v) e (kept xs (insert_key eq ys y) y (key_put y ys))
        | inr n ↦ put xs (insert_key eq ys y) x n
      ]

    pub all_put : (P : A → Type 0) (xs ys : List A) → All P ys → All P xs → All P (insert_all eq ys xs)
    all_put P [] ys old new = old
    all_put P (x ∷ xs) ys old new = all_put P xs (insert_key eq ys x) (by (list_any (eq x) ys)) (All-tail P x xs new)
      where
        by : (b : Bool) → All P (cond b ys (ys ++ x ∷ []))
        by true = old
        by false = All-push P ys x old (All-head P x xs new)

-- `ks` are reached from `start`, itself among them, and what the first `done` of them lead to is among them
pub record AreFollowed {A : Type 0} (next : A → List A) (start : A) (ks : List A) (done : ℕ) : Type 0 where
  pub begun : Contains ks start
  pub reached : All (Reaches next start) ks
  pub followed : All (λ x. All (Contains ks) (next x)) (take done ks)

module _ {A : Type 0} (next : A → List A) (start : A) where
  pub none_followed : AreFollowed next start (start ∷ []) 0
  none_followed = record {
    begun = Contains-push [] start;
    reached = All-push (Reaches next start) [] start (All-nil (Reaches next start)) itself;
    followed = All-nil (λ x. All (Contains (start ∷ [])) (next x));
  }

  module _ (eq : A → A → Bool) (same : (x y : A) → eq x y ≡ true → x ≡ y) where
    pub next_followed : (ks : List A) (done : ℕ) (x : A) → AreFollowed next start ks done → slice_get ks done ≡ Some x → AreFollowed next start (insert_all eq ks (next x)) (done + 1)
    next_followed ks done x f at =
        let news : List A = insert_all eq ks (next x) in
        let behind = all_behind eq (next x) ks in
        let within : done < length ks = slice_get_within ks done x at in
        let is_reached : Reaches next start x = All-contains (Reaches next start) ks x f.reached (done, within, get_or_from_slice_get ks done x x at) in
        let taken : take (done + 1) news ≡ take done ks ++ x ∷ [] = ap (take (done + 1)) behind.1 ∙ take_next ks behind.0 done x at in
        let here : All (Contains news) (next x) = each (Contains news) (next x) (put eq same (next x) ks) in
        let before : All (λ y. All (Contains news) (next y)) (take done ks) = All-weaker (λ y. All (Contains ks) (next y)) (λ y. All (Contains news) (next y)) (λ y. All-weaker (Contains ks) (Contains news) (kept eq (next x) ks) (next y)) (take done ks) f.followed in
        record {
          begun = kept eq (next x) ks start f.begun;
          reached = all_put eq (Reaches next start) (next x) ks f.reached (each (Reaches next start) (next x) (λ y h. onward is_reached h));
          followed = subst (All (λ y. All (Contains news) (next y))) (sym taken) (All-push (λ y. All (Contains news) (next y)) (take done ks) x before here);
        }

  -- where all are followed, all that a path reaches is among them
  pub all_followed : (ks : List A) (done : ℕ) → AreFollowed next start ks done → length ks ≤ done → (x : A) → Reaches next start x → Contains ks x
  all_followed ks done f le x itself = f.begun
  all_followed ks done f le y (onward {x} r h) = All-contains (Contains ks) (next x) y (All-contains (λ z. All (Contains ks) (next z)) ks x (subst (All (λ z. All (Contains ks) (next z))) (take_all done ks le) f.followed) (all_followed ks done f le x r)) h
