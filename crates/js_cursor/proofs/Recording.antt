-- Changes that are recorded, and taken back.
use Rattle.std.proofs.Common.{ℕ, ◌+◌, ◌≡◌, ◌≤◌, ◌<◌, ◌==◌, Bool, true, false, cond, List, [], ◌∷◌, ◌++◌, length, length-append, Option, Some, None, refl, sym, ap, subst, arith, ◌∙◌}
use Rattle.std.specs.Prelude.{IsSome, is_some}
use Rattle.std.proofs.Math.Seq.{take-append_seam, get_or-append_seam}
use Rattle.std.proofs.lemmas.List.{map-append}
use Rattle.std.specs.Option.{option_map, unwrap_or}
use Rattle.std.specs.List.{All, count_by}
use Rattle.std.specs.Ordering.{nat_cmp, is_eq}
use Rattle.std.specs.declared.cmp.Ordering.{Ordering}
use Rattle.std.specs.declared.cmp.Ordering.TheVariants.{Less, Equal, Greater}
use Rattle.std.specs.Cmp.{nat_cmp_total}
use Rattle.std.specs.BTreeMap.{BTreeMap, get, values, Updates, IsOrdered, insert_entry, is_at, IsUnchanged}
use Rattle.std.specs.Map.{lookup, values_of}
use Rattle.std.proofs.lemmas.Bool.{false≢true, eqb-true, eqb-false}
use Rattle.std.proofs.lemmas.List.Elements.{All-push, All-weaker, All-take, All-get_or}
use Rattle.std.proofs.lemmas.List.Sums.{count_by-le-length}
use Rattle.std.proofs.lemmas.Map.Lookups.{exact_unsigned}
use Rattle.std.proofs.lemmas.Map.Entries.{sum_by-insert_entry, length-values_of}
use Rattle.js_cursor.specs.declared.history.Change.{Change}
use Rattle.js_cursor.specs.Histories.{put, nowhere, after, standing}
use Rattle.js_cursor.specs.Recorded.{steps, joined, found, Tells, weight, count, IsNarrow, IsRecorded, IsReplaced}

is_equal : (o : Ordering) → is_eq o ≡ true → o ≡ Equal
is_equal Less e = absurd (false≢true e)
is_equal Equal e = refl
is_equal Greater e = absurd (false≢true e)

pub apart : (k q : ℕ) → (k == q) ≡ false → is_at (nat_cmp k) q ≡ false
apart k q e = go (is_eq (nat_cmp k q)) refl
  where
    go : (b : Bool) → is_eq (nat_cmp k q) ≡ b → is_eq (nat_cmp k q) ≡ false
    go true h = absurd (eqb-false k q e (exact_unsigned k q (is_equal (nat_cmp k q) h)))
    go false h = h

module _ {V : Type 0} where
  after-push : (m : ℕ → Option V) (cs : List (ℕ × Option V)) (k : ℕ) (v : Option V) → after m (cs ++ (k, v) ∷ []) ≡ put k v (after m cs)
  after-push m [] k v = refl
  after-push m (c ∷ cs) k v = after-push (put c.0 c.1 m) cs k v

  steps-push : (cs : List (Change V)) (c : Change V) → steps (cs ++ c ∷ []) ≡ steps cs ++ (c.place, c.value) ∷ []
  steps-push cs c = map-append (λ (c : Change V). (c.place, c.value)) cs (c ∷ [])

  standing-push : (cs : List (Change V)) (c : Change V) → standing (steps (cs ++ c ∷ [])) ≡ put c.place c.value (standing (steps cs))
  standing-push cs c = ap (λ x. standing x) (steps-push cs c) ∙ after-push nowhere (steps cs) c.place c.value

  tells-push : (m : ℕ → Option V) (cs : List (Change V)) (c : Change V) → Tells m cs → c.before ≡ after m (steps cs) c.place → Tells m (cs ++ c ∷ [])
  tells-push m [] c h e = (e, tt)
  tells-push m (d ∷ cs) c h e = (h.0, tells-push (put d.place d.value m) cs c h.1 e)

  tells-split : (m : ℕ → Option V) (cs : List (Change V)) (c : Change V) → Tells m (cs ++ c ∷ []) → Tells m cs × (c.before ≡ after m (steps cs) c.place)
  tells-split m [] c h = (tt, h.0)
  tells-split m (d ∷ cs) c h = let r = tells-split (put d.place d.value m) cs c h.1 in ((h.0, r.0), r.1)

  all-first : (P : Change V → Type 0) (cs : List (Change V)) (c : Change V) → All P (cs ++ c ∷ []) → All P cs
  all-first P cs c h = subst (All P) (take-append_seam cs (c ∷ [])) (All-take P (length cs) (cs ++ c ∷ []) h)

  put-here : (k q : ℕ) (v : Option V) (m : ℕ → Option V) → (k == q) ≡ true → put k v m q ≡ v
  put-here k q v m e = ap (λ b. cond b v (m q)) e

  put-else : (k q : ℕ) (v : Option V) (m : ℕ → Option V) → (k == q) ≡ false → put k v m q ≡ m q
  put-else k q v m e = ap (λ b. cond b v (m q)) e

  found-put : (m n : BTreeMap ℕ (Option V)) (k : ℕ) (v : Option V) → Updates nat_cmp m n k (Some v) → (q : ℕ) → found n q ≡ put k v (found m) q
  found-put m n k v u q = go (k == q) refl
    where
      go : (b : Bool) → (k == q) ≡ b → found n q ≡ put k v (found m) q
      go true e = subst (λ z. found n z ≡ v) (eqb-true k q e) (ap joined u.1) ∙ sym (put-here k q v (found m) e)
      go false e = ap joined (u.2 q (apart k q e)) ∙ sym (put-else k q v (found m) e)

  known-put : (m n : BTreeMap ℕ (Option V)) (k : ℕ) (v : Option V) → Updates nat_cmp m n k (Some v) → (q : ℕ) → IsSome (get nat_cmp m q) → IsSome (get nat_cmp n q)
  known-put m n k v u q h = go (k == q) refl
    where
      go : (b : Bool) → (k == q) ≡ b → IsSome (get nat_cmp n q)
      go true e = subst (λ z. IsSome (get nat_cmp n z)) (eqb-true k q e) (ap is_some u.1)
      go false e = ap is_some (u.2 q (apart k q e)) ∙ h

  narrow-put : (m n : BTreeMap ℕ (Option V)) (k : ℕ) (v : Option V) → Updates nat_cmp m n k (Some v) → k < 4294967296 → IsNarrow m → IsNarrow n
  narrow-put m n k v u l h q s = go (k == q) refl
    where
      go : (b : Bool) → (k == q) ≡ b → q < 4294967296
      go true e = subst (λ z. z < 4294967296) (eqb-true k q e) l
      go false e = h q (subst IsSome (u.2 q (apart k q e)) s)

  weigh : (o : Option (Option V)) → unwrap_or (option_map weight o) 0 ≡ weight (joined o)
  weigh None = refl
  weigh (Some v) = refl

  pub counts-put : (m n : BTreeMap ℕ (Option V)) (k : ℕ) (v : Option V) → IsOrdered nat_cmp m → n.entries ≡ insert_entry nat_cmp m.entries k v → count n + weight (found m k) ≡ count m + weight v
  counts-put m n k v o e =
      let s = sum_by-insert_entry (weight {V = V}) nat_cmp_total m.entries k v o in
      let w = weigh (get nat_cmp m k) in
      let c : count n ≡ count_by is_some (values_of (insert_entry nat_cmp m.entries k v)) = ap (λ es. count_by is_some (values_of es)) e in
      omega (arith, s, w, c)

  count-most : (m : BTreeMap ℕ (Option V)) → count m ≤ length m.entries
  count-most m = let c = count_by-le-length is_some (values m) in let l = length-values_of m.entries in omega arith

  weight-most : (v : Option V) → weight v ≤ 1
  weight-most None = omega arith
  weight-most (Some v) = omega arith

  pub known-last : (m : BTreeMap ℕ (Option V)) (cs : List (Change V)) {ds : List (Change V)} (c : Change V) → All (λ (d : Change V). IsSome (get nat_cmp m d.place)) ds → ds ≡ cs ++ c ∷ [] → IsSome (get nat_cmp m c.place)
  known-last m cs {ds} c h e =
      let same : length (cs ++ c ∷ []) ≡ length cs + 1 = length-append cs (c ∷ []) in
      let P : Change V → Type 0 = λ d. IsSome (get nat_cmp m d.place) in
      subst P (get_or-append_seam cs c [] c) (All-get_or P (cs ++ c ∷ []) (length cs) c (omega (arith, same)) (subst (All P) e h))

  -- one change more
  pub recorded-push : (m n : BTreeMap ℕ (Option V)) {cs es ds : List (Change V)} {room space floor bottom : ℕ} (c : Change V) → IsRecorded m cs room floor → Updates nat_cmp m n c.place (Some c.value) → c.before ≡ found m c.place → ds ≡ es ++ c ∷ [] → es ≡ cs → length cs + 1 + count n ≤ space → bottom ≤ floor → (IsSome c.value → bottom ≤ c.place) → c.place < 4294967296 → IsRecorded n ds space bottom
  recorded-push m n {cs} {es} {ds} {room} {space} {floor} {bottom} c r u b e same-list s f g w = subst (λ x. IsRecorded n x space bottom) (sym (e ∙ ap (λ (x : List (Change V)). x ++ c ∷ []) same-list)) (record {
    stands = λ q. found-put m n c.place c.value u q ∙ same q (c.place == q) refl ∙ sym (at q);
    tells = tells-push nowhere cs c r.tells (b ∙ r.stands c.place);
    known = All-push (λ (d : Change V). IsSome (get nat_cmp n d.place)) cs c (All-weaker (λ (d : Change V). IsSome (get nat_cmp m d.place)) (λ (d : Change V). IsSome (get nat_cmp n d.place)) (λ d h. known-put m n c.place c.value u d.place h) cs r.known) (ap is_some u.1);
    narrow = narrow-put m n c.place c.value u w r.narrow;
    has_room = let l = length-append cs (c ∷ []) in omega (arith, l, s);
    least = λ q h. low q (c.place == q) refl (subst IsSome (at q) h);
  })
    where
      at : (q : ℕ) → standing (steps (cs ++ c ∷ [])) q ≡ put c.place c.value (standing (steps cs)) q
      at q = ap (λ (h : ℕ → Option V). h q) (standing-push cs c)

      same : (q : ℕ) (x : Bool) → (c.place == q) ≡ x → put c.place c.value (found m) q ≡ put c.place c.value (standing (steps cs)) q
      same q true e = put-here c.place q c.value (found m) e ∙ sym (put-here c.place q c.value (standing (steps cs)) e)
      same q false e = put-else c.place q c.value (found m) e ∙ r.stands q ∙ sym (put-else c.place q c.value (standing (steps cs)) e)

      low : (q : ℕ) (x : Bool) → (c.place == q) ≡ x → IsSome (put c.place c.value (standing (steps cs)) q) → bottom ≤ q
      low q true e h = subst (λ z. bottom ≤ z) (eqb-true c.place q e) (g (subst IsSome (put-here c.place q c.value (standing (steps cs)) e) h))
      low q false e h = let l = r.least q (subst IsSome (put-else c.place q c.value (standing (steps cs)) e) h) in omega arith

  -- the last change is taken back
  pub recorded-back : (m n : BTreeMap ℕ (Option V)) {cs ds : List (Change V)} {room space floor bottom : ℕ} (c : Change V) → IsRecorded m ds room floor → IsReplaced m n c.place c.before → ds ≡ cs ++ c ∷ [] → room ≤ space → bottom ≤ floor → bottom ≤ c.place → IsRecorded n cs space bottom
  recorded-back m n {cs} {ds} {room} {space} {floor} {bottom} c r0 x e t f g = record {
    stands = λ q. found-put m n c.place c.before x.updates q ∙ back q (c.place == q) refl;
    tells = told.0;
    known = All-weaker (λ (d : Change V). IsSome (get nat_cmp m d.place)) (λ (d : Change V). IsSome (get nat_cmp n d.place)) (λ d h. known-put m n c.place c.before x.updates d.place h) cs (all-first (λ (d : Change V). IsSome (get nat_cmp m d.place)) cs c r.known);
    narrow = narrow-put m n c.place c.before x.updates (r.narrow c.place (known-last m cs c r.known refl)) r.narrow;
    has_room = let l = length-append cs (c ∷ []) in let w = weight-most c.before in let h = r.has_room in let y = x.counts in omega arith;
    least = λ q h. low q (c.place == q) refl h;
  }
    where
      r : IsRecorded m (cs ++ c ∷ []) room floor
      r = subst (λ y. IsRecorded m y room floor) e r0

      told : Tells nowhere cs × (c.before ≡ standing (steps cs) c.place)
      told = tells-split nowhere cs c r.tells

      at : (q : ℕ) → standing (steps (cs ++ c ∷ [])) q ≡ put c.place c.value (standing (steps cs)) q
      at q = ap (λ (h : ℕ → Option V). h q) (standing-push cs c)

      back : (q : ℕ) (b : Bool) → (c.place == q) ≡ b → put c.place c.before (found m) q ≡ standing (steps cs) q
      back q true h = put-here c.place q c.before (found m) h ∙ told.1 ∙ ap (standing (steps cs)) (eqb-true c.place q h)
      back q false h = put-else c.place q c.before (found m) h ∙ r.stands q ∙ at q ∙ put-else c.place q c.value (standing (steps cs)) h

      low : (q : ℕ) (b : Bool) → (c.place == q) ≡ b → IsSome (standing (steps cs) q) → bottom ≤ q
      low q true h s = let z = eqb-true c.place q h in omega arith
      low q false h s = let l = r.least q (subst IsSome (sym (at q ∙ put-else c.place q c.value (standing (steps cs)) h)) s) in omega arith

  -- a map with the same entries
  pub recorded-same : (m n : BTreeMap ℕ (Option V)) {cs ds : List (Change V)} {room space floor : ℕ} → IsRecorded m cs room floor → IsUnchanged m n → ds ≡ cs → room ≤ space → IsRecorded n ds space floor
  recorded-same m n {cs} {ds} {room} {space} {floor} r u e s = subst (λ x. IsRecorded n x space floor) (sym e) (record {
    stands = λ q. ap (λ es. joined (lookup (is_at (nat_cmp q)) es)) u ∙ r.stands q;
    tells = r.tells;
    known = All-weaker (λ (d : Change V). IsSome (get nat_cmp m d.place)) (λ (d : Change V). IsSome (get nat_cmp n d.place)) (λ d h. subst (λ es. IsSome (lookup (is_at (nat_cmp d.place)) es)) (sym u) h) cs r.known;
    narrow = λ q h. r.narrow q (subst (λ es. IsSome (lookup (is_at (nat_cmp q)) es)) u h);
    has_room = let h = r.has_room in let c : count n ≡ count m = ap (λ es. count_by is_some (values_of es)) u in omega arith;
    least = r.least;
  })

  -- there is room where something is taken out, and where one more is put in
  pub room-without : (m n : BTreeMap ℕ (Option V)) (k : ℕ) {v : V} (l : ℕ) {room space : ℕ} → Some v ≡ found m k → count n + weight (found m k) ≡ count m + weight {V = V} None → l + count m ≤ room → room ≤ space → l + 1 + count n ≤ space
  room-without m n k l f c h s = let w : weight (found m k) ≡ 1 = sym (ap weight f) in omega arith

  pub room-with : (m n : BTreeMap ℕ (Option V)) (k : ℕ) (v : Option V) (l : ℕ) {room space : ℕ} → count n + weight (found m k) ≡ count m + weight v → l + (length m.entries + 2) ≤ room → room ≤ space → l + 1 + count n ≤ space
  room-with m n k v l c h s = let w = weight-most v in let d = count-most m in omega arith
