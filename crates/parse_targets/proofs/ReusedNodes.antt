-- Numbers of nodes from before and of new ones, of which none is reached twice.
use Rattle.std.proofs.Common.{ℕ, ◌≡◌, ◌<◌, ◌≤◌, ◌⊎◌, inl, inr, List, [], ◌∷◌, ◌++◌, length, Option, Some, None, refl, sym, ap, subst, arith, ◌∙◌, append-nil}
use Rattle.std.specs.Prelude.{get_or}
use Rattle.std.proofs.lemmas.List.{get_or_push, length_push}
use Rattle.js_grammar.specs.Trees.{Label, Slots, end, hole, tree, append}
use Rattle.parse_shared.specs.js_tree.declared.id.NodeId.{NodeId}
use Rattle.parse_shared.specs.js_tree.Nodes.{Node, label, node_at, empty_program}
use Rattle.parse_shared.specs.js_tree.Holding.{Stands, stands, StandsAll, no_slots, next_child, next_hole, AreWithin, AreDistinct, AreApart, Lacks, Keeps}
use Rattle.parse_shared.proofs.js_tree.HoldingLemmas.{AreDistinct-append, StandsAll-kept, StandsAll-wider, StandsAll-within, Stands-below, Keeps-longer, Keeps-made, StandsAll-agree, agree_kept, StandsAll-append}
use Rattle.parse_targets.specs.Targets.{Each, IsIn, Reused, Slotted, Noded}

-- ---- lists of numbers

pub all_in : (rs ss : List ℕ) → ((r : ℕ) → IsIn rs r → IsIn ss r) → Each (IsIn ss) rs
all_in [] ss f = tt
all_in (r ∷ rs) ss f = (f r (inl refl), all_in rs ss (λ q h. f q (inr h)))

pub in_left : {A : Type 0} (rs ss : List A) (r : A) → IsIn rs r → IsIn (rs ++ ss) r
in_left [] ss r h = absurd h
in_left (q ∷ rs) ss r (inl e) = inl e
in_left (q ∷ rs) ss r (inr h) = inr (in_left rs ss r h)

pub in_right : {A : Type 0} (rs ss : List A) (r : A) → IsIn ss r → IsIn (rs ++ ss) r
in_right [] ss r h = h
in_right (q ∷ rs) ss r h = inr (in_right rs ss r h)

pub below_in : (lo n : ℕ) (rs : List ℕ) (r : ℕ) → AreWithin lo n rs → IsIn rs r → (lo ≤ r) × (r < n)
below_in lo n [] r w h = absurd h
below_in lo n (q ∷ rs) r w (inl e) = (subst (λ (v : ℕ). lo ≤ v) e w.0, subst (λ (v : ℕ). v < n) e w.1)
below_in lo n (q ∷ rs) r w (inr h) = below_in lo n rs r w.2 h

lacks_in : (rs ss : List ℕ) (r : ℕ) → IsIn rs r → AreApart rs ss → Lacks ss r
lacks_in [] ss r h a = absurd h
lacks_in (q ∷ rs) ss r (inl e) a = subst (λ (v : ℕ). Lacks ss v) e a.0
lacks_in (q ∷ rs) ss r (inr h) a = lacks_in rs ss r h a.1

not_in : (rs : List ℕ) (r : ℕ) → Lacks rs r → IsIn rs r → ⊥
not_in [] r l h = h
not_in (q ∷ rs) r l (inl e) = l.0 e
not_in (q ∷ rs) r l (inr h) = not_in rs r l.1 h

lacks_left : (rs ss : List ℕ) (r : ℕ) → Lacks (rs ++ ss) r → Lacks rs r
lacks_left [] ss r l = tt
lacks_left (q ∷ rs) ss r l = (l.0, lacks_left rs ss r l.1)

lacks_right : (rs ss : List ℕ) (r : ℕ) → Lacks (rs ++ ss) r → Lacks ss r
lacks_right [] ss r l = l
lacks_right (q ∷ rs) ss r l = lacks_right rs ss r l.1

pub distinct_left : (rs ss : List ℕ) → AreDistinct (rs ++ ss) → AreDistinct rs
distinct_left [] ss d = tt
distinct_left (r ∷ rs) ss d = (lacks_left rs ss r d.0, distinct_left rs ss d.1)

pub distinct_right : (rs ss : List ℕ) → AreDistinct (rs ++ ss) → AreDistinct ss
distinct_right [] ss d = d
distinct_right (r ∷ rs) ss d = distinct_right rs ss d.1

pub distinct_apart : (rs ss : List ℕ) → AreDistinct (rs ++ ss) → AreApart rs ss
distinct_apart [] ss d = tt
distinct_apart (r ∷ rs) ss d = (lacks_right rs ss r d.0, distinct_apart rs ss d.1)

lacks_far : (rs : List ℕ) (n x : ℕ) → AreWithin 0 n rs → n ≤ x → Lacks rs x
lacks_far [] n x w h = tt
lacks_far (r ∷ rs) n x w h = (λ e. let a = w.1 in absurd (omega arith), lacks_far rs n x w.2 h)

-- ---- reused numbers

pub reused_more : (rs rs' : List ℕ) (lo hi lo' hi' : ℕ) (ns : List ℕ) → ((r : ℕ) → IsIn rs r → IsIn rs' r) → lo' ≤ lo → hi ≤ hi' → Each (Reused rs lo hi) ns → Each (Reused rs' lo' hi') ns
reused_more rs rs' lo hi lo' hi' [] f a b h = tt
reused_more rs rs' lo hi lo' hi' (n ∷ ns) f a b h = (one h.0, reused_more rs rs' lo hi lo' hi' ns f a b h.1)
  where
    one : Reused rs lo hi n → Reused rs' lo' hi' n
    one (inl i) = inl (f n i)
    one (inr i) = inr (let x = i.0 in let y = i.1 in (omega arith, omega arith))

apart_one : (r : ℕ) (qs : List ℕ) (b c : ℕ) (ts : List ℕ) → Lacks qs r → (r < b) ⊎ (c ≤ r) → Each (Reused qs b c) ts → Lacks ts r
apart_one r qs b c [] l o h = tt
apart_one r qs b c (t ∷ ts) l o h = (λ e. differs h.0 o e, apart_one r qs b c ts l o h.1)
  where
    differs : Reused qs b c t → (r < b) ⊎ (c ≤ r) → t ≡ r → ⊥
    differs (inl i) o e = not_in qs r l (subst (λ (v : ℕ). IsIn qs v) e i)
    differs (inr i) (inl o) e = let x = i.0 in absurd (omega arith)
    differs (inr i) (inr o) e = let x = i.1 in absurd (omega arith)

-- numbers of two parts, made one behind the other
pub apart_both : (rs qs : List ℕ) (n a b c : ℕ) (ss ts : List ℕ) → AreApart rs qs → AreWithin 0 n rs → AreWithin 0 n qs → n ≤ a → a ≤ b → Each (Reused rs a b) ss → Each (Reused qs b c) ts → AreApart ss ts
apart_both rs qs n a b c [] ts p v w i j h k = tt
apart_both rs qs n a b c (s ∷ ss) ts p v w i j h k = (one h.0, apart_both rs qs n a b c ss ts p v w i j h.1 k)
  where
    one : Reused rs a b s → Lacks ts s
    one (inl m) = apart_one s qs b c ts (lacks_in rs qs s m p) (inl (let x = (below_in 0 n rs s v m).1 in omega arith)) k
    one (inr m) = apart_one s qs b c ts (lacks_far qs n s w (let x = m.0 in omega arith)) (inl m.1) k

pub all_both : (P : ℕ → Type 0) (rs ss : List ℕ) → Each P rs → Each P ss → Each P (rs ++ ss)
all_both P [] ss a b = b
all_both P (r ∷ rs) ss a b = (a.0, all_both P rs ss a.1 b)

-- ---- children

-- more children behind others
pub slotted_on : {os ns ms : List Node} {rs qs : List ℕ} {ids js : List (Option NodeId)} {us vs : Slots} → Keeps os ns → Keeps ns ms → AreApart rs qs → AreWithin 0 (length os) rs → AreWithin 0 (length os) qs → Slotted os ns rs ids us → Slotted ns ms qs js vs → Slotted os ms (rs ++ qs) (ids ++ js) (append us vs)
slotted_on {os} {ns} {ms} {rs} {qs} k m a v w x y = record {
  numbers = x.numbers ++ y.numbers;
  stands = StandsAll-append (StandsAll-kept m x.stands) y.stands;
  reused = all_both (Reused (rs ++ qs) (length os) (length ms)) x.numbers y.numbers
      (reused_more rs (rs ++ qs) (length os) (length ns) (length os) (length ms) x.numbers (in_left rs qs) (omega arith) (Keeps-longer m) x.reused)
      (reused_more qs (rs ++ qs) (length ns) (length ms) (length os) (length ms) y.numbers (in_right rs qs) (Keeps-longer k) (omega arith) y.reused);
  distinct = AreDistinct-append x.numbers y.numbers x.distinct y.distinct (apart_both rs qs (length os) (length os) (length ns) (length ms) x.numbers y.numbers a v w (omega arith) (Keeps-longer k) x.reused y.reused);
}

pub slotted_none : (os : List Node) → Slotted os os [] [] end
slotted_none os = record { numbers = []; stands = no_slots; reused = tt; distinct = tt }

pub slotted_hole : (os : List Node) (rs : List ℕ) → Slotted os os rs (None ∷ []) (hole end)
slotted_hole os rs = record { numbers = []; stands = next_hole no_slots; reused = tt; distinct = tt }

-- fewer numbers are claimed
pub slotted_wider : {os ns : List Node} {rs rs' : List ℕ} {ids : List (Option NodeId)} {us : Slots} → ((r : ℕ) → IsIn rs r → IsIn rs' r) → Slotted os ns rs ids us → Slotted os ns rs' ids us
slotted_wider {os} {ns} {rs} {rs'} f x = record { numbers = x.numbers; stands = x.stands; reused = reused_more rs rs' (length os) (length ns) (length os) (length ns) x.numbers f (omega arith) (omega arith) x.reused; distinct = x.distinct }

reused_all : (rs ss : List ℕ) (lo hi : ℕ) → Each (IsIn ss) rs → Each (Reused ss lo hi) rs
reused_all [] ss lo hi h = tt
reused_all (r ∷ rs) ss lo hi h = (inl h.0, reused_all rs ss lo hi h.1)

-- the children's numbers are the node's
pub reused_own : (i : ℕ) (rs ss : List ℕ) (lo hi : ℕ) → ss ≡ i ∷ rs → Each (Reused ss lo hi) rs
reused_own i rs ss lo hi e = reused_all rs ss lo hi (all_in rs ss (λ r h. subst (λ (xs : List ℕ). IsIn xs r) (sym e) (inr h)))

-- a node from before
pub slotted_old : {os : List Node} {id : NodeId} {l : Label} {cs : Slots} {rs ss : List ℕ} → ((r : ℕ) → IsIn rs r → IsIn ss r) → Stands os id.0 l cs rs → AreDistinct rs → Slotted os os ss (Some id ∷ []) (tree l cs end)
slotted_old {os} {id} {l} {cs} {rs} {ss} f s d = record {
  numbers = rs;
  stands = subst (λ (xs : List ℕ). StandsAll os (length os) (Some id ∷ []) (tree l cs end) xs) (append-nil rs) (next_child (Stands-below s) s no_slots);
  reused = reused_all rs ss (length os) (length os) (all_in rs ss f);
  distinct = d;
}

-- the children of a node from before
pub record Children (os : List Node) (id : NodeId) (l : Label) (cs : Slots) (rs : List ℕ) : Type 0 where
  pub numbers : List ℕ
  pub is : rs ≡ id.0 ∷ numbers
  pub stands : StandsAll os id.0 (node_at os id).children cs numbers
  pub label_is : l ≡ label (node_at os id)
  pub below : id.0 < length os

children_at : {os : List Node} {i : ℕ} {l : Label} {cs : Slots} {rs : List ℕ} → Stands os i l cs rs → (id : NodeId) → id.0 ≡ i → Children os id l cs rs
children_at {os} (stands {cs} {rs} i h a) id e = record {
  numbers = rs;
  is = ap (λ (n : ℕ). n ∷ rs) (sym e);
  stands = subst (λ (n : ℕ). StandsAll os n (get_or os n empty_program).children cs rs) (sym e) a;
  label_is = ap (λ (n : ℕ). label (get_or os n empty_program)) (sym e);
  below = subst (λ (n : ℕ). n < length os) (sym e) h;
}

pub children_of : {os : List Node} {id : NodeId} {l : Label} {cs : Slots} {rs : List ℕ} → Stands os id.0 l cs rs → Children os id l cs rs
children_of {id = id} s = children_at s id refl

-- a new node above children
module _ {os ns ms : List Node} {rs : List ℕ} {l : Label} {ids : List (Option NodeId)} {us : Slots} {id : NodeId} (k : Keeps os ns) (x : Slotted os ns rs ids us) (n : Noded ns ms l ids id) where
  number_is : id.0 ≡ length ns
  number_is = (n.made).number

  is_node : get_or ms id.0 empty_program ≡ n.node
  is_node = ap (λ (xs : List Node). get_or xs id.0 empty_program) (n.made).nodes ∙ get_or_push ns n.node empty_program id.0 (sym number_is)

  below_all : id.0 < length ms
  below_all = let a = number_is in let b = ap length (n.made).nodes in let c = length_push ns n.node in omega arith

  children_there : StandsAll ms id.0 (n.node).children us x.numbers
  children_there = StandsAll-wider (let a = number_is in omega arith) (subst (λ (xs : List Node). StandsAll xs (length ns) (n.node).children us x.numbers) (sym (n.made).nodes) (StandsAll-agree (let c = length_push ns n.node in omega arith) (agree_kept ns (n.node ∷ []) (length ns) x.numbers (StandsAll-within x.stands) (omega arith)) (subst (λ (js : List (Option NodeId)). StandsAll ns (length ns) js us x.numbers) (sym n.children) x.stands)))

  made_stands : Stands ms id.0 l us (id.0 ∷ x.numbers)
  made_stands = subst (λ (m : Label). Stands ms id.0 m us (id.0 ∷ x.numbers)) n.label_is (subst (λ (y : Node). Stands ms id.0 (label y) us (id.0 ∷ x.numbers)) is_node (stands id.0 below_all (subst (λ (y : Node). StandsAll ms id.0 y.children us x.numbers) (sym is_node) children_there)))

  made_distinct : AreDistinct (id.0 ∷ x.numbers)
  made_distinct = (lacks_far x.numbers (length ns) id.0 (StandsAll-within x.stands) (let a = number_is in omega arith), x.distinct)

  pub slotted_node : Slotted os ms rs (Some id ∷ []) (tree l us end)
  slotted_node =
      let w = Keeps-longer k in
      let v = Keeps-longer (Keeps-made (n.made)) in
      let b = Stands-below made_stands in
      let i = (n.made).number in
      record {
        numbers = id.0 ∷ x.numbers;
        stands = subst (λ (qs : List ℕ). StandsAll ms (length ms) (Some id ∷ []) (tree l us end) qs) (append-nil (id.0 ∷ x.numbers)) (next_child b made_stands no_slots);
        reused = (inr (omega arith, b), reused_more rs rs (length os) (length ns) (length os) (length ms) x.numbers (λ r h. h) (omega arith) v x.reused);
        distinct = made_distinct;
      }
