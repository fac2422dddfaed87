-- What holds of each node among slots.
use Rattle.std.proofs.Common.{ℕ, ◌≡◌, true, false, cond, List, [], ◌∷◌, ◌++◌, map, refl, ap}
use Rattle.std.proofs.lemmas.Bool.{and_parts, and_from}
use Rattle.js_grammar.specs.EarlyRules.{Rule, everywhere}
use Rattle.js_grammar.specs.ModuleRecords.{errors_of_parts}
use Rattle.js_grammar.specs.Modules.{adds, found_in, in_order_of_ends, part_of, record_errors}
use Rattle.js_grammar.specs.TreeForms.{with_labels, not_pure, without_pure}
use Rattle.js_grammar.specs.Trees.{Label, Slots, end, hole, tree, Tree, append}

module _ (r : Rule) where
  pub append_each : (a b : Slots) → everywhere r a ≡ true → everywhere r b ≡ true → everywhere r (append a b) ≡ true
  append_each end b h k = k
  append_each (hole a) b h k = append_each a b h k
  append_each (tree l cs a) b h k = let x = and_parts (r l cs) _ h in let y = and_parts (everywhere r cs) _ x.1 in and_from _ _ x.0 (and_from _ _ y.0 (append_each a b y.1 k))

  pub tree_each : (l : Label) (cs us : Slots) → r l cs ≡ true → everywhere r cs ≡ true → everywhere r us ≡ true → everywhere r (tree l cs us) ≡ true
  tree_each l cs us a b c = and_from _ _ a (and_from _ _ b c)

  pub root_each : (l : Label) (cs us : Slots) → everywhere r (tree l cs us) ≡ true → (r l cs ≡ true) × (everywhere r cs ≡ true)
  root_each l cs us h = let x = and_parts (r l cs) _ h in (x.0, (and_parts (everywhere r cs) _ x.1).0)

  -- what follows of it holds of each
  pub each_so : (q : Rule) → ((l : Label) (cs : Slots) → r l cs ≡ true → q l cs ≡ true) → (us : Slots) → everywhere r us ≡ true → everywhere q us ≡ true
  each_so q f end h = refl
  each_so q f (hole us) h = each_so q f us h
  each_so q f (tree l cs us) h =
      let x = and_parts (r l cs) _ h in
      let y = and_parts (everywhere r cs) _ x.1 in
      and_from _ _ (f l cs x.0) (and_from _ _ (each_so q f cs y.0) (each_so q f us y.1))

  -- where no node adds to a record, nothing is found
  none_found : ((l : Label) (cs : Slots) → r l cs ≡ true → adds l.kind ≡ false) → (us : Slots) → everywhere r us ≡ true → found_in us ≡ []
  none_found f end h = refl
  none_found f (hole us) h = none_found f us h
  none_found f (tree l cs us) h =
      let x = and_parts (r l cs) _ h in
      let y = and_parts (everywhere r cs) _ x.1 in
      λ i. none_found f cs y.0 i ++ (cond (f l cs x.0 i) (record { label = l; slots = cs } ∷ []) [] ++ none_found f us y.1 i)

  pub no_record_errors : ((l : Label) (cs : Slots) → r l cs ≡ true → adds l.kind ≡ false) → (text : List ℕ) (t : Tree) → everywhere r (tree t.label t.slots end) ≡ true → record_errors text t ≡ []
  no_record_errors f text t h = ap (λ (ts : List Tree). errors_of_parts (map (part_of text) (in_order_of_ends ts))) (none_found f (tree t.label t.slots end) h)

  -- where no node is marked as pure, the tree without marks is the tree
  unmarked : ((l : Label) (cs : Slots) → r l cs ≡ true → not_pure l ≡ l) → (us : Slots) → everywhere r us ≡ true → with_labels not_pure us ≡ us
  unmarked f end h = refl
  unmarked f (hole us) h = ap hole (unmarked f us h)
  unmarked f (tree l cs us) h =
      let x = and_parts (r l cs) _ h in
      let y = and_parts (everywhere r cs) _ x.1 in
      λ i. tree (f l cs x.0 i) (unmarked f cs y.0 i) (unmarked f us y.1 i)

  pub without_marks : ((l : Label) (cs : Slots) → r l cs ≡ true → not_pure l ≡ l) → (t : Tree) → everywhere r (tree t.label t.slots end) ≡ true → without_pure t ≡ t
  without_marks f t h =
      let x = and_parts (r t.label t.slots) _ h in
      let y = and_parts (everywhere r t.slots) _ x.1 in
      λ i. record { label = f t.label t.slots x.0 i; slots = unmarked f t.slots y.0 i }
