-- A walk over the paths from a name.
use Rattle.std.proofs.Common.{◌≡◌, ℕ, ◌+◌, ◌<◌, ◌≤◌, Bool, true, false, List, [], ◌∷◌, ◌++◌, length, take, get_or, slice_get, Some, refl, sym, ap, ◌∙◌, subst, inl, inr, true≢false}
use Rattle.std.specs.Prelude.{◌==◌, ◌&&◌, bytes_eq, All, Contains, fold}
use Rattle.std.specs.List.{flat_map}
use Rattle.std.proofs.lemmas.Bool.Decides.{Decides-eqb}
use Rattle.std.proofs.lemmas.Slice.Eq.{bytes_eq-Decides}
use Rattle.std.proofs.lemmas.Grind.{flat_map-append}
use Rattle.std.proofs.lemmas.List.{take_all, append-nil}
use Rattle.std.proofs.lemmas.List.Elements.{All-head, All-tail, All-take, Contains-append_left, Contains-append_right, Contains-append_cases, Contains-push}
use Rattle.js_graph.specs.declared.resolution.Binding.{Binding}
use Rattle.js_graph.specs.declared.resolution.Resolution.{Resolution}
use Rattle.js_graph.specs.declared.resolution.Resolution.TheVariants as answer
use Rattle.js_graph.specs.Following.{pair_eq, entered, noted}
use Rattle.js_graph.specs.Leads.{Pair, Lead, to_binding, to_pairs, bindings_of, lead_of, next_of}
use Rattle.js_graph.specs.Modules.{Module}
use Rattle.js_graph.specs.Paths.{Reaches}
use Rattle.js_graph.specs.Resolving.{Resolves, Bindings}
use Rattle.js_graph.specs.declared.walk.Walk.{Walk}
use Rattle.js_graph.specs.Walks.{IsFollowed}
use Rattle.std.proofs.lemmas.Option.{slice_get-get_or}
use Rattle.js_graph.proofs.FoundLemmas.{Tells, Tells-same, of_all, Answers-tell}
use Rattle.js_graph.proofs.PathLemmas.{AreFollowed, none_followed, next_followed, all_followed, all_behind, none_in, only_in, in_first, take_next}

abbrev pub found_at : List Module → Pair → List Binding
found_at g p = bindings_of (lead_of g p)

-- the names `ks` are reached from `start`, the first `done` of them are followed, and `r` is what they give
pub record IsWalked (g : List Module) (start : Pair) (ks : List Pair) (done : ℕ) (r : Resolution) : Type 0 where
  pub followed : AreFollowed (next_of g) start ks done
  pub found : r ≡ fold noted answer.Null (flat_map (found_at g) (take done ks))

pub pair_same : (p q : Pair) → pair_eq p q ≡ true → p ≡ q
pair_same p q e =
    let parts = both (p.0 == q.0) (bytes_eq p.1 q.1) e in
    let first : p.0 ≡ q.0 = (Decides-eqb p.0 q.0).0 parts.0 in
    let second : p.1 ≡ q.1 = (bytes_eq-Decides p.1 q.1).0 parts.1 in
    ap (λ v. pair v p.1) first ∙ ap (pair q.0) second
  where
    pair : ℕ → List ℕ → Pair
    pair m n = (m, n)

    both : (a b : Bool) → (a && b) ≡ true → (a ≡ true) × (b ≡ true)
    both true b e = (refl, e)
    both false b e = absurd (true≢false (sym e))

fold-append : {A B : Type 0} (f : B → A → B) (b : B) (xs ys : List A) → fold f b (xs ++ ys) ≡ fold f (fold f b xs) ys
fold-append f b [] ys = refl
fold-append f b (x ∷ xs) ys = fold-append f (f b x) xs ys

pub none_walked : (g : List Module) (start : Pair) → IsWalked g start (start ∷ []) 0 answer.Null
none_walked g start = record { followed = none_followed (next_of g) start; found = refl }

pub next_walked : (g : List Module) (start : Pair) (ks : List Pair) (done : ℕ) (r : Resolution) (p : Pair) (news : List Pair) (s : Resolution)
    → IsWalked g start ks done r → slice_get ks done ≡ Some p → news ≡ entered ks (next_of g p) → s ≡ fold noted r (found_at g p)
    → IsWalked g start news (done + 1) s
next_walked g start ks done r p news s w at put gives =
    let behind = all_behind pair_eq (next_of g p) ks in
    let taken : take (done + 1) news ≡ take done ks ++ p ∷ [] = ap (take (done + 1)) (put ∙ behind.1) ∙ take_next ks behind.0 done p at in
    let founds : flat_map (found_at g) (take (done + 1) news) ≡ flat_map (found_at g) (take done ks) ++ found_at g p = ap (flat_map (found_at g)) taken ∙ flat_map-append (found_at g) (take done ks) (p ∷ []) ∙ ap (λ v. flat_map (found_at g) (take done ks) ++ v) (append-nil (found_at g p)) in
    record {
      followed = subst (λ (v : List Pair). AreFollowed (next_of g) start v (done + 1)) (sym put) (next_followed (next_of g) start pair_eq pair_same ks done p w.followed at);
      found = gives ∙ ap (λ v. fold noted v (found_at g p)) w.found ∙ sym (fold-append noted answer.Null (flat_map (found_at g) (take done ks)) (found_at g p)) ∙ ap (fold noted answer.Null) (sym founds);
    }

pub step_walked : (g : List Module) (start : Pair) (old new : Walk) (done : ℕ)
    → IsWalked g start old.reached.keys done old.found → done < length old.reached.keys
    → ((p : Pair) → slice_get old.reached.keys done ≡ Some p → IsFollowed old new (lead_of g p))
    → IsWalked g start new.reached.keys (done + 1) new.found
step_walked g start old new done w lt h =
    let p : Pair = get_or old.reached.keys done start in
    let at : slice_get old.reached.keys done ≡ Some p = slice_get-get_or old.reached.keys done start lt in
    let f = h p at in
    next_walked g start old.reached.keys done old.found p new.reached.keys new.found w at f.reached f.found

-- a lead that has a binding is to it
only_binding : (l : Lead) (b : Binding) → Contains (bindings_of l) b → l ≡ to_binding b
only_binding (to_binding a) b h = ap to_binding (only_in a b h)
only_binding (to_pairs ps) b h = absurd (none_in b h)

-- a binding that was found is reached
from_found : (g : List Module) (start : Pair) (ps : List Pair) (b : Binding) → All (Reaches (next_of g) start) ps → Contains (flat_map (found_at g) ps) b → Bindings g start.0 start.1 b
from_found g start [] b all h = absurd (none_in b h)
from_found g start (p ∷ ps) b all h = elim (Contains-append_cases (found_at g p) (flat_map (found_at g) ps) b h) [
  | inl n ↦ (p, All-head (Reaches (next_of g) start) p ps all, only_binding (lead_of g p) b n)
  | inr n ↦ from_found g start ps b (All-tail (Reaches (next_of g) start) p ps all) n
]

-- and a binding that is reached from one that was followed was found
to_found : (g : List Module) (ps : List Pair) (p : Pair) (b : Binding) → Contains ps p → lead_of g p ≡ to_binding b → Contains (flat_map (found_at g) ps) b
to_found g [] p b h at = absurd (none_in p h)
to_found g (q ∷ ps) p b h at = elim (in_first q ps p h) [
  | inl e ↦ Contains-append_left (found_at g q) (flat_map (found_at g) ps) b (subst (λ (v : List Binding). Contains v b) (sym (ap bindings_of (ap (lead_of g) e ∙ at))) (Contains-push [] b))
  | inr n ↦ Contains-append_right (found_at g q) (flat_map (found_at g) ps) b (to_found g ps p b n at)
]

module _ (g : List Module) (start : Pair) (ks : List Pair) (done : ℕ) (r : Resolution) (w : IsWalked g start ks done r) where
  abbrev founds : List Binding
  founds = flat_map (found_at g) (take done ks)

  told : Tells (Contains founds) r
  told = subst (Tells (Contains founds)) (sym w.found) (of_all founds)

  are_reached : (b : Binding) → Contains founds b → Bindings g start.0 start.1 b
  are_reached b h = from_found g start (take done ks) b (All-take (Reaches (next_of g) start) done ks w.followed.reached) h

  -- where all are followed, what is known is the answer
  pub walked_all : length ks ≤ done → Resolves (Bindings g start.0 start.1) r
  walked_all le = Answers-tell (Bindings g start.0 start.1) r (Tells-same (Contains founds) (Bindings g start.0 start.1) r are_reached back told)
    where
      back : (b : Binding) → Bindings g start.0 start.1 b → Contains founds b
      back b h = to_found g (take done ks) h.0 b (subst (λ (v : List Pair). Contains v h.0) (sym (take_all done ks le)) (all_followed (next_of g) start ks done w.followed le h.0 h.1)) h.2

  -- where two bindings are found, that is the answer, whatever is yet to be followed
  pub walked_twice : r ≡ answer.Ambiguous → Resolves (Bindings g start.0 start.1) r
  walked_twice e =
      let two = subst (Tells (Contains founds)) e told in
      subst (Resolves (Bindings g start.0 start.1)) (sym e) (Answers-tell (Bindings g start.0 start.1) answer.Ambiguous (two.0, two.1, are_reached two.0 two.2, are_reached two.1 two.3, two.4))
