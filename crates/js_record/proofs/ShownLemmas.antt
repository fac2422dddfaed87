-- Lists of numbers and the slots that they stand for.
use Rattle.std.proofs.Common.{◌≡◌, ℕ, ◌+◌, ◌<◌, ◌≤◌, List, [], ◌∷◌, ◌++◌, Option, Some, take, length, get_or, sym, ap, ◌∙◌, subst, true≢false, is_some}
use Rattle.std.specs.Prelude.{All}
use Rattle.std.specs.List.{flat_map}
use Rattle.std.proofs.lemmas.Grind.{flat_map-append}
use Rattle.std.proofs.lemmas.List.{take_more, take_all, append-nil}
use Rattle.std.proofs.lemmas.List.Elements.{All-from_recursion, recursion_from_All}
use Rattle.js_tree.specs.declared.id.NodeId.{NodeId}
use Rattle.js_record.specs.Shown.{first_of, rest_of}

-- what holds of all slots holds of those behind the first
pub all_rest : (P : Option NodeId → Type 0) (ids : List (Option NodeId)) → All P ids → All P (rest_of ids)
all_rest P [] h = h
all_rest P (id ∷ ids) h = All-from_recursion P ids (recursion_from_All P (id ∷ ids) h).1

-- and of the first
pub all_first : (P : Option NodeId → Type 0) (ids : List (Option NodeId)) (id : NodeId) → Some id ≡ first_of ids → All P ids → P (Some id)
all_first P [] id e h = absurd (true≢false (ap is_some e))
all_first P (i ∷ ids) id e h = subst P (sym e) (recursion_from_All P (i ∷ ids) h).0

module _ {E : Type 0} (f : Option NodeId → List E) (ids : List (Option NodeId)) (i : ℕ) (d slot : Option NodeId) (w : i < length ids) (at : get_or ids i d ≡ slot) (old : List E) (h : old ≡ flat_map f (take i ids)) where
  -- what the slots so far show, and one slot more
  pub next_shown : (new : List E) → new ≡ old ++ f slot → new ≡ flat_map f (take (i + 1) ids)
  next_shown new n =
      let more : take (i + 1) ids ≡ take i ids ++ slot ∷ [] = take_more ids i d w ∙ ap (λ v. take i ids ++ v ∷ []) at in
      n ∙ ap (λ v. v ++ f slot) h
      ∙ ap (λ v. flat_map f (take i ids) ++ v) (sym (append-nil (f slot)))
      ∙ sym (flat_map-append f (take i ids) (slot ∷ []))
      ∙ ap (flat_map f) (sym more)

  -- a slot that shows nothing
  pub none_shown : (new : List E) → [] ≡ f slot → new ≡ old → new ≡ flat_map f (take (i + 1) ids)
  none_shown new e n = next_shown new (n ∙ sym (append-nil old) ∙ ap (λ v. old ++ v) e)

-- what all slots show
pub all_shown : {E : Type 0} (f : Option NodeId → List E) (ids : List (Option NodeId)) (i : ℕ) (new : List E) → length ids ≤ i → new ≡ flat_map f (take i ids) → new ≡ flat_map f ids
all_shown f ids i new w h = h ∙ ap (flat_map f) (take_all i ids w)
