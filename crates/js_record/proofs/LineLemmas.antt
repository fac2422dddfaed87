-- Lines of members, one after the other.
use Rattle.std.proofs.Common.{◌≡◌, ℕ, ◌+◌, ◌<◌, ◌≤◌, List, [], ◌∷◌, ◌++◌, Some, None, take, length, get_or, slice_get, sym, ap, ◌∙◌, append_assoc, is_some, true≢false, arith}
use Rattle.std.specs.List.{flat_map}
use Rattle.std.proofs.lemmas.Grind.{flat_map-append}
use Rattle.std.proofs.lemmas.List.{take_more, take_all, append-nil}
use Rattle.std.proofs.lemmas.Option.{slice_get_within, get_or_from_slice_get, slice_get-get_or, slice_get_read}

module _ {E : Type 0} (f : E → List ℕ) (es : List E) (i : ℕ) where
  -- those of one member more
  pub next_lines : (e : E) (out mid new : List ℕ) → slice_get es i ≡ Some e → mid ≡ out ++ flat_map f (take i es) → new ≡ mid ++ f e → new ≡ out ++ flat_map f (take (i + 1) es)
  next_lines e out mid new at m n =
      let more : take (i + 1) es ≡ take i es ++ e ∷ [] = take_more es i e (slice_get_within es i e at) ∙ ap (λ v. take i es ++ v ∷ []) (get_or_from_slice_get es i e e at) in
      n ∙ ap (λ v. v ++ f e) m ∙ append_assoc out (flat_map f (take i es)) (f e)
      ∙ ap (λ v. out ++ (flat_map f (take i es) ++ v)) (sym (append-nil (f e)))
      ∙ ap (λ v. out ++ v) (sym (flat_map-append f (take i es) (e ∷ []))) ∙ ap (λ v. out ++ flat_map f v) (sym more)

-- a place below the length has a member
pub none_below : {E : Type 0} (es : List E) (i : ℕ) → i < length es → None ≡ slice_get es i → ⊥
none_below [] i w h = absurd (omega arith)
none_below (e ∷ es) i w h = true≢false (sym (ap is_some (h ∙ slice_get-get_or (e ∷ es) i e w)))

module _ {E : Type 0} (f : E → List ℕ) (es : List E) where
  -- those of one member more, by its place
  pub next_line : (i n : ℕ) (e : E) (out mid new : List ℕ) → n ≡ length es → i < n → e ≡ get_or es i e → mid ≡ out ++ flat_map f (take i es) → new ≡ mid ++ f e → new ≡ out ++ flat_map f (take (i + 1) es)
  next_line i n e out mid new l w at m h = next_lines f es i e out mid new (slice_get_read es n i e l w at) m h

  -- those of all members
  pub all_lines : (i n : ℕ) (out new : List ℕ) → n ≡ length es → n ≤ i → new ≡ out ++ flat_map f (take i es) → new ≡ out ++ flat_map f es
  all_lines i n out new l w m = m ∙ ap (λ v. out ++ flat_map f v) (take_all i es (omega arith))

-- what is written behind a text, behind the text before it
pub behind : (out text mid rest new : List ℕ) → mid ≡ out ++ text → new ≡ mid ++ rest → new ≡ out ++ (text ++ rest)
behind out text mid rest new m n = n ∙ ap (λ v. v ++ rest) m ∙ append_assoc out text rest
