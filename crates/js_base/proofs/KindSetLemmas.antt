-- A kind that is one of some kinds is found among them.
use Rattle.std.proofs.Common.{List, [], ◌∷◌, ◌++◌, ◌≡◌, Bool, true, false, ◌||◌, ◌⊎◌, inl, inr, refl, ap, sym, ◌∙◌}
use Rattle.std.proofs.lemmas.Bool.Decides.{Decides-eqb}
use Rattle.std.proofs.lemmas.Bool.{or_right}
use Rattle.js_base.specs.Kinds.{Kind, Ident, code, same_kind, one_of_kinds}
use Rattle.js_base.specs.KindSets.{binding_identifier_kinds, identifier_name_kinds}
use Rattle.js_base.specs.Texts.{reserved_words, contextual_words}

-- the kind is one of the list, as an arm of a `match` says it
abbrev pub IsOneOf : List Kind → Kind → Type 0
IsOneOf [] k = ⊥
IsOneOf (a ∷ []) k = k ≡ a
IsOneOf (a ∷ b ∷ ks) k = (k ≡ a) ⊎ IsOneOf (b ∷ ks) k

same_kind-same : (a k : Kind) → k ≡ a → same_kind a k ≡ true
same_kind-same a k e = (Decides-eqb (code a) (code k)).1 (sym (ap code e))

pub one_of_kinds-one : (ks : List Kind) (k : Kind) → IsOneOf ks k → one_of_kinds ks k ≡ true
one_of_kinds-one [] k h = absurd h
one_of_kinds-one (a ∷ []) k h = ap (λ x. x || false) (same_kind-same a k h)
one_of_kinds-one (a ∷ b ∷ ks) k h =
    elim h as (λ _. one_of_kinds (a ∷ b ∷ ks) k ≡ true) [
      | inl e ↦ ap (λ x. x || one_of_kinds (b ∷ ks) k) (same_kind-same a k e)
      | inr r ↦ or_right (same_kind a k) (one_of_kinds (b ∷ ks) k) (one_of_kinds-one (b ∷ ks) k r)
    ]

or_assoc : (a b c : Bool) → (a || (b || c)) ≡ ((a || b) || c)
or_assoc true b c = refl
or_assoc false b c = refl

or_swap : (a b c : Bool) → (a || (b || c)) ≡ (b || (a || c))
or_swap true true c = refl
or_swap true false c = refl
or_swap false true c = refl
or_swap false false c = refl

-- a kind is found among two lists where it is found among one of them
one_of_both : (ks ls : List Kind) (k : Kind) → one_of_kinds (ks ++ ls) k ≡ (one_of_kinds ks k || one_of_kinds ls k)
one_of_both [] ls k = refl
one_of_both (a ∷ ks) ls k = ap (λ x. same_kind a k || x) (one_of_both ks ls k) ∙ or_assoc (same_kind a k) (one_of_kinds ks k) (one_of_kinds ls k)

-- an IdentifierName is a reserved word or what may be a BindingIdentifier
pub identifier_name-of : (k : Kind) → (one_of_kinds reserved_words k || one_of_kinds binding_identifier_kinds k) ≡ one_of_kinds identifier_name_kinds k
identifier_name-of k = or_swap (one_of_kinds reserved_words k) (same_kind Ident k) (one_of_kinds contextual_words k) ∙ ap (λ x. same_kind Ident k || x) (sym (one_of_both reserved_words contextual_words k))
