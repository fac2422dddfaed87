-- Tests on lists: members, and what `find` gives.
use Rattle.std.proofs.Common.{◌≡◌, ℕ, ◌==◌, Bool, true, false, List, [], ◌∷◌, ◌++◌, refl, subst, ◌||◌, Option, Some, None, inl, inr, not, sym, ◌∙◌}
use Rattle.std.specs.Prelude.{is_some, cond}
use Rattle.std.specs.List.{list_all, find}
use Rattle.std.proofs.lemmas.Bool.{eqb-true, or_cases, false≢true, eq-eqb}
use Rattle.js_base.specs.declared.kind.Kind.{Kind}
use Rattle.js_base.specs.Kinds.{code, same_kind, one_of_kinds}
use Rattle.js_base.proofs.KindLemmas.{kind_of_same}
use Rattle.js_base.specs.part_text.Characters.{one_of}
use Rattle.js_grammar.proofs.LongestLemmas.{both-left, both-right, both}

pub neither-left : (a b : Bool) → (a || b) ≡ false → a ≡ false
neither-left true b h = h
neither-left false b h = refl

pub neither-right : (a b : Bool) → (a || b) ≡ false → b ≡ false
neither-right true b h = cc
neither-right false b h = h

pub neither : (a b : Bool) → a ≡ false → b ≡ false → (a || b) ≡ false
neither a b h k = rw (h, k) refl

pub contrary : (b : Bool) → not b ≡ true → b ≡ true → ⊥
contrary true h e = false≢true h
contrary false h e = false≢true e

pub either_of : {F : Type 0} (a b : Bool) → (a || b) ≡ true → (a ≡ true → F) → (b ≡ true → F) → F
either_of true b h f g = f refl
either_of false b h f g = g h

pub eqb-turn : (a b : ℕ) → (a == b) ≡ (b == a)
eqb-turn a b = go (a == b) refl (b == a) refl
  where
    go : (x : Bool) → (a == b) ≡ x → (y : Bool) → (b == a) ≡ y → x ≡ y
    go true e y f = sym (eq-eqb b a (sym (eqb-true a b e))) ∙ f
    go false e true f = absurd (false≢true (sym e ∙ eq-eqb a b (sym (eqb-true b a f))))
    go false e false f = refl

pub implied : (a b : Bool) → (b || not a) ≡ true → a ≡ true → b ≡ true
implied a true h e = refl
implied true false h e = absurd (false≢true h)
implied false false h e = e

pub holds_if : (a b : Bool) → (not a || b) ≡ true → a ≡ true → b ≡ true
holds_if true b h e = h
holds_if false b h e = absurd (false≢true e)

-- a member of a list passes what all its members pass
pub member : (t : ℕ → Bool) (ds : List ℕ) (c : ℕ) → one_of ds c ≡ true → list_all t ds ≡ true → t c ≡ true
member t [] c h a = cc
member t (d ∷ ds) c h a = elim (or_cases (d == c) (one_of ds c) h) [
  | inl e ↦ subst (λ (x : ℕ). t x ≡ true) (eqb-true d c e) (both-left (t d) (list_all t ds) a)
  | inr m ↦ member t ds c m (both-right (t d) (list_all t ds) a)
]

-- of a kind
pub kind_passes : (t : Kind → Bool) (ks : List Kind) (k : Kind) → one_of_kinds ks k ≡ true → list_all t ks ≡ true → t k ≡ true
kind_passes t [] k h a = cc
kind_passes t (d ∷ ks) k h a = elim (or_cases (same_kind d k) (one_of_kinds ks k) h) [
  | inl e ↦ subst (λ (x : Kind). t x ≡ true) (kind_of_same d k e) (both-left (t d) (list_all t ks) a)
  | inr m ↦ kind_passes t ks k m (both-right (t d) (list_all t ks) a)
]

-- of a kind, by its number
pub kind_member : (t : ℕ → Bool) (ks : List Kind) (k : Kind) → one_of_kinds ks k ≡ true → list_all (λ a. t (code a)) ks ≡ true → t (code k) ≡ true
kind_member t [] k h a = cc
kind_member t (d ∷ ks) k h a = elim (or_cases (same_kind d k) (one_of_kinds ks k) h) [
  | inl e ↦ subst (λ (x : ℕ). t x ≡ true) (eqb-true (code d) (code k) e) (both-left (t (code d)) (list_all (λ a. t (code a)) ks) a)
  | inr m ↦ kind_member t ks k m (both-right (t (code d)) (list_all (λ a. t (code a)) ks) a)
]

-- what is found passes the test, and what all members pass
pub found-test : (test : Kind → Bool) (ks : List Kind) (k : Kind) → find test ks ≡ Some k → test k ≡ true
found-test test [] k h = cc
found-test test (d ∷ ks) k h = go (test d) refl h (λ g. found-test test ks k g)
  where
    go : (b : Bool) → test d ≡ b → cond b (Some d) (find test ks) ≡ Some k → (find test ks ≡ Some k → test k ≡ true) → test k ≡ true
    go true e g r = let s : d ≡ k = cc in subst (λ (x : Kind). test x ≡ true) s e
    go false e g r = r g

pub found-all : (test : Kind → Bool) (t : Kind → Bool) (ks : List Kind) (k : Kind) → find test ks ≡ Some k → list_all t ks ≡ true → t k ≡ true
found-all test t [] k h a = cc
found-all test t (d ∷ ks) k h a = go (test d) h (λ g. found-all test t ks k g (both-right (t d) (list_all t ks) a))
  where
    go : (b : Bool) → cond b (Some d) (find test ks) ≡ Some k → (find test ks ≡ Some k → t k ≡ true) → t k ≡ true
    go true g r = let s : d ≡ k = cc in subst (λ (x : Kind). t x ≡ true) s (both-left (t d) (list_all t ks) a)
    go false g r = r g

pub record Found (test : Kind → Bool) (ks : List Kind) : Type 0 where
  pub kind : Kind
  pub is : find test ks ≡ Some kind

pub found : (test : Kind → Bool) (ks : List Kind) → is_some (find test ks) ≡ true → Found test ks
found test ks h = go (find test ks) refl h
  where
    go : (o : Option Kind) → find test ks ≡ o → is_some o ≡ true → Found test ks
    go (Some k) e g = record { kind = k; is = e }
    go None e g = cc

pub all-append : (t : ℕ → Bool) (xs ys : List ℕ) → list_all t xs ≡ true → list_all t ys ≡ true → list_all t (xs ++ ys) ≡ true
all-append t [] ys h k = k
all-append t (x ∷ xs) ys h k = both (t x) (list_all t (xs ++ ys)) (both-left (t x) (list_all t xs) h) (all-append t xs ys (both-right (t x) (list_all t xs) h) k)

-- what passes one test passes another
pub all-mono : (t u : ℕ → Bool) (xs : List ℕ) → ((c : ℕ) → t c ≡ true → u c ≡ true) → list_all t xs ≡ true → list_all u xs ≡ true
all-mono t u [] f h = refl
all-mono t u (x ∷ xs) f h = both (u x) (list_all u xs) (f x (both-left (t x) (list_all t xs) h)) (all-mono t u xs f (both-right (t x) (list_all t xs) h))

-- both tests at once
pub all-both : (t u v : ℕ → Bool) (xs : List ℕ) → ((c : ℕ) → t c ≡ true → u c ≡ true → v c ≡ true) → list_all t xs ≡ true → list_all u xs ≡ true → list_all v xs ≡ true
all-both t u v [] f h k = refl
all-both t u v (x ∷ xs) f h k = both (v x) (list_all v xs) (f x (both-left (t x) (list_all t xs) h) (both-left (u x) (list_all u xs) k)) (all-both t u v xs f (both-right (t x) (list_all t xs) h) (both-right (u x) (list_all u xs) k))
