-- What the bindings that were found give.
use Rattle.std.proofs.Common.{◌≡◌, ◌≢◌, ℕ, Bool, true, false, cond, List, [], ◌∷◌, refl, sym, ap, ◌∙◌, subst, ◌⊎◌, inl, inr, true≢false}
use Rattle.std.specs.Prelude.{ℕ, ◌==◌, ◌&&◌, Contains, fold}
use Rattle.std.proofs.lemmas.Bool.Decides.{Decides-eqb}
use Rattle.std.proofs.lemmas.Bool.{and_parts}
use Rattle.std.proofs.lemmas.Slice.Eq.{bytes_eq-Decides}
use Rattle.js_graph.proofs.PathLemmas.{none_in, in_first}
use Rattle.std.proofs.lemmas.List.Elements.{Contains-append_left, Contains-append_right, Contains-push}
use Rattle.js_graph.specs.declared.resolution.Binding.{Binding}
use Rattle.js_graph.specs.declared.resolution.BindingName.{BindingName}
use Rattle.js_graph.specs.declared.resolution.BindingName.TheVariants as named
use Rattle.js_graph.specs.declared.resolution.Resolution.{Resolution}
use Rattle.js_graph.specs.declared.resolution.Resolution.TheVariants as answer
use Rattle.js_graph.specs.Following.{name_eq, binding_eq, noted}
use Rattle.js_graph.specs.Resolving.{Resolves}

-- what is known of a set of bindings, by cases
abbrev pub Tells : (Binding → Type 0) → Resolution → Type 0
Tells P answer.Null = (b : Binding) → ¬ (P b)
Tells P (answer.Binding a) = P a × ((c : Binding) → P c → c ≡ a)
Tells P answer.Ambiguous = (b : Binding) × (c : Binding) × P b × P c × (b ≢ c)

name_same : (x y : BindingName) → name_eq x y ≡ true → x ≡ y
name_same (named.Name x) (named.Name y) e = ap named.Name ((bytes_eq-Decides x y).0 e)
name_same (named.Name x) named.Default e = absurd (true≢false (sym e))
name_same (named.Name x) named.Namespace e = absurd (true≢false (sym e))
name_same named.Default (named.Name y) e = absurd (true≢false (sym e))
name_same named.Default named.Default e = refl
name_same named.Default named.Namespace e = absurd (true≢false (sym e))
name_same named.Namespace (named.Name y) e = absurd (true≢false (sym e))
name_same named.Namespace named.Default e = absurd (true≢false (sym e))
name_same named.Namespace named.Namespace e = refl

name_itself : (x : BindingName) → name_eq x x ≡ true
name_itself (named.Name x) = (bytes_eq-Decides x x).1 refl
name_itself named.Default = refl
name_itself named.Namespace = refl

binding_same : (a b : Binding) → binding_eq a b ≡ true → a ≡ b
binding_same a b e =
    let parts = and_parts (a.module == b.module) (name_eq a.name b.name) e in
    let first : a.module ≡ b.module = (Decides-eqb a.module b.module).0 parts.0 in
    let second : a.name ≡ b.name = name_same a.name b.name parts.1 in
    ap (λ v. with_module v a.name) first ∙ ap (with_module b.module) second
  where
    with_module : ℕ → BindingName → Binding
    with_module m n = record { «module» = m; name = n }

binding_itself : (a : Binding) → binding_eq a a ≡ true
binding_itself a = ap (λ v. v && name_eq a.name a.name) ((Decides-eqb a.module a.module).1 refl) ∙ name_itself a.name

binding_differs : (a b : Binding) → binding_eq a b ≡ false → a ≢ b
binding_differs a b e same = true≢false (sym (subst (λ (v : Binding). binding_eq a v ≡ true) same (binding_itself a)) ∙ e)

-- one more
one_more : (P : Binding → Type 0) (r : Resolution) (b : Binding) → Tells P r → Tells (λ c. P c ⊎ (b ≡ c)) (noted r b)
one_more P answer.Null b h = (inr refl, λ c g. elim g [ inl p ↦ absurd (h c p) | inr e ↦ sym e ])
one_more P (answer.Binding a) b h = by (binding_eq a b) refl
  where
    by : (t : Bool) → binding_eq a b ≡ t → Tells (λ c. P c ⊎ (b ≡ c)) (cond t (answer.Binding a) answer.Ambiguous)
    by true e = (inl h.0, λ c g. elim g [ inl p ↦ h.1 c p | inr f ↦ sym f ∙ sym (binding_same a b e) ])
    by false e = (a, b, inl h.0, inr refl, binding_differs a b e)
one_more P answer.Ambiguous b h = (h.0, h.1, inl h.2, inl h.3, h.4)

-- of two sets with the same bindings the same is known
pub Tells-same : (P Q : Binding → Type 0) (r : Resolution) → ((b : Binding) → P b → Q b) → ((b : Binding) → Q b → P b) → Tells P r → Tells Q r
Tells-same P Q answer.Null to back h = λ b q. h b (back b q)
Tells-same P Q (answer.Binding a) to back h = (to a h.0, λ c q. h.1 c (back c q))
Tells-same P Q answer.Ambiguous to back h = (h.0, h.1, to h.0 h.2, to h.1 h.3, h.4)

-- all of a list
all_more : (P : Binding → Type 0) (r : Resolution) (bs : List Binding) → Tells P r → Tells (λ c. P c ⊎ Contains bs c) (fold noted r bs)
all_more P r [] h = Tells-same P (λ c. P c ⊎ Contains [] c) r (λ b p. inl p) (λ b g. elim g [ inl p ↦ p | inr n ↦ absurd (none_in b n) ]) h
all_more P r (b ∷ bs) h = Tells-same (λ c. (P c ⊎ (b ≡ c)) ⊎ Contains bs c) (λ c. P c ⊎ Contains (b ∷ bs) c) (fold noted (noted r b) bs)
    (λ c g. elim g [ inl f ↦ elim f [ inl p ↦ inl p | inr e ↦ inr (subst (Contains (b ∷ bs)) e (Contains-append_left (b ∷ []) bs b (Contains-push [] b))) ] | inr n ↦ inr (Contains-append_right (b ∷ []) bs c n) ])
    (λ c g. elim g [ inl p ↦ inl (inl p) | inr n ↦ elim (in_first b bs c n) [ inl e ↦ inl (inr e) | inr m ↦ inr m ] ])
    (all_more (λ c. P c ⊎ (b ≡ c)) (noted r b) bs (one_more P r b h))

pub of_all : (bs : List Binding) → Tells (Contains bs) (fold noted answer.Null bs)
of_all bs = Tells-same (λ c. ⊥ ⊎ Contains bs c) (Contains bs) (fold noted answer.Null bs) (λ c g. elim g [ inl n ↦ absurd n | inr n ↦ n ]) (λ c n. inr n) (all_more (λ c. ⊥) answer.Null bs (λ b n. n))

-- what is known is what is answered
pub Answers-tell : (P : Binding → Type 0) (r : Resolution) → Tells P r → Resolves P r
Answers-tell P answer.Null h = record {
  null = (λ e. h, λ n. refl);
  one = λ b. (λ e. cc, λ f. absurd (h b f.0));
  ambiguous = (λ e. cc, λ f. absurd (h f.0 f.2));
}
Answers-tell P (answer.Binding a) h = record {
  null = (λ e. cc, λ n. absurd (n a h.0));
  one = λ b. (λ e. subst (λ (v : Binding). P v × ((c : Binding) → P c → c ≡ v)) (same_binding a b e) h, λ f. ap answer.Binding (f.1 a h.0));
  ambiguous = (λ e. cc, λ f. absurd (f.4 (h.1 f.0 f.2 ∙ sym (h.1 f.1 f.3))));
}
  where
    same_binding : (x y : Binding) → answer.Binding x ≡ answer.Binding y → x ≡ y
    same_binding x y e = cc
Answers-tell P answer.Ambiguous h = record {
  null = (λ e. cc, λ n. absurd (n h.0 h.2));
  one = λ b. (λ e. cc, λ f. absurd (h.4 (f.1 h.0 h.2 ∙ sym (f.1 h.1 h.3))));
  ambiguous = (λ e. h, λ f. refl);
}
