-- What a scan of a template part has read.
use Rattle.std.proofs.Common.{◌≡◌, ℕ, Bool, true, false, List, [], ◌∷◌, ◌++◌, refl, sym, ap, subst, ◌∙◌, append_assoc, length, Option, Some, None, not, ◌&&◌, ◌==◌, inl, inr}
use Rattle.std.proofs.lemmas.List.{append-nil}
use Rattle.std.specs.Prelude.{IsUtf8, IsCharBoundary}
use Rattle.part_words.specs.js_grammar.LexicalFaults.{behind}
use Rattle.part_words.specs.js_grammar.Templates.{closes_template}
use Rattle.part_words.proofs.js_grammar.LongestLemmas.{fronts}
use Rattle.part_scan.specs.declared.template.Before.{Before}
use Rattle.part_scan.specs.declared.template.Before.TheVariants.{Other, Backslash, Dollar}
use Rattle.part_scan.specs.declared.template.Step.TheVariants.{On, Ends}
use Rattle.part_words.specs.Places.{Word}
use Rattle.part_scan.specs.TemplateParts.{closes_behind, ends_here, Steps, Ended, Endless}
use Rattle.part_words.proofs.Places.{none_passed, then}
use Rattle.part_words.proofs.Fronts.{ends_there, onwards}

-- The characters from i up to j are read, and the last one is told.
pub record Read (text : List ℕ) (i j : ℕ) (b : Before) : Type 0 where
  pub word : List ℕ
  pub stands : Word text i j word
  pub follows : (v : List ℕ) → closes_template false false (word ++ v) ≡ closes_behind b v

pub read_none : (text : List ℕ) (i : ℕ) → IsCharBoundary text i → Read text i i Other
read_none text i b = record { word = []; stands = none_passed text i b; follows = λ v. refl }

pub read_on : {text : List ℕ} {i j k c : ℕ} {b s : Before} → Read text i j b → Word text j k (c ∷ []) → Steps b c (On s) → Read text i k s
read_on {c = c} {b = b} r w f = record { word = r.word ++ c ∷ []; stands = then r.stands w; follows = λ v. onwards (closes_template false false) (closes_behind b) r.word c r.follows v ∙ f v }

-- the rest of what ends a part
pub read_end : {text : List ℕ} {i j k c : ℕ} {b : Before} {o : Bool} → Read text i j b → Word text j k (c ∷ []) → Steps b c (Ends o) → Ended text i (record { end = k; opens_substitution = o })
read_end {c = c} {b = b} {o = o} r w f = record {
  inside = r.word ++ c ∷ [];
  stands = then r.stands w;
  closed = ap (λ (x : List ℕ). closes_template false false x) (sym (append-nil (r.word ++ c ∷ []))) ∙ onwards (closes_template false false) (closes_behind b) r.word c r.follows [] ∙ f [];
}

some_left : (o : Bool) (w : List ℕ) (c : ℕ) (x : List ℕ) → ends_here o (w ++ c ∷ x) ≡ None
some_left o [] c x = refl
some_left o (a ∷ w) c x = refl

abbrev chosen : Bool → Bool → List ℕ → Option Bool → Option Bool
chosen p q w r = elim p [ true ↦ ends_here false w | false ↦ elim q [ true ↦ ends_here true w | false ↦ r ] ]

-- what goes on behind the end of a part is no part
pub no_more : (e d : Bool) (w : List ℕ) (c : ℕ) (x : List ℕ) (o : Bool) → closes_template e d w ≡ Some o → closes_template e d (w ++ c ∷ x) ≡ None
no_more e d [] c x o h = cc
no_more e d (a ∷ w) c x o h = go (not e && (a == 96)) (d && (a == 123)) h (λ k. no_more (not e && (a == 92)) (not e && (a == 36)) w c x o k)
  where
    go : (p q : Bool)
        → chosen p q w (closes_template (not e && (a == 92)) (not e && (a == 36)) w) ≡ Some o
        → (closes_template (not e && (a == 92)) (not e && (a == 36)) w ≡ Some o → closes_template (not e && (a == 92)) (not e && (a == 36)) (w ++ c ∷ x) ≡ None)
        → chosen p q (w ++ c ∷ x) (closes_template (not e && (a == 92)) (not e && (a == 36)) (w ++ c ∷ x)) ≡ None
    go true q h f = some_left false w c x
    go false true h f = some_left true w c x
    go false false h f = f h

may_end : (b : Before) → closes_behind b (97 ∷ 96 ∷ []) ≡ Some false
may_end Other = refl
may_end Backslash = refl
may_end Dollar = refl

none_yet : (b : Before) → closes_behind b [] ≡ None
none_yet Other = refl
none_yet Backslash = refl
none_yet Dollar = refl

-- no shorter front of what is read is a part
none_before : (word : List ℕ) (b : Before) → ((v : List ℕ) → closes_template false false (word ++ v) ≡ closes_behind b v) → (w : List ℕ) (c : ℕ) (x : List ℕ) → word ≡ w ++ c ∷ x → closes_template false false w ≡ None
none_before word b f w c x e = go (closes_template false false w) refl
  where
    go : (o : Option Bool) → closes_template false false w ≡ o → closes_template false false w ≡ None
    go None h = h
    go (Some o) h =
        let more = no_more false false w c (x ++ (97 ∷ 96 ∷ [])) o h in
        let same : word ++ 97 ∷ 96 ∷ [] ≡ w ++ (c ∷ (x ++ 97 ∷ 96 ∷ [])) = ap (λ (y : List ℕ). y ++ 97 ∷ 96 ∷ []) e ∙ append_assoc w (c ∷ x) (97 ∷ 96 ∷ []) in
        let none : closes_template false false (word ++ 97 ∷ 96 ∷ []) ≡ None = ap (λ (y : List ℕ). closes_template false false y) same ∙ more in
        let some : None ≡ Some false = sym none ∙ f (97 ∷ 96 ∷ []) ∙ may_end b in
        absurd (let k = some in cc)

none_at : (word : List ℕ) (b : Before) → ((v : List ℕ) → closes_template false false (word ++ v) ≡ closes_behind b v) → (w rest : List ℕ) → word ++ [] ≡ w ++ rest → closes_template false false w ≡ None
none_at word b f w rest e = elim (fronts w rest word [] (sym e)) [
  | inl s ↦ ap (λ (y : List ℕ). closes_template false false y) (s.front ∙ sym (append-nil word)) ∙ f [] ∙ none_yet b
  | inr o ↦ elim o [
    | inl g ↦ none_before word b f w g.head g.tail g.longer
    | inr g ↦ absurd (let l = g.left in cc)
  ]
]

-- no front of what is read is a part
pub read_all : {text : List ℕ} {i j : ℕ} {b : Before} → IsUtf8 text → Read text i j b → behind text j ≡ [] → Endless text i
read_all {text = text} {i = i} {j = j} {b = b} u r e =
    let all : behind text i ≡ r.word ++ [] = r.stands.splits ∙ ap (λ (y : List ℕ). r.word ++ y) e in
    let whole : r.word ≡ behind text i = sym (append-nil r.word) ∙ sym all in
    let last : j ≡ length text = ends_there text j u r.stands.boundary e in
    record {
      none = λ w rest s. none_at r.word b r.follows w rest (sym all ∙ s);
      stands = subst (λ (n : ℕ). Word text i n (behind text i)) last (subst (λ (y : List ℕ). Word text i j y) whole r.stands);
    }
