-- Comments that are attached to a place, looked for from the last one on; and a word in a comment.
use Rattle.std.proofs.Common.{◌≡◌, ◌+◌, ◌-◌, ◌≤◌, ◌<◌, ◌==◌, ℕ, Bool, true, false, List, [], ◌∷◌, refl, sym, ap, ◌∙◌, ◌&&◌, ◌||◌, arith, length, take, get_or}
use Rattle.std.specs.Prelude.{chars, slice_range, IsCharBoundary}
use Rattle.std.specs.List.{Any}
use Rattle.std.proofs.lemmas.Bool.{eqb-true, or_right}
use Rattle.std.proofs.lemmas.List.{get_or-take, take_all}
use Rattle.std.proofs.lemmas.List.Folds.{list_any_more, Any-from_list_any}
use Rattle.part_words.specs.js_grammar.CoreTexts.{starts, occurs}
use Rattle.part_words.specs.js_grammar.LexicalFaults.{behind}
use Rattle.part_words.proofs.js_grammar.LongestLemmas.{both-left}
use Rattle.js_lex.specs.declared.comment.Comment.{Comment}
use Rattle.js_lex.specs.Comments.{AreInOrder, is_before, has_before}
use Rattle.part_words.specs.Places.{Word}

or-false : (a b : Bool) → b ≡ false → (a || b) ≡ a
or-false true b e = refl
or-false false b e = e

-- the comments before a number tell it
pub record Looked (sort : List ℕ → Bool) (text : List ℕ) (place : ℕ) (cs : List Comment) (left : ℕ) : Type 0 where
  pub within : left ≤ length cs
  pub same : has_before sort text place cs ≡ has_before sort text place (take left cs)

pub looked_none : (sort : List ℕ → Bool) (text : List ℕ) (place : ℕ) (cs : List Comment) (n : ℕ) → n ≡ length cs → Looked sort text place cs n
looked_none sort text place cs n e = record { within = omega arith; same = ap (has_before sort text place) (sym (take_all n cs (omega arith))) }

one_more : (sort : List ℕ → Bool) (text : List ℕ) (place : ℕ) (cs : List Comment) (left : ℕ) (d : Comment) → 0 < left → left ≤ length cs → has_before sort text place (take left cs) ≡ (has_before sort text place (take (left - 1) cs) || is_before sort text place (get_or cs (left - 1) d))
one_more sort text place cs left d l w =
    let e : left - 1 + 1 ≡ left = omega arith in
    let below : left - 1 < length cs = omega arith in
    ap (λ (n : ℕ). has_before sort text place (take n cs)) (sym e) ∙ list_any_more (is_before sort text place) cs (left - 1) d below

pub looked_on : {sort : List ℕ → Bool} {text : List ℕ} {place : ℕ} {cs : List Comment} {left : ℕ} (c : Comment) → Looked sort text place cs left → 0 < left → c ≡ get_or cs (left - 1) c → is_before sort text place c ≡ false → Looked sort text place cs (left - 1)
looked_on {sort = sort} {text = text} {place = place} {cs = cs} {left = left} c k l e n = record {
  within = let w = k.within in omega arith;
  same = k.same ∙ one_more sort text place cs left c l k.within ∙ or-false (has_before sort text place (take (left - 1) cs)) (is_before sort text place (get_or cs (left - 1) c)) (ap (is_before sort text place) (sym e) ∙ n);
}

pub looked_found : {sort : List ℕ → Bool} {text : List ℕ} {place : ℕ} {cs : List Comment} {left : ℕ} (c : Comment) → Looked sort text place cs left → 0 < left → c ≡ get_or cs (left - 1) c → is_before sort text place c ≡ true → true ≡ has_before sort text place cs
looked_found {sort = sort} {text = text} {place = place} {cs = cs} {left = left} c k l e n =
    sym (k.same ∙ one_more sort text place cs left c l k.within ∙ or_right (has_before sort text place (take (left - 1) cs)) (is_before sort text place (get_or cs (left - 1) c)) (ap (is_before sort text place) (sym e) ∙ n))

pub looked_all : {sort : List ℕ → Bool} {text : List ℕ} {place : ℕ} {cs : List Comment} {left : ℕ} → Looked sort text place cs left → left ≤ 0 → false ≡ has_before sort text place cs
looked_all {sort = sort} {text = text} {place = place} {cs = cs} {left = left} k l = let z : left ≡ 0 = omega arith in sym (k.same ∙ ap (λ (n : ℕ). has_before sort text place (take n cs)) z)

-- in order, none before one of an earlier place is attached to the place
pub looked_enough : {sort : List ℕ → Bool} {text : List ℕ} {place : ℕ} {cs : List Comment} {left : ℕ} (c : Comment) → Looked sort text place cs left → 0 < left → c ≡ get_or cs (left - 1) c → AreInOrder cs → c.attached_to < place → false ≡ has_before sort text place cs
looked_enough {sort = sort} {text = text} {place = place} {cs = cs} {left = left} c k l e o b = sym (k.same ∙ go (has_before sort text place (take left cs)) refl)
  where
    none : Any (λ x. is_before sort text place x ≡ true) (take left cs) → ⊥
    none (i, x, below, there, is) =
        let at : x.attached_to ≡ place = eqb-true x.attached_to place (both-left (x.attached_to == place) (sort (chars (slice_range text x.span.start x.span.end))) is) in
        let short : length (take left cs) ≡ left = Rattle.std.proofs.lemmas.List.length-take-le left cs k.within in
        let first : get_or (take left cs) i x ≡ get_or cs i x = get_or-take left cs i x (omega arith) in
        let w = k.within in
        let order = o i (left - 1) x (omega arith) (omega arith) in
        let here : (get_or cs i x).attached_to ≡ place = ap (λ (y : Comment). y.attached_to) (sym first ∙ there) ∙ at in
        let last : (get_or cs (left - 1) x).attached_to ≡ c.attached_to = ap (λ (y : Comment). y.attached_to) (Rattle.std.proofs.lemmas.List.get_or_default cs (left - 1) x c (omega arith) ∙ sym e) in
        omega arith

    go : (b : Bool) → has_before sort text place (take left cs) ≡ b → has_before sort text place (take left cs) ≡ false
    go false q = q
    go true q = absurd (none (Any-from_list_any (is_before sort text place) (take left cs) q))

pub not_there : (sort : List ℕ → Bool) (text : List ℕ) (place : ℕ) (c : Comment) → (c.attached_to ≡ place → ⊥) → is_before sort text place c ≡ false
not_there sort text place c h = go (c.attached_to == place) refl
  where
    go : (b : Bool) → (c.attached_to == place) ≡ b → is_before sort text place c ≡ false
    go false e = rw (e, is_before) refl
    go true e = absurd (h (eqb-true c.attached_to place e))

pub there : (sort : List ℕ → Bool) (text words : List ℕ) (place : ℕ) (c : Comment) (b : Bool) → c.attached_to ≡ place → words ≡ slice_range text c.span.start c.span.end → b ≡ sort (chars words) → is_before sort text place c ≡ b
there sort text words place c b e f g =
    let h : (c.attached_to == place) ≡ true = Rattle.std.proofs.lemmas.Bool.eq-eqb c.attached_to place e in
    ap (λ (x : Bool). x && sort (chars (slice_range text c.span.start c.span.end))) h ∙ ap (λ (v : List ℕ). sort (chars v)) (sym f) ∙ sym g

-- ---- a word in a text

pub record Sought (word text : List ℕ) (at : ℕ) : Type 0 where
  pub boundary : IsCharBoundary text at
  pub same : occurs word (chars text) ≡ occurs word (behind text at)

pub sought_on : {word text : List ℕ} {i j c : ℕ} → Sought word text i → Word text i j (c ∷ []) → starts word (behind text i) ≡ false → Sought word text j
sought_on {word = word} {text = text} {i = i} {j = j} {c = c} s w n = record {
  boundary = w.boundary;
  same = s.same ∙ ap (occurs word) w.splits ∙ ap (λ (b : Bool). b || occurs word (behind text j)) (sym (ap (starts word) w.splits) ∙ n);
}

pub sought_found : {word text : List ℕ} {i j c : ℕ} → Sought word text i → Word text i j (c ∷ []) → starts word (behind text i) ≡ true → true ≡ occurs word (chars text)
sought_found {word = word} {text = text} {i = i} {j = j} {c = c} s w n = sym (s.same ∙ ap (occurs word) w.splits ∙ ap (λ (b : Bool). b || occurs word (behind text j)) (sym (ap (starts word) w.splits) ∙ n))

pub sought_all : {word text : List ℕ} {i : ℕ} → Sought word text i → 0 < length word → behind text i ≡ [] → false ≡ occurs word (chars text)
sought_all {word = word} {text = text} {i = i} s l e = sym (s.same ∙ ap (occurs word) e ∙ by word l)
  where
    by : (w : List ℕ) → 0 < length w → starts w [] ≡ false
    by [] l = absurd (omega arith)
    by (c ∷ cs) l = refl
