-- Characters without a backslash stand for themselves, in a name and in a string.
use Rattle.std.proofs.Common.{◌≡◌, ℕ, ◌==◌, Bool, true, false, List, [], ◌∷◌, ◌++◌, refl, sym, ap, ◌∙◌, not, Option, Some, None, append_assoc}
use Rattle.std.specs.List.{list_all}
use Rattle.js_base.specs.part_text.Escapes.{Where, Stage, Step, outside, backslash, go, plainly, step, read_from, before_all, line_feeds, line_feeds_after}
use Rattle.js_grammar.proofs.LongestLemmas.{both-left, both-right, not-true}

abbrev pub no_backslash : ℕ → Bool
no_backslash c = not (c == 92)

plainly-at : (c : ℕ) → (c == 92) ≡ false → plainly c ≡ go outside (c ∷ [])
plainly-at c e = ap (λ (b : Bool). elim b [ true ↦ go backslash [] | false ↦ go outside (c ∷ []) ]) e

read-step : (w : Where) (s : Stage) (c : ℕ) (cs : List ℕ) (o : Option Step) → step w s c ≡ o → read_from w s (c ∷ cs) ≡ elim o [ None ↦ None | Some t ↦ before_all t.gives (read_from w t.stage cs) ]
read-step w s c cs o h = ap (λ (a : Option Step). elim a [ None ↦ None | Some t ↦ before_all t.gives (read_from w t.stage cs) ]) h

pub before-all-append : (xs ys : List ℕ) (o : Option (List ℕ)) → before_all xs (before_all ys o) ≡ before_all (xs ++ ys) o
before-all-append xs ys None = refl
before-all-append xs ys (Some zs) = ap (λ (v : List ℕ). Some v) (sym (append_assoc xs ys zs))

pub before-nil : (o : Option (List ℕ)) → before_all [] o ≡ o
before-nil None = refl
before-nil (Some zs) = refl

pub points-append : (w : Where) (xs ys : List ℕ) → list_all no_backslash xs ≡ true → read_from w outside (xs ++ ys) ≡ before_all xs (read_from w outside ys)
points-append w [] ys h = sym (before-nil (read_from w outside ys))
points-append w (x ∷ xs) ys h =
    let e = not-true (x == 92) (both-left (no_backslash x) (list_all no_backslash xs) h) in
    let a = read-step w outside x (xs ++ ys) (go outside (x ∷ [])) (plainly-at x e) in
    let b = points-append w xs ys (both-right (no_backslash x) (list_all no_backslash xs) h) in
    a ∙ ap (λ (o : Option (List ℕ)). before_all (x ∷ []) o) b ∙ before-all-append (x ∷ []) xs (read_from w outside ys)

pub points-plain : (w : Where) (xs : List ℕ) → list_all no_backslash xs ≡ true → read_from w outside xs ≡ Some xs
points-plain w [] h = refl
points-plain w (x ∷ xs) h =
    let e = not-true (x == 92) (both-left (no_backslash x) (list_all no_backslash xs) h) in
    let a = read-step w outside x xs (go outside (x ∷ [])) (plainly-at x e) in
    let b = points-plain w xs (both-right (no_backslash x) (list_all no_backslash xs) h) in
    a ∙ ap (λ (o : Option (List ℕ)). before_all (x ∷ []) o) b

-- one character more
pub points-one : (w : Where) (d : ℕ) (ys : List ℕ) → no_backslash d ≡ true → read_from w outside (d ∷ ys) ≡ before_all (d ∷ []) (read_from w outside ys)
points-one w d ys h = read-step w outside d ys (go outside (d ∷ [])) (plainly-at d (not-true (d == 92) h))

abbrev pub no_return : ℕ → Bool
no_return c = not (c == 13)

-- CR aside, line ends stay as they are
pub feeds-append : (xs ys : List ℕ) → list_all no_return xs ≡ true → line_feeds (xs ++ ys) ≡ xs ++ line_feeds ys
feeds-append [] ys h = refl
feeds-append (x ∷ xs) ys h =
    let e = not-true (x == 13) (both-left (no_return x) (list_all no_return xs) h) in
    let r = feeds-append xs ys (both-right (no_return x) (list_all no_return xs) h) in
    ap (λ (b : Bool). elim b [ true ↦ 10 ∷ line_feeds_after true (xs ++ ys) | false ↦ x ∷ line_feeds_after false (xs ++ ys) ]) e ∙ ap (λ (v : List ℕ). x ∷ v) r
