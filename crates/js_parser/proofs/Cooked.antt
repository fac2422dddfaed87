-- A part of a template without a backslash has a cooked text (ECMA-262, 12.9.6.1).
use Rattle.std.proofs.Common.{◌≡◌, ◌<◌, ◌+◌, ℕ, Bool, true, false, ◌||◌, ◌&&◌, List, [], ◌∷◌, ◌++◌, Option, Some, None, length, drop, get_or, refl, sym, ap, ◌∙◌, arith}
use Rattle.std.specs.Prelude.{◌==◌, is_some, option_map}
use Rattle.std.proofs.lemmas.Bool.{false≢true}
use Rattle.std.proofs.lemmas.Bool.Decides.{nat_tests}
use Rattle.std.proofs.lemmas.List.{drop_more, length_push, drop_all}
use Rattle.js_base.specs.part_text.Decoding.{cooked}
use Rattle.js_base.specs.part_text.Escapes.{in_template, Step, outside, backslash, go, read_from, before_all, line_feeds, line_feeds_after, code_units}
use Rattle.js_grammar.specs.Names.{has_backslash}
use Rattle.js_grammar.proofs.Finding.{neither-left, neither-right}

-- line feeds in place of carriage returns bring none in
one_line : (r j : Bool) (c : ℕ) (t f : List ℕ) → (c == 92) ≡ false → has_backslash t ≡ false → has_backslash f ≡ false → has_backslash (elim r [ true ↦ 10 ∷ t | false ↦ elim j [ true ↦ f | false ↦ c ∷ f ] ]) ≡ false
one_line true j c t f n a b = a
one_line false true c t f n a b = b
one_line false false c t f n a b = ap (λ (v : Bool). v || has_backslash f) n ∙ b

pub feeds : (carriage : Bool) (cs : List ℕ) → has_backslash cs ≡ false → has_backslash (line_feeds_after carriage cs) ≡ false
feeds carriage [] h = refl
feeds carriage (c ∷ cs) h =
    let r = neither-right (c == 92) (has_backslash cs) h in
    one_line (c == 13) (carriage && (c == 10)) c (line_feeds_after true cs) (line_feeds_after false cs) (neither-left (c == 92) (has_backslash cs) h) (feeds true cs r) (feeds false cs r)

before_some : (out : List ℕ) (r : Option (List ℕ)) → is_some r ≡ true → is_some (before_all out r) ≡ true
before_some out (Some cs) h = refl
before_some out None h = h

-- a step from outside, as the character is a backslash or not
abbrev stepped : ℕ → Bool → Option Step
stepped c true = go backslash []
stepped c false = go outside (c ∷ [])

abbrev after_step : List ℕ → Option Step → Option (List ℕ)
after_step cs None = None
after_step cs (Some t) = before_all t.gives (read_from in_template t.stage cs)

one_read : (b : Bool) (c : ℕ) (cs : List ℕ) → b ≡ false → is_some (read_from in_template outside cs) ≡ true → is_some (after_step cs (stepped c b)) ≡ true
one_read false c cs e h = before_some (c ∷ []) (read_from in_template outside cs) h
one_read true c cs e h = absurd (false≢true (sym e))

all_read : (cs : List ℕ) → has_backslash cs ≡ false → is_some (read_from in_template outside cs) ≡ true
all_read [] h = refl
all_read (c ∷ cs) h = one_read (c == 92) c cs (neither-left (c == 92) (has_backslash cs) h) (all_read cs (neither-right (c == 92) (has_backslash cs) h))

some_mapped : (f : List ℕ → List ℕ) (o : Option (List ℕ)) → is_some o ≡ true → is_some (option_map f o) ≡ true
some_mapped f (Some cs) h = refl
some_mapped f None h = h

pub plain_cooked : (cs : List ℕ) → has_backslash cs ≡ false → is_some (cooked cs) ≡ true
plain_cooked cs h = some_mapped code_units (read_from in_template outside (line_feeds cs)) (all_read (line_feeds cs) (feeds false cs h))

equal : (c : ℕ) → c ≡ 92 → (c == 92) ≡ true
equal c e = ap (λ (v : ℕ). v == 92) e

unequal : (c : ℕ) → (c ≡ 92 → ⊥) → (c == 92) ≡ false
unequal c n = grind (arith, nat_tests)

-- what is left of the characters behind some of them
left_by : (cs ys : List ℕ) (c : ℕ) → (length ys < length cs) × (c ≡ get_or cs (length ys) c) → drop (length ys) cs ≡ c ∷ drop (length ys + 1) cs
left_by cs ys c t = drop_more cs (length ys) c t.0 ∙ ap (λ (x : ℕ). x ∷ drop (length ys + 1) cs) (sym t.1)

pub no_backslash_yet : (cs ys : List ℕ) (c : ℕ) → (length ys < length cs) × (c ≡ get_or cs (length ys) c) → (c ≡ 92 → ⊥) → has_backslash (drop (length ys) cs) ≡ has_backslash cs → has_backslash (drop (length (ys ++ c ∷ [])) cs) ≡ has_backslash cs
no_backslash_yet cs ys c t n h = ap (λ (k : ℕ). has_backslash (drop k cs)) (length_push ys c) ∙ sym (ap has_backslash (left_by cs ys c t) ∙ ap (λ (v : Bool). v || has_backslash (drop (length ys + 1) cs)) (unequal c n)) ∙ h

pub backslash_found : (cs ys : List ℕ) (c : ℕ) → (length ys < length cs) × (c ≡ get_or cs (length ys) c) → c ≡ 92 → has_backslash (drop (length ys) cs) ≡ has_backslash cs → has_backslash cs ≡ true
backslash_found cs ys c t n h = sym h ∙ ap has_backslash (left_by cs ys c t) ∙ ap (λ (v : Bool). v || has_backslash (drop (length ys + 1) cs)) (equal c n)

pub no_backslash : (cs ys : List ℕ) → length ys ≡ length cs → has_backslash (drop (length ys) cs) ≡ has_backslash cs → has_backslash cs ≡ false
no_backslash cs ys e h = sym h ∙ ap has_backslash (drop_all (length ys) cs (omega arith))
