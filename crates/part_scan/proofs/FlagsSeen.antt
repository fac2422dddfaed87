-- The flags that are seen, one after the other.
use Rattle.std.proofs.Common.{◌≡◌, ◌==◌, ℕ, Bool, true, false, List, [], ◌∷◌, ◌++◌, refl, sym, ap, ◌∙◌, not, ◌||◌}
use Rattle.std.specs.Prelude.{codes}
use Rattle.std.proofs.lemmas.List.Folds.{list_any-append}
use Rattle.js_base.specs.part_text.Characters.{one_of}
use Rattle.part_scan.specs.declared.regular_expression.Seen.{Seen}
use Rattle.part_scan.specs.RegularExpressionParts.{SeenIn, TellsFlag}

pub seen_none : SeenIn (record { d = false; g = false; i = false; m = false; s = false; u = false; v = false; y = false }) []
seen_none = record { d = refl; g = refl; i = refl; m = refl; s = refl; u = refl; v = refl; y = refl }

pub apart : (a c : ℕ) → (c ≡ a → ⊥) → (a == c) ≡ false
apart a c n = Rattle.std.proofs.lemmas.Bool.ne_eqb a c (λ e. n (sym e))

pub apart_turned : (a c : ℕ) → (c ≡ a → ⊥) → (c == a) ≡ false
apart_turned a c n = Rattle.std.proofs.lemmas.Bool.ne_eqb c a n

last_is : (before : List ℕ) (c : ℕ) → (c == c) ≡ true → true ≡ one_of (before ++ c ∷ []) c
last_is before c h = sym (list_any-append (λ d. d == c) before (c ∷ []) ∙ ap (λ (b : Bool). one_of before c || (b || false)) h ∙ by (one_of before c))
  where
    by : (b : Bool) → (b || (true || false)) ≡ true
    by true = refl
    by false = refl

stays : (before : List ℕ) (c d : ℕ) (b : Bool) → b ≡ one_of before c → (d == c) ≡ false → b ≡ one_of (before ++ d ∷ []) c
stays before c d b e h = e ∙ sym (list_any-append (λ x. x == c) before (d ∷ []) ∙ ap (λ (x : Bool). one_of before c || (x || false)) h ∙ by (one_of before c))
  where
    by : (b : Bool) → (b || (false || false)) ≡ b
    by true = refl
    by false = refl

pub sees_d : (s : Seen) (end : ℕ) → TellsFlag s 100 (record { end = end; is_wrong = s.d; seen = record { d = true; g = s.g; i = s.i; m = s.m; s = s.s; u = s.u; v = s.v; y = s.y } })
sees_d s end before h = (h.d, record { d = last_is before 100 refl; g = stays before 103 100 s.g h.g refl; i = stays before 105 100 s.i h.i refl; m = stays before 109 100 s.m h.m refl; s = stays before 115 100 s.s h.s refl; u = stays before 117 100 s.u h.u refl; v = stays before 118 100 s.v h.v refl; y = stays before 121 100 s.y h.y refl })

pub sees_g : (s : Seen) (end : ℕ) → TellsFlag s 103 (record { end = end; is_wrong = s.g; seen = record { d = s.d; g = true; i = s.i; m = s.m; s = s.s; u = s.u; v = s.v; y = s.y } })
sees_g s end before h = (h.g, record { d = stays before 100 103 s.d h.d refl; g = last_is before 103 refl; i = stays before 105 103 s.i h.i refl; m = stays before 109 103 s.m h.m refl; s = stays before 115 103 s.s h.s refl; u = stays before 117 103 s.u h.u refl; v = stays before 118 103 s.v h.v refl; y = stays before 121 103 s.y h.y refl })

pub sees_i : (s : Seen) (end : ℕ) → TellsFlag s 105 (record { end = end; is_wrong = s.i; seen = record { d = s.d; g = s.g; i = true; m = s.m; s = s.s; u = s.u; v = s.v; y = s.y } })
sees_i s end before h = (h.i, record { d = stays before 100 105 s.d h.d refl; g = stays before 103 105 s.g h.g refl; i = last_is before 105 refl; m = stays before 109 105 s.m h.m refl; s = stays before 115 105 s.s h.s refl; u = stays before 117 105 s.u h.u refl; v = stays before 118 105 s.v h.v refl; y = stays before 121 105 s.y h.y refl })

pub sees_m : (s : Seen) (end : ℕ) → TellsFlag s 109 (record { end = end; is_wrong = s.m; seen = record { d = s.d; g = s.g; i = s.i; m = true; s = s.s; u = s.u; v = s.v; y = s.y } })
sees_m s end before h = (h.m, record { d = stays before 100 109 s.d h.d refl; g = stays before 103 109 s.g h.g refl; i = stays before 105 109 s.i h.i refl; m = last_is before 109 refl; s = stays before 115 109 s.s h.s refl; u = stays before 117 109 s.u h.u refl; v = stays before 118 109 s.v h.v refl; y = stays before 121 109 s.y h.y refl })

pub sees_s : (s : Seen) (end : ℕ) → TellsFlag s 115 (record { end = end; is_wrong = s.s; seen = record { d = s.d; g = s.g; i = s.i; m = s.m; s = true; u = s.u; v = s.v; y = s.y } })
sees_s s end before h = (h.s, record { d = stays before 100 115 s.d h.d refl; g = stays before 103 115 s.g h.g refl; i = stays before 105 115 s.i h.i refl; m = stays before 109 115 s.m h.m refl; s = last_is before 115 refl; u = stays before 117 115 s.u h.u refl; v = stays before 118 115 s.v h.v refl; y = stays before 121 115 s.y h.y refl })

pub sees_u : (s : Seen) (end : ℕ) → TellsFlag s 117 (record { end = end; is_wrong = s.u; seen = record { d = s.d; g = s.g; i = s.i; m = s.m; s = s.s; u = true; v = s.v; y = s.y } })
sees_u s end before h = (h.u, record { d = stays before 100 117 s.d h.d refl; g = stays before 103 117 s.g h.g refl; i = stays before 105 117 s.i h.i refl; m = stays before 109 117 s.m h.m refl; s = stays before 115 117 s.s h.s refl; u = last_is before 117 refl; v = stays before 118 117 s.v h.v refl; y = stays before 121 117 s.y h.y refl })

pub sees_v : (s : Seen) (end : ℕ) → TellsFlag s 118 (record { end = end; is_wrong = s.v; seen = record { d = s.d; g = s.g; i = s.i; m = s.m; s = s.s; u = s.u; v = true; y = s.y } })
sees_v s end before h = (h.v, record { d = stays before 100 118 s.d h.d refl; g = stays before 103 118 s.g h.g refl; i = stays before 105 118 s.i h.i refl; m = stays before 109 118 s.m h.m refl; s = stays before 115 118 s.s h.s refl; u = stays before 117 118 s.u h.u refl; v = last_is before 118 refl; y = stays before 121 118 s.y h.y refl })

pub sees_y : (s : Seen) (end : ℕ) → TellsFlag s 121 (record { end = end; is_wrong = s.y; seen = record { d = s.d; g = s.g; i = s.i; m = s.m; s = s.s; u = s.u; v = s.v; y = true } })
sees_y s end before h = (h.y, record { d = stays before 100 121 s.d h.d refl; g = stays before 103 121 s.g h.g refl; i = stays before 105 121 s.i h.i refl; m = stays before 109 121 s.m h.m refl; s = stays before 115 121 s.s h.s refl; u = stays before 117 121 s.u h.u refl; v = stays before 118 121 s.v h.v refl; y = last_is before 121 refl })

pub sees_none : (s : Seen) (c end : ℕ) → (100 == c) ≡ false → (c == 100) ≡ false → (103 == c) ≡ false → (c == 103) ≡ false → (105 == c) ≡ false → (c == 105) ≡ false → (109 == c) ≡ false → (c == 109) ≡ false → (115 == c) ≡ false → (c == 115) ≡ false → (117 == c) ≡ false → (c == 117) ≡ false → (118 == c) ≡ false → (c == 118) ≡ false → (121 == c) ≡ false → (c == 121) ≡ false → TellsFlag s c (record { end = end; is_wrong = true; seen = s })
sees_none s c end d1 d2 g1 g2 i1 i2 m1 m2 s1 s2 u1 u2 v1 v2 y1 y2 before h = (by d1 g1 i1 m1 s1 u1 v1 y1, record { d = stays before 100 c s.d h.d d2; g = stays before 103 c s.g h.g g2; i = stays before 105 c s.i h.i i2; m = stays before 109 c s.m h.m m2; s = stays before 115 c s.s h.s s2; u = stays before 117 c s.u h.u u2; v = stays before 118 c s.v h.v v2; y = stays before 121 c s.y h.y y2 })
  where
    by : (100 == c) ≡ false → (103 == c) ≡ false → (105 == c) ≡ false → (109 == c) ≡ false → (115 == c) ≡ false → (117 == c) ≡ false → (118 == c) ≡ false → (121 == c) ≡ false → true ≡ (not (one_of (codes "dgimsuvy") c) || one_of before c)
    by d1 g1 i1 m1 s1 u1 v1 y1 = let e : (not (one_of (codes "dgimsuvy") c) || one_of before c) ≡ true = rw (d1, g1, i1, m1, s1, u1, v1, y1) refl in sym e
