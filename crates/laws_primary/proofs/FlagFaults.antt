-- The faults that are kept as a regular expression is read again are none exactly where each flag is right (ECMA-262, 12.9.5).
use Rattle.std.proofs.Common.{ℕ, ◌+◌, ◌≡◌, ◌==◌, Bool, true, false, not, ◌&&◌, ◌||◌, List, [], ◌∷◌, ◌++◌, None, refl, sym, ap, ◌∙◌}
use Rattle.std.specs.Prelude.{codes}
use Rattle.std.specs.List.{list_all}
use Rattle.std.proofs.lemmas.Bool.{false≢true, and_parts, and_from}
use Rattle.js_base.specs.declared.diagnostic.Diagnostic.{Diagnostic}
use Rattle.js_base.specs.declared.diagnostic.DiagnosticKind.TheVariants.{RegExpFlag}
use Rattle.js_base.specs.part_text.Characters.{one_of}
use Rattle.js_grammar.specs.Characters.{width}
use Rattle.js_grammar.specs.RegularExpressions.{are_flags}
use Rattle.js_grammar.proofs.Finding.{eqb-turn}
use Rattle.laws_shared.specs.js_lex.Reading.{is_wrong_flag, flag_faults}

-- none of these characters is among those
abbrev apart : List ℕ → List ℕ → Bool
apart before fs = list_all (λ f. not (one_of before f)) fs

none_apart : (fs : List ℕ) → apart [] fs ≡ true
none_apart [] = refl
none_apart (f ∷ fs) = none_apart fs

one_more : (before : List ℕ) (f g : ℕ) → one_of (before ++ f ∷ []) g ≡ (one_of before g || (f == g))
one_more [] f g = or_none (f == g)
  where
    or_none : (b : Bool) → (b || false) ≡ b
    or_none true = refl
    or_none false = refl
one_more (c ∷ before) f g = ap (λ (b : Bool). (c == g) || b) (one_more before f g) ∙ either (c == g) (one_of before g) (f == g)
  where
    either : (a b d : Bool) → (a || (b || d)) ≡ ((a || b) || d)
    either true b d = refl
    either false b d = refl

neither : (a b : Bool) → (not (a || b)) ≡ (not a && not b)
neither true b = refl
neither false b = refl

-- apart from those and one more: apart from those, and that one stands in none
split : (before : List ℕ) (f : ℕ) (fs : List ℕ) → apart (before ++ f ∷ []) fs ≡ (apart before fs && not (one_of fs f))
split before f [] = refl
split before f (g ∷ fs) =
    (λ i. not (one_more before f g i) && split before f fs i)
    ∙ ((λ i. neither (one_of before g) (f == g) i && (apart before fs && not (one_of fs f)))
    ∙ ((λ i. (not (one_of before g) && not (eqb-turn f g i)) && (apart before fs && not (one_of fs f)))
    ∙ four (not (one_of before g)) (g == f) (apart before fs) (one_of fs f)))
  where
    four : (a b c d : Bool) → ((a && not b) && (c && not d)) ≡ ((a && c) && not (b || d))
    four false b c d = refl
    four true true true d = refl
    four true true false d = refl
    four true false c d = refl

abbrev fault : ℕ → ℕ → List ℕ → Diagnostic
fault i f fs = record { kind = RegExpFlag; span = record { start = i; end = i + width (f ∷ []) }; first = None; second = None }

right_flag : (before : List ℕ) (f : ℕ) → is_wrong_flag before f ≡ false → (one_of (codes "dgimsuvy") f ≡ true) × (one_of before f ≡ false)
right_flag before f h = go (one_of (codes "dgimsuvy") f) (one_of before f) refl refl
  where
    go : (a b : Bool) → one_of (codes "dgimsuvy") f ≡ a → one_of before f ≡ b → (one_of (codes "dgimsuvy") f ≡ true) × (one_of before f ≡ false)
    go true false d e = (d, e)
    go true true d e = absurd (false≢true (sym (sym (λ i. not (d i) || e i) ∙ h)))
    go false b d e = absurd (false≢true (sym (sym (λ i. not (d i) || one_of before f) ∙ h)))

-- the flags are right, and stand not yet before, exactly where none is told
pub flags_right : (i : ℕ) (before fs : List ℕ) → flag_faults i before fs ≡ [] → (are_flags fs && apart before fs) ≡ true
flags_right i before [] e = refl
flags_right i before (f ∷ fs) e = go (is_wrong_flag before f) refl e (λ k. (λ j. are_flags fs && sym (split before f fs) j) ∙ flags_right (i + width (f ∷ [])) (before ++ f ∷ []) fs k)
  where
    all : (a b c d e : Bool) → a ≡ true → b ≡ false → (c && (d && not e)) ≡ true → (((a && not e) && c) && (not b && d)) ≡ true
    all true false true true false p q r = refl
    all true false true true true p q r = r
    all true false true false e p q r = absurd (false≢true r)
    all true false false d e p q r = absurd (false≢true r)
    all true true c d e p q r = absurd (false≢true (sym q))
    all false b c d e p q r = absurd (false≢true p)

    go : (w : Bool) → is_wrong_flag before f ≡ w → elim w as (λ _. List Diagnostic) [ true ↦ fault i f fs ∷ flag_faults (i + width (f ∷ [])) (before ++ f ∷ []) fs | false ↦ flag_faults (i + width (f ∷ [])) (before ++ f ∷ []) fs ] ≡ [] → (flag_faults (i + width (f ∷ [])) (before ++ f ∷ []) fs ≡ [] → (are_flags fs && (apart before fs && not (one_of fs f))) ≡ true) → (are_flags (f ∷ fs) && apart before (f ∷ fs)) ≡ true
    go true w k later = absurd (let z = k in cc)
    go false w k later = let z = right_flag before f w in all (one_of (codes "dgimsuvy") f) (one_of before f) (are_flags fs) (apart before fs) (one_of fs f) z.0 z.1 (later k)

pub none_told : (i : ℕ) (before fs : List ℕ) → (are_flags fs && apart before fs) ≡ true → flag_faults i before fs ≡ []
none_told i before [] h = refl
none_told i before (f ∷ fs) h = ap (λ (w : Bool). elim w as (λ _. List Diagnostic) [ true ↦ fault i f fs ∷ flag_faults (i + width (f ∷ [])) (before ++ f ∷ []) fs | false ↦ flag_faults (i + width (f ∷ [])) (before ++ f ∷ []) fs ]) z.0 ∙ none_told (i + width (f ∷ [])) (before ++ f ∷ []) fs ((λ j. are_flags fs && split before f fs j) ∙ z.1)
  where
    parts : (a b c d e : Bool) → (((a && not e) && c) && (not b && d)) ≡ true → ((not a || b) ≡ false) × ((c && (d && not e)) ≡ true)
    parts true false true true false r = (refl, refl)
    parts true false true true true r = absurd (false≢true r)
    parts true false true false false r = absurd (false≢true r)
    parts true false true false true r = absurd (false≢true r)
    parts true false false d false r = absurd (false≢true r)
    parts true false false d true r = absurd (false≢true r)
    parts true true true d false r = absurd (false≢true r)
    parts true true false d false r = absurd (false≢true r)
    parts true true c d true r = absurd (false≢true r)
    parts false b c d e r = absurd (false≢true r)

    z : (is_wrong_flag before f ≡ false) × ((are_flags fs && (apart before fs && not (one_of fs f))) ≡ true)
    z = parts (one_of (codes "dgimsuvy") f) (one_of before f) (are_flags fs) (apart before fs) (one_of fs f) h

-- none stood before the first
pub are_right : (i : ℕ) (fs : List ℕ) → flag_faults i [] fs ≡ [] → are_flags fs ≡ true
are_right i fs e = (and_parts (are_flags fs) (apart [] fs) (flags_right i [] fs e)).0

pub none_wrong : (i : ℕ) (fs : List ℕ) → are_flags fs ≡ true → flag_faults i [] fs ≡ []
none_wrong i fs h = none_told i [] fs (and_from _ _ h (none_apart fs))
