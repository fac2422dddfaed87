-- Tests of lexemes, and which of them covers which.
use Rattle.std.proofs.Common.{◌≡◌, Bool, true, false, not, ◌&&◌, ◌||◌, refl, sym, ◌∙◌, subst}
use Rattle.std.proofs.lemmas.Bool.{and_parts, or_left, or_right, false≢true, eq-eqb}
use Rattle.js_base.specs.declared.kind.Kind.{Kind}
use Rattle.js_base.specs.Kinds.{code, kinds, same_kind, every_kind}
use Rattle.js_base.proofs.KindLemmas.{at_each}
use Rattle.js_grammar.specs.Grammar.{Look}
use Rattle.js_grammar.proofs.Finding.{implied}
pub use Rattle.js_grammar.specs.Parsing.{full}

abbrev pub none : Look
none k w e = false

abbrev pub either : Look → Look → Look
either p q k w e = p k w e || q k w e

abbrev pub four : (Bool → Bool → Bool) → Bool
four g = g true true && (g true false && (g false true && g false false))

four_at : (g : Bool → Bool → Bool) (w e : Bool) → four g ≡ true → g w e ≡ true
four_at g true true h = (and_parts (g true true) (g true false && (g false true && g false false)) h).0
four_at g true false h = (and_parts (g true false) (g false true && g false false) (and_parts (g true true) (g true false && (g false true && g false false)) h).1).0
four_at g false true h = (and_parts (g false true) (g false false) (and_parts (g true false) (g false true && g false false) (and_parts (g true true) (g true false && (g false true && g false false)) h).1).1).0
four_at g false false h = (and_parts (g false true) (g false false) (and_parts (g true false) (g false true && g false false) (and_parts (g true true) (g true false && (g false true && g false false)) h).1).1).1

-- what p admits, q admits
unfoldable pub covers : Look → Look → Bool
unfolding kinds
covers p q = every_kind (λ k. four (λ w e. q k w e || not (p k w e))) kinds

-- nothing is admitted by both
unfoldable pub apart : Look → Look → Bool
unfolding kinds
apart p q = every_kind (λ k. four (λ w e. not (q k w e && p k w e))) kinds

refuted : (a b : Bool) → not (a && b) ≡ true → a ≡ true → b ≡ true → ⊥
refuted true true h e f = false≢true h
refuted true false h e f = false≢true f
refuted false b h e f = false≢true e

pub covered : (p q : Look) → covers p q ≡ true → (k : Kind) (w e : Bool) → p k w e ≡ true → q k w e ≡ true
unfolding covers
covered p q h k w e x = implied (p k w e) (q k w e) (four_at (λ w' e'. q k w' e' || not (p k w' e')) w e (at_each (λ k'. four (λ w' e'. q k' w' e' || not (p k' w' e'))) h k)) x

pub not_both : (p q : Look) → apart p q ≡ true → (k : Kind) (w e : Bool) → p k w e ≡ true → q k w e ≡ true → ⊥
unfolding apart
not_both p q h k w e x y = refuted (q k w e) (p k w e) (four_at (λ w' e'. not (q k w' e' && p k w' e')) w e (at_each (λ k'. four (λ w' e'. not (q k' w' e' && p k' w' e'))) h k)) y x

-- a test that passes for some marks
abbrev pub some_of : (Bool → Bool → Bool) → Bool
some_of g = g true true || (g true false || (g false true || g false false))

pub some_at : (g : Bool → Bool → Bool) (w e : Bool) → g w e ≡ true → some_of g ≡ true
some_at g true true h = or_left _ _ h
some_at g true false h = or_right (g true true) _ (or_left _ _ h)
some_at g false true h = or_right (g true true) _ (or_right (g true false) _ (or_left _ _ h))
some_at g false false h = or_right (g true true) _ (or_right (g true false) _ (or_right (g false true) _ h))

pub same_self : (k : Kind) → same_kind k k ≡ true
same_self k = eq-eqb (code k) (code k) refl

-- kinds are told apart by their codes
pub differ : (a b : Kind) → same_kind a b ≡ false → a ≡ b → ⊥
differ a b f e = false≢true (sym f ∙ subst (λ v. same_kind a v ≡ true) e (same_self a))
