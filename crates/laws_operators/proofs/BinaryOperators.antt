-- The operators of binary expressions, by the kinds of their lexemes.
use Rattle.std.proofs.Common.{◌≡◌, Bool, true, false, List, [], ◌∷◌, Some, cond, refl, sym, ap, ◌∙◌}
use Rattle.std.specs.Prelude.{if◌then◌else◌}
use Rattle.js_base.specs.Kinds.{same_kind, one_of_kinds}
use Rattle.js_base.specs.Operators.{binary_operators, row_of}
use Rattle.js_base.specs.declared.kind.Kind.{Kind}
use Rattle.js_base.specs.declared.kind.Kind.TheVariants.{Amp2, Pipe2}
use Rattle.js_base.specs.declared.operator.BinaryOperator.{BinaryOperator}
use Rattle.js_base.proofs.KindLemmas.{kind_of_same}
use Rattle.js_grammar.specs.Trees.{binary_expression, logical_expression}
use Rattle.laws_shared.specs.js_tree.Labels.{binary_kind}

abbrev AreRight : List (Kind × BinaryOperator) → Type 0
AreRight [] = Unit {0}
AreRight (row ∷ rows) = (binary_kind row.1 ≡ row.0) × AreRight rows

found : (rows : List (Kind × BinaryOperator)) → AreRight rows → (k : Kind) (r : BinaryOperator) → row_of rows k ≡ Some r → binary_kind r ≡ k
found [] a k r e = absurd (let z = e in cc)
found (row ∷ rows) a k r e = go (same_kind row.0 k) refl e (found rows a.1 k r)
  where
    go : (b : Bool) → same_kind row.0 k ≡ b → (if b then Some row.1 else row_of rows k) ≡ Some r → (row_of rows k ≡ Some r → binary_kind r ≡ k) → binary_kind r ≡ k
    go true q h f = let z : row.1 ≡ r = cc in sym (ap binary_kind z) ∙ (a.0 ∙ kind_of_same row.0 k q)
    go false q h f = f h

-- the operator of a kind is written by it
pub kind_found : (k : Kind) (r : BinaryOperator) → row_of binary_operators k ≡ Some r → binary_kind r ≡ k
kind_found k r e = found binary_operators (refl, (refl, (refl, (refl, (refl, (refl, (refl, (refl, (refl, (refl, (refl, (refl, (refl, (refl, (refl, (refl, (refl, (refl, (refl, (refl, (refl, (refl, tt)))))))))))))))))))))) k r e

pub different : (a k : Kind) → (k ≡ a → ⊥) → same_kind a k ≡ false
different a k n = go (same_kind a k) refl
  where
    go : (b : Bool) → same_kind a k ≡ b → b ≡ false
    go true e = absurd (n (sym (kind_of_same a k e)))
    go false e = refl

-- another one than those of logical expressions is that of a binary one
pub no_logical : (k : Kind) → (k ≡ Pipe2 → ⊥) → (k ≡ Amp2 → ⊥) → binary_expression ≡ cond (one_of_kinds (Pipe2 ∷ Amp2 ∷ []) k) logical_expression binary_expression
no_logical k p a = rw (different Pipe2 k p, different Amp2 k a) refl
