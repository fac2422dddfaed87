-- The kinds with a precedence are the operators between two operands.
use Rattle.std.proofs.Common.{◌≡◌, refl}
use Rattle.std.proofs.Math.Bool.{beq}
use Rattle.std.specs.Prelude.{is_some}
use Rattle.std.specs.Cmp.{booleans_Decides}
use Rattle.js_base.specs.Kinds.{Kind, kinds}
use Rattle.js_base.specs.Operators.{row_of}
use Rattle.js_base.specs.Precedences.{is_infix, precedences}
use Rattle.js_base.proofs.KindLemmas.{at_each}

pub is_some-precedences : (k : Kind) → is_some (row_of precedences k) ≡ is_infix k
unfolding kinds
is_some-precedences k = (booleans_Decides _ _).0 (at_each (λ k. beq (is_some (row_of precedences k)) (is_infix k)) refl k)

pub ruleset kind_laws = is_some-precedences
