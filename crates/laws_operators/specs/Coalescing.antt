-- Operands with `??` between them (ECMA-262, 13.13): none is an `||` or `&&` expression without parentheses.
use Rattle.std.specs.Prelude.{ℕ, ◌≡◌, ◌⊎◌, Bool, true, false, [], ◌∷◌, None, length, Result, Ok, Err}
use Rattle.js_base.specs.declared.diagnostic.Diagnostic.{Diagnostic}
use Rattle.js_base.specs.declared.diagnostic.DiagnosticKind.TheVariants.{MixedCoalesce}
use Rattle.js_base.specs.declared.kind.Kind.TheVariants.{Amp2, Pipe2}
use Rattle.js_base.specs.Kinds.{one_of_kinds}
use Rattle.js_grammar.specs.Trees.{Op, of}
use Rattle.laws_shared.specs.js_cursor.Moves.{KeepsDiagnostic, GivesUp}
use Rattle.laws_shared.specs.js_cursor.Parsers.{Parser}
use Rattle.laws_shared.specs.js_cursor.declared.stop.Stop.{Stop}
use Rattle.laws_shared.specs.Classes.{EndsParse}

-- the operator of a node is `||` or `&&`
abbrev pub is_or_and : Op → Bool
is_or_and (of k) = one_of_kinds (Pipe2 ∷ Amp2 ∷ []) k
is_or_and _ = false

-- what is told of operands between two places, of which one is such a node
abbrev pub mixed_at : ℕ → ℕ → Diagnostic
mixed_at from to = record { kind = MixedCoalesce; span = record { start = from; end = to }; first = None; second = None }

-- That was told; or nothing was, of other operands, or where more diagnostics are kept than before the first one; or the call gave up at what stands behind.
abbrev pub ChecksMixed : ℕ → Bool → ℕ → Parser → Parser → Result (Unit {0}) Stop → Type 0
ChecksMixed start mixed found old new (Ok x) = ((mixed ≡ true) × KeepsDiagnostic (mixed_at start old.prev_token_end) old new) ⊎ ((new ≡ old) × (mixed ≡ true → found ≡ length old.errors → ⊥))
ChecksMixed start mixed found old new (Err e) = (mixed ≡ true) × GivesUp EndsParse old new e
