-- What stands before `**` (ECMA-262, 13.6): no unary operator.
use Rattle.std.specs.Prelude.{ℕ, ◌≡◌, ◌⊎◌, ◌&&◌, ◌||◌, Bool, true, None, length}
use Rattle.js_base.specs.declared.kind.Kind.{Kind}
use Rattle.js_base.specs.declared.kind.Kind.TheVariants.{Await}
use Rattle.js_base.specs.Contexts.{reads_await}
use Rattle.js_base.specs.Kinds.{one_of_kinds, same_kind}
use Rattle.js_base.specs.declared.diagnostic.Diagnostic.{Diagnostic}
use Rattle.js_base.specs.declared.diagnostic.DiagnosticKind.TheVariants.{UnaryExponentiationLeftOperand}
use Rattle.laws_shared.specs.js_cursor.Moves.{KeepsDiagnostic}
use Rattle.laws_shared.specs.js_cursor.Parsers.{Parser}
use Rattle.laws_shared.specs.Operators.{unary_kinds}

-- a unary expression there is no base
abbrev pub unary_base : ℕ → ℕ → Diagnostic
unary_base from to = record { kind = UnaryExponentiationLeftOperand; span = record { start = from; end = to }; first = None; second = None }

-- `await` stands here, where it is an operator
pub record AwaitsHere (p : Parser) : Type 0 where
  pub kind : p.token.kind ≡ Await
  pub awaits : reads_await p.ctx ≡ true

-- what begins a UnaryExpression and no UpdateExpression: a unary operator, and `await` where it is one
abbrev pub begins_by_unary : Bool → Kind → Bool
begins_by_unary awaits k = one_of_kinds unary_kinds k || (same_kind Await k && awaits)

-- That was told; or nothing was, of a base without an operator, or where more diagnostics are kept than before the base.
abbrev pub ChecksBase : ℕ → Bool → ℕ → Parser → Parser → Type 0
ChecksBase start is_unary found old new = ((is_unary ≡ true) × KeepsDiagnostic (unary_base start old.prev_token_end) old new) ⊎ ((new ≡ old) × (is_unary ≡ true → found ≡ length old.errors → ⊥))
