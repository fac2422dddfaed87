-- Operators of TypeScript behind an expression.
use Rattle.std.specs.Prelude.{ℕ, ◌≡◌, true, false, length, Option, Some, None}
use Rattle.js_base.specs.declared.diagnostic.DiagnosticKind.{DiagnosticKind}
use Rattle.js_base.specs.declared.diagnostic.DiagnosticKind.TheVariants.{AsInTs, SatisfiesInTs}
use Rattle.js_base.specs.declared.kind.Kind.TheVariants.{As, Satisfies}
use Rattle.laws_shared.specs.js_cursor.Parsers.{Parser}
use Rattle.laws_shared.specs.Stands.{StandsHere}

-- which of them is told so
abbrev pub TellsOperator : Parser → DiagnosticKind → Type 0
TellsOperator p AsInTs = StandsHere p As true
TellsOperator p SatisfiesInTs = StandsHere p Satisfies true
TellsOperator p _ = ⊥

-- one stands here, on the line of what stands before it, and nothing was told since so many diagnostics were kept
abbrev pub FindsForeign : ℕ → Parser → Option DiagnosticKind → Type 0
FindsForeign kept p None = Unit {0}
FindsForeign kept p (Some k) = (length p.errors ≡ kept) × (p.token.is_on_new_line ≡ false) × TellsOperator p k
