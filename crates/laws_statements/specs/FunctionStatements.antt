-- Declarations of functions as the bodies of other statements (ECMA-262, B.3.1, B.3.3).
use Rattle.std.specs.Prelude.{◌≡◌, ◌⊎◌, ◌||◌, Bool, true, false}
use Rattle.js_base.specs.declared.diagnostic.Diagnostic.{Diagnostic}
use Rattle.js_base.specs.declared.diagnostic.DiagnosticKind.{DiagnosticKind}
use Rattle.js_base.specs.declared.diagnostic.DiagnosticKind.TheVariants.{AsyncFunctionDeclaration, GeneratorFunctionDeclaration}
use Rattle.js_base.specs.declared.span.Span.{Span}
use Rattle.laws_shared.specs.js_cursor.Moves.{KeepsDiagnostic}
use Rattle.laws_shared.specs.js_cursor.Parsers.{Parser}
use Rattle.laws_shared.specs.Told.{unrelated_at}

-- what is told of an asynchronous function that stands so, or else of a generator
abbrev pub fault_of_body : Bool → DiagnosticKind
fault_of_body true = AsyncFunctionDeclaration
fault_of_body false = GeneratorFunctionDeclaration

abbrev pub told_of_body : Bool → Span → Diagnostic
told_of_body asynchronous head = unrelated_at (fault_of_body asynchronous) head

-- That was told of such a function; or it is none.
abbrev pub ChecksPlain : Bool → Bool → Span → Parser → Parser → Type 0
ChecksPlain asynchronous generator head old new = (((asynchronous || generator) ≡ true) × KeepsDiagnostic (told_of_body asynchronous head) old new) ⊎ (((asynchronous || generator) ≡ false) × (new ≡ old))
