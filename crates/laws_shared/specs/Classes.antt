-- Of which classes the diagnostics are that a parser keeps.
use Rattle.std.specs.Prelude.{◌≡◌, Bool, true, false, List, [], ◌∷◌, ◌++◌}
use Rattle.std.specs.List.{All}
use Rattle.js_base.specs.declared.diagnostic.Diagnostic.{Diagnostic}
use Rattle.js_base.specs.declared.diagnostic.DiagnosticClass.{DiagnosticClass}
use Rattle.js_base.specs.declared.diagnostic.DiagnosticClass.TheVariants.{Lexical, Syntax, Form, Early}
use Rattle.js_base.specs.Diagnostics.{class_of}

-- reading goes on behind it
abbrev pub IsEarly : Diagnostic → Type 0
IsEarly d = class_of d.kind ≡ Early

-- the classes that end a parse: no lexeme stands there, another one is due there, or a form of another language stands there
abbrev pub ends_parse : DiagnosticClass → Bool
ends_parse Lexical = true
ends_parse Syntax = true
ends_parse Form = true
ends_parse _ = false

abbrev pub EndsParse : Diagnostic → Type 0
EndsParse d = ends_parse (class_of d.kind) ≡ true

-- The last diagnostic ended the parse; behind those before it reading went on.
pub record EndedByLast (found : List Diagnostic) : Type 0 where
  pub before : List Diagnostic
  pub last : Diagnostic
  pub is : found ≡ before ++ last ∷ []
  pub early : All IsEarly before
  pub ends : EndsParse last
