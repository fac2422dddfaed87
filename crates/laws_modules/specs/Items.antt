-- What the parse function of an item of a text answers (ECMA-262, 16.1, 16.2).
use Rattle.std.specs.Prelude.{ℕ, ◌≡◌, ◌⊎◌, Bool, true, false, List, [], ◌∷◌}
use Rattle.js_base.specs.KindSets.{binding_identifier_kinds}
use Rattle.js_base.specs.Kinds.{one_of_kinds}
use Rattle.js_base.specs.declared.diagnostic.Diagnostic.{Diagnostic}
use Rattle.js_base.specs.declared.diagnostic.DiagnosticKind.TheVariants.{ModuleCode}
use Rattle.js_base.specs.declared.kind.Kind.{Kind}
use Rattle.js_base.specs.declared.kind.Kind.TheVariants.{Dot, Import, LCurly, LParen, Star, Str}
use Rattle.js_base.specs.declared.span.Span.{Span}
use Rattle.js_grammar.specs.Grammar.{Lexeme}
use Rattle.js_grammar.specs.Productions.{Flags}
use Rattle.laws_shared.specs.js_cursor.Moves.{KeepsDiagnostic}
use Rattle.laws_shared.specs.js_cursor.Parsers.{Parser}
use Rattle.laws_shared.specs.js_cursor.Starts.{is_module}
use Rattle.laws_shared.specs.Lexemes.{Lex}
use Rattle.laws_shared.specs.Stands.{StandsHere}
use Rattle.laws_shared.specs.States.{At}
use Rattle.laws_shared.specs.Told.{unrelated_at}

-- what stands behind `import` in an expression, and in a declaration
abbrev pub import_links : List Kind
import_links = LParen ∷ Dot ∷ []

abbrev pub import_openings : List Kind
import_openings = Str ∷ Star ∷ LCurly ∷ binding_identifier_kinds

-- no lexeme of these kinds stands behind the current one
abbrev pub NoneBehind : List Kind → Parser → Type 0
NoneBehind ks p = (text : List ℕ) (f : Flags) → At text f p → (y : Lexeme) → Lex text p.token.span.end y → one_of_kinds ks y.kind ≡ true → ⊥

-- `import` stands here, and neither a parenthesis nor a dot behind it; or no declaration begins here
abbrev pub BeginsImport : Parser → Type 0
BeginsImport p = StandsHere p Import true × NoneBehind import_links p

abbrev pub NoImportHere : Parser → Type 0
NoImportHere p = StandsHere p Import false ⊎ (StandsHere p Import true × NoneBehind import_openings p)

abbrev pub ImportHere : Parser → Parser → Bool → Type 0
ImportHere old new true = (new ≡ old) × BeginsImport old
ImportHere old new false = (new ≡ old) × NoImportHere old

-- what is told of a declaration in a text that is no module
abbrev pub outside_module : Span → Diagnostic
outside_module s = unrelated_at ModuleCode s

-- That was told of the word that stands here, at another goal than a module's; or a declaration may stand here.
abbrev pub ChecksGoal : Parser → Parser → Type 0
ChecksGoal old new = ((is_module old.source_type ≡ false) × KeepsDiagnostic (outside_module old.token.span) old new) ⊎ ((is_module old.source_type ≡ true) × (new ≡ old))
