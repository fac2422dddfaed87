-- What the parse functions of ImportCall and ImportMeta answer (ECMA-262, 13.3.10 and 13.3.12).
use Rattle.std.specs.Prelude.{ℕ, ◌≡◌, ◌≤◌, ◌⊎◌, true, false, List, [], ◌∷◌, ◌++◌, Option, IsCharBoundary, Result, Ok, Err}
use Rattle.js_base.specs.declared.diagnostic.Diagnostic.{Diagnostic}
use Rattle.js_base.specs.declared.diagnostic.DiagnosticKind.TheVariants as fault
use Rattle.js_base.specs.declared.kind.Kind.TheVariants.{Comma, Dot, Import, Meta, RParen}
use Rattle.js_base.specs.declared.span.Span.{Span}
use Rattle.js_grammar.specs.Trees.{Label, end, import_expression, no_op}
use Rattle.js_grammar.specs.Grammar.{empty_slot, nothing, ◌▸◌, ◌◇◌}
use Rattle.js_grammar.specs.Marks.{EdgeOf}
use Rattle.js_grammar.specs.Parsing.{Fails, full, plain}
use Rattle.js_grammar.specs.Productions.{G, Flags, Assignment, plus_in, tok}
use Rattle.js_grammar.specs.Productions.{sym as symbol}
use Rattle.js_grammar.specs.Table.{rule}
use Rattle.laws_shared.specs.js_tree.declared.id.NodeId.{NodeId}
use Rattle.laws_shared.specs.js_cursor.Moves.{KeepsDiagnostic}
use Rattle.laws_shared.specs.js_cursor.Parsers.{Parser}
use Rattle.laws_shared.specs.js_cursor.Starts.{is_module}
use Rattle.laws_shared.specs.js_cursor.Places.{goal}
use Rattle.laws_shared.specs.js_cursor.declared.stop.Stop.{Stop}
use Rattle.laws_shared.specs.Answers.{Stops}
use Rattle.laws_shared.specs.Arguments.{Partway}
use Rattle.laws_shared.specs.Lexemes.{Lex}
use Rattle.laws_shared.specs.Moves.{MadeHere, Moved, Moves}
use Rattle.laws_shared.specs.Stands.{StandsHere}
use Rattle.laws_shared.specs.States.{At}
use Rattle.laws_shared.specs.Told.{unrelated_at}
use Rattle.laws_primary.specs.Members.{MemberOutcome, import_arguments}

-- the lexemes of ImportMeta
abbrev pub meta_slots : G
meta_slots = tok Import ▸ tok Dot ▸ tok Meta

-- what is told of `import.meta` in no module, and of an ImportCall behind `new`, from a place on
abbrev pub outside_module_at : Span → Diagnostic
outside_module_at s = unrelated_at fault.ImportMeta s

abbrev pub behind_new_at : ℕ → ℕ → Diagnostic
behind_new_at from to = unrelated_at fault.NewDynamicImport (record { start = from; end = to })

-- `import` was passed, which begins at a place; a lexeme was passed last.
pub record BehindWord (start : ℕ) (p : Parser) : Type 0 where
  pub begins : EdgeOf (goal p) p.text start
  pub ends : EdgeOf (goal p) p.text p.prev_token_end
  pub between : IsCharBoundary p.text start
  pub before : start ≤ p.prev_token_end

-- That was told, at another goal than a module's; or it may stand here.
abbrev pub ChecksMeta : Span → Parser → Parser → Type 0
ChecksMeta span old new = ((is_module old.source_type ≡ false) × KeepsDiagnostic (outside_module_at span) old new) ⊎ ((is_module old.source_type ≡ true) × (new ≡ old))

-- From the state o, where `import` stood, up to the old one this word was passed.
abbrev pub TakesMeta : ℕ → Parser → Parser → Result NodeId Stop → Type 0
TakesMeta start p q r = (text : List ℕ) (f : Flags) (o : Parser) → At text f o → StandsHere o Import true → start ≡ o.token.span.start → Moved text f o p → MemberOutcome text f o q r

-- ---- ImportCall

abbrev pub import_label : ℕ → ℕ → Label
import_label from to = record { kind = import_expression; op = no_op; flags = 0; span = record { from = from; to = to } }

-- what its node was made of
pub record CalledImport (start : ℕ) (p q : Parser) (id : NodeId) : Type 0 where
  pub behind : Parser
  pub children : List (Option NodeId)
  pub part : (text : List ℕ) (f : Flags) → At text f p → Partway text f (import_arguments f) nothing p behind [] children
  pub made : MadeHere (import_label start behind.prev_token_end) children behind q id

abbrev pub MakesImport : ℕ → Parser → Parser → Result NodeId Stop → Type 0
MakesImport start p q (Ok id) = CalledImport start p q id
MakesImport start p q (Err e) = (text : List ℕ) (f : Flags) → At text f p → Stops p q e (Fails rule (Lex text) (plain full) end (import_arguments f) p.prev_token_end)

-- The same, as it is read from left to right: behind the first argument a comma and a second one, or none, and a comma behind either.
abbrev pub import_end : G
import_end = tok Comma ▸ tok RParen ◇ tok RParen

abbrev pub import_options : Flags → G
import_options f = tok Comma ▸ symbol Assignment (plus_in f) ▸ import_end ◇ empty_slot ▸ import_end

-- the closing parenthesis was passed
abbrev pub ClosesImport : Parser → Parser → Result (Unit {0}) Stop → Type 0
ClosesImport p q (Ok x) = StandsHere p RParen true × Moves p q
ClosesImport p q (Err e) = (text : List ℕ) (f : Flags) → At text f p → Stops p q e (Fails rule (Lex text) (plain full) end (tok RParen) p.prev_token_end)

abbrev pub EndsImport : Parser → Parser → Result (Unit {0}) Stop → Type 0
EndsImport p q (Ok x) = (text : List ℕ) (f : Flags) → At text f p → (ids : List (Option NodeId)) → Partway text f import_end nothing p q ids ids
EndsImport p q (Err e) = (text : List ℕ) (f : Flags) → At text f p → Stops p q e (Fails rule (Lex text) (plain full) end import_end p.prev_token_end)

-- what stands behind the first argument was read, with a second one or none
abbrev pub ReadsOptions : Parser → Parser → Result (Option NodeId) Stop → Type 0
ReadsOptions p q (Ok r) = (text : List ℕ) (f : Flags) → At text f p → (ids : List (Option NodeId)) → Partway text f (import_options f) nothing p q ids (ids ++ r ∷ [])
ReadsOptions p q (Err e) = (text : List ℕ) (f : Flags) → At text f p → Stops p q e (Fails rule (Lex text) (plain full) end (import_options f) p.prev_token_end)
