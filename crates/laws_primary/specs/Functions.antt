-- Functions, asynchronous or not, generators or not (ECMA-262, 15.2, 15.5, 15.6, 15.8), and their parts.
use Rattle.std.specs.Prelude.{ℕ, ◌≡◌, ◌<◌, Bool, true, false, not, List, [], ◌∷◌, Option, Some, None, Result, Ok, Err, ◌⊎◌}
use Rattle.js_base.specs.declared.diagnostic.Diagnostic.{Diagnostic}
use Rattle.js_base.specs.declared.diagnostic.DiagnosticKind.TheVariants.{ExpectFunctionName}
use Rattle.js_base.specs.declared.kind.Kind.TheVariants.{Function as a_function, Star, Async}
use Rattle.js_base.specs.declared.span.Span.{Span}
use Rattle.js_grammar.specs.Trees.{NodeKind, end as no_slots, function_declaration, function_expression}
use Rattle.js_grammar.specs.Grammar.{Lexeme, Lexemes, nothing, ◌▸◌}
use Rattle.js_grammar.specs.Parsing.{plain, full, Fails}
use Rattle.js_grammar.specs.Productions.{G, Flags, no_newline, only, slot, sym, tok, params_of, body_of, BindingIdentifier, Body, Params}
use Rattle.js_grammar.specs.Table.{rule, function_of}
use Rattle.laws_shared.specs.js_tree.declared.id.NodeId.{NodeId}
use Rattle.laws_shared.specs.js_tree.declared.kind.NodeKind.TheVariants as node
use Rattle.laws_shared.specs.js_tree.declared.op.Op.TheVariants as op
use Rattle.laws_shared.specs.js_cursor.Moves.{GivesUp, IsUnexpected, KeepsDiagnostic}
use Rattle.laws_shared.specs.js_cursor.Parsers.{Parser}
use Rattle.laws_shared.specs.js_cursor.declared.stop.Stop.{Stop}
use Rattle.laws_shared.specs.js_cursor.declared.stop.Stop.TheVariants.{Fatal, NoMemory}
use Rattle.laws_shared.specs.Answers.{Stops}
use Rattle.laws_shared.specs.Arguments.{Partway}
use Rattle.laws_shared.specs.Lexemes.{Lex, Walked, spot}
use Rattle.laws_shared.specs.Moves.{TakesLeaf}
use Rattle.laws_shared.specs.Stands.{NameHere, NameUnder, StandsHere}
use Rattle.laws_shared.specs.States.{At, Same}
use Rattle.laws_shared.specs.Told.{unrelated_at}
use Rattle.laws_primary.specs.declared.forms.FunctionForm.{FunctionForm}
use Rattle.laws_primary.specs.declared.forms.FunctionForm.TheVariants.{Declaration, Expression}
use Rattle.laws_primary.specs.declared.forms.FunctionParts.{FunctionParts}

-- ---- where one begins

-- whether `function` stands behind the current lexeme, on its line
abbrev pub FunctionNext : Parser → Bool → Type 0
FunctionNext p true = (text : List ℕ) (f : Flags) → At text f p → (y : Lexeme) × Lex text p.token.span.end y × (y.kind ≡ a_function) × (y.escaped ≡ false) × (y.newline ≡ false)
FunctionNext p false = (text : List ℕ) (f : Flags) → At text f p → (y : Lexeme) → Lex text p.token.span.end y → y.kind ≡ a_function → y.escaped ≡ false → y.newline ≡ false → ⊥

abbrev pub FunctionBehind : Parser → Parser → Bool → Type 0
FunctionBehind old new b = (new ≡ old) × FunctionNext old b

-- `function` stands here, or `async` with it behind
abbrev pub BeginsFunction : Parser → Type 0
BeginsFunction p = StandsHere p a_function true ⊎ (StandsHere p Async true × FunctionNext p true)

abbrev pub NoFunctionHere : Parser → Type 0
NoFunctionHere p = StandsHere p a_function false × (StandsHere p Async false ⊎ FunctionNext p false)

abbrev pub FunctionHere : Parser → Parser → Bool → Type 0
FunctionHere old new true = (new ≡ old) × BeginsFunction old
FunctionHere old new false = (new ≡ old) × NoFunctionHere old

-- ---- its line

-- its node
abbrev pub function_kind : FunctionForm → NodeKind
function_kind Declaration = function_declaration
function_kind Expression = function_expression

-- its name: a declaration has one
abbrev pub name_part : FunctionForm → Bool → Bool → Flags → G
name_part Declaration a s f = sym BindingIdentifier f
name_part Expression a s f = slot (sym BindingIdentifier (params_of a s f))

-- what is behind `function`, and behind the star of a generator
abbrev pub behind_star : FunctionForm → Bool → Bool → Flags → G
behind_star form a s f = name_part form a s f ▸ sym Params (params_of a s f) ▸ sym Body (body_of a s f)

-- the slots of a function; with a, of an asynchronous one, and with s, of a generator
abbrev pub function_slots : FunctionForm → Bool → Bool → Flags → G
function_slots form a s f = only a (tok Async ▸ no_newline) ▸ tok a_function ▸ only s (tok Star) ▸ behind_star form a s f

-- its line
abbrev pub function_line : FunctionForm → Bool → Bool → Flags → G
function_line form a s f = function_of (function_kind form) (name_part form a s f) a s f

-- none of the four is derived from the place
abbrev pub NoFunction : List ℕ → FunctionForm → Flags → ℕ → Type 0
NoFunction text form f s = (a b : Bool) → Fails rule (Lex text) (plain full) no_slots (function_line form a b f) s

-- What was read up to the end of the parameters.
pub record HeadRead (text : List ℕ) (f : Flags) (old new : Parser) (to : ℕ) : Type 0 where
  pub mid : Parser
  pub at : At text f mid
  pub same : Same old mid
  pub later : Same mid new
  pub pass : Lexemes → Lexemes
  pub walked : Walked text (spot old) (spot mid) pass
  pub further : old.token.span.start < mid.prev_token_end
  pub is : to ≡ mid.prev_token_end

-- The parts were read, of one of the four; of the others none is derived.
pub record PartsTaken (text : List ℕ) (f : Flags) (form : FunctionForm) (old new : Parser) (r : FunctionParts) : Type 0 where
  pub whole : Partway text f (function_slots form r.is_async r.is_generator f) nothing old new [] (r.name ∷ Some r.parameters ∷ Some r.body ∷ [])
  pub other : Fails rule (Lex text) (plain full) no_slots (function_line form r.is_async (not r.is_generator) f) old.prev_token_end
  pub others : (b : Bool) → Fails rule (Lex text) (plain full) no_slots (function_line form (not r.is_async) b f) old.prev_token_end
  pub head : HeadRead text f old new r.head_end

abbrev pub TakesParts : FunctionForm → Parser → Parser → Result FunctionParts Stop → Type 0
TakesParts form old new (Ok r) = (text : List ℕ) (f : Flags) → At text f old → PartsTaken text f form old new r
TakesParts form old new (Err e) = (text : List ℕ) (f : Flags) → At text f old → Stops old new e (NoFunction text form f old.prev_token_end)

-- what is told of a declaration without a name
abbrev pub nameless : Span → Diagnostic
nameless s = unrelated_at ExpectFunctionName s

-- whether its name stands here: that of an expression is a name by the parameters of the function itself
abbrev pub NamesFunction : FunctionForm → Bool → Bool → Parser → Bool → Type 0
NamesFunction Declaration asynchronous generator p b = NameHere p b
NamesFunction Expression asynchronous generator p b = NameUnder generator asynchronous p b

-- The name of a function, or none.
abbrev pub TakesName : FunctionForm → Bool → Bool → Parser → Parser → Result (Option NodeId) Stop → Type 0
TakesName form asynchronous generator old new (Ok (Some id)) = NamesFunction form asynchronous generator old true × TakesLeaf node.BindingIdentifier op.None old new id
TakesName Expression asynchronous generator old new (Ok None) = NameUnder generator asynchronous old false × (new ≡ old)
TakesName Declaration asynchronous generator old new (Ok None) = NameHere old false × KeepsDiagnostic (nameless old.token.span) old new
TakesName form asynchronous generator old new (Err Fatal) = (form ≡ Declaration) × NameHere old false × GivesUp (IsUnexpected old) old new Fatal
TakesName form asynchronous generator old new (Err NoMemory) = Unit {0}
