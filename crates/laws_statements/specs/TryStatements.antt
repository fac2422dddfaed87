-- The parts of a `try` statement (ECMA-262, 14.15).
use Rattle.std.specs.Prelude.{ℕ, ◌≡◌, ◌≤◌, ◌<◌, Bool, true, false, not, List, [], ◌∷◌, length, Option, Some, None, Result, Ok, Err}
use Rattle.js_base.specs.declared.diagnostic.Diagnostic.{Diagnostic}
use Rattle.js_base.specs.declared.diagnostic.DiagnosticKind.TheVariants.{ExpectCatchFinally}
use Rattle.js_base.specs.declared.kind.Kind.{Kind}
use Rattle.js_base.specs.declared.kind.Kind.TheVariants.{Catch, Finally}
use Rattle.js_base.specs.Kinds.{one_of_kinds}
use Rattle.js_grammar.specs.Trees.{Label, Slots, end as no_slots, tree, catch_parameter}
use Rattle.js_grammar.specs.Grammar.{Lexemes, Look, empty_slot, nothing, ◌▸◌, ◌◇◌}
use Rattle.js_grammar.specs.Parsing.{Fails, full, plain}
use Rattle.js_grammar.specs.Productions.{G, Flags, mk, parens, slot, sym, tok, Binding, Block}
use Rattle.js_grammar.specs.Productions.{Catch as ACatch}
use Rattle.js_grammar.specs.Table.{rule}
use Rattle.laws_shared.specs.js_tree.declared.id.NodeId.{NodeId}
use Rattle.laws_shared.specs.js_tree.Holding.{Holds, HoldsAll, Keeps}
use Rattle.laws_shared.specs.js_cursor.Parsers.{Parser}
use Rattle.laws_shared.specs.js_cursor.declared.stop.Stop.{Stop}
use Rattle.laws_shared.specs.js_cursor.declared.stop.Stop.TheVariants.{Fatal, NoMemory}
use Rattle.laws_shared.specs.Answers.{Verdict, Stretch, Stops}
use Rattle.laws_shared.specs.Lexemes.{Lex, Walked, spot}
use Rattle.laws_shared.specs.Stands.{StandsHere}
use Rattle.laws_shared.specs.States.{At, Same}
use Rattle.laws_shared.specs.Told.{unrelated_at}

-- a CatchParameter in its parentheses
abbrev pub parameter_of : Flags → G
parameter_of f = parens (mk catch_parameter (sym Binding f))

-- a Finally
abbrev pub finally_of : Flags → G
finally_of f = tok Finally ▸ sym Block f

-- what stands behind the Block: a Catch, a Finally, or both
abbrev pub clauses_of : Flags → G
clauses_of f = sym ACatch f ▸ slot (finally_of f) ◇ empty_slot ▸ finally_of f

-- neither begins with it
abbrev pub no_clause : Look
no_clause k w e = not (one_of_kinds (Catch ∷ Finally ∷ []) k)

-- nothing of this part is derived from the place
abbrev pub NoPart : List ℕ → G → ℕ → Type 0
NoPart text g s = Fails rule (Lex text) (plain full) no_slots g s

-- A part was taken. Clean: whatever is derived from its beginning is this; unclean: nothing is. A node made in the call stands for its tree.
pub record WholePart (text : List ℕ) (f : Flags) (g : G) (old new : Parser) (id : NodeId) : Type 0 where
  pub at : At text f new
  pub same : Same old new
  pub further : old.token.span.start < new.prev_token_end
  pub label : Label
  pub slots : Slots
  pub pass : Lexemes → Lexemes
  pub walked : Walked text (spot old) (spot new) pass
  pub verdict : Verdict (f.wide ≡ true) old.errors new.errors (Stretch text (plain full) g old.prev_token_end nothing new.prev_token_end (tree label slots) pass) (NoPart text g old.prev_token_end)
  pub holds : Holds new.nodes (length old.nodes) (length new.nodes) id.0 label slots
  pub keeps : Keeps old.nodes new.nodes

-- A part that begins with a lexeme of the kind k, where that stands here.
abbrev pub TakesPart : Kind → (Flags → G) → Parser → Parser → Result (Option NodeId) Stop → Type 0
TakesPart k g old new (Ok None) = StandsHere old k false × (new ≡ old)
TakesPart k g old new (Ok (Some id)) = StandsHere old k true × ((text : List ℕ) (f : Flags) → At text f old → WholePart text f (g f) old new id)
TakesPart k g old new (Err Fatal) = StandsHere old k true × ((text : List ℕ) (f : Flags) → At text f old → Stops old new Fatal (NoPart text (g f) old.prev_token_end))
TakesPart k g old new (Err NoMemory) = Unit {0}

-- The clauses were taken, as far as they stand here. Clean: whatever is derived here before no other clause is this; unclean: nothing is. The nodes stand for the trees.
pub record ClausesTaken (text : List ℕ) (f : Flags) (old new : Parser) (handler finalizer : Option NodeId) : Type 0 where
  pub at : At text f new
  pub same : Same old new
  pub forward : old.prev_token_end ≤ new.prev_token_end
  pub slots : Slots → Slots
  pub pass : Lexemes → Lexemes
  pub walked : Walked text (spot old) (spot new) pass
  pub verdict : Verdict (f.wide ≡ true) old.errors new.errors (Stretch text (plain no_clause) (clauses_of f) old.prev_token_end nothing new.prev_token_end slots pass) (Fails rule (Lex text) (plain no_clause) no_slots (clauses_of f) old.prev_token_end)
  pub holds : HoldsAll new.nodes (length old.nodes) (length new.nodes) (handler ∷ finalizer ∷ []) (slots no_slots)
  pub keeps : Keeps old.nodes new.nodes

abbrev pub TakesClauses : Parser → Parser → Option NodeId → Option NodeId → Type 0
TakesClauses old new handler finalizer = (text : List ℕ) (f : Flags) → At text f old → ClausesTaken text f old new handler finalizer

abbrev pub NoClauses : Parser → Parser → Stop → Type 0
NoClauses old new e = (text : List ℕ) (f : Flags) → At text f old → Stops old new e (Fails rule (Lex text) (plain no_clause) no_slots (clauses_of f) old.prev_token_end)

-- neither clause stands here
abbrev pub neither : Option NodeId → Option NodeId → Bool
neither None None = true
neither _ _ = false

-- what is told of a Block of `try` without one, at its end
abbrev pub missing_at : ℕ → Diagnostic
missing_at s = unrelated_at ExpectCatchFinally (record { start = s; end = s })
