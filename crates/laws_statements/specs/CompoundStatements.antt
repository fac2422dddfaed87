-- Statements that hold other ones (ECMA-262, 14.6, 14.7.2, 14.7.3, 14.11).
use Rattle.std.specs.Prelude.{ℕ, ◌≡◌, ◌<◌, ◌⊎◌, true, false, List, length, Option, Some, None, Result, Ok, Err}
use Rattle.js_base.specs.declared.kind.Kind.TheVariants.{Else, While, With}
use Rattle.js_grammar.specs.Trees.{Label, Slots, end as no_slots, tree}
use Rattle.js_grammar.specs.Grammar.{Lexemes, nothing}
use Rattle.js_grammar.specs.Parsing.{Fails, full, plain}
use Rattle.js_grammar.specs.Productions.{G, Flags, at, parens, sym, Expression, Sub}
use Rattle.js_grammar.specs.Table.{rule}
use Rattle.laws_shared.specs.js_tree.declared.id.NodeId.{NodeId}
use Rattle.laws_shared.specs.js_tree.declared.kind.NodeKind.{NodeKind}
use Rattle.laws_shared.specs.js_tree.declared.kind.NodeKind.TheVariants.{WhileStatement, WithStatement}
use Rattle.laws_shared.specs.js_tree.Holding.{Holds, Keeps}
use Rattle.laws_shared.specs.js_cursor.Parsers.{Parser}
use Rattle.laws_shared.specs.js_cursor.declared.stop.Stop.{Stop}
use Rattle.laws_shared.specs.js_cursor.declared.stop.Stop.TheVariants.{Fatal, NoMemory}
use Rattle.laws_shared.specs.Answers.{Verdict, Stretch, Stops}
use Rattle.laws_shared.specs.Lexemes.{Lex, Walked, spot}
use Rattle.laws_shared.specs.Moves.{Moved}
use Rattle.laws_shared.specs.Stands.{StandsHere}
use Rattle.laws_shared.specs.States.{At, Same}
use Rattle.laws_shared.specs.Statements.{NoStatement, Statement}

-- an Expression in parentheses
abbrev pub in_parens : Flags → G
in_parens f = parens (sym Expression f)

-- none is derived from the place
abbrev pub NoParens : List ℕ → Flags → ℕ → Type 0
NoParens text f s = Fails rule (Lex text) (plain full) no_slots (in_parens f) s

-- It was taken. Clean: whatever is derived from its beginning is this; unclean: nothing is. The Expression's node stands for its tree.
pub record ParensTaken (text : List ℕ) (f : Flags) (old new : Parser) (id : NodeId) : Type 0 where
  pub at : At text f new
  pub same : Same old new
  pub further : old.token.span.start < new.prev_token_end
  pub label : Label
  pub slots : Slots
  pub pass : Lexemes → Lexemes
  pub walked : Walked text (spot old) (spot new) pass
  pub verdict : Verdict (f.wide ≡ true) old.errors new.errors (Stretch text (plain full) (in_parens f) old.prev_token_end nothing new.prev_token_end (tree label slots) pass) (NoParens text f old.prev_token_end)
  pub holds : Holds new.nodes (length old.nodes) (length new.nodes) id.0 label slots
  pub keeps : Keeps old.nodes new.nodes

abbrev pub ParensOutcome : List ℕ → Flags → Parser → Parser → Result NodeId Stop → Type 0
ParensOutcome text f old new (Ok id) = ParensTaken text f old new id
ParensOutcome text f old new (Err e) = Stops old new e (NoParens text f old.prev_token_end)

-- what its parse function answers
abbrev pub TakesParens : Parser → Parser → Result NodeId Stop → Type 0
TakesParens old new r = (text : List ℕ) (f : Flags) → At text f old → ParensOutcome text f old new r

-- the word stands here that such a node begins with
abbrev pub HeadsHere : NodeKind → Parser → Type 0
HeadsHere kind p = ((kind ≡ WhileStatement) × StandsHere p While true) ⊎ ((kind ≡ WithStatement) × StandsHere p With true)

-- `else` was passed, and a Statement was taken behind it.
pub record AlternateTaken (text : List ℕ) (f : Flags) (old new : Parser) (id : NodeId) : Type 0 where
  pub mid : Parser
  pub moved : Moved text f old mid
  pub taken : Statement text f (at Sub f) mid new id

-- It was passed, and none is derived behind it.
pub record AlternateStops (text : List ℕ) (f : Flags) (old new : Parser) (e : Stop) : Type 0 where
  pub mid : Parser
  pub moved : Moved text f old mid
  pub stops : Stops mid new e (NoStatement text (at Sub f) mid.prev_token_end)

-- What was read behind the consequent of an `if`; none, where no `else` stands here.
abbrev pub TakesAlternate : Parser → Parser → Result (Option NodeId) Stop → Type 0
TakesAlternate old new (Ok None) = StandsHere old Else false × (new ≡ old)
TakesAlternate old new (Ok (Some id)) = StandsHere old Else true × ((text : List ℕ) (f : Flags) → At text f old → AlternateTaken text f old new id)
TakesAlternate old new (Err Fatal) = StandsHere old Else true × ((text : List ℕ) (f : Flags) → At text f old → AlternateStops text f old new Fatal)
TakesAlternate old new (Err NoMemory) = Unit {0}
