-- Lists of statements in braces (ECMA-262, 14.2, 15.2).
use Rattle.std.specs.Prelude.{ℕ, ◌<◌, List, length, Option, ◌≡◌, true}
use Rattle.js_grammar.specs.Trees.{Slots, end as no_slots}
use Rattle.js_grammar.specs.Grammar.{Lexemes, nothing}
use Rattle.js_grammar.specs.Parsing.{Fails, full, plain}
use Rattle.js_grammar.specs.Productions.{G, Flags, braces}
use Rattle.js_grammar.specs.Table.{rule}
use Rattle.laws_shared.specs.js_tree.declared.id.NodeId.{NodeId}
use Rattle.laws_shared.specs.js_tree.Holding.{HoldsAll, Keeps}
use Rattle.laws_shared.specs.js_cursor.Parsers.{Parser}
use Rattle.laws_shared.specs.js_cursor.declared.stop.Stop.{Stop}
use Rattle.laws_shared.specs.Answers.{Verdict, Stretch, Stops}
use Rattle.laws_shared.specs.Lexemes.{Lex, Walked, spot}
use Rattle.laws_shared.specs.States.{At, Same}
use Rattle.laws_statements.specs.StatementLists.{list_of}
use Rattle.laws_statements.specs.declared.forms.StatementList.{StatementList}

-- the list with its braces
abbrev pub in_braces : StatementList → Flags → G
in_braces l f = braces (list_of l f)

-- none is derived from the place
abbrev pub NoBraces : List ℕ → StatementList → Flags → ℕ → Type 0
NoBraces text l f s = Fails rule (Lex text) (plain full) no_slots (in_braces l f) s

-- It was taken. Clean: whatever is derived from its beginning is this; unclean: nothing is. The nodes stand for its trees.
pub record BracesTaken (text : List ℕ) (f : Flags) (l : StatementList) (old new : Parser) (ids : List (Option NodeId)) : Type 0 where
  pub at : At text f new
  pub same : Same old new
  pub further : old.token.span.start < new.prev_token_end
  pub slots : Slots → Slots
  pub pass : Lexemes → Lexemes
  pub walked : Walked text (spot old) (spot new) pass
  pub verdict : Verdict (f.wide ≡ true) old.errors new.errors (Stretch text (plain full) (in_braces l f) old.prev_token_end nothing new.prev_token_end slots pass) (NoBraces text l f old.prev_token_end)
  pub holds : HoldsAll new.nodes (length old.nodes) (length new.nodes) ids (slots no_slots)
  pub keeps : Keeps old.nodes new.nodes

abbrev pub TakesBraces : StatementList → Parser → Parser → List (Option NodeId) → Type 0
TakesBraces l old new ids = (text : List ℕ) (f : Flags) → At text f old → BracesTaken text f l old new ids

abbrev pub NoBracesHere : StatementList → Parser → Parser → Stop → Type 0
NoBracesHere l old new e = (text : List ℕ) (f : Flags) → At text f old → Stops old new e (NoBraces text l f old.prev_token_end)
