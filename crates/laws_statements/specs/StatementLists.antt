-- What is taken of directives and statements, one behind the other, up to what ends the list (ECMA-262, 11.2.1, 14.2, 14.12, 15.2, 16.1).
use Rattle.std.specs.Prelude.{ℕ, ◌≡◌, ◌<◌, ◌≤◌, ◌&&◌, ◌||◌, Bool, true, false, not, List, [], ◌∷◌, length, Option}
use Rattle.js_base.specs.declared.kind.Kind.{Kind}
use Rattle.js_base.specs.declared.kind.Kind.TheVariants.{Case, Default, Eof, RCurly}
use Rattle.js_base.specs.Kinds.{same_kind, one_of_kinds}
use Rattle.js_grammar.specs.Trees.{Label, Slots, end as no_slots, tree, append}
use Rattle.js_grammar.specs.Grammar.{Lexemes, Look, many}
use Rattle.js_grammar.specs.Parsing.{plain, Fails}
use Rattle.js_grammar.specs.Productions.{G, Flags, Name, sym, Item, ListItem}
use Rattle.js_grammar.specs.Table.{rule, directives_then}
use Rattle.laws_shared.specs.js_tree.declared.id.NodeId.{NodeId}
use Rattle.laws_shared.specs.js_tree.Holding.{Holds, HoldsAll, Keeps}
use Rattle.laws_shared.specs.js_cursor.Parsers.{Parser}
use Rattle.laws_shared.specs.js_cursor.Moves.{is_last}
use Rattle.laws_shared.specs.js_cursor.declared.stop.Stop.{Stop}
use Rattle.laws_shared.specs.Lexemes.{Lex, Walked, spot}
use Rattle.laws_shared.specs.States.{At, Same}
use Rattle.laws_shared.specs.Answers.{Verdict, Stretch, Stops}
use Rattle.laws_statements.specs.declared.forms.StatementList.{StatementList}
use Rattle.laws_statements.specs.declared.forms.StatementList.TheVariants.{Text, Block, Body, Clause}

-- whether it begins with directives
abbrev pub has_directives : StatementList → Bool
has_directives Text = true
has_directives Block = false
has_directives Body = true
has_directives Clause = false

-- a lexeme of this kind ends it
abbrev pub ends_at : StatementList → Kind → Bool
ends_at Text k = same_kind Eof k
ends_at Block k = same_kind RCurly k
ends_at Body k = same_kind RCurly k
ends_at Clause k = one_of_kinds (Case ∷ Default ∷ RCurly ∷ []) k

abbrev pub at_end : StatementList → Look
at_end l k w e = ends_at l k && not e

-- that lexeme, or the text's end, or what begins no lexeme
abbrev pub ends_list : StatementList → Kind → Bool
ends_list l k = ends_at l k || is_last k

-- it stands in braces
abbrev pub ends_in_brace : StatementList → Bool
ends_in_brace Text = false
ends_in_brace Block = true
ends_in_brace Body = true
ends_in_brace Clause = false

-- its items
abbrev pub item_of : StatementList → Name
item_of Text = Item
item_of Block = ListItem
item_of Body = ListItem
item_of Clause = ListItem

-- directives and then statements; statements alone
abbrev pub with_directives : StatementList → Flags → G
with_directives l f = directives_then (item_of l) f

abbrev pub statements : StatementList → Flags → G
statements l f = many (sym (item_of l) f)

-- the whole of it
abbrev pub list_of : StatementList → Flags → G
list_of Text f = with_directives Text f
list_of Block f = statements Block f
list_of Body f = with_directives Body f
list_of Clause f = statements Clause f

-- nothing is derived from the place up to what ends the list
abbrev pub NoList : List ℕ → StatementList → G → ℕ → Type 0
NoList text l g s = Fails rule (Lex text) (plain (at_end l)) no_slots g s

-- One directive or statement was taken, by which of g there is left g'; clean or not, its node stands for its tree.
pub record OneTaken (text : List ℕ) (f : Flags) (l : StatementList) (g g' : G) (old new : Parser) (id : NodeId) : Type 0 where
  pub at : At text f new
  pub same : Same old new
  pub further : old.token.span.start < new.prev_token_end
  pub label : Label
  pub slots : Slots
  pub pass : Lexemes → Lexemes
  pub walked : Walked text (spot old) (spot new) pass
  pub verdict : Verdict (f.wide ≡ true) old.errors new.errors (Stretch text (plain (at_end l)) g old.prev_token_end g' new.prev_token_end (tree label slots) pass) (NoList text l g old.prev_token_end)
  pub holds : Holds new.nodes (length old.nodes) (length new.nodes) id.0 label slots
  pub keeps : Keeps old.nodes new.nodes

-- Some were taken, one behind the other.
pub record Taken (text : List ℕ) (f : Flags) (l : StatementList) (g g' : G) (old new : Parser) (ids : List (Option NodeId)) : Type 0 where
  pub at : At text f new
  pub same : Same old new
  pub further : old.prev_token_end ≤ new.prev_token_end
  pub slots : Slots → Slots
  pub appends : (us : Slots) → slots us ≡ append (slots no_slots) us
  pub pass : Lexemes → Lexemes
  pub walked : Walked text (spot old) (spot new) pass
  pub verdict : Verdict (f.wide ≡ true) old.errors new.errors (Stretch text (plain (at_end l)) g old.prev_token_end g' new.prev_token_end slots pass) (NoList text l g old.prev_token_end)
  pub holds : HoldsAll new.nodes (length old.nodes) (length new.nodes) ids (slots no_slots)
  pub keeps : Keeps old.nodes new.nodes

-- A directive was taken, or a statement that begins with a string and is none: in each list that has directives.
abbrev pub OpeningTaken : Parser → Parser → NodeId → Bool → Type 0
OpeningTaken old new id true = (l : StatementList) (text : List ℕ) (f : Flags) → At text f old → OneTaken text f l (with_directives l f) (with_directives l f) old new id
OpeningTaken old new id false = (l : StatementList) (text : List ℕ) (f : Flags) → At text f old → OneTaken text f l (with_directives l f) (statements l f) old new id

-- neither can be taken
abbrev pub OpeningRefused : Parser → Parser → Stop → Type 0
OpeningRefused old new e = (l : StatementList) (text : List ℕ) (f : Flags) → At text f old → Stops old new e (NoList text l (with_directives l f) old.prev_token_end)

-- directives or statements were taken, and statements may follow
abbrev pub DirectivesTaken : StatementList → Parser → Parser → List (Option NodeId) → Type 0
DirectivesTaken l old new ids = (text : List ℕ) (f : Flags) → At text f old → Taken text f l (list_of l f) (statements l f) old new ids

-- all was taken up to what ends the list, or to the text's end, or to where no lexeme stands
abbrev pub AllTaken : StatementList → Parser → Parser → List (Option NodeId) → Type 0
AllTaken l old new ids = (ends_list l new.token.kind ≡ true) × DirectivesTaken l old new ids

-- it can't be taken
abbrev pub AllRefused : StatementList → Parser → Parser → Stop → Type 0
AllRefused l old new e = (text : List ℕ) (f : Flags) → At text f old → Stops old new e (NoList text l (list_of l f) old.prev_token_end)
