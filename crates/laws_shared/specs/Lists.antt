-- Lists between brackets, as far as they were read: one item more with its comma, or the last one, and then the closing bracket is due.
use Rattle.std.specs.Prelude.{ℕ, ◌≡◌, ◌<◌, ◌≤◌, Bool, true, false, List, [], Option, length, Result, Ok, Err}
use Rattle.js_base.specs.declared.kind.Kind.{Kind}
use Rattle.js_grammar.specs.Trees.{Slots, end, append}
use Rattle.js_grammar.specs.Grammar.{Lexemes}
use Rattle.js_grammar.specs.Parsing.{plain, full, Fails}
use Rattle.js_grammar.specs.Productions.{G, Flags, Symbol, tok}
use Rattle.js_grammar.specs.Table.{rule}
use Rattle.js_cursor.specs.js_tree.declared.id.NodeId.{NodeId}
use Rattle.js_cursor.specs.js_tree.Holding.{HoldsAll, Keeps}
use Rattle.js_cursor.specs.Parsers.{Parser}
use Rattle.js_cursor.specs.declared.stop.Stop.{Stop}
use Rattle.laws_shared.specs.Lexemes.{Lex, Walked, spot}
use Rattle.laws_shared.specs.States.{At, Same}
use Rattle.laws_shared.specs.Answers.{Verdict, Stretch, Stops}
use Rattle.laws_shared.specs.Arguments.{ItemOutcome}

-- what is left of a list: where another item may stand, or the closing bracket alone
abbrev pub left_when : G → Kind → Bool → G
left_when g k true = g
left_when g k false = tok k

-- nothing goes on so from the place
abbrev pub NoneLeft : List ℕ → G → ℕ → Type 0
NoneLeft text g s = Fails rule (Lex text) (plain full) end g s

-- From g there is left g' to be read, behind the children ids, with the children js; maybe nothing was passed.
pub record OneMore (text : List ℕ) (f : Flags) (g g' : G) (p q : Parser) (ids js : List (Option NodeId)) : Type 0 where
  pub at : At text f q
  pub same : Same p q
  pub forward : p.prev_token_end ≤ q.prev_token_end
  pub slots : Slots → Slots
  pub puts : (us : Slots) → slots us ≡ append (slots end) us
  pub pass : Lexemes → Lexemes
  pub walked : Walked text (spot p) (spot q) pass
  pub verdict : Verdict (f.wide ≡ true) p.errors q.errors (Stretch text (plain full) g p.prev_token_end g' q.prev_token_end slots pass) (NoneLeft text g p.prev_token_end)
  pub holds : (lo : ℕ) (us : Slots) → HoldsAll p.nodes lo (length p.nodes) ids us → HoldsAll q.nodes lo (length q.nodes) js (append us (slots end))
  pub keeps : Keeps p.nodes q.nodes

-- An item and its comma were read, or an item, or none: whether another may stand behind it, where k closes the list.
abbrev pub ReadsOneMore : (Flags → G) → Kind → List (Option NodeId) → List (Option NodeId) → Parser → Parser → Result Bool Stop → Type 0
ReadsOneMore g k ids js p q (Ok more) = (more ≡ true → p.prev_token_end < q.prev_token_end) × ((text : List ℕ) (f : Flags) → At text f p → OneMore text f (g f) (left_when (g f) k more) p q ids js)
ReadsOneMore g k ids js p q (Err e) = (text : List ℕ) (f : Flags) → At text f p → Stops p q e (NoneLeft text (g f) p.prev_token_end)

-- the list up to its closing bracket
abbrev pub ListRead : (Flags → G) → Kind → List (Option NodeId) → Parser → Parser → Type 0
ListRead g k ids p q = (text : List ℕ) (f : Flags) → At text f p → OneMore text f (g f) (tok k) p q [] ids

abbrev pub ListStops : (Flags → G) → Parser → Parser → Stop → Type 0
ListStops g p q e = (text : List ℕ) (f : Flags) → At text f p → Stops p q e (NoneLeft text (g f) p.prev_token_end)

-- an item of a list: whatever is derived from its beginning before a comma or a closing bracket
abbrev pub ReadsItem : (Flags → Symbol) → Parser → Parser → Result NodeId Stop → Type 0
ReadsItem n p q r = (text : List ℕ) (f : Flags) → At text f p → ItemOutcome text f (n f) p q r
