-- What the parse functions of arguments answer (ECMA-262, 13.3.8): a list in parentheses, as far as it was read.
use Rattle.std.specs.Prelude.{ℕ, ◌≡◌, ◌<◌, ◌≤◌, Bool, true, false, List, [], ◌∷◌, Option, None, length, Result, Ok, Err}
use Rattle.js_base.specs.declared.kind.Kind.TheVariants.{RCurly, Comma, RParen, RBrack}
use Rattle.js_base.specs.Kinds.{one_of_kinds}
use Rattle.js_base.specs.declared.span.Span.{Span}
use Rattle.js_base.specs.declared.diagnostic.Diagnostic.{Diagnostic}
use Rattle.js_base.specs.declared.diagnostic.DiagnosticKind.TheVariants.{V8IntrinsicSpreadElem}
use Rattle.js_grammar.specs.Trees.{Label, Slots, end, tree, append}
use Rattle.js_grammar.specs.Grammar.{Lexemes, seq, such, commas, nothing, after_item}
use Rattle.js_grammar.specs.Parsing.{Test, plain, full, always, Fails}
use Rattle.js_grammar.specs.Productions.{G, Flags, Symbol, at, tok, parens, opt, plus_in, Argument, Assignment}
use Rattle.js_grammar.specs.Table.{rule}
use Rattle.js_cursor.specs.js_tree.declared.id.NodeId.{NodeId}
use Rattle.js_cursor.specs.js_tree.Holding.{Holds, HoldsAll, Keeps}
use Rattle.js_cursor.specs.Parsers.{Parser}
use Rattle.js_cursor.specs.declared.stop.Stop.{Stop}
use Rattle.laws_shared.specs.Lexemes.{Lex, Walked, spot}
use Rattle.laws_shared.specs.States.{At, Same}
use Rattle.laws_shared.specs.Answers.{Verdict, Stretch, Stops}

-- an item: an argument; or of a call of V8, which has no spread
abbrev pub item_of : Bool → Flags → Symbol
item_of true f = at Argument f
item_of false f = at Assignment (plus_in f)

abbrev pub items : Symbol → G
items n = commas true (such n always)

-- the list with its parentheses
abbrev pub list_of : Symbol → G
list_of n = parens (opt (items n))

-- what is due where an item may stand, or may be left out: the first one, or another behind a comma
abbrev pub rest_of : Bool → Symbol → G
rest_of true n = seq (opt (items n)) (tok RParen)
rest_of false n = seq (after_item true (such n always)) (tok RParen)

-- an item is due, or the end
abbrev pub due_of : Bool → Symbol → G
due_of true n = seq (items n) (tok RParen)
due_of false n = tok RParen

-- From g there is left g' to be read, behind the children ids, with the children js.
pub record Partway (text : List ℕ) (f : Flags) (g g' : G) (p q : Parser) (ids js : List (Option NodeId)) : Type 0 where
  pub at : At text f q
  pub same : Same p q
  pub further : p.token.span.start < q.prev_token_end
  pub slots : Slots → Slots
  pub puts : (us : Slots) → slots us ≡ append (slots end) us
  pub pass : Lexemes → Lexemes
  pub walked : Walked text (spot p) (spot q) pass
  pub verdict : Verdict (f.wide ≡ true) p.errors q.errors (Stretch text (plain full) g p.prev_token_end g' q.prev_token_end slots pass) (Fails rule (Lex text) (plain full) end g p.prev_token_end)
  pub holds : (lo : ℕ) (us : Slots) → HoldsAll p.nodes lo (length p.nodes) ids us → HoldsAll q.nodes lo (length q.nodes) js (append us (slots end))
  pub keeps : Keeps p.nodes q.nodes

-- A comma was passed, or none: what is due now.
pub record Due (text : List ℕ) (f : Flags) (first : Bool) (p q : Parser) (due : Bool) : Type 0 where
  pub at : At text f q
  pub same : Same p q
  pub nodes : q.nodes ≡ p.nodes
  pub kept : q.errors ≡ p.errors
  pub forward : p.prev_token_end ≤ q.prev_token_end
  pub pass : Lexemes → Lexemes
  pub walked : Walked text (spot p) (spot q) pass
  pub goes : (i : Bool) → Stretch text (plain full) (rest_of first (item_of i f)) p.prev_token_end (due_of due (item_of i f)) q.prev_token_end (λ us. us) pass
  pub closes : due ≡ false → q.token.kind ≡ RParen

abbrev pub DueOutcome : List ℕ → Flags → Bool → Parser → Parser → Result Bool Stop → Type 0
DueOutcome text f first p q (Ok due) = Due text f first p q due
DueOutcome text f first p q (Err e) = (i : Bool) → Stops p q e (Fails rule (Lex text) (plain full) end (rest_of first (item_of i f)) p.prev_token_end)

abbrev pub FindsDue : Bool → Parser → Parser → Result Bool Stop → Type 0
FindsDue first p q r = (text : List ℕ) (f : Flags) → At text f p → DueOutcome text f first p q r

abbrev pub Arguments : Bool → List (Option NodeId) → List (Option NodeId) → Parser → Parser → Type 0
Arguments i ids js p q = (text : List ℕ) (f : Flags) → At text f p → Partway text f (list_of (item_of i f)) nothing p q ids js

abbrev pub NoArguments : Bool → Parser → Parser → Stop → Type 0
NoArguments i p q e = (text : List ℕ) (f : Flags) → At text f p → Stops p q e (Fails rule (Lex text) (plain full) end (list_of (item_of i f)) p.prev_token_end)

-- ---- one item

-- what may stand behind an item: a comma, or a closing bracket
abbrev pub behind_item : Test
behind_item = plain (λ k w e. one_of_kinds (Comma ∷ RParen ∷ RBrack ∷ RCurly ∷ []) k)

abbrev pub NoItem : List ℕ → Symbol → ℕ → Type 0
NoItem text n s = Fails rule (Lex text) behind_item end (such n always) s

-- A part of a list was taken. Clean: whatever is derived from its beginning before what may stand behind it is this; unclean: nothing is. A node made in the call stands for its tree.
pub record PartTaken (text : List ℕ) (f : Flags) (g : G) (p q : Parser) (id : NodeId) : Type 0 where
  pub at : At text f q
  pub same : Same p q
  pub further : p.token.span.start < q.prev_token_end
  pub label : Label
  pub slots : Slots
  pub pass : Lexemes → Lexemes
  pub walked : Walked text (spot p) (spot q) pass
  pub verdict : Verdict (f.wide ≡ true) p.errors q.errors (Stretch text behind_item g p.prev_token_end nothing q.prev_token_end (tree label slots) pass) (Fails rule (Lex text) behind_item end g p.prev_token_end)
  pub holds : Holds q.nodes (length p.nodes) (length q.nodes) id.0 label slots
  pub keeps : Keeps p.nodes q.nodes

-- an item was
abbrev pub ItemTaken : List ℕ → Flags → Symbol → Parser → Parser → NodeId → Type 0
ItemTaken text f n p q id = PartTaken text f (such n always) p q id

abbrev pub ItemOutcome : List ℕ → Flags → Symbol → Parser → Parser → Result NodeId Stop → Type 0
ItemOutcome text f n p q (Ok id) = ItemTaken text f n p q id
ItemOutcome text f n p q (Err e) = Stops p q e (NoItem text n p.prev_token_end)

abbrev pub TakesItem : Bool → Parser → Parser → Result NodeId Stop → Type 0
TakesItem i p q r = (text : List ℕ) (f : Flags) → At text f p → ItemOutcome text f (item_of i f) p q r

-- what is told of a spread argument of a call of V8
abbrev pub spread_at : Span → Diagnostic
spread_at s = record { kind = V8IntrinsicSpreadElem; span = s; first = None; second = None }
