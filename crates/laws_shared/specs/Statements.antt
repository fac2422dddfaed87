-- What the parse functions of statements answer (ECMA-262, chapter 14).
use Rattle.std.specs.Prelude.{ℕ, ◌≡◌, ◌<◌, ◌⊎◌, Bool, true, false, not, ◌&&◌, List, [], ◌∷◌, length, Result, Ok, Err}
use Rattle.js_base.specs.declared.kind.Kind.{Kind}
use Rattle.js_base.specs.declared.kind.Kind.TheVariants.{At as at_sign, Break, Class, Colon, Const, Continue, Debugger, Do, Dot, Else, For, Function, If, LCurly, QuestionDot, Return, Semicolon, Switch, Throw, Try, Var, While, With, Arrow}
use Rattle.js_base.specs.Contexts.{has_flag, yield_flag, await_flag}
use Rattle.js_base.specs.Kinds.{same_kind, one_of_kinds}
use Rattle.js_base.specs.declared.span.Span.{Span}
use Rattle.js_base.specs.declared.token.Token.{Token}
use Rattle.js_grammar.specs.Trees.{Label, Slots, end as no_slots, tree}
use Rattle.js_grammar.specs.Grammar.{Lexeme, Lexemes, Look, such, nothing}
use Rattle.js_grammar.specs.Follow.{edge_of, widest, by_tree}
use Rattle.js_grammar.specs.Parsing.{Test, Fails, always}
use Rattle.js_grammar.specs.Productions.{Flags, Symbol, at, Expression, ListItem, Sub}
use Rattle.js_grammar.specs.Table.{rule}
use Rattle.js_cursor.specs.js_tree.declared.id.NodeId.{NodeId}
use Rattle.js_cursor.specs.js_tree.Holding.{Holds, Keeps}
use Rattle.js_cursor.specs.Parsers.{Parser}
use Rattle.js_cursor.specs.Moves.{Ends, MayEnd}
use Rattle.js_cursor.specs.declared.stop.Stop.{Stop}
use Rattle.laws_shared.specs.Lexemes.{Lex, Walked, may_name, spot}
use Rattle.laws_shared.specs.States.{At, Same}
use Rattle.laws_shared.specs.Answers.{Verdict, Stretch, Stops, Numbered}

-- These begin no statement. Behind `++` and `--` they go on with nothing either, and yet no semicolon is left out before them (12.10).
abbrev pub link_kinds : List Kind
link_kinds = Dot ∷ QuestionDot ∷ Arrow ∷ []

-- These begin a statement, and neither an expression statement nor a label.
abbrev pub statement_kinds : List Kind
statement_kinds = LCurly ∷ Semicolon ∷ If ∷ Do ∷ While ∷ With ∷ Break ∷ Continue ∷ Return ∷ Function ∷ Throw ∷ Switch ∷ Try ∷ For ∷ Debugger ∷ Var ∷ Const ∷ Class ∷ at_sign ∷ []

-- nor does a colon: behind a name it makes a label
abbrev pub no_link : Look
no_link k w e = not (same_kind Colon k) && not (one_of_kinds link_kinds k)

-- what may stand behind a statement, by the tree that it was read as
abbrev pub after_statement : Symbol → Test
after_statement n = record { base = λ k w e. no_link k w e && widest n.name k w e; by = by_tree n }

-- no statement of this symbol is derived from the place
abbrev pub NoStatement : List ℕ → Symbol → ℕ → Type 0
NoStatement text n s = Fails rule (Lex text) (after_statement n) no_slots (such n always) s

-- behind a tree that ends in an `if` without `else` there stands no `else`: it would be that one's (14.6)
abbrev pub Closed : List ℕ → ℕ → Label → Slots → Type 0
Closed text s l cs = (edge_of l cs).open_if ≡ true → (y : Lexeme) → Lex text s y → y.escaped ≡ false → same_kind Else y.kind ≡ false

-- A statement was taken. Clean: whatever is derived from its beginning, and stops where it may, is this; and it is derived over any lexemes that go on at least to the current one. Unclean: nothing is derived from there. A node made in the call stands for its tree.
pub record Statement (text : List ℕ) (f : Flags) (n : Symbol) (old new : Parser) (id : NodeId) : Type 0 where
  pub at : At text f new
  pub same : Same old new
  pub further : old.token.span.start < new.prev_token_end
  pub label : Label
  pub slots : Slots
  pub closed : Closed text new.prev_token_end label slots
  pub pass : Lexemes → Lexemes
  pub walked : Walked text (spot old) (spot new) pass
  pub verdict : Verdict (f.wide ≡ true) old.errors new.errors (Stretch text (after_statement n) (such n always) old.prev_token_end nothing new.prev_token_end (tree label slots) pass) (NoStatement text n old.prev_token_end)
  pub holds : Holds new.nodes (length old.nodes) (length new.nodes) id.0 label slots
  pub keeps : Keeps old.nodes new.nodes

abbrev pub StatementOutcome : List ℕ → Flags → Symbol → Parser → Parser → Result NodeId Stop → Type 0
StatementOutcome text f n old new (Ok id) = Statement text f n old new id
StatementOutcome text f n old new (Err e) = Stops old new e (NoStatement text n old.prev_token_end)

-- The answer of a parse function of a statement, under the parameters in force.
abbrev pub TakesStatement : (Flags → Symbol) → Parser → Parser → Result NodeId Stop → Type 0
TakesStatement n old new r = (text : List ℕ) (f : Flags) → At text f old → StatementOutcome text f (n f) old new r

-- a Statement, as an item of a list or as the body of another one: a variable for both
abbrev pub placed : Bool → Flags → Symbol
placed true f = at ListItem f
placed false f = at Sub f

-- the answer of a parse function of what is a Statement wherever it stands
abbrev pub TakesAnywhere : Parser → Parser → Result NodeId Stop → Type 0
TakesAnywhere old new r = (b : Bool) → TakesStatement (placed b) old new r

-- a statement's semicolon was passed or left out, and no link stands on a new line
abbrev pub EndsStatement : Parser → Parser → Type 0
EndsStatement old new = (old.token.is_on_new_line ≡ true → one_of_kinds link_kinds old.token.kind ≡ false) × Ends old new

-- Behind a token a colon stands, and the token is a name: a label.
pub record IsLabel (t : Token) (p : Parser) : Type 0 where
  pub colon : p.token.kind ≡ Colon
  pub name : may_name (has_flag yield_flag p.ctx) (has_flag await_flag p.ctx) t.kind ≡ true
  pub place : t.span.end ≡ p.prev_token_end

-- a statement doesn't end here
abbrev pub NoEnd : Parser → Type 0
NoEnd p = (one_of_kinds link_kinds p.token.kind ≡ true) ⊎ (MayEnd p → ⊥)

-- A label was read as an expression from some state on, up to the old one; with what is read now it is a LabelledStatement. So the answer is of the state where the label began.
abbrev pub LabelsStatement : Span → Parser → Parser → Result NodeId Stop → Type 0
LabelsStatement name old new r = (text : List ℕ) (f : Flags) (first : Parser) (id : NodeId) → At text f first → name ≡ first.token.span → Numbered text f (at Expression f) first old id → IsLabel first.token old → (b : Bool) → StatementOutcome text f (placed b f) first new r
