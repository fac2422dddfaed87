-- One lexeme on, the operator that stands at a place, and a node made there.
use Rattle.std.specs.Prelude.{ℕ, ◌≡◌, ◌<◌, ◌⊎◌, Bool, false, cond, List, [], ◌∷◌, Option, chars}
use Rattle.js_grammar.specs.Grammar.{Lexeme}
use Rattle.js_grammar.specs.Lexed.{NextLexeme, all_faults}
use Rattle.js_grammar.specs.Productions.{Flags}
use Rattle.js_base.specs.declared.kind.Kind.{Kind}
use Rattle.js_base.specs.declared.kind.Kind.TheVariants.{Amp2, Pipe2, RAngle}
use Rattle.js_base.specs.Kinds.{same_kind, one_of_kinds}
use Rattle.js_grammar.specs.Trees.{Label, of, binary_expression, logical_expression}
use Rattle.js_cursor.specs.js_lex.Reading.{Tells}
use Rattle.js_base.specs.declared.span.Span.{Span}
use Rattle.js_cursor.specs.js_tree.declared.id.NodeId.{NodeId}
use Rattle.js_cursor.specs.js_tree.declared.kind.NodeKind.{NodeKind}
use Rattle.js_cursor.specs.js_tree.declared.op.Op.{Op}
use Rattle.js_cursor.specs.js_tree.Labels.{kind_of, op_of}
use Rattle.js_cursor.specs.js_tree.Nodes.{Node, label}
use Rattle.js_cursor.specs.js_tree.Holding.{Made}
use Rattle.js_cursor.specs.js_tree.Sources.{text_of}
use Rattle.laws_shared.specs.NodeTexts.{Texted}
use Rattle.js_cursor.specs.Parsers.{Parser}
use Rattle.js_cursor.specs.Moves.{Completed, is_last}
use Rattle.js_cursor.specs.Places.{IsAt}
use Rattle.laws_shared.specs.Lexemes.{News, IsNew, onward, other_goals, spot}
use Rattle.laws_shared.specs.Operators.{power_of}
use Rattle.laws_shared.specs.Classes.{EndsParse}
use Rattle.laws_shared.specs.States.{At, Same}
use Rattle.std.specs.Prelude.{Result, Ok, Err}
use Rattle.js_cursor.specs.Moves.{GivesUp}
use Rattle.js_cursor.specs.declared.stop.Stop.{Stop}
use Rattle.js_cursor.specs.declared.stop.Stop.TheVariants.{Fatal}

-- the end of the text, or what begins no lexeme: neither is passed
abbrev pub unpassable : Kind → Bool
unpassable k = is_last k

-- the current token is the whole of a lexeme that may be passed
abbrev pub IsWholeHere : Parser → Type 0
IsWholeHere p = (p.cut ≡ false) × (unpassable p.token.kind ≡ false)

-- The current lexeme was passed, and nothing else was made or kept.
pub record Moved (text : List ℕ) (f : Flags) (old new : Parser) : Type 0 where
  pub at : At text f new
  pub same : Same old new
  pub nodes : new.nodes ≡ old.nodes
  pub kept : new.errors ≡ old.errors
  pub lexeme : Lexeme
  pub stood : NextLexeme all_faults text old.prev_token_end lexeme
  pub plain : one_of_kinds other_goals lexeme.kind ≡ false
  pub tells : Tells lexeme old.token
  pub ends : lexeme.to ≡ new.prev_token_end
  pub further : old.token.span.start < new.prev_token_end
  -- what was kept with it, and for what stands behind it
  pub news : News
  pub is_new : IsNew text (spot old) lexeme news
  pub spot_is : spot new ≡ onward (spot old) lexeme news

abbrev pub Moves : Parser → Parser → Type 0
Moves old new = (text : List ℕ) (f : Flags) → At text f old → Moved text f old new

-- The place is the same, and what stands there is told whole; the number is the operator's power.
pub record Tightness (text : List ℕ) (f : Flags) (old new : Parser) (power : ℕ) : Type 0 where
  pub at : At text f new
  pub same : Same old new
  pub nodes : new.nodes ≡ old.nodes
  pub kept : new.errors ≡ old.errors
  pub place : new.prev_token_end ≡ old.prev_token_end
  pub spot_is : spot new ≡ spot old
  pub start : new.token.span.start ≡ old.token.span.start
  pub uncut : new.cut ≡ false
  pub is : power ≡ cond new.token.escaped 0 (power_of f.in_ new.token.kind)

-- what stands here is told whole: another lexeme than one that begins with `>`, or that
abbrev pub IsCompleted : Parser → Parser → Type 0
IsCompleted old new = ((same_kind RAngle old.token.kind ≡ false) × (new ≡ old)) ⊎ (Completed old new × IsAt new)

abbrev pub OperatorHere : Parser → Parser → ℕ → Type 0
OperatorHere old new power = (text : List ℕ) (f : Flags) → At text f old → Tightness text f old new power

-- the label of a node without flags
abbrev pub plain_label : NodeKind → Op → Span → Label
plain_label k o s = record { kind = kind_of k; op = op_of o; flags = 0; span = record { from = s.start; to = s.end } }

-- A node was made, which has this label and these slots, and keeps what the text there asks for; nothing else changed.
pub record MadeHere (l : Label) (ids : List (Option NodeId)) (old new : Parser) (id : NodeId) : Type 0 where
  pub node : Node
  pub made : Made node old.nodes new.nodes id
  pub label_is : label node ≡ l
  pub children : node.children ≡ ids
  pub texted : Texted node.kind node.name (chars (text_of node old.text))
  pub stays : new ≡ record old { nodes = new.nodes }

-- A node of the lexeme that stood here, which was passed.
pub record LeafTaken (k : NodeKind) (o : Op) (text : List ℕ) (f : Flags) (old new : Parser) (id : NodeId) : Type 0 where
  pub mid : Parser
  pub moved : Moved text f old mid
  pub made : MadeHere (plain_label k o old.token.span) [] mid new id

abbrev pub TakesLeaf : NodeKind → Op → Parser → Parser → NodeId → Type 0
TakesLeaf k o old new id = (text : List ℕ) (f : Flags) → At text f old → LeafTaken k o text f old new id

-- the label of an operation, from a place to the end of what was read
abbrev pub operation_label : Kind → ℕ → ℕ → Label
operation_label k from to = record { kind = cond (one_of_kinds (Pipe2 ∷ Amp2 ∷ []) k) logical_expression binary_expression; op = of k; flags = 0; span = record { from = from; to = to } }

-- A lexeme of this kind is due here: it was passed; or it doesn't stand here, and a diagnostic was kept.
abbrev pub Passes : Kind → Parser → Parser → Result (Unit {0}) Stop → Type 0
Passes k old new (Ok x) = (old.token.kind ≡ k) × Moves old new
Passes k old new (Err e) = (e ≡ Fatal → old.token.kind ≡ k → ⊥) × GivesUp EndsParse old new e
