-- What the head of a `for` asks of its first expression: whether it may be a target before `in` or `of` (ECMA-262, 14.7.5). It is asked where `in` is no operator.
use Rattle.std.specs.Prelude.{ℕ, ◌≡◌, ◌⊎◌, false, List, [], ◌∷◌, None, Result, Ok, Err}
use Rattle.js_base.specs.declared.kind.Kind.TheVariants.{Arrow, Async, In, Of, Question}
use Rattle.js_base.specs.Kinds.{same_kind}
use Rattle.js_grammar.specs.Trees.{Label, Slots, end as no_slots}
use Rattle.js_grammar.specs.Grammar.{◌▸◌}
use Rattle.js_grammar.specs.Parsing.{plain, Fails}
use Rattle.js_grammar.specs.Productions.{Flags, at, sym, any_of, other, Short, Target}
use Rattle.js_grammar.specs.Table.{rule}
use Rattle.laws_shared.specs.js_tree.declared.id.NodeId.{NodeId}
use Rattle.laws_shared.specs.js_tree.Holding.{Holds}
use Rattle.laws_shared.specs.js_cursor.Parsers.{Parser}
use Rattle.laws_shared.specs.js_cursor.declared.stop.Stop.{Stop}
use Rattle.laws_shared.specs.js_cursor.declared.stop.Stop.TheVariants.{Fatal, NoMemory}
use Rattle.laws_shared.specs.Answers.{Numbered}
use Rattle.laws_shared.specs.Lexemes.{Lex}
use Rattle.laws_shared.specs.States.{At}
use Rattle.parse_targets.specs.Taken.{NoTargetFrom}
use Rattle.parse_targets.specs.Targets.{is_literal, target_of}

-- the node's tree is neither a literal nor a simple target, in parentheses or not
abbrev pub IsNoTarget : Parser → NodeId → Type 0
IsNoTarget p id = (lo hi : ℕ) (l : Label) (cs : Slots) → Holds p.nodes lo hi id.0 l cs → (is_literal l.kind ≡ false) × (target_of l cs ≡ None)

-- No target before `in` or `of` is derived from the place, with something else than `=>` behind that word: `async of =>` begins an arrow function.
abbrev pub NoTargetPart : List ℕ → Flags → ℕ → Type 0
NoTargetPart text f s = Fails rule (Lex text) (plain (other (λ k w e. same_kind Arrow k))) no_slots (sym Target f ▸ any_of (In ∷ Of ∷ [])) s

-- No target before these is derived from here; where `async` stands here, none with something else than `=>` behind them.
abbrev pub NoTargetSeen : List ℕ → Flags → Parser → Type 0
NoTargetSeen text f p = NoTargetFrom text f p.prev_token_end ⊎ ((p.token.kind ≡ Async) × NoTargetPart text f p.prev_token_end)

-- An operand alone was read, a ShortCircuitExpression; or something else was, and no target before `in` or `of` is derived from there.
pub data HeadOperand (text : List ℕ) (f : Flags) (p q : Parser) (id : NodeId) : Type 0 where
  operand : Numbered text f (at Short f) p q id → HeadOperand text f p q id
  no_target : IsNoTarget q id → NoTargetSeen text f p → HeadOperand text f p q id

abbrev pub OperandOutcome : List ℕ → Flags → Parser → Parser → Result NodeId Stop → Type 0
OperandOutcome text f p q (Ok id) = HeadOperand text f p q id
OperandOutcome text f p q (Err Fatal) = NoTargetSeen text f p
OperandOutcome text f p q (Err NoMemory) = Unit {0}

abbrev pub TellsOperand : Parser → Parser → Result NodeId Stop → Type 0
TellsOperand p q r = (text : List ℕ) (f : Flags) → At text f p → f.in_ ≡ false → OperandOutcome text f p q r

-- Behind an operand nothing more was read; or `?` stands there, and what was read with it is no target.
abbrev pub StaysOperand : NodeId → Parser → Parser → Result NodeId Stop → Type 0
StaysOperand test p q (Ok id) = ((id ≡ test) × (q ≡ p)) ⊎ ((p.token.kind ≡ Question) × IsNoTarget q id)
StaysOperand test p q (Err e) = p.token.kind ≡ Question
