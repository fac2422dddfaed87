-- What is read behind something that was read before.
use Rattle.std.specs.Prelude.{ℕ, ◌≡◌, ◌≤◌, true, List, [], ◌∷◌, length, Result}
use Rattle.js_base.specs.declared.kind.Kind.{Kind}
use Rattle.js_base.specs.declared.kind.Kind.TheVariants.{Question, Plus2, Minus2}
use Rattle.js_base.specs.declared.span.Span.{Span}
use Rattle.js_grammar.specs.Marks.{LexemeAt, of_kinds}
use Rattle.js_grammar.specs.Productions.{Flags, at, Assignment, Short}
use Rattle.laws_shared.specs.js_tree.declared.id.NodeId.{NodeId}
use Rattle.parse_targets.specs.Others.{OnlyOthers}
use Rattle.parse_targets.specs.Targets.{is_literal}
use Rattle.laws_shared.specs.js_cursor.Parsers.{Parser}
use Rattle.laws_shared.specs.js_cursor.Places.{goal}
use Rattle.laws_shared.specs.js_cursor.declared.stop.Stop.{Stop}
use Rattle.laws_shared.specs.Answers.{Numbered, Outcome}
use Rattle.laws_shared.specs.States.{At}

-- neither an arrow function nor a YieldExpression begins at the place
abbrev pub OnlyOperand : List ℕ → Flags → ℕ → Type 0
OnlyOperand text f s = OnlyOthers text f s

abbrev pub OnlyOperandHere : Parser → Type 0
OnlyOperandHere p = (text : List ℕ) (f : Flags) → At text f p → OnlyOperand text f p.prev_token_end

-- A ShortCircuitExpression was read up to the old state, where neither an arrow function nor a YieldExpression begins; what is read now makes an AssignmentExpression of it.
abbrev pub ReadsConditional : ℕ → NodeId → Parser → Parser → Result NodeId Stop → Type 0
ReadsConditional start id old new r = (text : List ℕ) (f : Flags) (first : Parser) → At text f first → OnlyOperand text f first.prev_token_end → start ≡ first.token.span.start → Numbered text f (at Short f) first old id → Outcome text f (at Assignment f) first new r

-- the `?` of a conditional expression stood there, before the current lexeme
pub record Asked (p : Parser) (question : Span) : Type 0 where
  pub sign : LexemeAt (of_kinds (Question ∷ [])) (goal p) p.text question
  pub before : question.end ≤ p.prev_token_end

abbrev pub update_kinds : List Kind
update_kinds = Plus2 ∷ Minus2 ∷ []

-- An array or object literal was read up to the old state, by a call before which so many diagnostics were kept; with what is read now it is an assignment.
abbrev pub AssignsLiteral : ℕ → NodeId → ℕ → Parser → Parser → Result NodeId Stop → Type 0
AssignsLiteral start id kept old new r = (text : List ℕ) (f : Flags) (first : Parser) → At text f first → OnlyOperand text f first.prev_token_end → start ≡ first.token.span.start → kept ≡ length first.errors → (x : Numbered text f (at Short f) first old id) → is_literal x.answer.label.kind ≡ true → Outcome text f (at Assignment f) first new r
