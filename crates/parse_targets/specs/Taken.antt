-- What is told of an expression that is no target, and what the conversion of an array or object literal to a target answers (ECMA-262, 13.15.5).
use Rattle.std.specs.Prelude.{ℕ, ◌≡◌, ◌⊎◌, ◌&&◌, not, Bool, true, false, cond, List, [], ◌∷◌, ◌++◌, length, Option, Some, None, Result, Ok, Err}
use Rattle.js_base.specs.declared.diagnostic.Diagnostic.{Diagnostic}
use Rattle.js_base.specs.declared.diagnostic.DiagnosticKind.TheVariants as fault
use Rattle.js_base.specs.declared.kind.Kind.TheVariants.{Eq, In, Of}
use Rattle.js_base.specs.Contexts.{has_flag, in_flag}
use Rattle.js_base.specs.Kinds.{one_of_kinds}
use Rattle.js_grammar.specs.Trees.{Label, Slots, end as no_slots, tree}
use Rattle.js_base.specs.declared.span.Span.{Span}
use Rattle.js_grammar.specs.Grammar.{Lexeme, Lexemes, last, Look, such, nothing, Derives}
use Rattle.js_grammar.specs.Insertion.{assign_operators}
use Rattle.js_grammar.specs.Parsing.{always, plain, Fails}
use Rattle.js_grammar.specs.Table.{rule}
use Rattle.js_grammar.specs.Marks.{loose}
use Rattle.js_grammar.specs.Productions.{Flags, Name, at, ArrayTarget, ObjectTarget, Short, Target}
use Rattle.parse_shared.specs.js_tree.declared.id.NodeId.{NodeId}
use Rattle.parse_shared.specs.js_tree.Holding.{Holds, Keeps}
use Rattle.parse_shared.specs.js_cursor.Moves.{KeepsDiagnostic}
use Rattle.parse_shared.specs.laws_shared.Told.{unrelated_at}
use Rattle.parse_targets.specs.declared.widening.Widening.{Widening}
use Rattle.parse_targets.specs.declared.widening.Widening.TheVariants.{Rest, RestTarget, Operator}
use Rattle.parse_targets.specs.Targets.{Each, Narrow, is_object, is_literal}
use Rattle.parse_shared.specs.js_cursor.Parsers.{Parser}
use Rattle.parse_shared.specs.js_cursor.declared.stop.Stop.{Stop}
use Rattle.parse_shared.specs.laws_shared.Answers.{Numbered, Stops, Stretch, Verdict}
use Rattle.parse_shared.specs.laws_shared.Lexemes.{Lex, Walked, spot}
use Rattle.parse_shared.specs.laws_shared.Stands.{StandsHere}
use Rattle.parse_shared.specs.laws_shared.States.{At, Same}

-- what is told of a text up to a place that is no target
abbrev pub no_target_at : ℕ → ℕ → Diagnostic
no_target_at from to = record { kind = fault.InvalidAssignment; span = record { start = from; end = to }; first = None; second = None }

-- what is told of a literal that is no target: of a spread that isn't its last element, if one was noted
abbrev pub refusal_at : ℕ → ℕ → Option Span → Diagnostic
refusal_at from to (Some s) = unrelated_at fault.SpreadLastElement s
refusal_at from to None = no_target_at from to

-- what is told of a literal before an assignment operator that needs a simple target
abbrev pub not_simple_at : ℕ → ℕ → Diagnostic
not_simple_at from to = record { kind = fault.AssignmentIsNotSimple; span = record { start = from; end = to }; first = None; second = None }

-- That was told; or there are not so many diagnostics as said, and all stays.
abbrev pub TellsOnce : Diagnostic → ℕ → Parser → Parser → Type 0
TellsOnce d kept old new = KeepsDiagnostic d old new ⊎ ((length old.errors ≡ kept → ⊥) × (new ≡ old))

-- What may stand behind a target: an assignment operator, and where `in` is no operator, as in the head of a `for`, `in` or `of` too. By the parameter In.
abbrev pub behind_target : Bool → Look
behind_target true k w e = one_of_kinds assign_operators k && not e
behind_target false k w e = one_of_kinds (In ∷ Of ∷ assign_operators) k && not e

-- `in` or `of`, before which a target stands in the head of a `for` (14.7.5)
abbrev pub goes_through : Look
goes_through k w e = one_of_kinds (In ∷ Of ∷ []) k && not e

-- no target before these is derived from the place
abbrev pub NoTargetFrom : List ℕ → Flags → ℕ → Type 0
NoTargetFrom text f s = Fails rule (Lex text) (plain goes_through) no_slots (such (at Target f) always) s

-- such a lexeme stands here, behind a literal
abbrev pub EndsTarget : Parser → Type 0
EndsTarget p = (p.token.kind ≡ Eq) ⊎ ((has_flag in_flag p.ctx ≡ false) × (StandsHere p In true ⊎ StandsHere p Of true))

-- what is told of a place where the literal is wider
abbrev pub TellsOf : Widening → Diagnostic → Type 0
TellsOf (Rest s) d = d.kind ≡ fault.RestElementTrailingComma
TellsOf (RestTarget s) d = d ≡ unrelated_at fault.InvalidRestAssignmentTarget s
TellsOf (Operator s) d = d ≡ unrelated_at fault.InvalidAssignmentTargetDefaultValueOperator s

-- A place was looked at: the literal is narrow there; or it isn't, and that was told.
abbrev pub PlaceTold : Widening → Parser → Parser → Type 0
PlaceTold w old new = (Narrow old.text w × (new ≡ old)) ⊎ ((Narrow old.text w → ⊥) × ((d : Diagnostic) × TellsOf w d × KeepsDiagnostic d old new))

-- Of diagnostics: none is told of a place where the literal is narrow, one is where it isn't.
abbrev pub OneTold : List ℕ → Widening → List Diagnostic → List Diagnostic → Type 0
OneTold text w old new = (Narrow text w × (new ≡ old)) ⊎ ((Narrow text w → ⊥) × ((d : Diagnostic) × TellsOf w d × (new ≡ old ++ d ∷ [])))

-- the same of each of these places, in their order, and nothing else
abbrev pub EachTold : List ℕ → List Widening → List Diagnostic → List Diagnostic → Type 0
EachTold text [] old new = new ≡ old
EachTold text (w ∷ ws) old new = (mid : List Diagnostic) × OneTold text w old mid × EachTold text ws mid new

-- The same of each of these places.
pub record PlacesTold (places : List Widening) (old new : Parser) : Type 0 where
  pub at : (text : List ℕ) (f : Flags) → At text f old → At text f new
  pub same : Same old new
  pub is : new ≡ record old { errors = new.errors }
  pub verdict : Verdict ⊥ old.errors new.errors (Each (Narrow old.text) places) (Each (Narrow old.text) places → ⊥)
  pub each : EachTold old.text places old.errors new.errors

-- An array or object literal was read up to this state, by a call before which so many diagnostics were kept.
pub record LiteralRead (start : ℕ) (id : NodeId) (kept : ℕ) (q : Parser) : Type 0 where
  pub text : List ℕ
  pub flags : Flags
  pub first : Parser
  pub begins : At text flags first
  pub start_is : start ≡ first.token.span.start
  pub kept_is : kept ≡ length first.errors
  pub read : Numbered text flags (at Short flags) first q id
  pub literal : is_literal read.answer.label.kind ≡ true

-- the target that a literal is, of an object with true
abbrev pub target_name : Bool → Name
target_name in_object = cond in_object ObjectTarget ArrayTarget

-- It was converted to a target, which is read from the state `first` on. Clean: it is the only one there; unclean: there is none. In the wider form it may be the only one though something was told: a comma behind a rest, a literal as an object's rest, or another operator before an initialiser. Where nothing was told while the literal was read, its lexemes derive this target in the wider form, in which a comma may stand behind a rest and another operator before an initialiser.
pub record TargetTaken (in_object : Bool) (text : List ℕ) (f : Flags) (first old new : Parser) (id : NodeId) : Type 0 where
  pub stands_at : At text f new
  pub same : Same first new
  pub token : new.token ≡ old.token
  pub cut : new.cut ≡ old.cut
  pub place : new.prev_token_end ≡ old.prev_token_end
  pub label : Label
  pub slots : Slots
  pub pass : Lexemes → Lexemes
  pub walked : Walked text (spot first) (spot new) pass
  pub verdict : Verdict (f.wide ≡ true) first.errors new.errors (Stretch text (plain (behind_target f.in_)) (such (at (target_name in_object) f) always) first.prev_token_end nothing new.prev_token_end (tree label slots) pass) (Fails rule (Lex text) (plain (behind_target f.in_)) no_slots (such (at (target_name in_object) f) always) first.prev_token_end)
  pub loosely : length old.errors ≡ length first.errors → (y : Lexeme) → Lex text new.prev_token_end y → Derives rule (at (target_name in_object) (loose f)) (record { label = label; slots = slots }) first.prev_token_end (pass (last y)) new.prev_token_end (last y)
  pub holds : Holds new.nodes (length first.nodes) (length new.nodes) id.0 label slots
  pub keeps : Keeps first.nodes new.nodes

abbrev pub TargetOutcome : Bool → List ℕ → Flags → Parser → Parser → Parser → Result NodeId Stop → Type 0
TargetOutcome in_object text f first old new (Ok id) = TargetTaken in_object text f first old new id
TargetOutcome in_object text f first old new (Err e) = Stops first new e (Fails rule (Lex text) (plain (behind_target f.in_)) no_slots (such (at (target_name in_object) f) always) first.prev_token_end)

abbrev pub TakesTarget : ℕ → NodeId → ℕ → Parser → Parser → Result NodeId Stop → Type 0
TakesTarget start id kept old new r = (text : List ℕ) (f : Flags) (first : Parser) → At text f first → start ≡ first.token.span.start → kept ≡ length first.errors → (x : Numbered text f (at Short f) first old id) → is_literal x.answer.label.kind ≡ true → TargetOutcome (is_object x.answer.label.kind) text f first old new r
