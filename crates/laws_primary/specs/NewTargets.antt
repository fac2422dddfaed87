-- What the parse functions of `new.target` answer (ECMA-262, 13.3.12).
use Rattle.std.specs.Prelude.{ℕ, ◌≡◌, ◌≤◌, ◌⊎◌, true, false, List, [], ◌∷◌, IsCharBoundary, IsTrue, Result}
use Rattle.js_base.specs.Contexts.{has_flag, new_target_flag}
use Rattle.js_base.specs.declared.diagnostic.Diagnostic.{Diagnostic}
use Rattle.js_base.specs.declared.diagnostic.DiagnosticKind.TheVariants as fault
use Rattle.js_base.specs.declared.kind.Kind.TheVariants.{Dot, New, Target}
use Rattle.js_base.specs.declared.span.Span.{Span}
use Rattle.js_grammar.specs.Grammar.{Lexeme, ◌▸◌}
use Rattle.js_grammar.specs.LexicalFaults.{Reached}
use Rattle.js_grammar.specs.Lexed.{NextLexeme, all_faults}
use Rattle.js_grammar.specs.Marks.{of_kinds}
use Rattle.js_grammar.specs.Productions.{G, Flags, tok}
use Rattle.laws_shared.specs.js_tree.declared.id.NodeId.{NodeId}
use Rattle.laws_shared.specs.js_cursor.Moves.{KeepsDiagnostic}
use Rattle.laws_shared.specs.js_cursor.Parsers.{Parser}
use Rattle.laws_shared.specs.js_cursor.declared.stop.Stop.{Stop}
use Rattle.laws_primary.specs.Members.{MemberOutcome}
use Rattle.laws_shared.specs.Moves.{Moved}
use Rattle.laws_shared.specs.Stands.{StandsHere}
use Rattle.laws_shared.specs.States.{At}
use Rattle.laws_shared.specs.Told.{unrelated_at}

-- its lexemes
abbrev pub target_slots : G
target_slots = tok New ▸ tok Dot ▸ tok Target

-- what is told of another word behind `new` and a dot, and of `new.target` in no function
abbrev pub no_target_at : Span → Diagnostic
no_target_at s = unrelated_at fault.NewTarget s

abbrev pub outside_at : Span → Diagnostic
outside_at s = unrelated_at fault.NewTargetOutsideFunction s

-- `new` was passed, which begins at a place
pub record BehindNew (start : ℕ) (p : Parser) : Type 0 where
  pub place : ℕ
  pub reached : Reached p.text place
  pub word : Lexeme
  pub stood : NextLexeme all_faults p.text place word
  pub is_new : IsTrue (of_kinds (New ∷ []) word)
  pub begins : word.from ≡ start
  pub ends : word.to ≡ p.prev_token_end
  pub between : IsCharBoundary p.text start
  pub before : start ≤ p.prev_token_end

-- and a dot behind it
pub record BehindDot (start : ℕ) (q : Parser) : Type 0 where
  pub new : Parser
  pub behind : BehindNew start new
  pub text : q.text ≡ new.text
  pub dot : Lexeme
  pub stood : NextLexeme all_faults q.text new.prev_token_end dot
  pub is_dot : IsTrue (of_kinds (Dot ∷ []) dot)
  pub ends : dot.to ≡ q.prev_token_end
  pub before : new.prev_token_end ≤ q.prev_token_end

-- That was told, without the parameter NewTarget; or it may stand here.
abbrev pub ChecksTarget : Span → Parser → Parser → Type 0
ChecksTarget span old new = ((has_flag new_target_flag old.ctx ≡ false) × KeepsDiagnostic (outside_at span) old new) ⊎ ((has_flag new_target_flag old.ctx ≡ true) × (new ≡ old))

-- From the state o, where `new` stood, up to the old one this word was passed; now what stands behind it is.
abbrev pub TakesTarget : ℕ → Parser → Parser → Result NodeId Stop → Type 0
TakesTarget start p q r = (text : List ℕ) (f : Flags) (o : Parser) → At text f o → StandsHere o New true → start ≡ o.token.span.start → Moved text f o p → MemberOutcome text f o q r
