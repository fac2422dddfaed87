-- The current token: which of the lexemes that may stand at its place it tells (ECMA-262, chapter 12).
use Rattle.std.specs.Prelude.{ℕ, ◌-◌, ◌≡◌, ◌≤◌, Bool, true, false, cond, ◌&&◌, List, [], ◌∷◌, ◌++◌, length, take}
use Rattle.js_base.specs.declared.diagnostic.Diagnostic.{Diagnostic}
use Rattle.js_base.specs.declared.kind.Kind.{Kind}
use Rattle.js_base.specs.declared.kind.Kind.TheVariants.{RAngle, RCurly, Slash, SlashEq, Undetermined}
use Rattle.js_base.specs.declared.span.Span.{Span}
use Rattle.js_base.specs.Kinds.{one_of_kinds}
use Rattle.js_base.specs.declared.token.Token.{Token}
use Rattle.js_tree.specs.js_grammar.Lexemes.{LexicalGoal, division}
use Rattle.js_tree.specs.js_grammar.Settings.{Goal}
use Rattle.js_lex.specs.declared.comment.Comment.{Comment}
use Rattle.js_lex.specs.Reading.{cut, GivesLexeme, GivesNone}
use Rattle.js_lex.specs.States.{State}

-- What stands behind the place s. The token tells the whole of a lexeme, as it was read for a lexical goal; or of a punctuator that begins with `>` this sign alone; or none stands for the goal that was asked for, and of the faults that are kept the last is its.
pub data IsToken (source : Goal) (text : List ℕ) (s : ℕ) (faults : List Diagnostic) (t : Token) : Bool → Type 0 where
  whole : {goal : LexicalGoal} → (t.kind ≡ Undetermined → ⊥) → GivesLexeme goal (λ y. y) text s t → IsToken source text s faults t false
  sign : t.kind ≡ RAngle → GivesLexeme division cut text s t → IsToken source text s faults t true
  nothing : {goal : LexicalGoal} {d : Diagnostic} (before : List Diagnostic) → t.kind ≡ Undetermined → faults ≡ before ++ d ∷ [] → GivesNone goal source text s t d → IsToken source text s faults t false

-- A token of these kinds may be read again: by another lexical goal, or, of a sign that begins with `>`, whole.
abbrev pub may_be_read_again : Kind → Bool
may_be_read_again k = one_of_kinds (RAngle ∷ Slash ∷ SlashEq ∷ RCurly ∷ []) k

-- How many of the tokens that a lexer has kept stay as they are: all, but for the current one, where it may be read again.
abbrev pub steady : State → Token → ℕ
steady l t = length l.kept.tokens - cond (l.keeps_tokens && may_be_read_again t.kind) 1 0

-- Of a lexer and its current token, and of the same later: comments and white space that were kept are still there, and so are the tokens that stay.
pub record StillKept (old : State) (t : Token) (new : State) (u : Token) : Type 0 where
  pub keeps_tokens : new.keeps_tokens ≡ old.keeps_tokens
  pub later_comments : List Comment
  pub comments : new.kept.comments ≡ old.kept.comments ++ later_comments
  pub later_blanks : List Span
  pub blanks : new.kept.irregular_whitespaces ≡ old.kept.irregular_whitespaces ++ later_blanks
  pub tokens : take (steady old t) new.kept.tokens ≡ take (steady old t) old.kept.tokens
  pub steadier : steady old t ≤ steady new u
