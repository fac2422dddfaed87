-- What a scan at a place answers: the lexeme of a lexical goal that stands there, or the fault where none does.
use Rattle.std.specs.Prelude.{ℕ, ◌≡◌, ◌<◌, ◌≤◌, List, ◌++◌, IsCharBoundary, Result, MatchResult}
use Rattle.js_base.specs.declared.kind.Kind.{Kind}
use Rattle.js_grammar.specs.Lexemes.{LexicalGoal, is_escaped, is_separated}
use Rattle.js_grammar.specs.Lexed.{IsLexeme}
use Rattle.js_grammar.specs.LexicalFaults.{behind, Stopping}
use Rattle.part_words.specs.declared.scan.Scanned.{Scanned}
use Rattle.part_words.specs.declared.scan.Fault.{Fault}
use Rattle.part_words.specs.Places.{Word}
use Rattle.part_words.specs.Faults.{fault_kind, Reaches}

-- the lexeme of the goal that stands at the place i, the longest one
pub record IsScanned (goal : LexicalGoal) (text : List ℕ) (i : ℕ) (s : Scanned) : Type 0 where
  pub word : List ℕ
  pub stands : Word text i s.end word
  pub lexeme : IsLexeme goal i word (behind text s.end) s.kind
  pub escaped : s.escaped ≡ is_escaped s.kind word
  pub separated : s.has_separator ≡ is_separated s.kind word

-- no lexeme of the goal stands at the place i
abbrev pub NoLexeme : LexicalGoal → List ℕ → ℕ → Type 0
NoLexeme goal text i = (w rest : List ℕ) (k : Kind) → behind text i ≡ w ++ rest → IsLexeme goal i w rest k → ⊥

-- None does, and the fault has what its kind says at its span. Which fault it is, and how far it goes, is settled.
pub record IsStopped (goal : LexicalGoal) (text : List ℕ) (i : ℕ) (f : Fault) : Type 0 where
  pub none : NoLexeme goal text i
  pub condition : Stopping f.kind text i f.start f.end
  pub follows : i ≤ f.start
  pub ordered : f.start < f.end
  pub begins_between : IsCharBoundary text f.start
  pub ends_between : IsCharBoundary text f.end
  pub told : f.kind ≡ fault_kind (behind text i)
  pub reaches : Reaches f.kind text f.start f.end

abbrev pub Scans : LexicalGoal → List ℕ → ℕ → Result Scanned Fault → Type 0
Scans goal text i r = MatchResult r (λ s. IsScanned goal text i s) (λ f. IsStopped goal text i f)
