-- What diagnostics tell of a text.
use Rattle.std.specs.Prelude.{ℕ, ◌≡◌, true, List, ◌++◌, codes}
use Rattle.std.specs.List.{All}
use Rattle.js_base.specs.declared.diagnostic.Diagnostic.{Diagnostic}
use Rattle.js_base.specs.Spans.{LiesIn}
use Rattle.js_grammar.specs.CoreTexts.{starts}
use Rattle.js_grammar.specs.LexicalFaults.{Reached, FaultyBehind, is_invalid_character}
use Rattle.js_grammar.specs.Marks.{Mark, Unrelated}
use Rattle.js_grammar.specs.Settings.{Goal}

-- A fault of the text, behind a place that lexemes lead to. It has no related places.
pub record IsFault (source : Goal) (text : List ℕ) (d : Diagnostic) : Type 0 where
  pub place : ℕ
  pub reached : Reached text place
  pub faulty : FaultyBehind d.kind source text place d.span.start d.span.end
  pub no_hashbang : is_invalid_character d.kind ≡ true → d.span.start ≡ 0 → starts (codes "#!") text ≡ true → ⊥
  pub alone : Unrelated d.first d.second

-- Diagnostics of a text: faults of lexemes, which are all of the class Lexical (`faults_lexical`), and behind them what the parser found. Each has what its kind says at its span, which lies in the text and splits no character.
pub record AreOf (goal : Goal) (text : List ℕ) (found : List Diagnostic) : Type 0 where
  pub faults : List Diagnostic
  pub told : List Diagnostic
  pub in_order : found ≡ faults ++ told
  pub faulty : All (IsFault goal text) faults
  pub marked : All (Mark goal text) told
  pub lie : All (λ d. LiesIn d.span text) found
