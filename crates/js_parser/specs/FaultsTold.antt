-- Which faults of lexemes are told: each that was kept, in the order of keeping, before what the parser found; but where the last of them is itself the fatal diagnostic, it isn't told twice.
use Rattle.std.specs.Prelude.{ℕ, ◌≡◌, Bool, true, false, Option, Some, List, ◌++◌, ◌-◌, length, take, slice_get}
use Rattle.js_base.specs.declared.diagnostic.Diagnostic.{Diagnostic}
use Rattle.js_grammar.specs.Settings.{Goal}
use Rattle.js_cursor.specs.js_lex.declared.output.LexerOutput.{LexerOutput}
use Rattle.js_cursor.specs.Moves.{is_last}
use Rattle.js_cursor.specs.Stages.{CameTo, Stage}

-- the last diagnostic, if there is one
abbrev pub last_of : List Diagnostic → Option Diagnostic
last_of ds = slice_get ds (length ds - 1)

-- one and the same: a kind at a span
abbrev pub AreAlike : Option Diagnostic → Option Diagnostic → Type 0
AreAlike (Some d) (Some e) = (d.kind ≡ e.kind) × (d.span ≡ e.span)
AreAlike _ _ = ⊥

-- beside a fatal diagnostic, which was found last: all faults, or all but the one that it is
pub record AreBesideFatal (faults found told : List Diagnostic) : Type 0 where
  pub once : AreAlike (last_of faults) (last_of found) → told ≡ take (length faults - 1) faults
  pub all : (AreAlike (last_of faults) (last_of found) → ⊥) → told ≡ faults

-- the faults that are told beside what was found
abbrev pub AreTold : Bool → List Diagnostic → List Diagnostic → List Diagnostic → Type 0
AreTold true faults found told = AreBesideFatal faults found told
AreTold false faults found told = told ≡ faults

-- The parse ended at a stage of the text, to which lexemes lead from its beginning: where no diagnostic was fatal, at the text's end, or where no lexeme stands. What is told and kept, beside what the parser found, was kept on the way there.
pub record EndsAt (text : List ℕ) (goal : Goal) (out : LexerOutput) (fatal : Bool) (found : List Diagnostic) : Type 0 where
  pub stop : Stage
  pub came : CameTo goal text stop
  pub whole : fatal ≡ false → is_last stop.token.kind ≡ true
  pub faults : List Diagnostic
  pub told : AreTold fatal stop.faults found faults
  pub errors : out.errors ≡ faults ++ found
  pub comments : out.comments ≡ stop.comments
  pub blanks : out.irregular_whitespaces ≡ stop.blanks
