-- What the steps of a run do, from which its answers follow.
use Rattle.std.specs.Prelude.{ℕ, Bool, true, false, ◌≡◌, ◌+◌, ◌≤◌, List, ◌++◌, length, Option}
use Rattle.std.specs.Io.KnownBytes.{Consumes, Appends, Keeps, IsAtEnd}
use Rattle.js_run.specs.declared.status.Status.{Status}
use Rattle.js_run.specs.declared.status.Status.TheVariants.{Ok, Refused, ReadFault, WriteFault, NoMemory, NotUtf8, TooLong}
use Rattle.js_run.specs.Ends.{CountsFault}
use Rattle.js_run.specs.Runs.{limit, Gave, IsText, ReadFailed, IsNoText, IsLong}
use Rattle.js_grammar.specs.Settings.{Settings}
use Rattle.js_run.specs.Outputs.{Gives}

-- One read put its bytes behind those that were there: n of them, and none only at the end.
pub record ReadPiece (given left : Option (List ℕ)) (old new : List ℕ) (n : ℕ) : Type 0 where
  pub piece : List ℕ
  pub read : Consumes given left piece
  pub put : new ≡ old ++ piece
  pub count : length piece ≡ n
  pub few : length new ≤ limit + 1
  pub end : n ≡ 0 → IsAtEnd left

-- why a read ended the reading: the bytes of the source before it and after it, and its faults
abbrev pub ReadCause : Status → Option (List ℕ) → Option (List ℕ) → ℕ → ℕ → Type 0
ReadCause ReadFault given left faults faults_after = CountsFault faults faults_after × Keeps given left
ReadCause NoMemory given left faults faults_after = Unit {0}
ReadCause _ given left faults faults_after = ⊥

-- Why a run ended before a text was made, or why not: the bytes of the source at first and in the end, and its faults.
abbrev pub StopCause : Status → Option (List ℕ) → Option (List ℕ) → ℕ → ℕ → Type 0
StopCause ReadFault given left faults faults_after = ReadFailed given left faults faults_after
StopCause NoMemory given left faults faults_after = Unit {0}
StopCause NotUtf8 given left faults faults_after = IsNoText given left
StopCause TooLong given left faults faults_after = IsLong given left
StopCause _ given left faults faults_after = ⊥

-- A text was read, and this is what is put out for it.
pub record Made (s : Settings) (given left : Option (List ℕ)) (refused : Bool) (out : List ℕ) : Type 0 where
  pub text : List ℕ
  pub gave : Gave given left text
  pub is_text : IsText text
  pub gives : Gives s text refused out

-- The sink took a front of these bytes, and failed.
pub record TookFront (before after : Option (List ℕ)) (out : List ℕ) : Type 0 where
  pub front : List ℕ
  pub rest : List ℕ
  pub parts : out ≡ front ++ rest
  pub took : Appends before after front

-- how the writing of an output ended, which tells of a text that is refused or not
abbrev pub PutCause : Status → Bool → List ℕ → Option (List ℕ) → Option (List ℕ) → ℕ → ℕ → Type 0
PutCause Ok refused out before after faults faults_after = (refused ≡ false) × Appends before after out
PutCause Refused refused out before after faults faults_after = (refused ≡ true) × Appends before after out
PutCause WriteFault refused out before after faults faults_after = TookFront before after out × CountsFault faults faults_after
PutCause _ refused out before after faults faults_after = ⊥
