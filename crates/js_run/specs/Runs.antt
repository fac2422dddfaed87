-- What a run answers, and why. A source or a sink tells its bytes or not; where it doesn't, nothing is said of them.
use Rattle.std.specs.Prelude.{ℕ, ◌≡◌, ◌+◌, ◌≤◌, ◌⊎◌, List, [], ◌++◌, length, Option, Some}
use Rattle.std.specs.Str.{IsUtf8}
use Rattle.std.specs.Io.KnownBytes.{Consumes, Appends, IsAtEnd}
use Rattle.js_run.specs.declared.status.Status.{Status}
use Rattle.js_run.specs.declared.status.Status.TheVariants.{Ok, Refused, Usage, ReadFault, WriteFault, NoMemory, NotUtf8, TooLong}
use Rattle.js_run.specs.Ends.{CountsFault}
use Rattle.js_run.specs.Words.{NoneAdmitted, Sets}
use Rattle.js_grammar.specs.Settings.{Settings}
use Rattle.js_grammar.specs.CommandLine.{Admitted}
use Rattle.js_run.specs.Outputs.{AcceptsText, RefusesText, RefusesByMarks, WritesReading, WritesDiagnostics}
pub use Rattle.js_grammar.specs.Ends.{limit, IsText, Told}

-- The source gave these bytes, and has no more.
pub record Gave (given left : Option (List ℕ)) (text : List ℕ) : Type 0 where
  pub read : Consumes given left text
  pub ended : IsAtEnd left

-- The source gave a text, and all that is put out for it was written.
pub record Answered (Puts : List ℕ → List ℕ → Type 0) (given left before after : Option (List ℕ)) : Type 0 where
  pub text : List ℕ
  pub out : List ℕ
  pub gave : Gave given left text
  pub is_text : IsText text
  pub puts : Puts text out
  pub written : Appends before after out

-- The source gave a text, and the sink failed after a front of what is put out for it.
pub record BrokeOff (Puts : List ℕ → List ℕ → Type 0) (given left before after : Option (List ℕ)) (faults faults_after : ℕ) : Type 0 where
  pub text : List ℕ
  pub front : List ℕ
  pub rest : List ℕ
  pub gave : Gave given left text
  pub is_text : IsText text
  pub puts : Puts text (front ++ rest)
  pub written : Appends before after front
  pub fault : CountsFault faults faults_after

-- The source gave bytes that are not UTF-8, and not too many.
pub record IsNoText (given left : Option (List ℕ)) : Type 0 where
  pub bytes : List ℕ
  pub gave : Gave given left bytes
  pub short : length bytes ≤ limit
  pub not_utf8 : IsUtf8 bytes → ⊥

-- The source gave one byte more than a text may have, and was asked no further.
pub record IsLong (given left : Option (List ℕ)) : Type 0 where
  pub bytes : List ℕ
  pub read : Consumes given left bytes
  pub long : length bytes ≡ limit + 1

-- No more than so many bytes were read.
pub record ReadsUpTo (most : ℕ) (given left : Option (List ℕ)) : Type 0 where
  pub bytes : List ℕ
  pub read : Consumes given left bytes
  pub few : length bytes ≤ most

-- The source failed before it gave a byte more than a text may have.
pub record ReadFailed (given left : Option (List ℕ)) (faults faults_after : ℕ) : Type 0 where
  pub fault : CountsFault faults faults_after
  pub reads : ReadsUpTo limit given left

-- what the ends tell, by the members of their types
abbrev pub told : {S K : Type 0} → (S → Option (List ℕ)) → (S → ℕ) → (K → Option (List ℕ)) → (K → ℕ) → S → S → K → K → Told
told remaining read_faults taken write_faults source source_after sink sink_after = record { given = remaining source; left = remaining source_after; read_faults = read_faults source; read_faults_after = read_faults source_after; before = taken sink; after = taken sink_after; write_faults = write_faults sink; write_faults_after = write_faults sink_after }

-- what is put out for a text, accepted or refused
abbrev pub PutsOut : Settings → List ℕ → List ℕ → Type 0
PutsOut s text out = AcceptsText s text out ⊎ RefusesByMarks s text out

-- the words set one thing, of which this holds
abbrev pub SetBy : List (List ℕ) → (Settings → Type 0) → Type 0
SetBy words P = (s : Settings) × Sets words s × P s

-- Each status has its cause.
abbrev pub HasCause : Status → List (List ℕ) → Told → Type 0
HasCause Ok words t = SetBy words (λ s. Answered (AcceptsText s) t.given t.left t.before t.after)
HasCause Refused words t = SetBy words (λ s. Answered (RefusesByMarks s) t.given t.left t.before t.after)
HasCause Usage words t = Unit {0}
HasCause ReadFault words t = ReadFailed t.given t.left t.read_faults t.read_faults_after
HasCause WriteFault words t = SetBy words (λ s. BrokeOff (PutsOut s) t.given t.left t.before t.after t.write_faults t.write_faults_after)
HasCause NoMemory words t = Unit {0}
HasCause NotUtf8 words t = IsNoText t.given t.left
HasCause TooLong words t = IsLong t.given t.left

-- `Usage` comes exactly where no settings are admitted.
abbrev pub FitsWords : Status → List (List ℕ) → Type 0
FitsWords Usage words = NoneAdmitted words
FitsWords _ words = (s : Settings) × Admitted words s

-- A status that tells of a refusal before the output leaves the sink as it was.
abbrev pub LeavesSink : {K : Type 0} → Status → K → K → Type 0
LeavesSink Ok old new = Unit {0}
LeavesSink Refused old new = Unit {0}
LeavesSink WriteFault old new = Unit {0}
LeavesSink _ old new = new ≡ old

-- `Usage` leaves the source as it was.
abbrev pub LeavesSource : {S : Type 0} → Status → S → S → Type 0
LeavesSource Usage old new = new ≡ old
LeavesSource _ old new = Unit {0}

-- refusals that may come before the text is known: of the words, of the source, of memory
abbrev pub ComesBefore : Status → Type 0
ComesBefore Usage = Unit {0}
ComesBefore ReadFault = Unit {0}
ComesBefore NoMemory = Unit {0}
ComesBefore _ = ⊥

-- What a run answers to a text that the source tells: 0 with what is put out for an accepted one, 1 with that for a refused one, 3 or 4 at a fault of the source or of the sink, 5 where memory is refused, and nothing else.
abbrev pub IsAnswerBy : (List ℕ → Type 0) → (List ℕ → Type 0) → Told → Status → Type 0
IsAnswerBy Accepted Rejected t Ok = (out : List ℕ) × Accepted out × Appends t.before t.after out × (t.left ≡ Some [])
IsAnswerBy Accepted Rejected t Refused = (out : List ℕ) × Rejected out × Appends t.before t.after out × (t.left ≡ Some [])
IsAnswerBy Accepted Rejected t Usage = ⊥
IsAnswerBy Accepted Rejected t ReadFault = CountsFault t.read_faults t.read_faults_after
IsAnswerBy Accepted Rejected t WriteFault = (front : List ℕ) × (rest : List ℕ) × (Accepted (front ++ rest) ⊎ Rejected (front ++ rest)) × Appends t.before t.after front × (t.left ≡ Some []) × CountsFault t.write_faults t.write_faults_after
IsAnswerBy Accepted Rejected t NoMemory = Unit {0}
IsAnswerBy Accepted Rejected t NotUtf8 = ⊥
IsAnswerBy Accepted Rejected t TooLong = ⊥

-- The same where the words set this, of the text's only reading and of diagnostics where it has none.
abbrev pub IsAnswerTo : Settings → List ℕ → Told → Status → Type 0
IsAnswerTo s text t status = IsAnswerBy (AcceptsText s text) (RefusesText s text) t status

-- The same, where each diagnostic has its mark.
abbrev pub IsMarkedAnswerTo : Settings → List ℕ → Told → Status → Type 0
IsMarkedAnswerTo s text t status = IsAnswerBy (AcceptsText s text) (RefusesByMarks s text) t status

-- The same of a core text.
abbrev pub IsCoreAnswerTo : Settings → List ℕ → Told → Status → Type 0
IsCoreAnswerTo s text t status = IsAnswerBy (WritesReading s.allow_v8 text) (WritesDiagnostics s.allow_v8 text) t status
