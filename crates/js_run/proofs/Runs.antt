-- Steps of a run.
use Rattle.std.proofs.Common.{refl, ◌<◌, ℕ, ◌≡◌, ◌+◌, ◌-◌, ◌≤◌, List, [], ◌++◌, Bool, true, false, Some, None, IfSome, ap, ◌∙◌, append-nil, ◌⊎◌, length, take, drop, Option, sym, subst, inl, inr, arith, length-append}
use Rattle.std.proofs.lemmas.Bool.{cases_lt}
use Rattle.std.proofs.lemmas.List.{take-append-drop}
use Rattle.std.proofs.Math.Seq.{take-add}
use Rattle.std.specs.Io.KnownBytes.{Consumes, Appends, Keeps, IsAtEnd}
use Rattle.std.proofs.KnownBytes.{Appends-trans, Appends-kept, Consumes-trans, Consumes-kept}
use Rattle.js_run.specs.declared.status.Status.{Status}
use Rattle.js_run.specs.declared.status.Status.TheVariants.{Ok, Refused, Usage, ReadFault, WriteFault, NoMemory, NotUtf8, TooLong}
use Rattle.js_run.specs.Ends.{CountsFault}
use Rattle.std.specs.Str.{IsUtf8}
use Rattle.js_run.specs.Outputs.{AcceptsText, RefusesText, RefusesByMarks, Gives, WritesReading, WritesDiagnostics, AsksForTree}
use Rattle.js_grammar.specs.Settings.{Settings}
use Rattle.js_grammar.specs.CommandLine.{Admitted}
use Rattle.js_grammar.specs.CoreTexts.{CoreSource}
use Rattle.js_grammar.specs.Options.{options_of}
use Rattle.js_parser.specs.js_core.Readings.{read_at}
use Rattle.js_parser.proofs.CoreTexts.{only_core, none_core}
use Rattle.js_run.specs.Words.{Sets}
use Rattle.js_run.specs.Runs.{limit, Gave, IsText, IsLong, ReadsUpTo, Told, PutsOut, HasCause, FitsWords, LeavesSink, LeavesSource, ComesBefore, IsAnswerBy, IsAnswerTo, IsMarkedAnswerTo, IsCoreAnswerTo}
use Rattle.js_run.specs.Steps.{Made, ReadPiece, ReadCause, StopCause, TookFront, PutCause}

-- A fault of a part of a time is one of the whole.
pub fault_later : (a b c d : ℕ) → a ≤ b → b ≤ c → c ≤ d → CountsFault b c → CountsFault a d
fault_later a b c d p q r f = elim f [ inl lt ↦ inl (omega arith) | inr e ↦ elim (cases_lt a b) [ inl lt ↦ inl (omega arith) | inr ge ↦ inr (omega arith) ] ]

pub takes_on : (a b c : Option (List ℕ)) (done n : ℕ) (out : List ℕ) → Appends a b (take done out) → Appends b c (take n (drop done out)) → Appends a c (take (done + n) out)
takes_on a b c done n out p q = subst (Appends a c) (sym (take-add done n out)) (Appends-trans a b c _ _ p q)

pub took_front : (a b c : Option (List ℕ)) (done : ℕ) (out : List ℕ) → Appends a b (take done out) → Keeps b c → TookFront a c out
took_front a b c done out p q = record { front = take done out; rest = drop done out; parts = sym (take-append-drop done out); took = Appends-kept a b c _ p q }

pub reads_on : (a b c : Option (List ℕ)) (old new : List ℕ) (n : ℕ) → Consumes a b old → ReadPiece b c old new n → Consumes a c new
reads_on a b c old new n p r = subst (Consumes a c) (sym r.put) (Consumes-trans a b c old r.piece p r.read)

pub reads_within : (a b c : Option (List ℕ)) (old : List ℕ) (most k : ℕ) → k ≡ length old → Consumes a b old → k ≤ most → ReadsUpTo (most - k) b c → ReadsUpTo most a c
reads_within a b c old most k e p few r = let sum : length (old ++ r.bytes) ≡ length old + length r.bytes = length-append old r.bytes in record { bytes = old ++ r.bytes; read = Consumes-trans a b c old r.bytes p r.read; few = omega arith }

pub cause_later : (status : Status) (given mid left : Option (List ℕ)) (old : List ℕ) (k a b c : ℕ) → k ≡ length old → k ≤ limit → Consumes given mid old → a ≤ b → b ≤ c → ReadCause status mid left b c → StopCause status given left a c
cause_later Ok given mid left old k a b c e few read p q r = r
cause_later Refused given mid left old k a b c e few read p q r = r
cause_later Usage given mid left old k a b c e few read p q r = r
cause_later ReadFault given mid left old k a b c e few read p q r =
    let z : c ≤ c = omega arith in
    let short : length old ≤ limit = omega arith in
    record { fault = fault_later a b c c p q z r.0; reads = record { bytes = old; read = Consumes-kept given mid left old read r.1; few = short } }
cause_later WriteFault given mid left old k a b c e few read p q r = r
cause_later NoMemory given mid left old k a b c e few read p q r = r
cause_later NotUtf8 given mid left old k a b c e few read p q r = absurd r
cause_later TooLong given mid left old k a b c e few read p q r = absurd r

-- ---- from the steps of a run to its clauses

pub stop_has_cause : (status : Status) (words : List (List ℕ)) (t : Told) → StopCause status t.given t.left t.read_faults t.read_faults_after → HasCause status words t
stop_has_cause Ok words t h = absurd h
stop_has_cause Refused words t h = absurd h
stop_has_cause Usage words t h = absurd h
stop_has_cause ReadFault words t h = h
stop_has_cause WriteFault words t h = absurd h
stop_has_cause NoMemory words t h = tt
stop_has_cause NotUtf8 words t h = h
stop_has_cause TooLong words t h = h

pub put_has_cause : (status : Status) (words : List (List ℕ)) (s : Settings) (refused : Bool) (out : List ℕ) (t : Told) → Sets words s → Made s t.given t.left refused out → PutCause status refused out t.before t.after t.write_faults t.write_faults_after → HasCause status words t
put_has_cause Ok words s refused out t a m h = (s, a, record { text = m.text; out = out; gave = m.gave; is_text = m.is_text; puts = subst (λ (r : Bool). Gives s m.text r out) h.0 m.gives; written = h.1 })
put_has_cause Refused words s refused out t a m h = (s, a, record { text = m.text; out = out; gave = m.gave; is_text = m.is_text; puts = subst (λ (r : Bool). Gives s m.text r out) h.0 m.gives; written = h.1 })
put_has_cause Usage words s refused out t a m h = absurd h
put_has_cause ReadFault words s refused out t a m h = absurd h
put_has_cause WriteFault words s refused out t a m h =
    let gives : (r : Bool) → Gives s m.text r out → PutsOut s m.text (h.0.front ++ h.0.rest) = λ r. elim r as (λ r. Gives s m.text r out → PutsOut s m.text (h.0.front ++ h.0.rest)) [ true ↦ λ g. inr (subst (RefusesByMarks s m.text) h.0.parts g) | false ↦ λ g. inl (subst (AcceptsText s m.text) h.0.parts g) ] in
    (s, a, record { text = m.text; front = h.0.front; rest = h.0.rest; gave = m.gave; is_text = m.is_text; puts = gives refused m.gives; written = h.0.took; fault = h.1 })
put_has_cause NoMemory words s refused out t a m h = absurd h
put_has_cause NotUtf8 words s refused out t a m h = absurd h
put_has_cause TooLong words s refused out t a m h = absurd h

gave_some : (left : Option (List ℕ)) (all text : List ℕ) → Consumes (Some all) left text → IsAtEnd left → (text ≡ all) × (left ≡ Some [])
gave_some None all text r e = absurd r
gave_some (Some ys) all text r e = (sym (r ∙ ap (λ l. text ++ l) e ∙ append-nil text), ap Some e)

-- A source that told its bytes gave just these.
pub gave_all : (given left : Option (List ℕ)) (all text : List ℕ) → given ≡ Some all → Gave given left text → (text ≡ all) × (left ≡ Some [])
gave_all given left all text e g =
    let read : Consumes (Some all) left text = subst (λ (o : Option (List ℕ)). Consumes o left text) e g.read in gave_some left all text read g.ended

no_more : (left : Option (List ℕ)) (all bytes : List ℕ) → Consumes (Some all) left bytes → length bytes ≤ length all
no_more None all bytes r = absurd r
no_more (Some ys) all bytes r = let sum : length (bytes ++ ys) ≡ length bytes + length ys = length-append bytes ys in let same : length all ≡ length (bytes ++ ys) = ap length r in omega arith

not_long : (t : Told) (bytes : List ℕ) → t.given ≡ Some bytes → IsLong t.given t.left → length bytes ≤ limit → ⊥
not_long t bytes e h short =
    let read : Consumes (Some bytes) t.left h.bytes = subst (λ (o : Option (List ℕ)). Consumes o t.left h.bytes) e h.read in
    let more : length h.bytes ≤ length bytes = no_more t.left bytes h.bytes read in
    let long = h.long in
    omega arith

same_settings : {words : List (List ℕ)} {s t : Settings} → Sets words s → Admitted words t → s ≡ t
same_settings a b = sym (a.only _ b)

answer_to_text : (status : Status) (words : List (List ℕ)) (t : Told) (text : List ℕ) (s : Settings) → t.given ≡ Some text → IsText text → Admitted words s → FitsWords status words → HasCause status words t → IsMarkedAnswerTo s text t status
answer_to_text Ok words t text s e is a f (r, b, h) = let g = gave_all _ _ text h.text e h.gave in (h.out, subst (λ (v : Settings). AcceptsText v text h.out) (same_settings b a) (subst (λ (x : List ℕ). AcceptsText r x h.out) g.0 h.puts), h.written, g.1)
answer_to_text Refused words t text s e is a f (r, b, h) = let g = gave_all _ _ text h.text e h.gave in (h.out, subst (λ (v : Settings). RefusesByMarks v text h.out) (same_settings b a) (subst (λ (x : List ℕ). RefusesByMarks r x h.out) g.0 h.puts), h.written, g.1)
answer_to_text Usage words t text s e is a f h = f s a
answer_to_text ReadFault words t text s e is a f h = h.fault
answer_to_text WriteFault words t text s e is a f (r, b, h) = let g = gave_all _ _ text h.text e h.gave in (h.front, h.rest, subst (λ (v : Settings). PutsOut v text (h.front ++ h.rest)) (same_settings b a) (subst (λ (x : List ℕ). PutsOut r x (h.front ++ h.rest)) g.0 h.puts), h.written, g.1, h.fault)
answer_to_text NoMemory words t text s e is a f h = tt
answer_to_text NotUtf8 words t text s e is a f h = let g = gave_all _ _ text h.bytes e h.gave in h.not_utf8 (subst IsUtf8 (sym g.0) is.utf8)
answer_to_text TooLong words t text s e is a f h = not_long t text e h is.short

answer_by : {A B C D : List ℕ → Type 0} → ((out : List ℕ) → A out → C out) → ((out : List ℕ) → B out → D out) → (t : Told) (status : Status) → IsAnswerBy A B t status → IsAnswerBy C D t status
answer_by f g t Ok (out, a, w, l) = (out, f out a, w, l)
answer_by f g t Refused (out, b, w, l) = (out, g out b, w, l)
answer_by f g t Usage h = h
answer_by f g t ReadFault h = h
answer_by f g t WriteFault (front, rest, inl a, w, l, h) = (front, rest, inl (f (front ++ rest) a), w, l, h)
answer_by f g t WriteFault (front, rest, inr b, w, l, h) = (front, rest, inr (g (front ++ rest) b), w, l, h)
answer_by f g t NoMemory h = h
answer_by f g t NotUtf8 h = h
answer_by f g t TooLong h = h

-- what a run answers to a text that the source tells, or may not tell
pub marked_if_told : (status : Status) (words : List (List ℕ)) (t : Told) (given : Option (List ℕ)) → t.given ≡ given → FitsWords status words → HasCause status words t → IfSome given (λ text. IsText text → (s : Settings) → Admitted words s → IsMarkedAnswerTo s text t status)
marked_if_told status words t None e f h = tt
marked_if_told status words t (Some text) e f h = λ is s a. answer_to_text status words t text s e is a f h

pub answer_if_told : (status : Status) (words : List (List ℕ)) (t : Told) (given : Option (List ℕ)) → t.given ≡ given → FitsWords status words → HasCause status words t → IfSome given (λ text. IsText text → (s : Settings) → Admitted words s → IsAnswerTo s text t status)
answer_if_told status words t None e f h = tt
answer_if_told status words t (Some text) e f h = λ is s a. answer_by (λ out x. x) (λ out x. x.refused) t status (answer_to_text status words t text s e is a f h)

-- ---- what else the steps of a run tell

pub put_fits_words : (status : Status) (words : List (List ℕ)) (refused : Bool) (out : List ℕ) (a b : Option (List ℕ)) (f g : ℕ) → PutCause status refused out a b f g → ((s : Settings) × Admitted words s) → FitsWords status words
put_fits_words Ok words refused out a b f g h some = some
put_fits_words Refused words refused out a b f g h some = some
put_fits_words Usage words refused out a b f g h some = absurd h
put_fits_words ReadFault words refused out a b f g h some = some
put_fits_words WriteFault words refused out a b f g h some = some
put_fits_words NoMemory words refused out a b f g h some = some
put_fits_words NotUtf8 words refused out a b f g h some = some
put_fits_words TooLong words refused out a b f g h some = some

pub put_leaves_sink : {K : Type 0} (status : Status) (refused : Bool) (out : List ℕ) (a b : Option (List ℕ)) (f g : ℕ) (old new : K) → PutCause status refused out a b f g → LeavesSink status old new
put_leaves_sink Ok refused out a b f g old new h = tt
put_leaves_sink Refused refused out a b f g old new h = tt
put_leaves_sink Usage refused out a b f g old new h = absurd h
put_leaves_sink ReadFault refused out a b f g old new h = absurd h
put_leaves_sink WriteFault refused out a b f g old new h = tt
put_leaves_sink NoMemory refused out a b f g old new h = absurd h
put_leaves_sink NotUtf8 refused out a b f g old new h = absurd h
put_leaves_sink TooLong refused out a b f g old new h = absurd h

pub put_leaves_source : {S : Type 0} (status : Status) (refused : Bool) (out : List ℕ) (a b : Option (List ℕ)) (f g : ℕ) (old new : S) → PutCause status refused out a b f g → LeavesSource status old new
put_leaves_source Ok refused out a b f g old new h = tt
put_leaves_source Refused refused out a b f g old new h = tt
put_leaves_source Usage refused out a b f g old new h = absurd h
put_leaves_source ReadFault refused out a b f g old new h = tt
put_leaves_source WriteFault refused out a b f g old new h = tt
put_leaves_source NoMemory refused out a b f g old new h = tt
put_leaves_source NotUtf8 refused out a b f g old new h = tt
put_leaves_source TooLong refused out a b f g old new h = tt

pub stop_fits_words : (status : Status) (words : List (List ℕ)) (a b : Option (List ℕ)) (f g : ℕ) → StopCause status a b f g → ((s : Settings) × Admitted words s) → FitsWords status words
stop_fits_words Ok words a b f g h some = some
stop_fits_words Refused words a b f g h some = some
stop_fits_words Usage words a b f g h some = absurd h
stop_fits_words ReadFault words a b f g h some = some
stop_fits_words WriteFault words a b f g h some = some
stop_fits_words NoMemory words a b f g h some = some
stop_fits_words NotUtf8 words a b f g h some = some
stop_fits_words TooLong words a b f g h some = some

pub stop_leaves_sink : {K : Type 0} (status : Status) (x : K) → LeavesSink status x x
stop_leaves_sink Ok x = tt
stop_leaves_sink Refused x = tt
stop_leaves_sink Usage x = refl
stop_leaves_sink ReadFault x = refl
stop_leaves_sink WriteFault x = tt
stop_leaves_sink NoMemory x = refl
stop_leaves_sink NotUtf8 x = refl
stop_leaves_sink TooLong x = refl

pub stop_leaves_source : {S : Type 0} (status : Status) (a b : Option (List ℕ)) (f g : ℕ) (old new : S) → StopCause status a b f g → LeavesSource status old new
stop_leaves_source Ok a b f g old new h = tt
stop_leaves_source Refused a b f g old new h = tt
stop_leaves_source Usage a b f g old new h = absurd h
stop_leaves_source ReadFault a b f g old new h = tt
stop_leaves_source WriteFault a b f g old new h = tt
stop_leaves_source NoMemory a b f g old new h = tt
stop_leaves_source NotUtf8 a b f g old new h = tt
stop_leaves_source TooLong a b f g old new h = tt

-- ---- bytes that are no text

pub long_or_before : (status : Status) (words : List (List ℕ)) (t : Told) (bytes : List ℕ) → t.given ≡ Some bytes → HasCause status words t → limit < length bytes → (status ≡ TooLong) ⊎ ComesBefore status
long_or_before Ok words t bytes e (r, b, h) long = let same : length h.text ≡ length bytes = ap length (gave_all _ _ bytes h.text e h.gave).0 in let short : length h.text ≤ limit = h.is_text.short in absurd (omega arith)
long_or_before Refused words t bytes e (r, b, h) long = let same : length h.text ≡ length bytes = ap length (gave_all _ _ bytes h.text e h.gave).0 in let short : length h.text ≤ limit = h.is_text.short in absurd (omega arith)
long_or_before Usage words t bytes e h long = inr tt
long_or_before ReadFault words t bytes e h long = inr tt
long_or_before WriteFault words t bytes e (r, b, h) long = let same : length h.text ≡ length bytes = ap length (gave_all _ _ bytes h.text e h.gave).0 in let short : length h.text ≤ limit = h.is_text.short in absurd (omega arith)
long_or_before NoMemory words t bytes e h long = inr tt
long_or_before NotUtf8 words t bytes e h long = let same : length h.bytes ≡ length bytes = ap length (gave_all _ _ bytes h.bytes e h.gave).0 in let short : length h.bytes ≤ limit = h.short in absurd (omega arith)
long_or_before TooLong words t bytes e h long = inl refl

pub no_text_or_before : (status : Status) (words : List (List ℕ)) (t : Told) (bytes : List ℕ) → t.given ≡ Some bytes → HasCause status words t → length bytes ≤ limit → (IsUtf8 bytes → ⊥) → (status ≡ NotUtf8) ⊎ ComesBefore status
no_text_or_before Ok words t bytes e (r, b, h) short bad = absurd (bad (subst IsUtf8 (gave_all _ _ bytes h.text e h.gave).0 h.is_text.utf8))
no_text_or_before Refused words t bytes e (r, b, h) short bad = absurd (bad (subst IsUtf8 (gave_all _ _ bytes h.text e h.gave).0 h.is_text.utf8))
no_text_or_before Usage words t bytes e h short bad = inr tt
no_text_or_before ReadFault words t bytes e h short bad = inr tt
no_text_or_before WriteFault words t bytes e (r, b, h) short bad = absurd (bad (subst IsUtf8 (gave_all _ _ bytes h.text e h.gave).0 h.is_text.utf8))
no_text_or_before NoMemory words t bytes e h short bad = inr tt
no_text_or_before NotUtf8 words t bytes e h short bad = inl refl
no_text_or_before TooLong words t bytes e h short bad = absurd (not_long t bytes e h short)

pub long_if_told : (status : Status) (words : List (List ℕ)) (t : Told) (given : Option (List ℕ)) → t.given ≡ given → HasCause status words t → IfSome given (λ bytes. limit < length bytes → (status ≡ TooLong) ⊎ ComesBefore status)
long_if_told status words t None e h = tt
long_if_told status words t (Some bytes) e h = long_or_before status words t bytes e h

pub no_text_if_told : (status : Status) (words : List (List ℕ)) (t : Told) (given : Option (List ℕ)) → t.given ≡ given → HasCause status words t → IfSome given (λ bytes. length bytes ≤ limit → (IsUtf8 bytes → ⊥) → (status ≡ NotUtf8) ⊎ ComesBefore status)
no_text_if_told status words t None e h = tt
no_text_if_told status words t (Some bytes) e h = no_text_or_before status words t bytes e h

no_fault : (a b : ℕ) → a ≡ 0 → b ≡ 0 → CountsFault a b → ⊥
no_fault a b p q f = elim f [ inl lt ↦ omega arith | inr e ↦ omega arith ]

pub no_read_fault : (status : Status) (words : List (List ℕ)) (t : Told) → t.read_faults ≡ 0 → t.read_faults_after ≡ 0 → HasCause status words t → status ≡ ReadFault → ⊥
no_read_fault Ok words t p q h e = cc
no_read_fault Refused words t p q h e = cc
no_read_fault Usage words t p q h e = cc
no_read_fault ReadFault words t p q h e = no_fault t.read_faults t.read_faults_after p q h.fault
no_read_fault WriteFault words t p q h e = cc
no_read_fault NoMemory words t p q h e = cc
no_read_fault NotUtf8 words t p q h e = cc
no_read_fault TooLong words t p q h e = cc

-- ---- core texts

writes_reading : (s : Settings) (text out : List ℕ) → IsUtf8 text → CoreSource text → AcceptsText s text out → WritesReading s.allow_v8 text out
writes_reading s text out u c a = record { tree = a.tree; only = only_core u c (read_at s.goal) (options_of s) a.tree a.only; lines = a.lines }

writes_diagnostics : (s : Settings) (text out : List ℕ) → IsUtf8 text → CoreSource text → RefusesText s text out → WritesDiagnostics s.allow_v8 text out
writes_diagnostics s text out u c r = record { none = none_core u c (read_at s.goal) (options_of s) r.none; found = r.found; some = r.some; inside = r.inside; lines = r.lines }

pub core_answer_if_told : (status : Status) (words : List (List ℕ)) (t : Told) (given : Option (List ℕ)) → t.given ≡ given → FitsWords status words → HasCause status words t → IfSome given (λ text. IsText text → CoreSource text → (s : Settings) → Admitted words s → AsksForTree s → IsCoreAnswerTo s text t status)
core_answer_if_told status words t None e f h = tt
core_answer_if_told status words t (Some text) e f h = λ is c s a asks. answer_by (λ out x. writes_reading s text out is.utf8 c x) (λ out x. writes_diagnostics s text out is.utf8 c x.refused) t status (answer_to_text status words t text s e is a f h)
