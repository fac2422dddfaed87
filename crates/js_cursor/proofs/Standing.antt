-- What stands here counts as a lexeme of the text.
use Rattle.std.proofs.Common.{ℕ, ◌+◌, ◌-◌, ◌≡◌, ◌≤◌, ◌<◌, ◌⊎◌, inl, inr, Bool, true, false, List, [], ◌∷◌, ◌++◌, length, refl, sym, ap, subst, arith, ◌∙◌, Option, Some, None, length-append, not, ◌&&◌, ◌||◌, ◌==◌, take, drop, get_or}
use Rattle.std.proofs.Math.Seq.{get_or-append_seam}
use Rattle.std.specs.Prelude.{IsTrue, IsUtf8, codes, bytes_eq, IsCharBoundary}
use Rattle.std.specs.List.{All, slice_get}
use Rattle.std.proofs.lemmas.Option.{slice_get_read}
use Rattle.std.proofs.lemmas.Bool.{false≢true, eqb-true, or_cases}
use Rattle.std.proofs.lemmas.List.{length-take, length-drop, get_or-take, get_or-drop}
use Rattle.std.proofs.lemmas.List.Elements.{All-get_or, All-same}
use Rattle.std.proofs.lemmas.Str.{IsCharBoundary-after_ascii}
use Rattle.js_base.specs.declared.diagnostic.Diagnostic.{Diagnostic}
use Rattle.js_base.specs.declared.diagnostic.DiagnosticKind.{DiagnosticKind}
use Rattle.js_base.specs.declared.diagnostic.DiagnosticKind.TheVariants as fault
use Rattle.js_base.specs.declared.kind.Kind.TheVariants.{Undetermined, RAngle}
use Rattle.js_base.specs.declared.span.Span.{Span}
use Rattle.js_base.specs.declared.token.Token.{Token}
use Rattle.js_base.specs.Spans.{LiesIn}
use Rattle.js_tree.specs.js_grammar.CoreTexts.{starts}
use Rattle.js_tree.specs.js_grammar.Grammar.{Lexeme}
use Rattle.js_tree.specs.js_grammar.Lexemes.{LexicalGoal, division}
use Rattle.js_tree.specs.js_grammar.LexicalFaults.{Faulty, Stopping, is_invalid_character}
use Rattle.js_tree.specs.js_grammar.Marks.{Mark, StandsAt, LexemeAt, IsLexemeOf, a_lexeme, a_sign, a_fault, any_lexeme, cut_sign, goes_on, faulty_lexeme, begins_some_marker, begins_marker, begins_middle, begins_closing, seven_from}
use Rattle.js_cursor.specs.Markers.{lexeme_of, Related, Scanned}
use Rattle.js_cursor.specs.declared.marker.Partners.{Partners}
use Rattle.js_lex.specs.States.{State}
use Rattle.js_cursor.proofs.Partnering.{same_bytes}
use Rattle.js_tree.proofs.js_grammar.LongestLemmas.{both-right}
use Rattle.js_tree.specs.js_grammar.Settings.{Goal}
use Rattle.js_lex.specs.Reading.{cut, is_right_angle, Tells, GivesLexeme, GivesNone}
use Rattle.js_lex.proofs.Again.{cut_same, cut_newline}
use Rattle.js_cursor.specs.Parsers.{Parser}
use Rattle.js_cursor.specs.Tokens.{IsToken, whole, sign, nothing}
use Rattle.js_cursor.specs.Places.{IsAt, IsFault, goal}
use Rattle.js_cursor.specs.Moves.{StandsHere, at_lexeme, at_fault, IsHere, IsUnexpected, IsMarker, a_fault as of_fault, a_marker as of_marker, a_lexeme as of_lexeme, MayTell, GivesUp}
use Rattle.js_cursor.specs.declared.stop.Stop.{Stop}
use Rattle.js_cursor.specs.declared.stop.Stop.TheVariants.{Fatal, NoMemory}

pub last_is : {errors : List Diagnostic} (before : List Diagnostic) (d : Diagnostic) → errors ≡ before ++ d ∷ [] → slice_get errors (length errors - 1) ≡ Some d
last_is {errors} before d e = subst (λ (v : List Diagnostic). slice_get v (length v - 1) ≡ Some d) (sym e) here
  where
    same : length (before ++ d ∷ []) ≡ length before + 1
    same = length-append before (d ∷ [])

    here : slice_get (before ++ d ∷ []) (length (before ++ d ∷ []) - 1) ≡ Some d
    here =
        let i : length (before ++ d ∷ []) - 1 ≡ length before = omega (arith, same) in
        subst (λ (n : ℕ). slice_get (before ++ d ∷ []) n ≡ Some d) (sym i) (slice_get_read (before ++ d ∷ []) (length (before ++ d ∷ [])) (length before) d refl (omega (arith, same)) (sym (get_or-append_seam before d [] d)))

pub All-last : (P : Diagnostic → Type 0) {errors : List Diagnostic} (before : List Diagnostic) (d : Diagnostic) → errors ≡ before ++ d ∷ [] → All P errors → P d
All-last P {errors} before d e h =
    let same : length (before ++ d ∷ []) ≡ length before + 1 = length-append before (d ∷ []) in
    subst P (get_or-append_seam before d [] d) (All-get_or P (before ++ d ∷ []) (length before) d (omega (arith, same)) (All-same P (before ++ d ∷ []) errors (sym e) h))

-- the fault that is kept last is the token's, where no lexeme stands
pub record LastFault (p : Parser) : Type 0 where
  pub before : List Diagnostic
  pub fault : Diagnostic
  pub is_last : p.lexer.kept.errors ≡ before ++ fault ∷ []
  pub read_for : LexicalGoal
  pub none : GivesNone read_for (goal p) p.text p.prev_token_end p.token fault

pub last_fault : {p : Parser} → IsAt p → p.token.kind ≡ Undetermined → LastFault p
last_fault {p} a u = go p.cut a.token
  where
    it : {g : LexicalGoal} {d : Diagnostic} (before : List Diagnostic) → p.lexer.kept.errors ≡ before ++ d ∷ [] → GivesNone g (goal p) p.text p.prev_token_end p.token d → LastFault p
    it {g} {d} before r x = record { before = before; fault = d; is_last = r; read_for = g; none = x }

    go : (b : Bool) → IsToken (goal p) p.text p.prev_token_end p.lexer.kept.errors p.token b → LastFault p
    go true (sign k x) = absurd (let z : Undetermined ≡ RAngle = sym u ∙ k in cc)
    go false (whole n x) = absurd (n u)
    go false (nothing before k r x) = it before r x

pub fault_here : {p q : Parser} → p ≡ q → IsAt q → q.token.kind ≡ Undetermined → (d : Diagnostic) → Some d ≡ slice_get p.lexer.kept.errors (length p.lexer.kept.errors - 1) → StandsHere q d.span
fault_here {p} {q} v a u d e =
    let f = last_fault a u in
    let l : slice_get q.lexer.kept.errors (length q.lexer.kept.errors - 1) ≡ Some f.fault = last_is f.before f.fault f.is_last in
    let k : Some d ≡ slice_get q.lexer.kept.errors (length q.lexer.kept.errors - 1) = subst (λ (r : Parser). Some d ≡ slice_get r.lexer.kept.errors (length r.lexer.kept.errors - 1)) v e in
    let s : d ≡ f.fault = cc in
    at_fault f.before f.fault u f.is_last (ap (λ (x : Diagnostic). x.span) s)

pub no_fault_here : {p q : Parser} → p ≡ q → IsAt q → q.token.kind ≡ Undetermined → None ≡ slice_get p.lexer.kept.errors (length p.lexer.kept.errors - 1) → ⊥
no_fault_here {p} {q} v a u e =
    let f = last_fault a u in
    let l : slice_get q.lexer.kept.errors (length q.lexer.kept.errors - 1) ≡ Some f.fault = last_is f.before f.fault f.is_last in
    let k : None ≡ slice_get q.lexer.kept.errors (length q.lexer.kept.errors - 1) = subst (λ (r : Parser). None ≡ slice_get r.lexer.kept.errors (length r.lexer.kept.errors - 1)) v e in
    let z : None ≡ Some f.fault = k ∙ l in cc

pub lexeme_here : {q : Parser} (s : Span) → (q.token.kind ≡ Undetermined → ⊥) → s ≡ q.token.span → StandsHere q s
lexeme_here s n e = at_lexeme n e

-- faults
no_hashbang : (a b c : Bool) → (a ≡ true → b ≡ true → c ≡ true → ⊥) → IsTrue (not (a && (b && c)))
no_hashbang true true true h = absurd (h refl refl refl)
no_hashbang true true false h = refl
no_hashbang true false c h = refl
no_hashbang false b c h = refl

faulty : {source : Goal} {text : List ℕ} {d : Diagnostic} → IsFault source text d → Faulty d.kind source text d.span.start d.span.end
faulty {source} {text} {d} f = record { place = f.place; reached = f.reached; faulty = f.faulty; no_hashbang = no_hashbang (is_invalid_character d.kind) (d.span.start == 0) (starts (codes "#!") text) (λ i z s. f.no_hashbang i (eqb-true d.span.start 0 z) s) }

stops : (k : DiagnosticKind) (text : List ℕ) (i from to : ℕ) → Stopping k text i from to → IsTrue (not (goes_on k))
stops fault.RegExpFlag text i from to h = absurd h
stops fault.HtmlCommentInModule text i from to h = absurd h
stops _ text i from to h = refl

follows : (k : DiagnosticKind) (text : List ℕ) (i from to : ℕ) → Stopping k text i from to → i ≤ from
follows fault.InvalidCharacter text i from to h = let e = h.0 in omega arith
follows fault.BinaryFile text i from to h = let e = h.0 in omega arith
follows fault.UnterminatedString text i from to h = let e = h.0 in omega arith
follows fault.UnterminatedTemplate text i from to h = let e = h.0 in omega arith
follows fault.UnterminatedRegexp text i from to h = let e = h.0 in omega arith
follows fault.UnterminatedComment text i from to h = let e = h.0 in omega arith
follows fault.InvalidNumber text i from to h = let e = h.0 in omega arith
follows fault.InvalidEscape text i from to (inl h) = let e = h.begin in omega arith
follows fault.InvalidEscape text i from to (inr h) = let e = h.begin in omega arith
follows _ text i from to h = absurd h

-- it counts as a lexeme, and lies behind the place
pub record Counts (p : Parser) (s : Span) : Type 0 where
  pub lexeme : LexemeAt any_lexeme (goal p) p.text s
  pub behind : p.prev_token_end ≤ s.start
  pub lies : LiesIn s p.text

whole_counts : {p : Parser} {g : LexicalGoal} → IsAt p → GivesLexeme g (λ y. y) p.text p.prev_token_end p.token → Counts p p.token.span
whole_counts {p} a x = record {
  lexeme = record { lexeme = x.lexeme; of_text = a_lexeme a.reached x.stands.lex; is = (sym x.tells.start, sym x.tells.end); passes = refl };
  behind = let f = x.stands.lex.from in let t = x.tells.start in omega arith;
  lies = a.lies;
}

record Greater (y : Lexeme) (t : Token) : Type 0 where
  begins : is_right_angle y.kind ≡ true
  start : y.from ≡ t.span.start
  end : y.from + 1 ≡ t.span.end

greater : (y : Lexeme) (t : Token) → Tells (cut y) t → t.kind ≡ RAngle → Greater y t
greater y t h k = go (is_right_angle y.kind) refl
  where
    go : (b : Bool) → is_right_angle y.kind ≡ b → Greater y t
    go true e = let c : cut y ≡ cut_sign y = rw (e, cut) refl in record { begins = e; start = sym (h.start ∙ ap (λ (z : Lexeme). z.from) c); end = sym (h.end ∙ ap (λ (z : Lexeme). z.to) c) }
    go false e = absurd (false≢true (sym e ∙ ap is_right_angle (ap (λ (z : Lexeme). z.kind) (sym (cut_same y e)) ∙ (sym h.kind ∙ k))))

sign_counts : {p : Parser} → IsAt p → p.token.kind ≡ RAngle → GivesLexeme division cut p.text p.prev_token_end p.token → Counts p p.token.span
sign_counts {p} a k x =
    let g = greater x.lexeme p.token x.tells k in
    record {
      lexeme = record { lexeme = cut_sign x.lexeme; of_text = a_sign a.reached x.stands.lex g.begins; is = (g.start, g.end); passes = refl };
      behind = let f = x.stands.lex.from in let t = g.start in omega arith;
      lies = a.lies;
    }

fault_counts : {p : Parser} {g : LexicalGoal} (d : Diagnostic) → IsFault (goal p) p.text d → GivesNone g (goal p) p.text p.prev_token_end p.token d → Counts p d.span
fault_counts {p} d f x = record {
  lexeme = record { lexeme = faulty_lexeme d.span.start d.span.end; of_text = a_fault (faulty f) (stops d.kind p.text p.token.span.start d.span.start d.span.end x.stops); is = (refl, refl); passes = refl };
  behind = let i = follows d.kind p.text p.token.span.start d.span.start d.span.end x.stops in let u = x.due.place in omega arith;
  lies = record { ordered = let o = f.faulty.ordered in omega arith; starts_whole = f.faulty.begins_between; ends_whole = f.faulty.ends_between };
}

pub counts : {p : Parser} {s : Span} → IsAt p → StandsHere p s → Counts p s
counts {p} {s} a (at_lexeme n e) = subst (Counts p) (sym e) (go p.cut a.token)
  where
    go : (b : Bool) → IsToken (goal p) p.text p.prev_token_end p.lexer.kept.errors p.token b → Counts p p.token.span
    go true (sign k x) = sign_counts a k x
    go false (whole u x) = whole_counts a x
    go false (nothing before k r x) = absurd (n k)
counts {p} {s} a (at_fault before fault u r e) =
    let f = last_fault a u in
    let one : slice_get p.lexer.kept.errors (length p.lexer.kept.errors - 1) ≡ Some f.fault = last_is f.before f.fault f.is_last in
    let two : slice_get p.lexer.kept.errors (length p.lexer.kept.errors - 1) ≡ Some fault = last_is before fault r in
    let same : f.fault ≡ fault = cc in
    subst (Counts p) (ap (λ (x : Diagnostic). x.span) same ∙ sym e) (fault_counts f.fault (All-last (IsFault (goal p) p.text) f.before f.fault f.is_last a.faulty) f.none)

-- a diagnostic of it has its mark
pub mark_here : {p : Parser} (k : DiagnosticKind) (s : Span) (first : Option Span) → IsAt p → StandsHere p s → MayTell k p first → Mark (goal p) p.text (record { kind = k; span = s; first = first; second = None })
mark_here {p} k s first a h m =
    let c = counts a h in
    record {
      ordered = c.lies.ordered;
      within = c.lies.ends_whole.0;
      begins_between = c.lies.starts_whole;
      ends_between = c.lies.ends_whole;
      stands = m s c.lexeme c.behind;
    }

pub gave_up : {p : Parser} (q : Parser) (k : DiagnosticKind) (s : Span) (first : Option Span) (e : Stop) → StandsHere p s → GivesUp (λ d. d ≡ record { kind = k; span = s; first = first; second = None }) p q e → GivesUp (IsHere k p first) p q e
gave_up {p} q k s first Fatal h (d, e, x) = (d, record { kind = ap (λ (z : Diagnostic). z.kind) e; span = subst (StandsHere p) (sym (ap (λ (z : Diagnostic). z.span) e)) h; is_first = ap (λ (z : Diagnostic). z.first) e; no_second = ap (λ (z : Diagnostic). z.second) e }, x)
gave_up q k s first NoMemory h x = x

-- ---- what can't stand here

fault_stands : (k : DiagnosticKind) (source : Goal) (text : List ℕ) (i : ℕ) (s : Span) (first second : Option Span) → Stopping k text i s.start s.end → Faulty k source text s.start s.end → first ≡ None → second ≡ None → StandsAt k source text s first second
fault_stands fault.InvalidCharacter source text i s first second h f n m = (f, (n, m))
fault_stands fault.BinaryFile source text i s first second h f n m = (f, (n, m))
fault_stands fault.UnterminatedString source text i s first second h f n m = (f, (n, m))
fault_stands fault.UnterminatedTemplate source text i s first second h f n m = (f, (n, m))
fault_stands fault.UnterminatedRegexp source text i s first second h f n m = (f, (n, m))
fault_stands fault.UnterminatedComment source text i s first second h f n m = (f, (n, m))
fault_stands fault.InvalidEscape source text i s first second h f n m = (f, (n, m))
fault_stands fault.InvalidNumber source text i s first second h f n m = (f, (n, m))
fault_stands _ source text i s first second h f n m = absurd h

fault_mark : {p : Parser} → IsAt p → (f : LastFault p) → Mark (goal p) p.text f.fault
fault_mark {p} a f =
    let x : IsFault (goal p) p.text f.fault = All-last (IsFault (goal p) p.text) f.before f.fault f.is_last a.faulty in
    record {
      ordered = let o = x.faulty.ordered in omega arith;
      within = x.faulty.ends_between.0;
      begins_between = x.faulty.begins_between;
      ends_between = x.faulty.ends_between;
      stands = fault_stands f.fault.kind (goal p) p.text p.token.span.start f.fault.span f.fault.first f.fault.second f.none.stops (faulty x) f.none.no_first f.none.no_second;
    }

diagnostic_same : (d : Diagnostic) {k : DiagnosticKind} {first second : Option Span} → d.kind ≡ k → d.first ≡ first → d.second ≡ second → d ≡ record { kind = k; span = d.span; first = first; second = second }
diagnostic_same d a b c = λ i. record { kind = a i; span = d.span; first = b i; second = c i }

-- the lexeme that the current token tells
record Stood (p : Parser) : Type 0 where
  lexeme : Lexeme
  of_text : IsLexemeOf (goal p) p.text lexeme
  from : p.token.span.start ≡ lexeme.from
  to : p.token.span.end ≡ lexeme.to
  newline : p.token.is_on_new_line ≡ lexeme.newline

stood : {p : Parser} → IsAt p → (p.token.kind ≡ Undetermined → ⊥) → Stood p
stood {p} a n = go p.cut a.token
  where
    go : (b : Bool) → IsToken (goal p) p.text p.prev_token_end p.lexer.kept.errors p.token b → Stood p
    go true (sign k x) =
        let g = greater x.lexeme p.token x.tells k in
        record { lexeme = cut_sign x.lexeme; of_text = a_sign a.reached x.stands.lex g.begins; from = sym g.start; to = sym g.end; newline = x.tells.newline ∙ cut_newline x.lexeme }
    go false (whole u x) = record { lexeme = x.lexeme; of_text = a_lexeme a.reached x.stands.lex; from = x.tells.start; to = x.tells.end; newline = x.tells.newline }
    go false (nothing before k r x) = absurd (n k)

marker_same : (text : List ℕ) (x : Lexeme) (t : Token) → t.span.start ≡ x.from → t.is_on_new_line ≡ x.newline → begins_some_marker text (lexeme_of t) ≡ begins_some_marker text x
marker_same text x t f n = λ i. begins_some_marker text (record { kind = x.kind; from = f i; to = x.to; newline = n i; escaped = x.escaped; units = x.units })

-- seven ASCII signs end between characters
ends_signs : (signs text : List ℕ) (i : ℕ) → IsUtf8 text → length signs ≡ 7 → get_or signs 6 0 < 128 → bytes_eq (take 7 (drop i text)) signs ≡ true → (i + 7 ≤ length text) × IsCharBoundary text (i + 7)
ends_signs signs text i u l h e =
    let same : take 7 (drop i text) ≡ signs = same_bytes (take 7 (drop i text)) signs e in
    let taken = length-take 7 (drop i text) in
    let dropped = length-drop i text in
    let long : i + 7 ≤ length text = omega (arith, taken, dropped, l, ap length same) in
    let last : get_or text (i + 6) 0 < 128 = subst (λ (n : ℕ). n < 128) (sym (ap (λ (v : List ℕ). get_or v 6 0) same) ∙ get_or-take 7 (drop i text) 6 0 (omega arith) ∙ get_or-drop i text 6 0) h in
    let there : IsCharBoundary text (i + 6 + 1) = IsCharBoundary-after_ascii text (i + 6) u (omega arith) last in
    (long, subst (IsCharBoundary text) (omega arith) there)

marker_ends : (text : List ℕ) (x : Lexeme) → IsUtf8 text → begins_some_marker text x ≡ true → (x.from + 7 ≤ length text) × IsCharBoundary text (x.from + 7)
marker_ends text x u h = first (or_cases (begins_marker (codes "<<<<<<<") text x) (begins_middle text x || (begins_closing text x || begins_marker (codes "|||||||") text x)) h)
  where
    ends : (signs : List ℕ) → length signs ≡ 7 → get_or signs 6 0 < 128 → begins_marker signs text x ≡ true → (x.from + 7 ≤ length text) × IsCharBoundary text (x.from + 7)
    ends signs l c e = ends_signs signs text x.from u l c (both-right (x.newline || (x.from == 0)) (bytes_eq (take 7 (drop x.from text)) signs) e)

    third : (begins_closing text x ≡ true) ⊎ (begins_marker (codes "|||||||") text x ≡ true) → (x.from + 7 ≤ length text) × IsCharBoundary text (x.from + 7)
    third (inl e) = let c : 62 < 128 = omega arith in ends (codes ">>>>>>>") refl c e
    third (inr e) = let c : 124 < 128 = omega arith in ends (codes "|||||||") refl c e

    second : (begins_middle text x ≡ true) ⊎ ((begins_closing text x || begins_marker (codes "|||||||") text x) ≡ true) → (x.from + 7 ≤ length text) × IsCharBoundary text (x.from + 7)
    second (inl e) = let c : 61 < 128 = omega arith in ends (codes "=======") refl c e
    second (inr e) = third (or_cases (begins_closing text x) (begins_marker (codes "|||||||") text x) e)

    first : (begins_marker (codes "<<<<<<<") text x ≡ true) ⊎ ((begins_middle text x || (begins_closing text x || begins_marker (codes "|||||||") text x)) ≡ true) → (x.from + 7 ≤ length text) × IsCharBoundary text (x.from + 7)
    first (inl e) = let c : 60 < 128 = omega arith in ends (codes "<<<<<<<") refl c e
    first (inr e) = second (or_cases (begins_middle text x) (begins_closing text x || begins_marker (codes "|||||||") text x) e)

marker_mark : {p : Parser} {d : Diagnostic} → IsAt p → (p.token.kind ≡ Undetermined → ⊥) → IsMarker p d → Mark (goal p) p.text d
marker_mark {p} {d} a n m =
    let s = stood a n in
    let e = marker_ends p.text (lexeme_of p.token) a.utf8 m.begins in
    let from : p.token.span.start ≡ d.span.start = ap (λ (z : Span). z.start) (sym m.span) in
    let to : p.token.span.start + 7 ≡ d.span.end = ap (λ (z : Span). z.end) (sym m.span) in
    record {
      ordered = omega (arith, from, to);
      within = omega (arith, to, e.0);
      begins_between = subst (IsCharBoundary p.text) from a.lies.starts_whole;
      ends_between = subst (IsCharBoundary p.text) to e.1;
      stands = subst (λ (k : DiagnosticKind). StandsAt k (goal p) p.text d.span d.first d.second) (sym m.kind) (record {
        lexeme = s.lexeme;
        of_text = s.of_text;
        marker = sym (marker_same p.text s.lexeme p.token s.from s.newline) ∙ m.begins;
        is = m.span ∙ ap seven_from s.from;
        related = subst (λ (i : ℕ). Related p.text i d.first d.second) s.to m.related;
      });
    }

pub unexpected_mark : {p : Parser} {d : Diagnostic} → IsAt p → IsUnexpected p d → Mark (goal p) p.text d
unexpected_mark {p} {d} a (of_fault before u r) =
    let f = last_fault a u in
    let one : slice_get p.lexer.kept.errors (length p.lexer.kept.errors - 1) ≡ Some f.fault = last_is f.before f.fault f.is_last in
    let two : slice_get p.lexer.kept.errors (length p.lexer.kept.errors - 1) ≡ Some d = last_is before d r in
    let same : f.fault ≡ d = cc in
    subst (Mark (goal p) p.text) same (fault_mark a f)
unexpected_mark {p} {d} a (of_marker n m) = marker_mark a n m
unexpected_mark {p} {d} a (of_lexeme n b h) =
    let same : d ≡ record { kind = fault.UnexpectedToken; span = d.span; first = None; second = None } = diagnostic_same d h.kind h.is_first h.no_second in
    subst (Mark (goal p) p.text) (sym same) (mark_here fault.UnexpectedToken d.span None a h.span (λ s x b. (x, (refl, refl))))

pub fault_unexpected : {p q : Parser} → p ≡ q → IsAt q → q.token.kind ≡ Undetermined → (d : Diagnostic) → Some d ≡ slice_get p.lexer.kept.errors (length p.lexer.kept.errors - 1) → IsUnexpected q d
fault_unexpected {p} {q} v a u d e =
    let f = last_fault a u in
    let l : slice_get q.lexer.kept.errors (length q.lexer.kept.errors - 1) ≡ Some f.fault = last_is f.before f.fault f.is_last in
    let k : Some d ≡ slice_get q.lexer.kept.errors (length q.lexer.kept.errors - 1) = subst (λ (r : Parser). Some d ≡ slice_get r.lexer.kept.errors (length r.lexer.kept.errors - 1)) v e in
    let s : f.fault ≡ d = cc in
    subst (IsUnexpected q) s (of_fault f.before u f.is_last)

pub lexeme_unexpected : {q : Parser} (d : Diagnostic) (s : Span) → (q.token.kind ≡ Undetermined → ⊥) → begins_some_marker q.text (lexeme_of q.token) ≡ false → s ≡ q.token.span → d ≡ record { kind = fault.UnexpectedToken; span = s; first = None; second = None } → IsUnexpected q d
lexeme_unexpected {q} d s n b e r = of_lexeme n b (record { kind = ap (λ (z : Diagnostic). z.kind) r; span = at_lexeme n (ap (λ (z : Diagnostic). z.span) r ∙ e); is_first = ap (λ (z : Diagnostic). z.first) r; no_second = ap (λ (z : Diagnostic). z.second) r })

pub unexpected_gave_up : {p : Parser} (q : Parser) {d : Diagnostic} (e : Stop) → IsUnexpected p d → GivesUp (λ x. x ≡ d) p q e → GivesUp (IsUnexpected p) p q e
unexpected_gave_up {p} q {d} Fatal h (x, e, k) = (x, subst (IsUnexpected p) (sym e) h, k)
unexpected_gave_up q NoMemory h x = x

pub related_seen : {p q : Parser} {l : State} {r : Partners} → p ≡ q → IsAt q → Scanned p.lexer l r → Related q.text q.token.span.end r.middle r.closing
related_seen {p} {q} {l} {r} v a s =
    let one : Related q.lexer.text q.lexer.place r.middle r.closing = subst (λ (z : Parser). Related z.lexer.text z.lexer.place r.middle r.closing) v s.related in
    subst (λ (i : ℕ). Related q.text i r.middle r.closing) a.last (subst (λ (w : List ℕ). Related w q.lexer.place r.middle r.closing) a.reads one)

pub marker_told : {q : Parser} (s : Span) {first second : Option Span} → (q.token.kind ≡ Undetermined → ⊥) → begins_some_marker q.text (lexeme_of q.token) ≡ true → s.start ≡ q.token.span.start → s.end ≡ q.token.span.start + 7 → Related q.text q.token.span.end first second → IsUnexpected q (record { kind = fault.MergeConflictMarker; span = s; first = first; second = second })
marker_told {q} s n b x y r = of_marker n (record { kind = refl; span = λ i. record { start = x i; end = y i }; begins = b; related = r })

-- the token is the parser's
pub marker_seen : {p q : Parser} → p ≡ q → (t : Token) (b : Bool) → t ≡ q.token → b ≡ begins_some_marker p.text (lexeme_of t) → b ≡ begins_some_marker q.text (lexeme_of q.token)
marker_seen v t b e h = h ∙ (λ i. begins_some_marker (v i).text (lexeme_of (e i)))

pub mark_after : {p q : Parser} {d : Diagnostic} → q ≡ p → IsAt p → IsUnexpected p d → Mark (goal q) q.text d
mark_after {p} {q} {d} v a h = subst (λ (z : Parser). Mark (goal z) z.text d) (sym v) (unexpected_mark a h)
