-- A token that is read again by another lexical goal.
use Rattle.std.proofs.Common.{◌≡◌, ◌≤◌, ℕ, ◌+◌, ◌==◌, Bool, true, false, List, [], ◌∷◌, ◌++◌, refl, sym, ap, subst, ◌∙◌, length, arith, append-nil, Some, None}
use Rattle.std.specs.Prelude.{IsTrue, IsCharBoundary, IsUtf8, IfOk, Result, Ok, Err}
use Rattle.js_base.specs.declared.kind.Kind.{Kind}
use Rattle.js_base.specs.declared.kind.Kind.TheVariants.{RAngle, RCurly, Undetermined}
use Rattle.js_base.specs.declared.token.Token.{Token}
use Rattle.js_base.specs.Kinds.{same_kind}
use Rattle.js_base.specs.Spans.{LiesIn}
use Rattle.std.proofs.lemmas.Bool.{false≢true}
use Rattle.js_base.specs.declared.diagnostic.Diagnostic.{Diagnostic}
use Rattle.part_words.specs.js_grammar.Grammar.{Lexeme}
use Rattle.part_words.specs.js_grammar.Settings.{Goal}
use Rattle.part_words.specs.js_grammar.Characters.{has_line_terminator, width}
use Rattle.part_words.specs.js_grammar.Longest.{none_begins, joined}
use Rattle.part_words.specs.js_grammar.Trivia.{is_trivia_piece, are_trivia}
use Rattle.part_words.specs.js_grammar.Lexemes.{LexicalGoal, division, kind_in}
use Rattle.part_words.specs.js_grammar.Lexed.{IsLexeme}
use Rattle.part_words.specs.js_grammar.LexicalFaults.{behind}
use Rattle.part_words.specs.declared.scan.Scanned.{Scanned}
use Rattle.part_words.specs.declared.scan.Fault.{Fault}
use Rattle.js_lex.specs.declared.output.LexerOutput.{LexerOutput}
use Rattle.part_words.specs.Places.{Word}
use Rattle.part_words.specs.Scans.{IsScanned, IsStopped, Scans}
use Rattle.js_lex.specs.States.{State, SameText}
use Rattle.js_lex.specs.Reading.{is_right_angle, cut, Tells, LexemeBehind, GivesLexeme, GivesNone, GivesBehind, WasGiven, GivesAgain, relexed}
use Rattle.js_lex.specs.Settling.{token_of, undetermined_of, diagnostic_of, Fits, SettledAgain, SettledBehind, ScanEnds}
use Rattle.js_lex.proofs.ReadAgain.{unflagged}
use Rattle.part_words.proofs.KindsOfLexemes.{determined, plain_end, brace_word}
use Rattle.part_scan.proofs.StringPlaces.{front_word}
use Rattle.js_lex.proofs.Giving.{lexeme_of, lexeme_behind, gives_none, determined_outcome, trivia_ends}

pub cancel : (u v w : List ℕ) → u ++ v ≡ u ++ w → v ≡ w
cancel [] v w e = e
cancel (c ∷ u) v w e = let f : u ++ v ≡ u ++ w = cc in cancel u v w f

-- the trivia of a lexeme behind a place between characters was passed up to its start, and there it stands
pub record Passed (text : List ℕ) (s : ℕ) (y : Lexeme) : Type 0 where
  pub pieces : List (List ℕ)
  pub word : List ℕ
  pub rest : List ℕ
  pub stands : Word text s y.from (joined pieces)
  pub trivia : are_trivia (s == 0) pieces (behind text y.from) ≡ true
  pub here : behind text y.from ≡ word ++ rest
  pub newline : y.newline ≡ has_line_terminator (joined pieces)
  pub to : y.to ≡ y.from + width word
  pub lexeme : IsLexeme division y.from word rest y.kind

pub passed : {text : List ℕ} {s : ℕ} {y : Lexeme} → IsUtf8 text → IsCharBoundary text s → LexemeBehind division text s y → Passed text s y
passed {text = text} {s = s} {y = y} u b h =
    let l = h.lex in
    let w = front_word text s (joined l.trivia) (l.word ++ l.rest) u b l.stands.splits in
    let v : Word text s y.from (joined l.trivia) = subst (λ (n : ℕ). Word text s n (joined l.trivia)) (sym l.from) w in
    let here : behind text y.from ≡ l.word ++ l.rest = cancel (joined l.trivia) (behind text y.from) (l.word ++ l.rest) (sym v.splits ∙ l.stands.splits) in
    record {
      pieces = l.trivia;
      word = l.word;
      rest = l.rest;
      stands = v;
      trivia = subst (λ (x : List ℕ). are_trivia (s == 0) l.trivia x ≡ true) (sym here) l.stands.trivia;
      here = here;
      newline = l.newline;
      to = l.to;
      lexeme = subst (λ (g : LexicalGoal). IsLexeme g y.from l.word l.rest y.kind) h.of_goal l.lexeme;
    }

-- ---- the lexeme that a token shows

pub cut_from : (y : Lexeme) → (cut y).from ≡ y.from
cut_from y = go (is_right_angle y.kind) refl
  where
    go : (b : Bool) → is_right_angle y.kind ≡ b → (cut y).from ≡ y.from
    go true e = rw (e, cut) refl
    go false e = rw (e, cut) refl

pub cut_newline : (y : Lexeme) → (cut y).newline ≡ y.newline
cut_newline y = go (is_right_angle y.kind) refl
  where
    go : (b : Bool) → is_right_angle y.kind ≡ b → (cut y).newline ≡ y.newline
    go true e = rw (e, cut) refl
    go false e = rw (e, cut) refl

-- what begins with no `>` is shown as it is
pub cut_same : (y : Lexeme) → is_right_angle y.kind ≡ false → cut y ≡ y
cut_same y e = rw (e, cut) refl

-- a kind that is shown, but for `>`, is the lexeme's own
pub cut_kind : (y : Lexeme) (k : Kind) → (cut y).kind ≡ k → (RAngle ≡ k → ⊥) → y.kind ≡ k
cut_kind y k h n = go (is_right_angle y.kind) refl
  where
    go : (b : Bool) → is_right_angle y.kind ≡ b → y.kind ≡ k
    go true e = absurd (n (sym (rw (e, cut) refl) ∙ h))
    go false e = sym (rw (e, cut) refl) ∙ h

pub given_start : (y : Lexeme) {t : Token} → Tells (cut y) t → t.span.start ≡ y.from
given_start y h = h.start ∙ cut_from y

-- ---- what is given in its place

again_newline : {text : List ℕ} {s : ℕ} (y : Lexeme) {t : Token} (p : Passed text s y) → Tells (cut y) t → t.is_on_new_line ≡ has_line_terminator (joined p.pieces)
again_newline y p h = h.newline ∙ cut_newline y ∙ p.newline

pub again_lexeme : {goal : LexicalGoal} {text : List ℕ} {s : ℕ} (y : Lexeme) (given : Token) (sc : Scanned) → s ≤ length text → Passed text s y → Tells (cut y) given → IsScanned goal text given.span.start sc → GivesLexeme goal (λ z. z) text s (token_of sc given.span.start given.is_on_new_line)
unfolding lexeme_behind
again_lexeme {goal = goal} {text = text} {s = s} y given sc l p h k =
    let e : given.span.start ≡ y.from = given_start y h in
    let w : Word text s given.span.start (joined p.pieces) = subst (λ (n : ℕ). Word text s n (joined p.pieces)) (sym e) p.stands in
    let t : are_trivia (s == 0) p.pieces (behind text given.span.start) ≡ true = subst (λ (n : ℕ). are_trivia (s == 0) p.pieces (behind text n) ≡ true) (sym e) p.trivia in
    record {
      lexeme = lexeme_of sc given.span.start (has_line_terminator (joined p.pieces)) k.word;
      stands = lexeme_behind p.pieces sc l w t k;
      tells = record { kind = refl; start = refl; end = refl; newline = again_newline y p h; escaped = k.escaped };
      separated = k.separated;
    }

again_none : {goal : LexicalGoal} {text : List ℕ} {s : ℕ} (source : Goal) (y : Lexeme) (given : Token) (f : Fault) → s ≤ length text → Passed text s y → Tells (cut y) given → IsStopped goal text given.span.start f → GivesNone goal source text s (undetermined_of f given.span.start given.is_on_new_line) (diagnostic_of f)
again_none {goal = goal} {text = text} {s = s} source y given f l p h k =
    let e : given.span.start ≡ y.from = given_start y h in
    let w : Word text s given.span.start (joined p.pieces) = subst (λ (n : ℕ). Word text s n (joined p.pieces)) (sym e) p.stands in
    let t : are_trivia (s == 0) p.pieces (behind text given.span.start) ≡ true = subst (λ (n : ℕ). are_trivia (s == 0) p.pieces (behind text n) ≡ true) (sym e) p.trivia in
    gives_none p.pieces source f given.is_on_new_line l w t k

-- the token of a scan in place of the one that was given
pub gives_again : {goal : LexicalGoal} (old new : State) (given t : Token) (scan : Result Scanned Fault) → IsUtf8 old.text → IsCharBoundary old.text given.span.start → Scans goal old.text given.span.start scan → SameText old new → new.place ≡ t.span.end → SettledAgain old.keeps_tokens given scan old.kept new.kept t → (faults : List Diagnostic) × GivesAgain goal old new given t [] faults
gives_again {goal = goal} old new given t (Ok sc) u b h same place k = (
  [],
  subst (λ (z : Token). GivesAgain goal old new given z [] []) (sym k.0) (record {
    same = same;
    start = refl;
    newline = refl;
    place = place ∙ ap (λ (z : Token). z.span.end) k.0;
    lies = record { ordered = (let e = h.stands.end in omega arith); starts_whole = b; ends_whole = h.stands.boundary };
    outcome = λ s y between l tells. determined_outcome old.goal (λ z. z) (determined goal h.word (behind old.text sc.end) sc.kind h.lexeme.kind) (again_lexeme y given sc between.0 (passed u between l) tells h);
    marked = λ s y between l tells k d e. absurd (omega arith);
    comments = ap (λ (o : LexerOutput). o.comments) k.1;
    blanks = ap (λ (o : LexerOutput). o.irregular_whitespaces) k.1;
    tokens = ap (λ (o : LexerOutput). o.tokens) k.1 ∙ ap (λ (z : Token). relexed old.keeps_tokens old.kept.tokens z) k.0;
    errors = ap (λ (o : LexerOutput). o.errors) k.1 ∙ sym (append-nil old.kept.errors);
  }),
)
gives_again {goal = goal} old new given t (Err f) u b h same place k = (
  diagnostic_of f ∷ [],
  subst (λ (z : Token). GivesAgain goal old new given z [] (diagnostic_of f ∷ [])) (sym k.0) (record {
    same = same;
    start = refl;
    newline = refl;
    place = place ∙ ap (λ (z : Token). z.span.end) k.0;
    lies = record { ordered = (let a = h.follows in let c = h.ordered in omega arith); starts_whole = b; ends_whole = h.ends_between };
    outcome = λ s y between l tells. (diagnostic_of f, refl, again_none old.goal y given f between.0 (passed u between l) tells h);
    marked = λ s y between l tells k d e. absurd (omega arith);
    comments = k.1.comments_grow ∙ append-nil old.kept.comments;
    blanks = k.1.blanks_grow ∙ append-nil old.kept.irregular_whitespaces;
    tokens = k.1.tokens_grow ∙ append-nil old.kept.tokens ∙ sym (stays old.keeps_tokens);
    errors = k.1.faults_grow;
  }),
)
  where
    stays : (b : Bool) → relexed b old.kept.tokens (undetermined_of f given.span.start given.is_on_new_line) ≡ old.kept.tokens
    stays true = refl
    stays false = refl

pub ok_again : (goal : LexicalGoal) (old new : State) (given : Token) (scan : Result Scanned Fault) {E : Type 0} (r : Result Token E) → IsUtf8 old.text → IsCharBoundary old.text given.span.start → Scans goal old.text given.span.start scan → SameText old new → IfOk r (λ t. (new.place ≡ t.span.end) × SettledBehind old.text old.keeps_tokens given scan None old.kept new.kept t) → IfOk r (λ t. (faults : List Diagnostic) × GivesAgain goal old new given t [] faults)
ok_again goal old new given scan (Ok t) u b h same k = gives_again old new given t scan u b h same k.0 (unflagged k.1)
ok_again goal old new given scan (Err e) u b h same k = tt

-- ---- what the lexer has to know before

-- what was scanned fits, and ends between characters
pub fits_again : (goal : LexicalGoal) (text : List ℕ) (i most : ℕ) (scan : Result Scanned Fault) → length text ≤ most → Scans goal text i scan → Fits most i scan
fits_again goal text i most (Ok sc) l h = let e = h.stands.end in let z = h.stands.boundary.0 in (omega arith, omega arith)
fits_again goal text i most (Err f) l h = let z = h.ends_between.0 in (h.follows, h.ordered, omega arith)

pub ends_again : (goal : LexicalGoal) (text : List ℕ) (i : ℕ) (scan : Result Scanned Fault) → Scans goal text i scan → ScanEnds text scan
ends_again goal text i (Ok sc) h = h.stands.boundary
ends_again goal text i (Err f) h = (h.begins_between, h.ends_between)

-- a right brace that was given stands there
pub brace_there : {text : List ℕ} (s : ℕ) (y : Lexeme) (given : Token) → IsUtf8 text → IsCharBoundary text s → IsCharBoundary text given.span.start → LexemeBehind division text s y → Tells (cut y) given → given.kind ≡ RCurly → Word text given.span.start (given.span.start + 1) (125 ∷ [])
brace_there {text = text} s y given u b c l h k = by p.word p.here (p.lexeme.kind ∙ ap Some (cut_kind y RCurly (sym h.kind ∙ k) (λ e. cc)))
  where
    p : Passed text s y
    p = passed u b l

    by : (w : List ℕ) → behind text y.from ≡ w ++ p.rest → kind_in division w p.rest ≡ Some RCurly → Word text given.span.start (given.span.start + 1) (125 ∷ [])
    by [] e q = absurd (let z = (plain_end p.rest RCurly q).0 in cc)
    by (d ∷ ds) e q =
        let w : d ∷ ds ≡ 125 ∷ [] = brace_word d ds p.rest q in
        let f : behind text given.span.start ≡ (125 ∷ []) ++ p.rest = ap (behind text) (given_start y h) ∙ e ∙ ap (λ (v : List ℕ). v ++ p.rest) w in
        front_word text given.span.start (125 ∷ []) p.rest u c f

-- the same of the fields of a lexer: its text and a place
pub brace_for : (old : State) (given : Token) (text : List ℕ) (i : ℕ) → text ≡ old.text → i ≡ given.span.start → IsUtf8 text → WasGiven old given → given.kind ≡ RCurly → Word text i (i + 1) (125 ∷ [])
brace_for old given text i e p u g k = subst (λ (v : List ℕ). Word v i (i + 1) (125 ∷ [])) (sym e) (subst (λ (n : ℕ). Word old.text n (n + 1) (125 ∷ [])) (sym p) (brace_there g.before g.lexeme given (subst IsUtf8 e u) g.between g.lies.starts_whole g.stands g.tells k))

pub scans_for : (goal : LexicalGoal) (old : State) (given : Token) (text : List ℕ) (i : ℕ) (scan : Result Scanned Fault) → text ≡ old.text → i ≡ given.span.start → Scans goal text i scan → Scans goal old.text given.span.start scan
scans_for goal old given text i scan e p h = subst (λ (v : List ℕ). Scans goal v given.span.start scan) e (subst (λ (n : ℕ). Scans goal text n scan) p h)

-- behind the trivia of a token that was given no further trivia begins
pub no_trivia_for : (old : State) (given : Token) (text : List ℕ) (i : ℕ) → text ≡ old.text → i ≡ given.span.start → IsUtf8 text → WasGiven old given → (first : Bool) × IsTrue (none_begins (is_trivia_piece first) (behind text i))
no_trivia_for old given text i e p u g =
    let q = passed (subst IsUtf8 e u) g.between g.stands in
    let z = trivia_ends (g.before == 0) q.pieces (behind old.text g.lexeme.from) q.trivia in
    let j : i ≡ g.lexeme.from = p ∙ given_start g.lexeme g.tells in
    (z.0, subst (λ (v : List ℕ). IsTrue (none_begins (is_trivia_piece z.0) (behind v i))) (sym e) (subst (λ (n : ℕ). IsTrue (none_begins (is_trivia_piece z.0) (behind old.text n))) (sym j) z.1))

pub starts_for : (old : State) (given : Token) (text : List ℕ) (i : ℕ) → text ≡ old.text → i ≡ given.span.start → WasGiven old given → IsCharBoundary text i
starts_for old given text i e p g = subst (λ (v : List ℕ). IsCharBoundary v i) (sym e) (subst (λ (n : ℕ). IsCharBoundary old.text n) (sym p) g.lies.starts_whole)

-- where a token of the plain goal was given, a lexeme of that goal stands
stands_again : (old : State) (given : Token) (f : Fault) → IsUtf8 old.text → WasGiven old given → IsStopped division old.text given.span.start f → ⊥
stands_again old given f u g h =
    let q = passed u g.between g.stands in
    let j : given.span.start ≡ g.lexeme.from = given_start g.lexeme g.tells in
    h.none q.word q.rest g.lexeme.kind (ap (behind old.text) j ∙ q.here) (subst (λ (n : ℕ). IsLexeme division n q.word q.rest g.lexeme.kind) (sym j) q.lexeme)

pub ok_angle : (old new : State) (given : Token) (scan : Result Scanned Fault) {E : Type 0} (r : Result Token E) → IsUtf8 old.text → WasGiven old given → Scans division old.text given.span.start scan → SameText old new → IfOk r (λ t. (new.place ≡ t.span.end) × SettledBehind old.text old.keeps_tokens given scan None old.kept new.kept t) → IfOk r (λ t. GivesAgain division old new given t [] [])
unfolding gives_again
ok_angle old new given (Ok sc) (Ok t) u g h same k = (gives_again old new given t (Ok sc) u g.lies.starts_whole h same k.0 (unflagged k.1)).1
ok_angle old new given (Ok sc) (Err e) u g h same k = tt
ok_angle old new given (Err f) r u g h same k = absurd (stands_again old given f u g h)

-- ---- the whole punctuator of which the `>` behind a place is the beginning

-- it is as if it had been given there
pub angle_last : {text : List ℕ} {place : ℕ} {t : Token} (g : GivesBehind text place t) → t.kind ≡ RAngle → (w : WasGiven g.after t) × (w.before ≡ place)
angle_last {place = place} {t = t} g k = go (same_kind Undetermined t.kind) (ap (same_kind Undetermined) k) g.next.outcome
  where
    e : g.before.text ≡ g.after.text
    e = sym g.next.same.text

    go : (r : Bool) → r ≡ false → elim r as (λ _. Type 0) [ true ↦ (d : Diagnostic) × (g.next.faults ≡ d ∷ []) × GivesNone division g.before.goal g.before.text g.before.place t d | false ↦ (g.next.faults ≡ []) × GivesLexeme division cut g.before.text g.before.place t ] → (w : WasGiven g.after t) × (w.before ≡ place)
    go true q x = absurd (false≢true (sym q))
    go false q x = (
      record {
        place = g.next.place;
        lies = subst (LiesIn t.span) e g.next.lies;
        before = g.before.place;
        between = subst (λ (v : List ℕ). IsCharBoundary v g.before.place) e g.next.between;
        lexeme = x.1.lexeme;
        stands = subst (λ (v : List ℕ). LexemeBehind division v g.before.place x.1.lexeme) e x.1.stands;
        tells = x.1.tells;
      },
      g.place_is,
    )

pub last_text : {text : List ℕ} {place : ℕ} {t : Token} (g : GivesBehind text place t) → text ≡ g.after.text
last_text g = sym (g.next.same.text ∙ g.text_is)

pub whole_given : {text : List ℕ} {place : ℕ} {t : Token} (g : GivesBehind text place t) → t.kind ≡ RAngle → IsUtf8 text → (sc : Scanned) → IsScanned division text t.span.start sc → GivesLexeme division (λ y. y) text place (token_of sc t.span.start t.is_on_new_line)
whole_given {text} {place} {t} g k u sc h =
    let x = angle_last g k in
    let e = last_text g in
    let u' : IsUtf8 g.after.text = subst IsUtf8 e u in
    let y : GivesLexeme division (λ y. y) g.after.text x.0.before (token_of sc t.span.start t.is_on_new_line) = again_lexeme x.0.lexeme t sc x.0.between.0 (passed u' x.0.between x.0.stands) x.0.tells (subst (λ (v : List ℕ). IsScanned division v t.span.start sc) e h) in
    subst (λ (v : List ℕ). GivesLexeme division (λ y. y) v place (token_of sc t.span.start t.is_on_new_line)) (sym e) (subst (λ (n : ℕ). GivesLexeme division (λ y. y) g.after.text n (token_of sc t.span.start t.is_on_new_line)) x.1 y)

pub one_given : {text : List ℕ} {place : ℕ} {t : Token} (g : GivesBehind text place t) → t.kind ≡ RAngle → IsUtf8 text → (f : Fault) → IsStopped division text t.span.start f → ⊥
one_given {text} {place} {t} g k u f h =
    let e = last_text g in
    stands_again g.after t f (subst IsUtf8 e u) (angle_last g k).0 (subst (λ (v : List ℕ). IsStopped division v t.span.start f) e h)
