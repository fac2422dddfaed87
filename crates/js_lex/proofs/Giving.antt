-- From trivia, a scan and what is kept of them to what a call of the lexer answers.
use Rattle.std.proofs.Common.{◌≡◌, ◌<◌, ◌≤◌, ℕ, ◌+◌, ◌==◌, Bool, true, false, List, [], ◌∷◌, ◌++◌, refl, sym, ap, subst, ◌∙◌, ◌||◌, length, arith, append-nil, Option, Some, None}
use Rattle.std.specs.Prelude.{IsTrue, IsCharBoundary, IsUtf8, ◌↔◌, IfOk, IfSome, OnErr, Result, Ok, Err, encode_utf8, encode_utf8_all, drop}
use Rattle.std.proofs.lemmas.Str.{IsUtf8-drop, encodes-chars, len_utf8_ascii, IsCharBoundary-past_char}
use Rattle.js_base.specs.declared.kind.Kind.{Kind}
use Rattle.js_base.specs.declared.kind.Kind.TheVariants.{RAngle, Eof, Undetermined}
use Rattle.js_base.specs.declared.token.Token.{Token}
use Rattle.js_base.specs.declared.diagnostic.Diagnostic.{Diagnostic}
use Rattle.js_base.specs.declared.diagnostic.DiagnosticKind.{DiagnosticKind}
use Rattle.js_base.specs.declared.diagnostic.DiagnosticKind.TheVariants as fault
use Rattle.js_base.specs.declared.source_type.SourceType.{SourceType}
use Rattle.js_base.specs.declared.source_type.Goal.{Goal as SourceGoal}
use Rattle.js_base.specs.declared.source_type.Goal.TheVariants.{Script, Module, CommonJs, Unambiguous}
use Rattle.js_base.specs.Sources.{is_goal}
use Rattle.js_base.specs.Kinds.{same_kind}
use Rattle.part_words.specs.js_grammar.Grammar.{Lexeme}
use Rattle.part_words.specs.js_grammar.Settings.{Goal}
use Rattle.part_words.specs.js_grammar.Characters.{has_line_terminator, width}
use Rattle.part_words.specs.js_grammar.Longest.{longest, none_begins, joined}
use Rattle.part_words.specs.js_grammar.Trivia.{is_trivia_piece, are_trivia}
use Rattle.part_words.specs.js_grammar.Lexemes.{LexicalGoal, division, kind_in, is_escaped, units_of}
use Rattle.part_words.specs.js_grammar.Lexed.{Stands, IsLexeme}
use Rattle.part_words.specs.js_grammar.LexicalFaults.{behind, Due, Stopping, Condition, FaultyBehind}
use Rattle.part_words.proofs.js_grammar.LongestLemmas.{both-right}
use Rattle.part_words.proofs.js_grammar.Alike.{stands-same}
use Rattle.part_words.specs.declared.scan.Scanned.{Scanned}
use Rattle.part_words.specs.declared.scan.Fault.{Fault}
use Rattle.js_lex.specs.declared.trivia.Trivia.{Trivia}
use Rattle.js_lex.specs.declared.output.LexerOutput.{LexerOutput}
use Rattle.part_words.specs.Places.{Word}
use Rattle.js_lex.specs.Kept.{Grows, Extends}
use Rattle.part_words.specs.Scans.{IsScanned, IsStopped, NoLexeme, Scans}
use Rattle.js_lex.specs.TriviaPassed.{IsPassed, PassesBlanks, NoTrivia}
use Rattle.js_lex.specs.Comments.{comment_at, irregular_at, html_fault_at, each_at}
use Rattle.js_lex.proofs.Keeping.{grow_on, extend_on}
use Rattle.js_lex.proofs.Marks.{html_marked}
use Rattle.js_lex.specs.States.{State, goal_of}
use Rattle.js_lex.specs.Reading.{is_right_angle, cut, Tells, LexemeBehind, GivesLexeme, GivesNone, Outcome, GivesNext, in_a_module, kept_token}
use Rattle.part_words.proofs.KindsOfLexemes.{determined, plain_end, greater_word}
use Rattle.js_lex.specs.Settling.{shown, shown_scan, token_of, undetermined_of, diagnostic_of, Fits, Settled, SettledAgain, ScanEnds, GivesAtOnce, TellsLexeme}

-- behind trivia no further piece begins
pub trivia_ends : (first : Bool) (ps : List (List ℕ)) (rest : List ℕ) → are_trivia first ps rest ≡ true → (f : Bool) × (none_begins (is_trivia_piece f) rest ≡ true)
trivia_ends first [] rest h = (first, h)
trivia_ends first (p ∷ ps) rest h = trivia_ends (first || has_line_terminator p) ps rest (both-right (longest (is_trivia_piece first) p (joined ps ++ rest)) (are_trivia (first || has_line_terminator p) ps rest) h)

-- the trivia that was passed, as what stands behind a place
pub stands_behind : {text : List ℕ} {s i : ℕ} {ps : List (List ℕ)} (w rest : List ℕ) → s ≤ length text → Word text s i (joined ps) → are_trivia (s == 0) ps (behind text i) ≡ true → behind text i ≡ w ++ rest → Stands text s ps w rest
stands_behind {s = s} {ps = ps} w rest l p t e = record { within = l; splits = p.splits ∙ ap (λ (v : List ℕ). joined ps ++ v) e; trivia = subst (λ (v : List ℕ). are_trivia (s == 0) ps v ≡ true) e t }

-- the lexeme that was scanned
abbrev pub lexeme_of : Scanned → ℕ → Bool → List ℕ → Lexeme
lexeme_of sc i newline w = record { kind = sc.kind; from = i; to = sc.end; newline = newline; escaped = is_escaped sc.kind w; units = units_of sc.kind w }

unfoldable pub lexeme_behind : {goal : LexicalGoal} {text : List ℕ} {s i : ℕ} (ps : List (List ℕ)) (sc : Scanned) → s ≤ length text → Word text s i (joined ps) → are_trivia (s == 0) ps (behind text i) ≡ true → (h : IsScanned goal text i sc) → LexemeBehind goal text s (lexeme_of sc i (has_line_terminator (joined ps)) h.word)
lexeme_behind {goal = goal} {text = text} ps sc l p t h = record {
  lex = record { trivia = ps; goal = goal; word = h.word; rest = behind text sc.end; stands = stands_behind h.word (behind text sc.end) l p t h.stands.splits; lexeme = h.lexeme; comments = refl; flags = refl; from = p.end; to = h.stands.end; newline = refl; escaped = refl; units = refl };
  of_goal = refl;
}

-- none stands behind a place where none stands behind its trivia
pub none_behind : {goal : LexicalGoal} {text : List ℕ} {s i : ℕ} (ps : List (List ℕ)) → s ≤ length text → Word text s i (joined ps) → are_trivia (s == 0) ps (behind text i) ≡ true → NoLexeme goal text i → (y : Lexeme) → LexemeBehind goal text s y → ⊥
none_behind {goal = goal} {text = text} {s = s} {i = i} ps l p t none y h =
    let st : Stands text s ps [] (behind text i) = stands_behind [] (behind text i) l p t refl in
    let same = stands-same st h.lex.stands in
    let from : y.from ≡ i = h.lex.from ∙ ap (λ (v : List (List ℕ)). s + width (joined v)) (sym same.pieces) ∙ sym p.end in
    none h.lex.word h.lex.rest y.kind same.back (subst (λ (g : LexicalGoal). IsLexeme g i h.lex.word h.lex.rest y.kind) h.of_goal (subst (λ (n : ℕ). IsLexeme h.lex.goal n h.lex.word h.lex.rest y.kind) from h.lex.lexeme))

-- a fault that stops, behind trivia
stopping_behind : (kind : DiagnosticKind) (source : Goal) (text : List ℕ) (s i from to : ℕ) → Due text s i → Stopping kind text i from to → Condition kind source text s from to
stopping_behind fault.RegExpFlag source text s i from to d h = absurd h
stopping_behind fault.HtmlCommentInModule source text s i from to d h = absurd h
stopping_behind _ source text s i from to d h = (i, d, h)

pub faulty_behind : {goal : LexicalGoal} {text : List ℕ} {s i : ℕ} (ps : List (List ℕ)) (source : Goal) (f : Fault) → s ≤ length text → Word text s i (joined ps) → are_trivia (s == 0) ps (behind text i) ≡ true → IsStopped goal text i f → FaultyBehind f.kind source text s f.start f.end
faulty_behind {text = text} {s = s} {i = i} ps source f l p t h = record {
  ordered = h.ordered;
  begins_between = h.begins_between;
  ends_between = h.ends_between;
  condition = stopping_behind f.kind source text s i f.start f.end (record { pieces = ps; stands = stands_behind [] (behind text i) l p t refl; place = p.end }) h.condition;
}

-- ---- the token

same-right : (a b c : Bool) → a ≡ b → a ≡ c → b ≡ c
same-right a b c e f = sym e ∙ f

-- the token of a scanned lexeme, of which at a `>` this sign is shown, tells the lexeme
pub shown_tells : (start : ℕ) (sc : Scanned) (newline : Bool) (w : List ℕ) → sc.escaped ≡ is_escaped sc.kind w → Tells (cut (lexeme_of sc start newline w)) (token_of (shown start sc) start newline)
shown_tells start sc newline w e = go (is_right_angle sc.kind) refl
  where
    go : (b : Bool) → is_right_angle sc.kind ≡ b → Tells (cut (lexeme_of sc start newline w)) (token_of (shown start sc) start newline)
    go true q =
        let a : cut (lexeme_of sc start newline w) ≡ record { kind = RAngle; from = start; to = start + 1; newline = newline; escaped = is_escaped sc.kind w; units = units_of sc.kind w } = ap (λ (b : Bool). elim b as (λ b. Lexeme) [ true ↦ record { kind = RAngle; from = start; to = start + 1; newline = newline; escaped = is_escaped sc.kind w; units = units_of sc.kind w } | false ↦ lexeme_of sc start newline w ]) q in
        let b : shown start sc ≡ record { kind = RAngle; end = start + 1; escaped = sc.escaped; has_separator = sc.has_separator } = ap (λ (b : Bool). elim b as (λ b. Scanned) [ true ↦ record { kind = RAngle; end = start + 1; escaped = sc.escaped; has_separator = sc.has_separator } | false ↦ sc ]) q in
        subst (λ (y : Lexeme). Tells y (token_of (shown start sc) start newline)) (sym a) (subst (λ (z : Scanned). Tells (record { kind = RAngle; from = start; to = start + 1; newline = newline; escaped = is_escaped sc.kind w; units = units_of sc.kind w }) (token_of z start newline)) (sym b) (record { kind = refl; start = refl; end = refl; newline = refl; escaped = e }))
    go false q =
        let a : cut (lexeme_of sc start newline w) ≡ lexeme_of sc start newline w = ap (λ (b : Bool). elim b as (λ b. Lexeme) [ true ↦ record { kind = RAngle; from = start; to = start + 1; newline = newline; escaped = is_escaped sc.kind w; units = units_of sc.kind w } | false ↦ lexeme_of sc start newline w ]) q in
        let b : shown start sc ≡ sc = ap (λ (b : Bool). elim b as (λ b. Scanned) [ true ↦ record { kind = RAngle; end = start + 1; escaped = sc.escaped; has_separator = sc.has_separator } | false ↦ sc ]) q in
        subst (λ (y : Lexeme). Tells y (token_of (shown start sc) start newline)) (sym a) (subst (λ (z : Scanned). Tells (lexeme_of sc start newline w) (token_of z start newline)) (sym b) (record { kind = refl; start = refl; end = refl; newline = refl; escaped = e }))

-- and no fault's kind
pub shown_determined : {goal : LexicalGoal} {text : List ℕ} (start : ℕ) (sc : Scanned) → IsScanned goal text start sc → same_kind Undetermined (shown start sc).kind ≡ false
shown_determined {goal = goal} {text = text} start sc h = go (is_right_angle sc.kind) refl
  where
    go : (b : Bool) → is_right_angle sc.kind ≡ b → same_kind Undetermined (shown start sc).kind ≡ false
    go true q = rw (q, shown) refl
    go false q = rw (q, shown) (determined goal h.word (behind text sc.end) sc.kind h.lexeme.kind)

pub shown_separated : (start : ℕ) (sc : Scanned) → (shown start sc).has_separator ≡ sc.has_separator
shown_separated start sc = go (is_right_angle sc.kind) refl
  where
    go : (b : Bool) → is_right_angle sc.kind ≡ b → (shown start sc).has_separator ≡ sc.has_separator
    go true q = rw (q, shown) refl
    go false q = rw (q, shown) refl

-- ---- where the token ends

pub word_ordered : {text : List ℕ} {i j : ℕ} {w : List ℕ} → Word text i j w → i ≤ j
word_ordered h = let e = h.end in omega arith

-- the place behind an ASCII character is between characters
pub behind_ascii : (text : List ℕ) (i j c : ℕ) (cs : List ℕ) → IsUtf8 text → IsCharBoundary text i → c < 128 → Word text i j (c ∷ cs) → IsCharBoundary text (i + 1)
behind_ascii text i j c cs u b h w =
    let v : IsUtf8 (drop i text) = IsUtf8-drop text i u b in
    let e : drop i text ≡ encode_utf8 c ++ encode_utf8_all (cs ++ behind text j) = sym (encodes-chars (drop i text) v) ∙ ap encode_utf8_all w.splits in
    subst (λ (n : ℕ). IsCharBoundary text (i + n)) (len_utf8_ascii c h) (IsCharBoundary-past_char text (encode_utf8_all (cs ++ behind text j)) i c b.0 v e)

pub shown_end : (text : List ℕ) (i : ℕ) (sc : Scanned) → IsUtf8 text → IsCharBoundary text i → IsScanned division text i sc → (i ≤ (shown i sc).end) × IsCharBoundary text (shown i sc).end
shown_end text i sc u b h = go (is_right_angle sc.kind) refl
  where
    angle : (w : List ℕ) → Word text i sc.end w → kind_in division w (behind text sc.end) ≡ Some sc.kind → is_right_angle sc.kind ≡ true → IsCharBoundary text (i + 1)
    angle [] w k q = absurd (let z = plain_end (behind text sc.end) sc.kind k in let y : is_right_angle Eof ≡ true = subst (λ (x : Kind). is_right_angle x ≡ true) z.0 q in cc)
    angle (c ∷ cs) w k q = let e = greater_word c cs (behind text sc.end) sc.kind k q in behind_ascii text i sc.end c cs u b (omega arith) w

    go : (b : Bool) → is_right_angle sc.kind ≡ b → (i ≤ (shown i sc).end) × IsCharBoundary text (shown i sc).end
    go true q = rw (q, shown) (omega arith, angle h.word h.stands h.lexeme.kind q)
    go false q = rw (q, shown) (word_ordered h.stands, h.stands.boundary)

-- ---- what a call answers

-- whether a text is read as a module
pub module_same : (source_type : SourceType) (is_module : Bool) → (IsTrue is_module ↔ (is_goal source_type ≡ Module)) → is_module ≡ in_a_module (goal_of source_type)
module_same source_type is_module h = go source_type.goal refl
  where
    other : (g : SourceGoal) → source_type.goal ≡ g → (g ≡ Module → ⊥) → (b : Bool) → is_module ≡ b → is_module ≡ false
    other g e n true f = absurd (n (sym e ∙ h.0 f))
    other g e n false f = f

    go : (g : SourceGoal) → source_type.goal ≡ g → is_module ≡ in_a_module (goal_of source_type)
    go Script e = other Script e (λ q. cc) is_module refl ∙ ap (λ g. in_a_module (goal_of (record { goal = g }))) (sym e)
    go Module e = h.1 e ∙ ap (λ g. in_a_module (goal_of (record { goal = g }))) (sym e)
    go CommonJs e = other CommonJs e (λ q. cc) is_module refl ∙ ap (λ g. in_a_module (goal_of (record { goal = g }))) (sym e)
    go Unambiguous e = other Unambiguous e (λ q. cc) is_module refl ∙ ap (λ g. in_a_module (goal_of (record { goal = g }))) (sym e)

gives_lexeme : {text : List ℕ} {s i : ℕ} (ps : List (List ℕ)) (sc : Scanned) (newline : Bool) → s ≤ length text → Word text s i (joined ps) → are_trivia (s == 0) ps (behind text i) ≡ true → newline ≡ has_line_terminator (joined ps) → IsScanned division text i sc → GivesLexeme division cut text s (token_of (shown i sc) i newline)
unfolding lexeme_behind
gives_lexeme {text = text} {s = s} {i = i} ps sc newline l p t n h = record {
  lexeme = lexeme_of sc i (has_line_terminator (joined ps)) h.word;
  stands = lexeme_behind ps sc l p t h;
  tells = subst (λ (b : Bool). Tells (cut (lexeme_of sc i (has_line_terminator (joined ps)) h.word)) (token_of (shown i sc) i b)) (sym n) (shown_tells i sc (has_line_terminator (joined ps)) h.word h.escaped);
  separated = shown_separated i sc ∙ h.separated;
}

pub gives_none : {goal : LexicalGoal} {text : List ℕ} {s i : ℕ} (ps : List (List ℕ)) (source : Goal) (f : Fault) (newline : Bool) → s ≤ length text → Word text s i (joined ps) → are_trivia (s == 0) ps (behind text i) ≡ true → IsStopped goal text i f → GivesNone goal source text s (undetermined_of f i newline) (diagnostic_of f)
gives_none {text = text} {s = s} {i = i} ps source f newline l p t h = record {
  none = none_behind ps l p t h.none;
  due = record { pieces = ps; stands = stands_behind [] (behind text i) l p t refl; place = p.end };
  stops = h.condition;
  told = h.told;
  reaches = h.reaches;
  faulty = faulty_behind ps source f l p t h;
  end = refl;
  escaped = refl;
  separated = refl;
  no_first = refl;
  no_second = refl;
}

pub determined_outcome : {goal : LexicalGoal} (source : Goal) {text : List ℕ} {s : ℕ} {t : Token} (form : Lexeme → Lexeme) → same_kind Undetermined t.kind ≡ false → GivesLexeme goal form text s t → Outcome goal form source text s t [] []
determined_outcome {goal = goal} source {text = text} {s = s} {t = t} form k g = subst (λ (b : Bool). elim b as (λ _. Type 0) [ true ↦ (d : Diagnostic) × ([] ≡ d ∷ []) × GivesNone goal source text s t d | false ↦ (◌≡◌ {A = List Diagnostic} [] []) × GivesLexeme goal form text s t ]) (sym k) (refl, g)

-- the token behind trivia, and what is kept of both
pub gives_next : (text : List ℕ) (source : Goal) (keeps : Bool) (s : ℕ) (old mid new : LexerOutput) (tr : Trivia) (scan : Result Scanned Fault) (t : Token) → IsUtf8 text → IsCharBoundary text s → IsPassed (in_a_module source) text s tr.end old mid tr → Scans division text tr.end scan → Settled keeps tr.end tr.has_newline (shown_scan tr.end scan) mid new t
    → GivesNext division (record { text = text; goal = source; keeps_tokens = keeps; place = s; kept = old }) (record { text = text; goal = source; keeps_tokens = keeps; place = t.span.end; kept = new }) t
gives_next text source keeps s old mid new tr (Ok sc) t utf8 b p h e =
    let l : s ≤ length text = b.0 in
    let u = token_of (shown tr.end sc) tr.end tr.has_newline in
    let g : Grows old new (each_at (comment_at tr.end) s p.pieces ++ []) (each_at irregular_at s p.pieces ++ []) ([] ++ kept_token keeps t) (each_at (html_fault_at (in_a_module source)) s p.pieces ++ []) = grow_on p.grows e.1 in
    subst (λ (z : Token). GivesNext division (record { text = text; goal = source; keeps_tokens = keeps; place = s; kept = old }) (record { text = text; goal = source; keeps_tokens = keeps; place = z.span.end; kept = new }) z) (sym e.0)
    (record {
      same = record { text = refl; goal = refl; keeps_tokens = refl };
      utf8 = utf8;
      between = b;
      pieces = p.pieces;
      stands = stands_behind [] (behind text tr.end) l p.stands p.trivia refl;
      start = p.stands.end;
      newline = p.newline;
      place = refl;
      lies = (let z = shown_end text tr.end sc utf8 p.stands.boundary h in record { ordered = z.0; starts_whole = p.stands.boundary; ends_whole = z.1 });
      faults = [];
      outcome = determined_outcome source cut (shown_determined tr.end sc h) (gives_lexeme p.pieces sc tr.has_newline l p.stands p.trivia p.newline h);
      grows = record {
        comments_grow = g.comments_grow ∙ ap (λ v. old.comments ++ v) (append-nil (each_at (comment_at tr.end) s p.pieces));
        blanks_grow = g.blanks_grow ∙ ap (λ v. old.irregular_whitespaces ++ v) (append-nil (each_at irregular_at s p.pieces));
        tokens_grow = g.tokens_grow ∙ ap (λ z. old.tokens ++ kept_token keeps z) e.0;
        faults_grow = g.faults_grow;
      };
      marked = html_marked text source s p.pieces (behind text tr.end) utf8 b (stands_behind [] (behind text tr.end) l p.stands p.trivia refl);
    })
gives_next text source keeps s old mid new tr (Err f) t utf8 b p h e =
    let l : s ≤ length text = b.0 in
    let u = undetermined_of f tr.end tr.has_newline in
    let g : Grows old new (each_at (comment_at tr.end) s p.pieces ++ []) (each_at irregular_at s p.pieces ++ []) [] (each_at (html_fault_at (in_a_module source)) s p.pieces ++ diagnostic_of f ∷ []) = grow_on p.grows e.1 in
    subst (λ (z : Token). GivesNext division (record { text = text; goal = source; keeps_tokens = keeps; place = s; kept = old }) (record { text = text; goal = source; keeps_tokens = keeps; place = z.span.end; kept = new }) z) (sym e.0)
    (record {
      same = record { text = refl; goal = refl; keeps_tokens = refl };
      utf8 = utf8;
      between = b;
      pieces = p.pieces;
      stands = stands_behind [] (behind text tr.end) l p.stands p.trivia refl;
      start = p.stands.end;
      newline = p.newline;
      place = refl;
      lies = record { ordered = (let a = h.follows in let b = h.ordered in omega arith); starts_whole = p.stands.boundary; ends_whole = h.ends_between };
      faults = diagnostic_of f ∷ [];
      outcome = (diagnostic_of f, refl, gives_none p.pieces source f tr.has_newline l p.stands p.trivia h);
      grows = record {
        comments_grow = g.comments_grow ∙ ap (λ v. old.comments ++ v) (append-nil (each_at (comment_at tr.end) s p.pieces));
        blanks_grow = g.blanks_grow ∙ ap (λ v. old.irregular_whitespaces ++ v) (append-nil (each_at irregular_at s p.pieces));
        tokens_grow = g.tokens_grow ∙ ap (λ v. old.tokens ++ v) (none_kept keeps);
        faults_grow = g.faults_grow;
      };
      marked = html_marked text source s p.pieces (behind text tr.end) utf8 b (stands_behind [] (behind text tr.end) l p.stands p.trivia refl);
    })
  where
    none_kept : (b : Bool) → [] ≡ kept_token b (undetermined_of f tr.end tr.has_newline)
    none_kept true = refl
    none_kept false = refl

-- ---- of a call's result

-- what is shown fits into the text
pub fits_shown : (text : List ℕ) (i most : ℕ) (scan shown_one : Result Scanned Fault) → IsUtf8 text → IsCharBoundary text i → length text ≤ most → Scans division text i scan → shown_one ≡ shown_scan i scan → Fits most i shown_one
fits_shown text i most scan shown_one u b l h e = subst (Fits most i) (sym e) (by scan h)
  where
    by : (r : Result Scanned Fault) → Scans division text i r → Fits most i (shown_scan i r)
    by (Ok sc) h = let z = shown_end text i sc u b h in let y = z.1.0 in (z.0, omega arith)
    by (Err f) h = let z = h.ends_between.0 in (h.follows, h.ordered, omega arith)

pub ok_next : (text : List ℕ) (source : Goal) (keeps in_module : Bool) (s : ℕ) (old mid new : LexerOutput) (tr : Trivia) (scan shown_one : Result Scanned Fault) {E : Type 0} (r : Result Token E) → IsUtf8 text → IsCharBoundary text s → in_module ≡ in_a_module source → IsPassed in_module text s tr.end old mid tr → Scans division text tr.end scan → shown_one ≡ shown_scan tr.end scan
    → IfOk r (λ t. Settled keeps tr.end tr.has_newline shown_one mid new t)
    → IfOk r (λ t. GivesNext division (record { text = text; goal = source; keeps_tokens = keeps; place = s; kept = old }) (record { text = text; goal = source; keeps_tokens = keeps; place = t.span.end; kept = new }) t)
ok_next text source keeps in_module s old mid new tr scan shown_one (Ok t) u b m p h e k = gives_next text source keeps s old mid new tr scan t u b (subst (λ (b : Bool). IsPassed b text s tr.end old mid tr) m p) h (subst (λ (z : Result Scanned Fault). Settled keeps tr.end tr.has_newline z mid new t) e k)
ok_next text source keeps in_module s old mid new tr scan shown_one (Err x) u b m p h e k = tt

-- the token ends between characters
pub ok_boundary : (text : List ℕ) (keeps newline : Bool) (i : ℕ) (mid new : LexerOutput) (scan shown_one : Result Scanned Fault) {E : Type 0} (r : Result Token E) → IsUtf8 text → IsCharBoundary text i → Scans division text i scan → shown_one ≡ shown_scan i scan → IfOk r (λ t. Settled keeps i newline shown_one mid new t) → IfOk r (λ t. IsCharBoundary text t.span.end)
ok_boundary text keeps newline i mid new scan shown_one (Err x) u b h e k = tt
ok_boundary text keeps newline i mid new scan shown_one (Ok t) u b h e k = by scan h (subst (λ (z : Result Scanned Fault). Settled keeps i newline z mid new t) e k)
  where
    by : (r : Result Scanned Fault) → Scans division text i r → Settled keeps i newline (shown_scan i r) mid new t → IsCharBoundary text t.span.end
    by (Ok sc) h k = subst (λ (z : Token). IsCharBoundary text z.span.end) (sym k.0) (shown_end text i sc u b h).1
    by (Err f) h k = subst (λ (z : Token). IsCharBoundary text z.span.end) (sym k.0) h.ends_between

pub err_next : {m : Bool} {text : List ℕ} {s a : ℕ} {old mid : LexerOutput} {tr : Trivia} (new : LexerOutput) {T E : Type 0} (r : Result T E) → IsPassed m text s a old mid tr → OnErr r (Extends mid new) → OnErr r (Extends old new)
err_next new (Ok t) p k = k
err_next new (Err x) p k = extend_on p.grows k

-- ---- the token that is known at once

-- the token of a lexeme, of which nothing is kept
settled_quick : (start : ℕ) (newline : Bool) (sc : Scanned) (t : Token) (kept : LexerOutput) → t ≡ token_of (shown start sc) start newline → Settled false start newline (shown_scan start (Ok sc)) kept kept t
settled_quick start newline sc t kept e = (e, record { comments_grow = sym (append-nil kept.comments); blanks_grow = sym (append-nil kept.irregular_whitespaces); tokens_grow = sym (append-nil kept.tokens); faults_grow = sym (append-nil kept.errors) })

pub quick_next : (text : List ℕ) (s : ℕ) (passed : Trivia) (r : Option Token) → IsUtf8 text → IsCharBoundary text s → PassesBlanks text s passed → IfSome r (λ t. TellsLexeme text passed.end passed.has_newline t) → IfSome r (λ t. GivesAtOnce text s t)
quick_next text s passed None u b p h = tt
quick_next text s passed (Some t) u b p h = λ source kept. gives_next text source false s kept kept kept passed (Ok h.scanned) t u b (p h.no_trivia (in_a_module source) passed.end kept) h.is (settled_quick passed.end passed.has_newline h.scanned t kept h.token)

pub quick_boundary : {text : List ℕ} (i : ℕ) (newline : Bool) (r : Option Token) → IsUtf8 text → IsCharBoundary text i → IfSome r (λ t. TellsLexeme text i newline t) → IfSome r (λ t. IsCharBoundary text t.span.end)
quick_boundary i newline None u b h = tt
quick_boundary {text = text} i newline (Some t) u b h = subst (λ (z : Token). IsCharBoundary text z.span.end) (sym h.token) (shown_end text i h.scanned u b h.is).1

-- a token of what was scanned and shown
pub tells_scanned : {text : List ℕ} {i : ℕ} {newline : Bool} (sc shown_one : Scanned) (t : Token) → IsScanned division text i sc → NoTrivia text i → ◌≡◌ {A = Result Scanned Fault} (Ok shown_one) (shown_scan i (Ok sc)) → t ≡ token_of shown_one i newline → TellsLexeme text i newline t
tells_scanned {i = i} {newline = newline} sc shown_one t h n e f = record { scanned = sc; is = h; no_trivia = n; token = f ∙ ap (λ (z : Scanned). token_of z i newline) (let g : shown_one ≡ shown i sc = cc in g) }

pub tells_shown : {text : List ℕ} {i : ℕ} {newline : Bool} (r : Result Scanned Fault) (shown_one : Scanned) (t : Token) → Scans division text i r → NoTrivia text i → ◌≡◌ {A = Result Scanned Fault} (Ok shown_one) (shown_scan i r) → t ≡ token_of shown_one i newline → TellsLexeme text i newline t
tells_shown (Ok sc) shown_one t h n e f = tells_scanned sc shown_one t h n e f
tells_shown (Err x) shown_one t h n e f = cc

-- whatever a call answers, the text stays
pub text_stays : (old new : State) {E : Type 0} (r : Result Token E) → IfOk r (λ t. GivesNext division old new t) → OnErr r (new ≡ old) → new.text ≡ old.text
text_stays old new (Ok t) h k = h.same.text
text_stays old new (Err e) h k = ap (λ (x : State). x.text) k

-- ---- a token that is read again

pub settled_ends : (text : List ℕ) (keeps : Bool) (given : Token) (scan : Result Scanned Fault) (old new : LexerOutput) (t : Token) → ScanEnds text scan → SettledAgain keeps given scan old new t → IsCharBoundary text t.span.end
settled_ends text keeps given (Ok sc) old new t b k = subst (λ (z : Token). IsCharBoundary text z.span.end) (sym k.0) b
settled_ends text keeps given (Err f) old new t b k = subst (λ (z : Token). IsCharBoundary text z.span.end) (sym k.0) b.1
