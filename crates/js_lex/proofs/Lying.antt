-- What a lexer keeps lies in the text.
use Rattle.std.proofs.Common.{◌≡◌, ◌+◌, ℕ, Bool, true, false, List, [], ◌∷◌, ◌++◌, refl, sym, ap, subst, ◌∙◌, ◌&&◌, append_assoc, append-nil, arith, Option, Some, None}
use Rattle.std.specs.Prelude.{IsCharBoundary, IsUtf8, take, length, Result, Ok, Err}
use Rattle.std.specs.List.{All}
use Rattle.std.proofs.lemmas.List.{append_cancel_left}
use Rattle.std.proofs.lemmas.List.Elements.{All-nil, All-cons, All-append, All-take, All-weaker}
use Rattle.js_base.specs.declared.span.Span.{Span}
use Rattle.js_base.specs.declared.token.Token.{Token}
use Rattle.js_base.specs.declared.diagnostic.Diagnostic.{Diagnostic}
use Rattle.js_base.specs.declared.kind.Kind.TheVariants.{Undetermined}
use Rattle.js_base.specs.Kinds.{same_kind}
use Rattle.js_base.specs.Spans.{LiesIn}
use Rattle.js_base.specs.part_memory.Lists.{replaced}
use Rattle.part_words.specs.js_grammar.Grammar.{Lexeme}
use Rattle.part_words.specs.js_grammar.Settings.{Goal}
use Rattle.part_words.specs.js_grammar.Characters.{width}
use Rattle.part_words.specs.js_grammar.Longest.{joined}
use Rattle.part_words.specs.js_grammar.Trivia.{is_irregular}
use Rattle.part_words.specs.js_grammar.Lexemes.{LexicalGoal, division}
use Rattle.part_words.specs.js_grammar.LexicalFaults.{behind, FaultyBehind}
use Rattle.js_lex.specs.declared.comment.Comment.{Comment}
use Rattle.js_lex.specs.declared.comment.CommentKind.{CommentKind}
use Rattle.js_lex.specs.declared.output.LexerOutput.{LexerOutput}
use Rattle.js_lex.specs.declared.checkpoint.Lengths.{Lengths}
use Rattle.js_lex.specs.Comments.{comment_kind, comment_at, irregular_at, html_fault_at, span_at, each_at}
use Rattle.js_lex.specs.Kept.{IsEmpty, LieIn, Extends, lengths_of, first_kept}
use Rattle.part_words.specs.Places.{Word}
use Rattle.js_lex.specs.States.{State}
use Rattle.js_lex.specs.Reading.{cut, GivesLexeme, GivesNone, Outcome, GivesNext, in_a_module, is_kept, kept_token, relexed}
use Rattle.part_words.specs.declared.scan.Scanned.{Scanned}
use Rattle.part_words.specs.declared.scan.Fault.{Fault}
use Rattle.part_scan.specs.declared.regular_expression.RegularExpression.{RegularExpression}
use Rattle.js_lex.specs.Settling.{Fits, SettledAgain, HasFlags, SettledBehind, ScanEnds, diagnostic_of}
use Rattle.part_scan.proofs.StringPlaces.{front_word}
use Rattle.js_lex.proofs.ReadAgain.{lie_flags}
use Rattle.std.proofs.Math.Seq.{take-append_seam}

-- nothing is kept
pub lie_none : (text : List ℕ) (o : LexerOutput) → IsEmpty o → LieIn text o
lie_none text o h = record {
  comments = subst (All (λ (c : Comment). LiesIn c.span text)) (sym h.comments) (All-nil (λ (c : Comment). LiesIn c.span text));
  irregular_whitespaces = subst (All (λ (s : Span). LiesIn s text)) (sym h.irregular_whitespaces) (All-nil (λ (s : Span). LiesIn s text));
  tokens = subst (All (λ (t : Token). LiesIn t.span text)) (sym h.tokens) (All-nil (λ (t : Token). LiesIn t.span text));
  errors = subst (All (λ (d : Diagnostic). LiesIn d.span text)) (sym h.errors) (All-nil (λ (d : Diagnostic). LiesIn d.span text));
}

pub lie_first : (text : List ℕ) (n : Lengths) (o : LexerOutput) → LieIn text o → LieIn text (first_kept n o)
lie_first text n o h = record {
  comments = All-take (λ (c : Comment). LiesIn c.span text) n.comments o.comments h.comments;
  irregular_whitespaces = All-take (λ (s : Span). LiesIn s text) n.irregular_whitespaces o.irregular_whitespaces h.irregular_whitespaces;
  tokens = All-take (λ (t : Token). LiesIn t.span text) n.tokens o.tokens h.tokens;
  errors = All-take (λ (d : Diagnostic). LiesIn d.span text) n.errors o.errors h.errors;
}

-- ---- trivia

-- what is kept of each piece has the span of the piece
pieces_lie : {A : Type 0} (f : ℕ → List ℕ → List A) (span : A → Span) → ((i : ℕ) (p : List ℕ) → All (λ a. span a ≡ span_at i p) (f i p)) → (text : List ℕ) (s : ℕ) (ps : List (List ℕ)) (rest : List ℕ) → IsUtf8 text → IsCharBoundary text s → behind text s ≡ joined ps ++ rest → All (λ a. LiesIn (span a) text) (each_at f s ps)
pieces_lie f span h text s [] rest u b e = All-nil (λ a. LiesIn (span a) text)
pieces_lie f span h text s (p ∷ ps) rest u b e =
    let whole : behind text s ≡ p ++ (joined ps ++ rest) = e ∙ append_assoc p (joined ps) rest in
    let here : Word text s (s + width p) p = front_word text s p (joined ps ++ rest) u b whole in
    let left : behind text (s + width p) ≡ joined ps ++ rest = append_cancel_left p (behind text (s + width p)) (joined ps ++ rest) (sym here.splits ∙ whole) in
    let lies : LiesIn (span_at s p) text = record { ordered = omega arith; starts_whole = b; ends_whole = here.boundary } in
    All-append (λ a. LiesIn (span a) text) (f s p) (each_at f (s + width p) ps)
    (All-weaker (λ a. span a ≡ span_at s p) (λ a. LiesIn (span a) text) (λ a q. subst (λ (z : Span). LiesIn z text) (sym q) lies) (f s p) (h s p))
    (pieces_lie f span h text (s + width p) ps rest u here.boundary left)

comment_spans : (a i : ℕ) (p : List ℕ) → All (λ (c : Comment). c.span ≡ span_at i p) (comment_at a i p)
comment_spans a i p = by (comment_kind p)
  where
    by : (o : Option CommentKind) → All (λ (c : Comment). c.span ≡ span_at i p) (elim o [ None ↦ [] | Some k ↦ record { span = span_at i p; kind = k; attached_to = a } ∷ [] ])
    by None = All-nil (λ (c : Comment). c.span ≡ span_at i p)
    by (Some k) = All-cons (λ (c : Comment). c.span ≡ span_at i p) (record { span = span_at i p; kind = k; attached_to = a }) [] refl (All-nil (λ (c : Comment). c.span ≡ span_at i p))

blank_spans : (i : ℕ) (p : List ℕ) → All (λ (s : Span). s ≡ span_at i p) (irregular_at i p)
blank_spans i p = by (is_irregular p)
  where
    by : (b : Bool) → All (λ (s : Span). s ≡ span_at i p) (elim b [ true ↦ span_at i p ∷ [] | false ↦ [] ])
    by true = All-cons (λ (s : Span). s ≡ span_at i p) (span_at i p) [] refl (All-nil (λ (s : Span). s ≡ span_at i p))
    by false = All-nil (λ (s : Span). s ≡ span_at i p)

-- ---- faults and tokens

faulty_lies : {source : Goal} {text : List ℕ} {s : ℕ} (d : Diagnostic) → FaultyBehind d.kind source text s d.span.start d.span.end → LiesIn d.span text
faulty_lies d h = record { ordered = (let o = h.ordered in omega arith); starts_whole = h.begins_between; ends_whole = h.ends_between }

all_lie : (source : Goal) (text : List ℕ) (s : ℕ) (ds : List Diagnostic) → All (λ d. FaultyBehind d.kind source text s d.span.start d.span.end) ds → All (λ (d : Diagnostic). LiesIn d.span text) ds
all_lie source text s ds h = All-weaker (λ d. FaultyBehind d.kind source text s d.span.start d.span.end) (λ (d : Diagnostic). LiesIn d.span text) faulty_lies ds h

-- the faults of an outcome: one that stops, or those that go on
outcome_lies : (goal : LexicalGoal) (form : Lexeme → Lexeme) (source : Goal) (text : List ℕ) (s : ℕ) (t : Token) (going_on faults : List Diagnostic) → All (λ (d : Diagnostic). LiesIn d.span text) going_on → Outcome goal form source text s t going_on faults → All (λ (d : Diagnostic). LiesIn d.span text) faults
outcome_lies goal form source text s t going_on faults h o = by (same_kind Undetermined t.kind) o
  where
    by : (b : Bool) → elim b as (λ _. Type 0) [ true ↦ (d : Diagnostic) × (faults ≡ d ∷ []) × GivesNone goal source text s t d | false ↦ (faults ≡ going_on) × GivesLexeme goal form text s t ] → All (λ (d : Diagnostic). LiesIn d.span text) faults
    by true z = let x = z.2 in subst (All (λ (d : Diagnostic). LiesIn d.span text)) (sym z.1) (All-cons (λ (d : Diagnostic). LiesIn d.span text) z.0 [] (faulty_lies z.0 x.faulty) (All-nil (λ (d : Diagnostic). LiesIn d.span text)))
    by false z = subst (All (λ (d : Diagnostic). LiesIn d.span text)) (sym z.0) h

token_lies : (text : List ℕ) (keeps : Bool) (t : Token) → LiesIn t.span text → All (λ (u : Token). LiesIn u.span text) (kept_token keeps t)
token_lies text keeps t h = by (keeps && is_kept t.kind)
  where
    by : (b : Bool) → All (λ (u : Token). LiesIn u.span text) (elim b [ true ↦ t ∷ [] | false ↦ [] ])
    by true = All-cons (λ (u : Token). LiesIn u.span text) t [] h (All-nil (λ (u : Token). LiesIn u.span text))
    by false = All-nil (λ (u : Token). LiesIn u.span text)

replaced_lies : (text : List ℕ) (ts : List Token) (t : Token) → LiesIn t.span text → All (λ (u : Token). LiesIn u.span text) ts → All (λ (u : Token). LiesIn u.span text) (replaced ts t)
replaced_lies text [] t h k = k
replaced_lies text (u ∷ us) t h k = All-append (λ (u : Token). LiesIn u.span text) (take (length us) (u ∷ us)) (t ∷ []) (All-take (λ (u : Token). LiesIn u.span text) (length us) (u ∷ us) k) (All-cons (λ (u : Token). LiesIn u.span text) t [] h (All-nil (λ (u : Token). LiesIn u.span text)))

relexed_lies : (text : List ℕ) (keeps : Bool) (ts : List Token) (t : Token) → LiesIn t.span text → All (λ (u : Token). LiesIn u.span text) ts → All (λ (u : Token). LiesIn u.span text) (relexed keeps ts t)
relexed_lies text keeps ts t h k = by (keeps && is_kept t.kind)
  where
    by : (b : Bool) → All (λ (u : Token). LiesIn u.span text) (elim b [ true ↦ replaced ts t | false ↦ ts ])
    by true = replaced_lies text ts t h k
    by false = k

-- ---- the calls

pub lie_next : (old new : State) (t : Token) → GivesNext division old new t → LieIn old.text old.kept → LieIn old.text new.kept
lie_next old new t g h =
    let e = g.stands.splits in
    record {
      comments = subst (All (λ (c : Comment). LiesIn c.span old.text)) (sym g.grows.comments_grow) (All-append (λ (c : Comment). LiesIn c.span old.text) old.kept.comments (each_at (comment_at t.span.start) old.place g.pieces) h.comments (pieces_lie (comment_at t.span.start) (λ (c : Comment). c.span) (comment_spans t.span.start) old.text old.place g.pieces (behind old.text t.span.start) g.utf8 g.between e));
      irregular_whitespaces = subst (All (λ (s : Span). LiesIn s old.text)) (sym g.grows.blanks_grow) (All-append (λ (s : Span). LiesIn s old.text) old.kept.irregular_whitespaces (each_at irregular_at old.place g.pieces) h.irregular_whitespaces (pieces_lie irregular_at (λ (s : Span). s) blank_spans old.text old.place g.pieces (behind old.text t.span.start) g.utf8 g.between e));
      tokens = subst (All (λ (u : Token). LiesIn u.span old.text)) (sym g.grows.tokens_grow) (All-append (λ (u : Token). LiesIn u.span old.text) old.kept.tokens (kept_token old.keeps_tokens t) h.tokens (token_lies old.text old.keeps_tokens t g.lies));
      errors = subst (All (λ (d : Diagnostic). LiesIn d.span old.text)) (sym g.grows.faults_grow) (All-append (λ (d : Diagnostic). LiesIn d.span old.text) old.kept.errors (each_at (html_fault_at (in_a_module old.goal)) old.place g.pieces ++ g.faults) h.errors
          (All-append (λ (d : Diagnostic). LiesIn d.span old.text) (each_at (html_fault_at (in_a_module old.goal)) old.place g.pieces) g.faults (all_lie old.goal old.text old.place (each_at (html_fault_at (in_a_module old.goal)) old.place g.pieces) g.marked) (outcome_lies division cut old.goal old.text old.place t [] g.faults (All-nil (λ (d : Diagnostic). LiesIn d.span old.text)) g.outcome)));
    }

-- ---- a token that is read again

lie_settled : (text : List ℕ) (most : ℕ) (keeps : Bool) (given : Token) (scan : Result Scanned Fault) (old new : LexerOutput) (t : Token) → IsCharBoundary text given.span.start → Fits most given.span.start scan → ScanEnds text scan → SettledAgain keeps given scan old new t → LieIn text old → LieIn text new
lie_settled text most keeps given (Ok s) old new t b f e k h =
    let lies : LiesIn t.span text = subst (λ (u : Token). LiesIn u.span text) (sym k.0) (record { ordered = f.0; starts_whole = b; ends_whole = e }) in
    subst (LieIn text) (sym k.1) (record { comments = h.comments; irregular_whitespaces = h.irregular_whitespaces; tokens = relexed_lies text keeps old.tokens t lies h.tokens; errors = h.errors })
lie_settled text most keeps given (Err x) old new t b f e k h =
    let g = k.1 in
    let lies : LiesIn (diagnostic_of x).span text = record { ordered = (let o = f.1 in omega arith); starts_whole = e.0; ends_whole = e.1 } in
    record {
      comments = subst (All (λ (c : Comment). LiesIn c.span text)) (sym (g.comments_grow ∙ append-nil old.comments)) h.comments;
      irregular_whitespaces = subst (All (λ (s : Span). LiesIn s text)) (sym (g.blanks_grow ∙ append-nil old.irregular_whitespaces)) h.irregular_whitespaces;
      tokens = subst (All (λ (u : Token). LiesIn u.span text)) (sym (g.tokens_grow ∙ append-nil old.tokens)) h.tokens;
      errors = subst (All (λ (d : Diagnostic). LiesIn d.span text)) (sym g.faults_grow) (All-append (λ (d : Diagnostic). LiesIn d.span text) old.errors (diagnostic_of x ∷ []) h.errors (All-cons (λ (d : Diagnostic). LiesIn d.span text) (diagnostic_of x) [] lies (All-nil (λ (d : Diagnostic). LiesIn d.span text))));
    }

comments_settled : (keeps : Bool) (given : Token) (scan : Result Scanned Fault) (old new : LexerOutput) (t : Token) → SettledAgain keeps given scan old new t → new.comments ≡ old.comments
comments_settled keeps given (Ok s) old new t k = ap (λ (o : LexerOutput). o.comments) k.1
comments_settled keeps given (Err x) old new t k = k.1.comments_grow ∙ append-nil old.comments

-- the same behind the flags of a regular expression
pub lie_behind : (text : List ℕ) (most : ℕ) (keeps : Bool) (given : Token) (scan : Result Scanned Fault) (flags : Option RegularExpression) (old new : LexerOutput) (t : Token) → IsUtf8 text → IsCharBoundary text given.span.start → Fits most given.span.start scan → ScanEnds text scan → HasFlags text flags → SettledBehind text keeps given scan flags old new t → LieIn text old → LieIn text new × (new.comments ≡ old.comments)
lie_behind text most keeps given scan flags old new t u b f e h k l =
    let m = lie_flags text flags old k.mid u h k.flags_kept l in
    (lie_settled text most keeps given scan k.mid new t b f e k.settled m.0, comments_settled keeps given scan k.mid new t k.settled ∙ m.1)

-- what was kept before, again, once what came behind it is cut off
pub cut_back : (n : Lengths) (old new : LexerOutput) → n ≡ lengths_of old → Extends old new → first_kept n new ≡ old
cut_back n old new e x =
    ap (λ (m : Lengths). first_kept m new) e ∙ (λ i. record {
      comments = (ap (take (length old.comments)) x.grows.comments_grow ∙ take-append_seam old.comments x.comments) i;
      irregular_whitespaces = (ap (take (length old.irregular_whitespaces)) x.grows.blanks_grow ∙ take-append_seam old.irregular_whitespaces x.blanks) i;
      tokens = (ap (take (length old.tokens)) x.grows.tokens_grow ∙ take-append_seam old.tokens x.tokens) i;
      errors = (ap (take (length old.errors)) x.grows.faults_grow ∙ take-append_seam old.errors x.faults) i;
    })
