-- Trivia, one piece after the other.
use Rattle.std.proofs.Common.{◌≡◌, ℕ, ◌+◌, ◌==◌, Bool, true, false, List, [], ◌∷◌, ◌++◌, refl, sym, ap, subst, ◌∙◌, ◌&&◌, ◌||◌, length, arith, append_assoc, append-nil, Option, Some, None, map, take, drop}
use Rattle.std.specs.Prelude.{IsCharBoundary}
use Rattle.std.proofs.lemmas.List.Folds.{list_any-append}
use Rattle.std.proofs.Math.Bool.{or-false, or_assoc}
use Rattle.std.proofs.Math.Seq.{drop-append_seam, take-append_seam}
use Rattle.std.proofs.lemmas.List.{map-append}
use Rattle.js_base.specs.declared.span.Span.{Span}
use Rattle.js_base.specs.part_text.Characters.{is_line_terminator}
use Rattle.part_words.specs.js_grammar.Characters.{has_line_terminator, width}
use Rattle.part_words.specs.js_grammar.Longest.{longest, none_begins, joined}
use Rattle.part_words.specs.js_grammar.Trivia.{is_trivia_piece, are_trivia, is_html_comment, is_irregular}
use Rattle.part_words.specs.js_grammar.LexicalFaults.{behind}
use Rattle.part_words.proofs.js_grammar.LongestLemmas.{both}
use Rattle.js_lex.specs.declared.comment.Comment.{Comment}
use Rattle.js_lex.specs.declared.comment.CommentKind.{CommentKind}
use Rattle.js_lex.specs.declared.trivia.Piece.{Piece}
use Rattle.js_lex.specs.declared.trivia.Trivia.{Trivia}
use Rattle.js_lex.specs.declared.output.LexerOutput.{LexerOutput}
use Rattle.part_words.specs.Places.{Word}
use Rattle.js_lex.specs.Kept.{Grows}
use Rattle.js_lex.specs.Comments.{comment_kind, comment_at, irregular_at, html_fault_at, each_at, span_at, attached}
use Rattle.js_lex.specs.TriviaPassed.{IsPiece, IsPassed, PlainBlankAt, PassesBlanks, told, comment_told, blank_told, fault_told}
use Rattle.part_words.proofs.Places.{then, none_passed, width-append}
use Rattle.js_lex.proofs.Keeping.{grow_on}

-- the pieces so far: whichever follow as trivia, they are trivia together
pub record Passing (in_a_module : Bool) (text : List ℕ) (s end : ℕ) (newline : Bool) (old new : LexerOutput) : Type 0 where
  pub pieces : List (List ℕ)
  pub stands : Word text s end (joined pieces)
  pub newline_is : newline ≡ has_line_terminator (joined pieces)
  pub goes_on : (qs : List (List ℕ)) (rest : List ℕ) → behind text end ≡ joined qs ++ rest → are_trivia ((s == 0) || newline) qs rest ≡ true → are_trivia (s == 0) (pieces ++ qs) rest ≡ true
  pub grows : Grows old new (each_at (comment_at 0) s pieces) (each_at irregular_at s pieces) [] (each_at (html_fault_at in_a_module) s pieces)

pub passed_none : (m : Bool) (text : List ℕ) (s : ℕ) (old : LexerOutput) → IsCharBoundary text s → Passing m text s s false old old
passed_none m text s old b = record {
  pieces = [];
  stands = none_passed text s b;
  newline_is = refl;
  goes_on = λ qs rest e t. subst (λ (f : Bool). are_trivia f qs rest ≡ true) (or-false (s == 0)) t;
  grows = record { comments_grow = sym (append-nil old.comments); blanks_grow = sym (append-nil old.irregular_whitespaces); tokens_grow = sym (append-nil old.tokens); faults_grow = sym (append-nil old.errors) };
}

pub joined-more : (ps : List (List ℕ)) (q : List ℕ) → joined (ps ++ q ∷ []) ≡ joined ps ++ q
joined-more [] q = append-nil q
joined-more (p ∷ ps) q = ap (λ (v : List ℕ). p ++ v) (joined-more ps q) ∙ sym (append_assoc p (joined ps) q)

each-more : {A : Type 0} (f : ℕ → List ℕ → List A) (s : ℕ) (ps : List (List ℕ)) (q : List ℕ) → each_at f s (ps ++ q ∷ []) ≡ each_at f s ps ++ f (s + width (joined ps)) q
each-more f s [] q = let e : s ≡ s + 0 = omega arith in append-nil (f s q) ∙ ap (λ (n : ℕ). f n q) e
each-more f s (p ∷ ps) q =
    let e : (s + width p) + width (joined ps) ≡ s + width (p ++ joined ps) = (let w = width-append p (joined ps) in omega arith) in
    ap (λ v. f s p ++ v) (each-more f (s + width p) ps q) ∙ sym (append_assoc (f s p) (each_at f (s + width p) ps) (f ((s + width p) + width (joined ps)) q)) ∙ ap (λ (n : ℕ). (f s p ++ each_at f (s + width p) ps) ++ f n q) e

-- what is told of a piece is what is kept of its characters
comment_same : (i : ℕ) (q : List ℕ) (p : Piece) → p.end ≡ i + width q → p.comment ≡ comment_kind q → comment_told p.comment (told i p) ≡ comment_at 0 i q
comment_same i q p e k = rw (k, e) (by (comment_kind q))
  where
    by : (o : Option CommentKind) → comment_told o (span_at i q) ≡ elim o [ None ↦ [] | Some k ↦ record { span = span_at i q; kind = k; attached_to = 0 } ∷ [] ]
    by None = refl
    by (Some k) = refl

blank_same : (i : ℕ) (q : List ℕ) (p : Piece) → p.end ≡ i + width q → p.is_irregular ≡ is_irregular q → blank_told p.is_irregular (told i p) ≡ irregular_at i q
blank_same i q p e k = rw (k, e) (by (is_irregular q))
  where
    by : (b : Bool) → blank_told b (span_at i q) ≡ elim b [ true ↦ span_at i q ∷ [] | false ↦ [] ]
    by true = refl
    by false = refl

fault_same : (m : Bool) (i : ℕ) (q : List ℕ) (p : Piece) → p.end ≡ i + width q → p.is_html ≡ is_html_comment q → fault_told (m && p.is_html) (told i p) ≡ html_fault_at m i q
fault_same m i q p e k = rw (k, e) (by (m && is_html_comment q))
  where
    by : (b : Bool) → fault_told b (span_at i q) ≡ elim b [ true ↦ record { kind = Rattle.js_base.specs.declared.diagnostic.DiagnosticKind.TheVariants.HtmlCommentInModule; span = span_at i q; first = None; second = None } ∷ [] | false ↦ [] ]
    by true = refl
    by false = refl

-- one piece more
pub passed_more : {m : Bool} {text : List ℕ} {s end : ℕ} {newline : Bool} {old mid new : LexerOutput} (p : Piece) → Passing m text s end newline old mid → IsPiece ((s == 0) || newline) text end p
    → Grows mid new (comment_told p.comment (told end p)) (blank_told p.is_irregular (told end p)) [] (fault_told (m && p.is_html) (told end p))
    → Passing m text s p.end (newline || p.has_newline) old new
passed_more {m = m} {text = text} {s = s} {end = end} {newline = newline} {old = old} {mid = mid} {new = new} p a h g = record {
  pieces = a.pieces ++ h.word ∷ [];
  stands = subst (λ (v : List ℕ). Word text s p.end v) (sym (joined-more a.pieces h.word)) (then a.stands h.stands);
  newline_is = rw (a.newline_is, h.newline) (sym (list_any-append is_line_terminator (joined a.pieces) h.word)) ∙ ap has_line_terminator (sym (joined-more a.pieces h.word));
  goes_on = λ qs rest e t.
      let k : longest (is_trivia_piece ((s == 0) || newline)) h.word (joined qs ++ rest) ≡ true = subst (λ (v : List ℕ). longest (is_trivia_piece ((s == 0) || newline)) h.word v ≡ true) e h.longest in
      let f : are_trivia (((s == 0) || newline) || has_line_terminator h.word) qs rest ≡ true = subst (λ (b : Bool). are_trivia b qs rest ≡ true) (sym (or_assoc (s == 0) newline p.has_newline) ∙ ap (λ (b : Bool). ((s == 0) || newline) || b) h.newline) t in
      let u : behind text end ≡ (h.word ++ joined qs) ++ rest = h.stands.splits ∙ ap (λ (v : List ℕ). h.word ++ v) e ∙ sym (append_assoc h.word (joined qs) rest) in
      let r = a.goes_on (h.word ∷ qs) rest u (both (longest (is_trivia_piece ((s == 0) || newline)) h.word (joined qs ++ rest)) (are_trivia (((s == 0) || newline) || has_line_terminator h.word) qs rest) k f) in
      subst (λ (v : List (List ℕ)). are_trivia (s == 0) v rest ≡ true) (sym (append_assoc a.pieces (h.word ∷ []) qs)) r;
  grows = (
      let i : end ≡ s + width (joined a.pieces) = a.stands.end in
      let x : each_at (comment_at 0) s (a.pieces ++ h.word ∷ []) ≡ each_at (comment_at 0) s a.pieces ++ comment_told p.comment (told end p) = each-more (comment_at 0) s a.pieces h.word ∙ ap (λ (n : ℕ). each_at (comment_at 0) s a.pieces ++ comment_at 0 n h.word) (sym i) ∙ ap (λ v. each_at (comment_at 0) s a.pieces ++ v) (sym (comment_same end h.word p h.stands.end h.comment)) in
      let y : each_at irregular_at s (a.pieces ++ h.word ∷ []) ≡ each_at irregular_at s a.pieces ++ blank_told p.is_irregular (told end p) = each-more irregular_at s a.pieces h.word ∙ ap (λ (n : ℕ). each_at irregular_at s a.pieces ++ irregular_at n h.word) (sym i) ∙ ap (λ v. each_at irregular_at s a.pieces ++ v) (sym (blank_same end h.word p h.stands.end h.irregular)) in
      let z : each_at (html_fault_at m) s (a.pieces ++ h.word ∷ []) ≡ each_at (html_fault_at m) s a.pieces ++ fault_told (m && p.is_html) (told end p) = each-more (html_fault_at m) s a.pieces h.word ∙ ap (λ (n : ℕ). each_at (html_fault_at m) s a.pieces ++ html_fault_at m n h.word) (sym i) ∙ ap (λ v. each_at (html_fault_at m) s a.pieces ++ v) (sym (fault_same m end h.word p h.stands.end h.html)) in
      let q = grow_on a.grows g in
      record {
        comments_grow = q.comments_grow ∙ ap (λ v. old.comments ++ v) (sym x);
        blanks_grow = q.blanks_grow ∙ ap (λ v. old.irregular_whitespaces ++ v) (sym y);
        tokens_grow = q.tokens_grow;
        faults_grow = q.faults_grow ∙ ap (λ v. old.errors ++ v) (sym z);
      }
      );
}

-- no piece more
pub passed_all : {m : Bool} {text : List ℕ} {s end : ℕ} {newline : Bool} {old new : LexerOutput} → Passing m text s end newline old new → none_begins (is_trivia_piece ((s == 0) || newline)) (behind text end) ≡ true → IsPassed m text s 0 old new (record { end = end; has_newline = newline })
passed_all {text = text} {s = s} {end = end} a n = record {
  pieces = a.pieces;
  stands = a.stands;
  trivia = subst (λ (v : List (List ℕ)). are_trivia (s == 0) v (behind text end) ≡ true) (append-nil a.pieces) (a.goes_on [] (behind text end) refl n);
  newline = a.newline_is;
  grows = a.grows;
}

-- ---- to attach the comments

attach-at : (a i : ℕ) (p : List ℕ) → map (attached a) (comment_at 0 i p) ≡ comment_at a i p
attach-at a i p = by (comment_kind p)
  where
    by : (o : Option CommentKind) → map (attached a) (elim o [ None ↦ [] | Some k ↦ record { span = span_at i p; kind = k; attached_to = 0 } ∷ [] ]) ≡ elim o [ None ↦ [] | Some k ↦ record { span = span_at i p; kind = k; attached_to = a } ∷ [] ]
    by None = refl
    by (Some k) = refl

attach-each : (a s : ℕ) (ps : List (List ℕ)) → map (attached a) (each_at (comment_at 0) s ps) ≡ each_at (comment_at a) s ps
attach-each a s [] = refl
attach-each a s (p ∷ ps) = map-append (attached a) (comment_at 0 s p) (each_at (comment_at 0) (s + width p) ps) ∙ ap (λ v. v ++ map (attached a) (each_at (comment_at 0) (s + width p) ps)) (attach-at a s p) ∙ ap (λ v. comment_at a s p ++ v) (attach-each a (s + width p) ps)

pub attached_all : {m : Bool} {text : List ℕ} {s : ℕ} {old mid : LexerOutput} {t : Trivia} (new : List Comment) (n a : ℕ) → n ≡ length old.comments → IsPassed m text s 0 old mid t → new ≡ take n mid.comments ++ map (attached a) (drop n mid.comments)
    → IsPassed m text s a old (record { comments = new; irregular_whitespaces = mid.irregular_whitespaces; tokens = mid.tokens; errors = mid.errors }) t
attached_all {s = s} {old = old} {mid = mid} new n a e h f = record {
  pieces = h.pieces;
  stands = h.stands;
  trivia = h.trivia;
  newline = h.newline;
  grows = record {
    comments_grow = (
        let g = h.grows.comments_grow in
        let x : take n mid.comments ≡ old.comments = ap (λ (k : ℕ). take k mid.comments) e ∙ ap (take (length old.comments)) g ∙ take-append_seam old.comments (each_at (comment_at 0) s h.pieces) in
        let y : drop n mid.comments ≡ each_at (comment_at 0) s h.pieces = ap (λ (k : ℕ). drop k mid.comments) e ∙ ap (drop (length old.comments)) g ∙ drop-append_seam old.comments (each_at (comment_at 0) s h.pieces) in
        f ∙ ap (λ v. v ++ map (attached a) (drop n mid.comments)) x ∙ ap (λ v. old.comments ++ map (attached a) v) y ∙ ap (λ v. old.comments ++ v) (attach-each a s h.pieces)
        );
    blanks_grow = h.grows.blanks_grow;
    tokens_grow = h.grows.tokens_grow;
    faults_grow = h.grows.faults_grow;
  };
}

-- of a piece that is neither a comment nor irregular nothing is kept
pub nothing_grows : (m : Bool) (o : LexerOutput) (span : Span) → Grows o o (comment_told None span) (blank_told false span) [] (fault_told (m && false) span)
nothing_grows m o span = subst (λ (b : Bool). Grows o o [] [] [] (fault_told b span)) (sym (no m)) (record { comments_grow = sym (append-nil o.comments); blanks_grow = sym (append-nil o.irregular_whitespaces); tokens_grow = sym (append-nil o.tokens); faults_grow = sym (append-nil o.errors) })
  where
    no : (b : Bool) → (b && false) ≡ false
    no true = refl
    no false = refl

-- ---- blanks alone

-- lists of nothing
abbrev pub nothing : LexerOutput
nothing = record { comments = []; irregular_whitespaces = []; tokens = []; errors = [] }

-- pieces that are passed and of which nothing is kept
abbrev pub Blanks : List ℕ → ℕ → ℕ → Bool → Type 0
Blanks text s end newline = (m : Bool) (kept : LexerOutput) → Passing m text s end newline kept kept

pub blanks_between : {text : List ℕ} {s end : ℕ} {newline : Bool} → Blanks text s end newline → IsCharBoundary text end
blanks_between b = (b false nothing).stands.boundary

pub blank_more : {text : List ℕ} {s end : ℕ} {newline : Bool} (more : Bool) → Blanks text s end newline → PlainBlankAt text end (Some more) → Blanks text s (end + 1) (newline || more)
blank_more {end = end} more b p m kept = passed_more (record { end = end + 1; comment = None; is_html = false; is_irregular = false; has_newline = more }) (b m kept) (p _) (nothing_grows m kept _)

pub space_more : {text : List ℕ} {s end : ℕ} {newline : Bool} → Blanks text s end newline → PlainBlankAt text end (Some false) → Blanks text s (end + 1) newline
space_more {text = text} {s = s} {end = end} {newline = newline} b p = subst (λ (x : Bool). Blanks text s (end + 1) x) (or-false newline) (blank_more false b p)

pub blanks_passed : {text : List ℕ} {s end : ℕ} {newline : Bool} → Blanks text s end newline → PassesBlanks text s (record { end = end; has_newline = newline })
blanks_passed b n m a kept = attached_all kept.comments (length kept.comments) a refl (passed_all (b m kept) (n _)) (all_kept kept.comments)
  where
    all_kept : (cs : List Comment) → cs ≡ take (length cs) cs ++ map (attached a) (drop (length cs) cs)
    all_kept [] = refl
    all_kept (c ∷ cs) = ap (λ v. c ∷ v) (all_kept cs)
