-- What holds at a place when the lexer has given the next token.
use Rattle.std.proofs.Common.{ℕ, ◌+◌, ◌≡◌, ◌≤◌, ◌<◌, inl, inr, Bool, true, false, List, [], ◌∷◌, ◌++◌, refl, sym, ap, subst, arith, ◌∙◌, append-nil}
use Rattle.std.specs.List.{All}
use Rattle.std.specs.Prelude.{IsCharBoundary, IsTrue, Some, None, ◌↔◌, ◌&&◌, slice_index_or}
use Rattle.js_lex.proofs.Again.{cut_same}
use Rattle.std.proofs.lemmas.List.Elements.{All-append}
use Rattle.js_base.specs.declared.diagnostic.Diagnostic.{Diagnostic}
use Rattle.js_base.specs.declared.diagnostic.DiagnosticKind.{DiagnosticKind}
use Rattle.js_base.specs.declared.diagnostic.DiagnosticKind.TheVariants as fault
use Rattle.std.proofs.lemmas.Bool.{false≢true}
use Rattle.js_lex.specs.Comments.{each_at, html_fault_at, span_at}
use Rattle.js_base.specs.declared.kind.Kind.{Kind}
use Rattle.js_base.specs.declared.kind.Kind.TheVariants.{Undetermined, RAngle, Eof}
use Rattle.js_base.specs.declared.token.Token.{Token}
use Rattle.js_base.specs.Kinds.{same_kind}
use Rattle.js_base.specs.declared.span.Span.{Span}
use Rattle.js_base.specs.Spans.{LiesIn}
use Rattle.js_base.proofs.KindLemmas.{kind_of_same}
use Rattle.js_tree.specs.js_grammar.Grammar.{Lexeme, Lexemes, last, next}
use Rattle.js_tree.specs.js_grammar.Lexemes.{LexicalGoal, division}
use Rattle.js_tree.specs.js_grammar.Lexed.{NextLexeme, all_faults, end_of, join}
use Rattle.js_tree.specs.js_grammar.LexicalFaults.{Reached, FaultyBehind, is_invalid_character, Condition}
use Rattle.js_tree.specs.js_grammar.Characters.{width}
use Rattle.js_tree.specs.js_grammar.Lexemes.{regular_expression, template_tail, hashbang, kind_in}
use Rattle.js_lex.proofs.part_words.KindsOfLexemes.{plain_end}
use Rattle.js_lex.proofs.TriviaLemmas.{some_width}
use Rattle.std.proofs.lemmas.List.Elements.{All-same, All-cons, All-nil}
use Rattle.js_tree.specs.js_grammar.Marks.{Unrelated}
use Rattle.js_tree.specs.js_grammar.Settings.{Goal}
use Rattle.js_tree.specs.js_grammar.Trivia.{is_html_comment}
use Rattle.js_tree.proofs.js_grammar.Parts.{joins}
use Rattle.js_lex.specs.Reading.{cut, is_right_angle, Tells, LexemeBehind, GivesLexeme, GivesNone, Outcome, GivesNext, GivesAgain, WasGiven, in_a_module}
use Rattle.js_lex.specs.States.{State, SameText}
use Rattle.js_cursor.specs.Parsers.{Parser}
use Rattle.js_cursor.specs.Tokens.{may_be_read_again, IsToken, whole, sign, nothing}
use Rattle.js_cursor.specs.Notes.{Notes}
use Rattle.js_cursor.specs.Places.{IsAt, IsFault, KeptBefore, goal}
use Rattle.js_cursor.specs.Moves.{Stays, Passed, IsWholeToken, Told, is_last}

pub end_of-join : (ls : Lexemes) (x : Lexeme) → end_of (join ls (last x)) ≡ x.to
end_of-join (last y) x = refl
end_of-join (next y ls) x = end_of-join ls x

-- a lexeme further on
pub reached_next : {text : List ℕ} {s : ℕ} {x : Lexeme} → Reached text s → NextLexeme all_faults text s x → Reached text x.to
reached_next {text} {s} {x} (inl e) h = inr (last x, subst (λ v. NextLexeme all_faults text v x) e h, refl)
reached_next {text} {s} {x} (inr r) h = inr (join r.0 (last x), joins (NextLexeme all_faults text) 0 r.0 (last x) r.1 (subst (λ v. NextLexeme all_faults text v x) (sym r.2) h), end_of-join r.0 x)

-- a sign that begins with `>` is shown as `>`
pub cut_sign : (y : Lexeme) → is_right_angle y.kind ≡ true → (cut y).kind ≡ RAngle
cut_sign y e = rw (e, cut) refl

same_is : (k : Kind) → same_kind Undetermined k ≡ false → k ≡ Undetermined → ⊥
same_is k h e = false≢true (sym h ∙ ap (same_kind Undetermined) e)

joined_lists : (a b c : List Diagnostic) → (a ++ b) ++ c ≡ a ++ (b ++ c)
joined_lists [] b c = refl
joined_lists (x ∷ a) b c = ap (λ v. x ∷ v) (joined_lists a b c)

-- what the lexer gives is a token of its place
pub token_given : {source : Goal} {text : List ℕ} {s : ℕ} {t : Token} (faults : List Diagnostic) {all : List Diagnostic} (before : List Diagnostic) (b : Bool) → (IsTrue b ↔ (t.kind ≡ RAngle)) → all ≡ before ++ faults → Outcome division cut source text s t [] faults → IsToken source text s all t b
token_given {source} {text} {s} {t} faults {all} before b h q o = go (same_kind Undetermined t.kind) refl o
  where
    told : (b : Bool) → (IsTrue b ↔ (t.kind ≡ RAngle)) → same_kind Undetermined t.kind ≡ false → GivesLexeme division cut text s t → IsToken source text s all t b
    told true h e x = sign (h.0 refl) x
    told false h e x = whole (same_is t.kind e) (record { lexeme = x.lexeme; stands = x.stands; tells = subst (λ v. Tells v t) (plain (is_right_angle x.lexeme.kind) refl) x.tells; separated = x.separated })
      where
        plain : (r : Bool) → is_right_angle x.lexeme.kind ≡ r → cut x.lexeme ≡ x.lexeme
        plain true e = absurd (false≢true (h.1 (x.tells.kind ∙ cut_sign x.lexeme e)))
        plain false e = cut_same x.lexeme e

    none_told : (b : Bool) → (IsTrue b ↔ (t.kind ≡ RAngle)) → t.kind ≡ Undetermined → (d : Diagnostic) → faults ≡ d ∷ [] → GivesNone division source text s t d → IsToken source text s all t b
    none_told true h e d r x = absurd (let z : Undetermined ≡ RAngle = sym e ∙ h.0 refl in cc)
    none_told false h e d r x = nothing before e (q ∙ ap (λ v. before ++ v) r) x

    go : (r : Bool) → same_kind Undetermined t.kind ≡ r → elim r as (λ _. Type 0) [ true ↦ (d : Diagnostic) × (faults ≡ d ∷ []) × GivesNone division source text s t d | false ↦ (faults ≡ []) × GivesLexeme division cut text s t ] → IsToken source text s all t b
    go true e x = none_told b h (sym (kind_of_same Undetermined t.kind e)) x.0 x.1 x.2
    go false e x = told b h e x.1

-- a lexeme that isn't the end has some bytes
pub empty_is_end : (g : LexicalGoal) (rest : List ℕ) (k : Kind) → kind_in g [] rest ≡ Some k → k ≡ Eof
empty_is_end division rest k e = (plain_end rest k e).0
empty_is_end regular_expression rest k e = cc
empty_is_end template_tail rest k e = cc
empty_is_end hashbang rest k e = cc

pub lexeme_some : {text : List ℕ} {s : ℕ} {x : Lexeme} → NextLexeme all_faults text s x → (x.kind ≡ Eof → ⊥) → x.from < x.to
lexeme_some {x = x} h n = go h.word h.rest h.lexeme.kind h.to
  where
    go : (w rest : List ℕ) → kind_in h.goal w rest ≡ Some x.kind → x.to ≡ x.from + width w → x.from < x.to
    go [] rest e q = absurd (n (empty_is_end h.goal rest x.kind e))
    go (c ∷ w) rest e q = let z = some_width c w in omega arith

-- faults behind a place that isn't the text's start
further_on : (k : DiagnosticKind) (source : Goal) (text : List ℕ) (s from to : ℕ) → 0 < s → Condition k source text s from to → is_invalid_character k ≡ true → from ≡ 0 → ⊥
further_on fault.InvalidCharacter source text s from to p c e z = let q = c.1.place in let r = c.2.0 in absurd (omega arith)
further_on _ source text s from to p c e z = false≢true e

-- no related places
abbrev pub Alone : Diagnostic → Type 0
Alone d = Unrelated d.first d.second

is_fault : {source : Goal} {text : List ℕ} {s : ℕ} (d : Diagnostic) → Reached text s → 0 < s → FaultyBehind d.kind source text s d.span.start d.span.end → Alone d → IsFault source text d
is_fault {source} {text} {s} d r p h a = record { place = s; reached = r; faulty = h; no_hashbang = λ e z q. further_on d.kind source text s d.span.start d.span.end p h.condition e z; alone = a }

are_faults : {source : Goal} {text : List ℕ} {s : ℕ} (ds : List Diagnostic) → Reached text s → 0 < s → All (λ d. FaultyBehind d.kind source text s d.span.start d.span.end) ds → All Alone ds → All (IsFault source text) ds
are_faults ds r p h a = λ k d l. is_fault (slice_index_or ds k d) r p (h k d l) (a k d l)

-- one that is told with a place elsewhere is none
none_related : {source : Goal} {text : List ℕ} {k : DiagnosticKind} (span place : Span) → IsFault source text (record { kind = k; span = span; first = Some place; second = None }) → ⊥
none_related span place f = let e : Some place ≡ None = f.alone.0 in cc

pub html_alone : (b : Bool) (s : ℕ) (ps : List (List ℕ)) → All Alone (each_at (html_fault_at b) s ps)
html_alone b s [] = All-nil Alone
html_alone b s (p ∷ ps) = All-append Alone (html_fault_at b s p) (each_at (html_fault_at b) (s + width p) ps) (one (b && is_html_comment p)) (html_alone b (s + width p) ps)
  where
    one : (v : Bool) → All Alone (elim v [ true ↦ record { kind = fault.HtmlCommentInModule; span = span_at s p; first = None; second = None } ∷ [] | false ↦ [] ])
    one true = All-cons Alone (record { kind = fault.HtmlCommentInModule; span = span_at s p; first = None; second = None }) [] (refl, refl) (All-nil Alone)
    one false = All-nil Alone

-- of the faults that come with a token, where it is so of those that go on
pub found_alone : (g : LexicalGoal) (shown : Lexeme → Lexeme) (source : Goal) (text : List ℕ) (s : ℕ) (t : Token) (going_on faults : List Diagnostic) → Outcome g shown source text s t going_on faults → (same_kind Undetermined t.kind ≡ false → All Alone going_on) → All Alone faults
found_alone g shown source text s t going_on faults o a = go (same_kind Undetermined t.kind) refl o
  where
    go : (b : Bool) → same_kind Undetermined t.kind ≡ b → elim b as (λ _. Type 0) [ true ↦ (d : Diagnostic) × (faults ≡ d ∷ []) × GivesNone g source text s t d | false ↦ (faults ≡ going_on) × GivesLexeme g shown text s t ] → All Alone faults
    go true e x = All-same Alone faults (x.0 ∷ []) x.1 (All-cons Alone x.0 [] (x.2.no_first, x.2.no_second) (All-nil Alone))
    go false e x = All-same Alone faults going_on x.0 (a e)

-- the faults that come with the next token
pub next_faults : {source : Goal} {text : List ℕ} {s : ℕ} (t : Token) (faults : List Diagnostic) → Reached text s → 0 < s → Outcome division cut source text s t [] faults → All (IsFault source text) faults
next_faults {source} {text} {s} t faults r p o = go (same_kind Undetermined t.kind) o
  where
    go : (b : Bool) → elim b as (λ _. Type 0) [ true ↦ (d : Diagnostic) × (faults ≡ d ∷ []) × GivesNone division source text s t d | false ↦ (faults ≡ []) × GivesLexeme division cut text s t ] → All (IsFault source text) faults
    go true x = All-same (IsFault source text) faults (x.0 ∷ []) x.1 (All-cons (IsFault source text) x.0 [] (is_fault x.0 r p x.2.faulty (x.2.no_first, x.2.no_second)) (All-nil (IsFault source text)))
    go false x = All-same (IsFault source text) faults [] x.0 (All-nil (IsFault source text))

-- what is noted starts before each later place
pub still_before : {n : Notes} {i j : ℕ} → KeptBefore n i → i ≤ j → KeptBefore n j
still_before h l = record { covers = λ k s. let z = h.covers k s in omega arith; commas = λ k s. let z = h.commas k s in omega arith }

-- all but the place, the token and the lexer stays
pub stays : {p : Parser} {l : State} {t : Token} {b : Bool} {e : ℕ} → SameText p.lexer l → Stays p (record p { lexer = l; token = t; cut = b; prev_token_end = e })
stays h = record { text = refl; source_type = refl; options = refl; same = h; nodes = refl; visits = refl; state = refl; ctx = refl; errors = refl; depth = refl }

module _ {p : Parser} {l : State} {t : Token} {b : Bool} {e : ℕ} where
  -- The lexer gave the next token behind a lexeme that the current one told whole.
  pub passed : IsAt p → IsWholeToken p → (p.token.kind ≡ Eof → ⊥) → GivesNext division p.lexer l t → (IsTrue b ↔ (t.kind ≡ RAngle)) → e ≡ p.token.span.end → Passed p (record p { lexer = l; token = t; cut = b; prev_token_end = e })
  passed a w n g i q = record {
    lexeme = w.lexeme;
    stood = w.stood;
    tells = w.tells;
    moved = ends;
    last = here ∙ ends;
    next = g;
    stays = stays g.same;
    at = record {
      reads = g.same.text ∙ a.reads;
      reads_for = g.same.goal ∙ a.reads_for;
      utf8 = a.utf8;
      short = a.short;
      reached = reached;
      between = subst (λ v. IsCharBoundary p.text v) (sym q) a.lies.ends_whole;
      token = at_place (λ v x s. IsToken v x s l.kept.errors t b) (token_given g.faults (p.lexer.kept.errors ++ each_at (html_fault_at (in_a_module p.lexer.goal)) p.lexer.place g.pieces) b i (g.grows.faults_grow ∙ sym (joined_lists p.lexer.kept.errors (each_at (html_fault_at (in_a_module p.lexer.goal)) p.lexer.place g.pieces) g.faults)) g.outcome);
      lies = subst (λ v. LiesIn t.span v) a.reads g.lies;
      last = g.place;
      marked = a.marked;
      noted = still_before a.noted (let s = g.start in let o = a.lies.ordered in let h = a.last in omega arith);
      faulty = All-same (IsFault (goal p) p.text) l.kept.errors _ g.grows.faults_grow (All-append (IsFault (goal p) p.text) p.lexer.kept.errors _ a.faulty (All-append (IsFault (goal p) p.text) _ g.faults passing stopping));
    };
  }
    where
      here : p.lexer.place ≡ e
      here = a.last ∙ sym q

      ends : e ≡ w.lexeme.to
      ends = q ∙ w.tells.end

      reached : Reached p.text e
      reached = subst (λ v. Reached p.text v) (sym ends) (reached_next a.reached w.stood)

      some : 0 < e
      some = let z = lexeme_some w.stood (λ k. n (w.tells.kind ∙ k)) in let y = ends in omega arith

      at_place : (P : Goal → List ℕ → ℕ → Type 0) → P p.lexer.goal p.lexer.text p.lexer.place → P (goal p) p.text e
      at_place P x = subst (λ v. P v p.text e) a.reads_for (subst (λ v. P p.lexer.goal v e) a.reads (subst (λ v. P p.lexer.goal p.lexer.text v) here x))

      passing : All (IsFault (goal p) p.text) (each_at (html_fault_at (in_a_module p.lexer.goal)) p.lexer.place g.pieces)
      passing = are_faults (each_at (html_fault_at (in_a_module p.lexer.goal)) p.lexer.place g.pieces) reached some (at_place (λ v x s. All (λ d. FaultyBehind d.kind v x s d.span.start d.span.end) (each_at (html_fault_at (in_a_module p.lexer.goal)) p.lexer.place g.pieces)) g.marked) (html_alone (in_a_module p.lexer.goal) p.lexer.place g.pieces)

      stopping : All (IsFault (goal p) p.text) g.faults
      stopping = next_faults t g.faults reached some (at_place (λ v x s. Outcome division cut v x s t [] g.faults) g.outcome)

-- the same, of a parser seen as p
pub passed_seen : {p q : Parser} → p ≡ q → IsAt q → IsWholeToken q → (q.token.kind ≡ Eof → ⊥) → {l : State} {t : Token} {b : Bool} {e : ℕ} → GivesNext division p.lexer l t → (IsTrue b ↔ (t.kind ≡ RAngle)) → e ≡ p.token.span.end → Passed q (record p { lexer = l; token = t; cut = b; prev_token_end = e })
passed_seen {p} {q} v a w n {l} {t} {b} {e} g i h = subst (λ r. Passed r (record p { lexer = l; token = t; cut = b; prev_token_end = e })) v (passed (subst IsAt (sym v) a) (subst IsWholeToken (sym v) w) (λ k. n (sym (ap (λ r. r.token.kind) v) ∙ k)) g i h)

-- ---- to read the current token again

-- the lexer gave the sign `>` last
pub sign_given : {p : Parser} → IsAt p → p.cut ≡ true → WasGiven p.lexer p.token
sign_given {p} a e = go p.cut a.token e
  where
    given : GivesLexeme division cut p.text p.prev_token_end p.token → WasGiven p.lexer p.token
    given x = record {
      place = a.last;
      lies = subst (λ v. LiesIn p.token.span v) (sym a.reads) a.lies;
      before = p.prev_token_end;
      between = subst (λ v. IsCharBoundary v p.prev_token_end) (sym a.reads) a.between;
      lexeme = x.lexeme;
      stands = subst (λ v. LexemeBehind division v p.prev_token_end x.lexeme) (sym a.reads) x.stands;
      tells = x.tells;
    }

    go : (b : Bool) → IsToken (goal p) p.text p.prev_token_end p.lexer.kept.errors p.token b → b ≡ true → WasGiven p.lexer p.token
    go false x q = absurd (false≢true q)
    go true (sign k x) q = given x

-- what is given in its place, where no fault comes with it, is the whole of a lexeme
pub whole_again : (source : Goal) {text : List ℕ} {s : ℕ} {t : Token} → Outcome division (λ z. z) source text s t [] [] → (t.kind ≡ Undetermined → ⊥) × GivesLexeme division (λ z. z) text s t
whole_again source {text} {s} {t} o = go (same_kind Undetermined t.kind) refl o
  where
    go : (r : Bool) → same_kind Undetermined t.kind ≡ r → elim r as (λ _. Type 0) [ true ↦ (d : Diagnostic) × ([] ≡ d ∷ []) × GivesNone division source text s t d | false ↦ (◌≡◌ {A = List Diagnostic} [] []) × GivesLexeme division (λ z. z) text s t ] → (t.kind ≡ Undetermined → ⊥) × GivesLexeme division (λ z. z) text s t
    go true q x = absurd (let e = x.1 in cc)
    go false q x = (same_is t.kind q, x.1)

is_whole_of : {p : Parser} {g : LexicalGoal} → GivesLexeme g (λ z. z) p.text p.prev_token_end p.token → IsWholeToken p
is_whole_of x = record { lexeme = x.lexeme; stood = x.stands.lex; tells = x.tells }

completed : {p : Parser} {l : State} {t : Token} → IsAt p → p.cut ≡ true → GivesAgain division p.lexer l p.token t [] [] → Told p (record p { lexer = l; token = t; cut = false })
completed {p} {l} {t} a e g = record { completed = inr (e, record { going_on = []; faults = []; again = g; may_be = angle p.cut a.token e; reads_as = record { may_be = angle p.cut a.token e; start = g.start; own = []; own_faults = refl; outcome = again p.cut a.token e }; place = refl; stays = stays g.same; at = at }, refl, g.errors ∙ append-nil p.lexer.kept.errors); at = at; whole = λ n. is_whole_of given.1 }
  where
    w : WasGiven p.lexer p.token
    w = sign_given a e

    again : (b : Bool) → IsToken (goal p) p.text p.prev_token_end p.lexer.kept.errors p.token b → b ≡ true → Outcome division (λ z. z) (goal p) p.text p.prev_token_end t [] []
    again false x q = absurd (false≢true q)
    again true (sign k x) q =
        let h = g.outcome p.prev_token_end x.lexeme (subst (λ v. IsCharBoundary v p.prev_token_end) (sym a.reads) a.between) (subst (λ v. LexemeBehind division v p.prev_token_end x.lexeme) (sym a.reads) x.stands) x.tells in
        subst (λ v. Outcome division (λ z. z) v p.text p.prev_token_end t [] []) a.reads_for (subst (λ v. Outcome division (λ z. z) p.lexer.goal v p.prev_token_end t [] []) a.reads h)

    given : (t.kind ≡ Undetermined → ⊥) × GivesLexeme division (λ z. z) p.text p.prev_token_end t
    given = whole_again (goal p) (again p.cut a.token e)

    angle : (b : Bool) → IsToken (goal p) p.text p.prev_token_end p.lexer.kept.errors p.token b → b ≡ true → may_be_read_again p.token.kind ≡ true
    angle false x q = absurd (false≢true q)
    angle true (sign k x) q = ap may_be_read_again k

    at : IsAt (record p { lexer = l; token = t; cut = false })
    at = record {
      reads = g.same.text ∙ a.reads;
      reads_for = g.same.goal ∙ a.reads_for;
      utf8 = a.utf8;
      short = a.short;
      reached = a.reached;
      between = a.between;
      token = whole given.0 given.1;
      lies = subst (λ v. LiesIn t.span v) a.reads g.lies;
      last = g.place;
      marked = a.marked;
      noted = still_before a.noted (let s = g.start in omega arith);
      faulty = All-same (IsFault (goal p) p.text) l.kept.errors _ g.errors (All-append (IsFault (goal p) p.text) p.lexer.kept.errors [] a.faulty (All-nil (IsFault (goal p) p.text)));
    }

pub completed_seen : {p q : Parser} → p ≡ q → IsAt q → {l : State} {t : Token} → p.cut ≡ true → GivesAgain division p.lexer l p.token t [] [] → Told q (record p { lexer = l; token = t; cut = false })
completed_seen {p} {q} v a {l} {t} e g = subst (λ r. Told r (record p { lexer = l; token = t; cut = false })) v (completed (subst IsAt (sym v) a) e g)

pub sign_given_seen : {p q : Parser} → p ≡ q → IsAt q → p.cut ≡ true → WasGiven p.lexer p.token
sign_given_seen v a e = sign_given (subst IsAt (sym v) a) e

-- where no more than the token can be told, all of it is
pub whole_already : {p q : Parser} → p ≡ q → IsAt q → p.cut ≡ false → Told q q
whole_already {p} {q} v a e = record { completed = inl (sym (ap (λ r. r.cut) v) ∙ e, refl); at = a; whole = λ n. go q.cut a.token (sym (ap (λ r. r.cut) v) ∙ e) n }
  where
    go : (b : Bool) → IsToken (goal q) q.text q.prev_token_end q.lexer.kept.errors q.token b → b ≡ false → (q.token.kind ≡ Undetermined → ⊥) → IsWholeToken q
    go true x z n = absurd (false≢true (sym z))
    go false (whole u x) z n = is_whole_of x
    go false (nothing bs k r x) z n = absurd (n k)

pub sign_is : {p q : Parser} → p ≡ q → IsAt q → p.cut ≡ true → p.token.kind ≡ RAngle
sign_is {p} {q} v a e = ap (λ r. r.token.kind) v ∙ go q.cut a.token (sym (ap (λ r. r.cut) v) ∙ e)
  where
    go : (b : Bool) → IsToken (goal q) q.text q.prev_token_end q.lexer.kept.errors q.token b → b ≡ true → q.token.kind ≡ RAngle
    go true (sign k x) z = k
    go false x z = absurd (false≢true z)

-- a kind that isn't one of the last two
pub not_end : (k : Kind) → is_last k ≡ false → k ≡ Eof → ⊥
not_end k h e = false≢true (sym h ∙ ap is_last e)

pub not_undetermined : (k : Kind) → is_last k ≡ false → k ≡ Undetermined → ⊥
not_undetermined k h e = false≢true (sym h ∙ ap is_last e)
