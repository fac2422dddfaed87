-- What holds when the current token was read again by another lexical goal.
use Rattle.std.proofs.Common.{ℕ, ◌≡◌, ◌⊎◌, inl, inr, Bool, true, false, List, [], ◌∷◌, ◌++◌, refl, sym, ap, subst, arith, ◌∙◌, not, ◌&&◌, Some}
use Rattle.std.specs.Prelude.{IsCharBoundary, ◌+◌, None, chars, slice_range, slice_index_or}
use Rattle.std.specs.List.{All}
use Rattle.std.proofs.lemmas.Bool.{false≢true, or_right}
use Rattle.std.proofs.lemmas.List.Elements.{All-append, All-same, All-cons, All-nil}
use Rattle.js_base.specs.declared.diagnostic.Diagnostic.{Diagnostic}
use Rattle.js_base.specs.declared.diagnostic.DiagnosticKind.{DiagnosticKind}
use Rattle.js_base.specs.declared.diagnostic.DiagnosticKind.TheVariants as fault
use Rattle.js_base.specs.declared.kind.Kind.{Kind}
use Rattle.js_base.specs.declared.kind.Kind.TheVariants.{Slash, SlashEq, RCurly, Undetermined}
use Rattle.js_base.specs.declared.token.Token.{Token}
use Rattle.js_base.specs.Kinds.{same_kind, one_of_kinds}
use Rattle.js_base.specs.Spans.{LiesIn}
use Rattle.js_base.proofs.KindLemmas.{kind_of_same}
use Rattle.js_tree.specs.js_grammar.Grammar.{Lexeme}
use Rattle.js_tree.specs.js_grammar.Lexemes.{LexicalGoal, division, regular_expression, template_tail, hashbang, kind_in, lexemes_in}
use Rattle.js_tree.specs.js_grammar.Characters.{width}
use Rattle.js_tree.specs.js_grammar.Longest.{none_begins}
use Rattle.js_tree.specs.js_grammar.RegularExpressions.{flags}
use Rattle.js_tree.specs.js_grammar.LexicalFaults.{FaultyBehind, Condition, Due, InvalidCharacter, is_invalid_character, begins_nothing}
use Rattle.js_tree.specs.js_grammar.Settings.{Goal}
use Rattle.js_tree.proofs.js_grammar.Alike.{stands-same}
use Rattle.js_tree.proofs.js_grammar.LongestLemmas.{both-right}
use Rattle.js_lex.specs.Reading.{cut, is_right_angle, Tells, LexemeBehind, GivesLexeme, GivesNone, Outcome, GivesAgain, GivesNext, FlagsStand, WasGiven, is_wrong_flag, flag_faults}
use Rattle.js_lex.specs.States.{State}
use Rattle.js_lex.proofs.Again.{cut_same}
use Rattle.js_lex.specs.part_words.Places.{Word}
use Rattle.js_lex.proofs.part_words.KindsOfLexemes.{plain_end, pattern_is, tail_is, hashbang_is, slash_word, slash_equals_word, brace_word}
use Rattle.js_cursor.specs.Parsers.{Parser}
use Rattle.js_cursor.specs.Tokens.{IsToken, whole, sign, nothing}
use Rattle.js_cursor.specs.Places.{IsAt, IsFault, goal}
use Rattle.js_cursor.specs.Moves.{ReadAgain, IsRegularExpression, IsTemplatePart, Peeks}
use Rattle.js_cursor.specs.Stages.{OwnFaults}
use Rattle.js_cursor.proofs.Moving.{Alone, found_alone, stays, still_before}

-- the signs in whose place a regular expression or a template part may be read
abbrev pub may_be_more : Kind → Bool
may_be_more k = one_of_kinds (Slash ∷ SlashEq ∷ RCurly ∷ []) k

plain_goal : (g : LexicalGoal) (w rest : List ℕ) (k : Kind) → kind_in g w rest ≡ Some k → may_be_more k ≡ true → g ≡ division
plain_goal division w rest k e m = refl
plain_goal regular_expression w rest k e m = absurd (false≢true (sym (ap may_be_more (pattern_is w k e)) ∙ m))
plain_goal template_tail w rest k e m = elim (tail_is w k e) [ inl q ↦ absurd (false≢true (sym (ap may_be_more q) ∙ m)) | inr q ↦ absurd (false≢true (sym (ap may_be_more q) ∙ m)) ]
plain_goal hashbang w rest k e m = absurd (false≢true (sym (ap may_be_more (hashbang_is w k e)) ∙ m))

not_undetermined : (k : Kind) → may_be_more k ≡ true → k ≡ Undetermined → ⊥
not_undetermined k m e = false≢true (sym (ap may_be_more e) ∙ m)

not_angle : (k : Kind) → may_be_more k ≡ true → is_right_angle k ≡ false
not_angle Slash m = refl
not_angle SlashEq m = refl
not_angle RCurly m = refl
not_angle _ m = absurd (false≢true m)

-- such a sign stands as a lexeme of the plain goal
pub record SignStands (p : Parser) : Type 0 where
  pub uncut : p.cut ≡ false
  pub lexeme : Lexeme
  pub stands : LexemeBehind division p.text p.prev_token_end lexeme
  pub tells : Tells (cut lexeme) p.token
  pub kind : may_be_more lexeme.kind ≡ true

pub sign_stands : {p : Parser} → IsAt p → may_be_more p.token.kind ≡ true → SignStands p
sign_stands {p} a m = go p.cut refl a.token
  where
    go : (b : Bool) → p.cut ≡ b → IsToken (goal p) p.text p.prev_token_end p.lexer.kept.errors p.token b → SignStands p
    go true e (sign k x) = absurd (false≢true (sym (ap may_be_more k) ∙ m))
    go false e (nothing before k r x) = absurd (not_undetermined p.token.kind m k)
    go false e (whole u x) =
        let k : may_be_more x.lexeme.kind ≡ true = sym (ap may_be_more x.tells.kind) ∙ m in
        record {
          uncut = e;
          lexeme = x.lexeme;
          stands = record { lex = x.stands.lex; of_goal = plain_goal x.stands.lex.goal x.stands.lex.word x.stands.lex.rest x.lexeme.kind x.stands.lex.lexeme.kind k };
          tells = subst (λ (y : Lexeme). Tells y p.token) (sym (cut_same x.lexeme (not_angle x.lexeme.kind k))) x.tells;
          kind = k;
        }

pub sign_was_given : {p : Parser} → IsAt p → may_be_more p.token.kind ≡ true → WasGiven p.lexer p.token
sign_was_given {p} a m =
    let s = sign_stands a m in
    record {
      place = a.last;
      lies = subst (λ (v : List ℕ). LiesIn p.token.span v) (sym a.reads) a.lies;
      before = p.prev_token_end;
      between = subst (λ (v : List ℕ). IsCharBoundary v p.prev_token_end) (sym a.reads) a.between;
      lexeme = s.lexeme;
      stands = subst (λ (v : List ℕ). LexemeBehind division v p.prev_token_end s.lexeme) (sym a.reads) s.stands;
      tells = s.tells;
    }

pub sign_was_given_seen : {p q : Parser} → p ≡ q → IsAt q → may_be_more q.token.kind ≡ true → WasGiven p.lexer p.token
sign_was_given_seen {p} {q} v a m = subst (λ (r : Parser). WasGiven r.lexer r.token) (sym v) (sign_was_given a m)

-- where such a sign stands, no character is invalid
nothing_not : (b c : Bool) → c ≡ true → (b && not c) ≡ true → ⊥
nothing_not b true e h = false≢true (both-right b false h)
nothing_not b false e h = false≢true e

no_slash : (c : ℕ) (rest : List ℕ) → (c ≡ 47) ⊎ (c ≡ 125) → begins_nothing c rest ≡ true → ⊥
no_slash c rest (inl e) h = nothing_not (none_begins (lexemes_in division) (47 ∷ rest)) true refl (subst (λ (d : ℕ). begins_nothing d rest ≡ true) e h)
no_slash c rest (inr e) h = nothing_not (none_begins (lexemes_in division) (125 ∷ rest)) true refl (subst (λ (d : ℕ). begins_nothing d rest ≡ true) e h)

first_sign : (w rest : List ℕ) (k : Kind) → kind_in division w rest ≡ Some k → may_be_more k ≡ true → (c : ℕ) × (cs : List ℕ) × (w ≡ c ∷ cs) × ((c ≡ 47) ⊎ (c ≡ 125))
first_sign [] rest k e m = absurd (false≢true (sym (ap may_be_more (plain_end rest k e).0) ∙ m))
first_sign (c ∷ cs) rest k e m = (c, cs, refl, by k e m)
  where
    by : (k : Kind) → kind_in division (c ∷ cs) rest ≡ Some k → may_be_more k ≡ true → (c ≡ 47) ⊎ (c ≡ 125)
    by Slash e m = inl (slash_word c cs rest e).0
    by SlashEq e m = inl (let z = slash_equals_word c cs rest e in cc)
    by RCurly e m = inr (let z = brace_word c cs rest e in cc)
    by _ e m = absurd (false≢true m)

sign_valid : {text : List ℕ} {s : ℕ} {y : Lexeme} (i from to : ℕ) → LexemeBehind division text s y → may_be_more y.kind ≡ true → Due text s i → InvalidCharacter text i to → ⊥
sign_valid {text} {s} {y} i from to h m d x =
    let same = stands-same d.stands h.lex.stands in
    let k : kind_in division h.lex.word h.lex.rest ≡ Some y.kind = subst (λ (g : LexicalGoal). kind_in g h.lex.word h.lex.rest ≡ Some y.kind) h.of_goal h.lex.lexeme.kind in
    let f = first_sign h.lex.word h.lex.rest y.kind k m in
    let e : x.character ∷ x.rest ≡ f.0 ∷ (f.1 ++ h.lex.rest) = sym x.here ∙ same.back ∙ ap (λ (v : List ℕ). v ++ h.lex.rest) f.2 in
    let c : x.character ≡ f.0 = cc in
    no_slash f.0 x.rest f.3 (subst (λ (z : ℕ). begins_nothing z x.rest ≡ true) c x.nothing)

not_invalid : (source : Goal) {text : List ℕ} {s : ℕ} {y : Lexeme} (k : DiagnosticKind) (from to : ℕ) → LexemeBehind division text s y → may_be_more y.kind ≡ true → Condition k source text s from to → is_invalid_character k ≡ true → ⊥
not_invalid source fault.InvalidCharacter from to h m c e = sign_valid c.0 from to h m c.1 c.2.1
not_invalid source _ from to h m c e = false≢true e

fault_again : {p : Parser} → IsAt p → SignStands p → (d : Diagnostic) → FaultyBehind d.kind (goal p) p.text p.prev_token_end d.span.start d.span.end → Alone d → IsFault (goal p) p.text d
fault_again {p} a s d f n = record { place = p.prev_token_end; reached = a.reached; faulty = f; no_hashbang = λ e z q. not_invalid (goal p) d.kind d.span.start d.span.end s.stands s.kind f.condition e; alone = n }

faults_again : {p : Parser} → IsAt p → SignStands p → (ds : List Diagnostic) → All (λ d. FaultyBehind d.kind (goal p) p.text p.prev_token_end d.span.start d.span.end) ds → All Alone ds → All (IsFault (goal p) p.text) ds
faults_again {p} a s ds h n = λ k d l. fault_again a s (slice_index_or ds k d) (h k d l) (n k d l)

-- the faults that flags are have no related places
flags_alone : (i : ℕ) (before fs : List ℕ) → All Alone (flag_faults i before fs)
flags_alone i before [] = All-nil Alone
flags_alone i before (f ∷ fs) = one (is_wrong_flag before f) (flag_faults (i + width (f ∷ [])) (before ++ f ∷ []) fs) (flags_alone (i + width (f ∷ [])) (before ++ f ∷ []) fs)
  where
    one : (v : Bool) (others : List Diagnostic) → All Alone others → All Alone (elim v [ true ↦ record { kind = fault.RegExpFlag; span = record { start = i; end = i + width (f ∷ []) }; first = None; second = None } ∷ others | false ↦ others ])
    one true others h = All-cons Alone (record { kind = fault.RegExpFlag; span = record { start = i; end = i + width (f ∷ []) }; first = None; second = None }) others (refl, refl) h
    one false others h = h

flags_found : (text : List ℕ) (end : ℕ) (t : Token) (going_on : List Diagnostic) → FlagsStand text end t going_on → same_kind Undetermined t.kind ≡ false → All Alone going_on
flags_found text end t going_on h e = go (same_kind Undetermined t.kind) e h
  where
    go : (r : Bool) → r ≡ false → elim r as (λ _. Type 0) [ true ↦ end ≡ t.span.end | false ↦ (fs : List ℕ) × Word text end t.span.end fs × (flags (chars (slice_range text t.span.start t.span.end)) ≡ Some fs) × (going_on ≡ flag_faults end [] fs) ] → All Alone going_on
    go true q x = absurd (false≢true (sym q))
    go false q x = All-same Alone going_on (flag_faults end [] x.0) x.3 (flags_alone end [] x.0)

token_again : (g : LexicalGoal) (t : Token) (going_on faults : List Diagnostic) (source : Goal) (text : List ℕ) (s : ℕ) (errors : List Diagnostic) (old : List Diagnostic) → errors ≡ old ++ faults → Outcome g (λ z. z) source text s t going_on faults → IsToken source text s errors t false
token_again g t going_on faults source text s errors old e o = go (same_kind Undetermined t.kind) refl o
  where
    none : (d : Diagnostic) → t.kind ≡ Undetermined → faults ≡ d ∷ [] → GivesNone g source text s t d → IsToken source text s errors t false
    none d k r x = nothing old k (e ∙ ap (λ (v : List Diagnostic). old ++ v) r) x

    go : (r : Bool) → same_kind Undetermined t.kind ≡ r → elim r as (λ _. Type 0) [ true ↦ (d : Diagnostic) × (faults ≡ d ∷ []) × GivesNone g source text s t d | false ↦ (faults ≡ going_on) × GivesLexeme g (λ z. z) text s t ] → IsToken source text s errors t false
    go true q x = none x.0 (sym (kind_of_same Undetermined t.kind q)) x.1 x.2
    go false q x = whole (λ k. false≢true (sym q ∙ ap (same_kind Undetermined) k)) x.1

found_again : (g : LexicalGoal) (t : Token) (going_on faults : List Diagnostic) (source : Goal) (text : List ℕ) (s : ℕ) → Outcome g (λ z. z) source text s t going_on faults → All (λ d. FaultyBehind d.kind source text s d.span.start d.span.end) going_on → All (λ d. FaultyBehind d.kind source text s d.span.start d.span.end) faults
found_again g t going_on faults source text s o m = go (same_kind Undetermined t.kind) o
  where
    go : (r : Bool) → elim r as (λ _. Type 0) [ true ↦ (d : Diagnostic) × (faults ≡ d ∷ []) × GivesNone g source text s t d | false ↦ (faults ≡ going_on) × GivesLexeme g (λ z. z) text s t ] → All (λ d. FaultyBehind d.kind source text s d.span.start d.span.end) faults
    go true x = All-same (λ d. FaultyBehind d.kind source text s d.span.start d.span.end) faults (x.0 ∷ []) x.1 (All-cons (λ d. FaultyBehind d.kind source text s d.span.start d.span.end) x.0 [] x.2.faulty (All-nil (λ d. FaultyBehind d.kind source text s d.span.start d.span.end)))
    go false x = All-same (λ d. FaultyBehind d.kind source text s d.span.start d.span.end) faults going_on x.0 m

module _ {p : Parser} {g : LexicalGoal} {l : State} {t : Token} {going_on faults : List Diagnostic} where
  pub read_again : IsAt p → may_be_more p.token.kind ≡ true → GivesAgain g p.lexer l p.token t going_on faults → OwnFaults g p.text t going_on → (same_kind Undetermined t.kind ≡ false → All Alone going_on) → ReadAgain g p (record p { lexer = l; token = t })
  read_again a m x o n = record {
    going_on = going_on;
    faults = faults;
    again = x;
    may_be = or_right _ _ m;
    reads_as = record { may_be = or_right _ _ m; start = x.start; own = going_on; own_faults = o; outcome = outcome };
    place = refl;
    stays = stays x.same;
    at = record {
      reads = x.same.text ∙ a.reads;
      reads_for = x.same.goal ∙ a.reads_for;
      utf8 = a.utf8;
      short = a.short;
      reached = a.reached;
      between = a.between;
      token = subst (λ (b : Bool). IsToken (goal p) p.text p.prev_token_end l.kept.errors t b) (sym sg.uncut) (token_again g t going_on faults (goal p) p.text p.prev_token_end l.kept.errors p.lexer.kept.errors x.errors outcome);
      lies = subst (λ (v : List ℕ). LiesIn t.span v) a.reads x.lies;
      last = x.place;
      marked = a.marked;
      noted = still_before a.noted (let s = x.start in omega arith);
      faulty = All-same (IsFault (goal p) p.text) l.kept.errors (p.lexer.kept.errors ++ faults) x.errors (All-append (IsFault (goal p) p.text) p.lexer.kept.errors faults a.faulty (faults_again a sg faults (found_again g t going_on faults (goal p) p.text p.prev_token_end outcome marked) (found_alone g (λ z. z) (goal p) p.text p.prev_token_end t going_on faults outcome n)));
    };
  }
    where
      sg : SignStands p
      sg = sign_stands a m

      there : (P : Goal → List ℕ → Type 0) → P p.lexer.goal p.lexer.text → P (goal p) p.text
      there P h = subst (λ (v : Goal). P v p.text) a.reads_for (subst (λ (v : List ℕ). P p.lexer.goal v) a.reads h)

      between : IsCharBoundary p.lexer.text p.prev_token_end
      between = subst (λ (v : List ℕ). IsCharBoundary v p.prev_token_end) (sym a.reads) a.between

      stood : LexemeBehind division p.lexer.text p.prev_token_end sg.lexeme
      stood = subst (λ (v : List ℕ). LexemeBehind division v p.prev_token_end sg.lexeme) (sym a.reads) sg.stands

      outcome : Outcome g (λ z. z) (goal p) p.text p.prev_token_end t going_on faults
      outcome = there (λ v w. Outcome g (λ z. z) v w p.prev_token_end t going_on faults) (x.outcome p.prev_token_end sg.lexeme between stood sg.tells)

      marked : All (λ d. FaultyBehind d.kind (goal p) p.text p.prev_token_end d.span.start d.span.end) going_on
      marked = there (λ v w. All (λ d. FaultyBehind d.kind v w p.prev_token_end d.span.start d.span.end) going_on) (x.marked p.prev_token_end sg.lexeme between stood sg.tells)

pub slash_may : (k : Kind) → (k ≡ Slash) ⊎ (k ≡ SlashEq) → may_be_more k ≡ true
slash_may k (inl e) = ap may_be_more e
slash_may k (inr e) = ap may_be_more e

pub brace_may : (k : Kind) → k ≡ RCurly → may_be_more k ≡ true
brace_may k e = ap may_be_more e

pub read_again_seen : {p q : Parser} → p ≡ q → {g : LexicalGoal} {l : State} {t : Token} {going_on faults : List Diagnostic} → IsAt q → may_be_more q.token.kind ≡ true → GivesAgain g p.lexer l p.token t going_on faults → OwnFaults g p.text t going_on → (same_kind Undetermined t.kind ≡ false → All Alone going_on) → ReadAgain g q (record p { lexer = l; token = t })
read_again_seen {p} {q} v {g} {l} {t} {going_on} {faults} a m x o n = subst (λ (r : Parser). ReadAgain g r (record p { lexer = l; token = t })) v (read_again (subst IsAt (sym v) a) (ap (λ (r : Parser). may_be_more r.token.kind) v ∙ m) x o n)

-- the same where the lexer told the faults too
template_again : {p : Parser} {l : State} {t : Token} → IsAt p → may_be_more p.token.kind ≡ true → (faults : List Diagnostic) × GivesAgain template_tail p.lexer l p.token t [] faults → IsTemplatePart p (record p { lexer = l; token = t })
unfolding read_again
template_again a m x = record { read = read_again a m x.1 refl (λ e. All-nil Alone); quiet = refl }

pub template_seen : {p q : Parser} → p ≡ q → {l : State} {t : Token} → IsAt q → q.token.kind ≡ RCurly → (faults : List Diagnostic) × GivesAgain template_tail p.lexer l p.token t [] faults → IsTemplatePart q (record p { lexer = l; token = t })
template_seen {p} {q} v {l} {t} a k x = subst (λ (r : Parser). IsTemplatePart r (record p { lexer = l; token = t })) v (template_again (subst IsAt (sym v) a) (ap (λ (r : Parser). may_be_more r.token.kind) v ∙ brace_may q.token.kind k) x)

regular_expression_again : {p : Parser} {l : State} {t : Token} {end : ℕ} → IsAt p → may_be_more p.token.kind ≡ true → (going_on : List Diagnostic) × (faults : List Diagnostic) × GivesAgain regular_expression p.lexer l p.token t going_on faults × FlagsStand p.lexer.text end t going_on → IsRegularExpression end p (record p { lexer = l; token = t })
unfolding read_again
regular_expression_again {p} {l} {t} {end} a m x = let f = subst (λ (w : List ℕ). FlagsStand w end t x.0) a.reads x.3 in record { read = read_again a m x.2 (end, f) (λ e. flags_found p.lexer.text end t x.0 x.3 e); flags = f }

pub regular_expression_seen : {p q : Parser} → p ≡ q → {l : State} {t : Token} {end : ℕ} → IsAt q → (q.token.kind ≡ Slash) ⊎ (q.token.kind ≡ SlashEq) → (going_on : List Diagnostic) × (faults : List Diagnostic) × GivesAgain regular_expression p.lexer l p.token t going_on faults × FlagsStand p.lexer.text end t going_on → IsRegularExpression end q (record p { lexer = l; token = t })
regular_expression_seen {p} {q} v {l} {t} {end} a k x = subst (λ (r : Parser). IsRegularExpression end r (record p { lexer = l; token = t })) v (regular_expression_again (subst IsAt (sym v) a) (ap (λ (r : Parser). may_be_more r.token.kind) v ∙ slash_may q.token.kind k) x)

pub peeks_seen : {p q : Parser} → p ≡ q → {t : Token} → (after : State) × GivesNext division p.lexer after t → ((other : State) (u : Token) → GivesNext division p.lexer other u → u ≡ t) → Peeks q t
peeks_seen {p} {q} v {t} x only = subst (λ (r : Parser). Peeks r t) v (record { after = x.0; next = x.1; only = only })
