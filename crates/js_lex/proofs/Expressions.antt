-- A slash that is read again as a regular expression.
use Rattle.std.proofs.Common.{◌≡◌, ℕ, ◌+◌, ◌==◌, Bool, true, false, List, [], ◌∷◌, ◌++◌, refl, sym, ap, subst, ◌∙◌, arith, append-nil, Some, None, ◌⊎◌, inl, inr}
use Rattle.std.specs.Prelude.{IsCharBoundary, IsUtf8, codes, Ok, Err}
use Rattle.js_base.specs.declared.kind.Kind.{Kind}
use Rattle.js_base.specs.declared.kind.Kind.TheVariants.{Slash, SlashEq, RegExp, Undetermined}
use Rattle.js_base.specs.declared.token.Token.{Token}
use Rattle.js_base.specs.declared.diagnostic.Diagnostic.{Diagnostic}
use Rattle.js_base.specs.part_text.Characters.{one_of}
use Rattle.js_base.specs.Kinds.{same_kind}
use Rattle.part_words.specs.js_grammar.Grammar.{Lexeme}
use Rattle.part_words.specs.js_grammar.Characters.{begins}
use Rattle.part_words.specs.js_grammar.Longest.{joined}
use Rattle.part_words.specs.js_grammar.Trivia.{are_trivia}
use Rattle.part_words.specs.js_grammar.Lexemes.{division, regular_expression, kind_in}
use Rattle.part_words.specs.js_grammar.LexicalFaults.{behind}
use Rattle.part_words.specs.declared.scan.Scanned.{Scanned}
use Rattle.part_words.specs.Places.{Word}
use Rattle.js_lex.specs.States.{State, SameText}
use Rattle.js_lex.specs.Reading.{cut, Tells, LexemeBehind, GivesLexeme, GivesNone, Outcome, WasGiven, GivesAgain, FlagsStand, flag_faults, relexed}
use Rattle.js_lex.specs.Settling.{token_of, SettledAgain, SettledBehind}
use Rattle.part_words.specs.Scans.{IsStopped}
use Rattle.js_lex.specs.Kept.{Grows}
use Rattle.part_scan.specs.RegularExpressionParts.{IsRegularExpression}
use Rattle.part_words.specs.declared.scan.Fault.{Fault}
use Rattle.part_scan.specs.declared.regular_expression.RegularExpression.{RegularExpression}
use Rattle.js_lex.proofs.ReadAgain.{unflagged}
use Rattle.part_words.proofs.KindsOfLexemes.{plain_end, slash_word, slash_equals_word, no_comment_opens}
use Rattle.part_scan.proofs.StringPlaces.{front_word}
use Rattle.part_words.proofs.Flags.{spelled}
use Rattle.js_lex.proofs.Marks.{flags_marked, pattern_boundary}
use Rattle.js_lex.proofs.Giving.{lexeme_behind}
use Rattle.js_lex.proofs.Again.{passed, given_start, cut_kind, again_lexeme, gives_again, cancel}

-- ---- the slash that was given

-- a slash, before what begins no comment
pub record SlashStands (text : List ℕ) (i : ℕ) : Type 0 where
  pub slash : Word text i (i + 1) (47 ∷ [])
  pub no_comment : begins (one_of (codes "*/")) (behind text (i + 1)) ≡ false

slash_first : (w rest : List ℕ) (k : Kind) → kind_in division w rest ≡ Some k → (k ≡ Slash) ⊎ (k ≡ SlashEq) → (cs : List ℕ) × (w ≡ 47 ∷ cs) × (begins (one_of (codes "*/")) (cs ++ rest) ≡ false)
slash_first [] rest k h (inl e) = absurd (let z = (plain_end rest k h).0 in cc)
slash_first [] rest k h (inr e) = absurd (let z = (plain_end rest k h).0 in cc)
slash_first (c ∷ cs) rest k h (inl e) = let z = (slash_word c cs rest (h ∙ ap Some e)).0 in (cs, ap (λ (d : ℕ). d ∷ cs) z, no_comment_opens c cs rest k h (inl e))
slash_first (c ∷ cs) rest k h (inr e) = let f : c ∷ cs ≡ 47 ∷ 61 ∷ [] = slash_equals_word c cs rest (h ∙ ap Some e) in let z : c ≡ 47 = cc in (cs, ap (λ (d : ℕ). d ∷ cs) z, no_comment_opens c cs rest k h (inr e))

slash_kind : (y : Lexeme) (given : Token) → Tells (cut y) given → (given.kind ≡ Slash) ⊎ (given.kind ≡ SlashEq) → (y.kind ≡ Slash) ⊎ (y.kind ≡ SlashEq)
slash_kind y given h (inl e) = inl (cut_kind y Slash (sym h.kind ∙ e) (λ q. cc))
slash_kind y given h (inr e) = inr (cut_kind y SlashEq (sym h.kind ∙ e) (λ q. cc))

slash_stands : (old : State) (given : Token) → IsUtf8 old.text → WasGiven old given → (given.kind ≡ Slash) ⊎ (given.kind ≡ SlashEq) → SlashStands old.text given.span.start
slash_stands old given u g k =
    let p = passed u g.between g.stands in
    let z = slash_first p.word p.rest g.lexeme.kind p.lexeme.kind (slash_kind g.lexeme given g.tells k) in
    let f : behind old.text given.span.start ≡ (47 ∷ []) ++ (z.0 ++ p.rest) = ap (behind old.text) (given_start g.lexeme g.tells) ∙ p.here ∙ ap (λ (v : List ℕ). v ++ p.rest) z.1 in
    let w = front_word old.text given.span.start (47 ∷ []) (z.0 ++ p.rest) u g.lies.starts_whole f in
    let here : behind old.text (given.span.start + 1) ≡ z.0 ++ p.rest = cancel (47 ∷ []) (behind old.text (given.span.start + 1)) (z.0 ++ p.rest) (sym w.splits ∙ f) in
    record { slash = w; no_comment = ap (begins (one_of (codes "*/"))) here ∙ z.2 }

pub slash_for : (old : State) (given : Token) (text : List ℕ) → text ≡ old.text → IsUtf8 text → WasGiven old given → (given.kind ≡ Slash) ⊎ (given.kind ≡ SlashEq) → SlashStands text given.span.start
slash_for old given text e u g k = subst (λ (v : List ℕ). SlashStands v given.span.start) (sym e) (slash_stands old given (subst IsUtf8 e u) g k)

-- ---- what is given in its place

going_outcome : {text : List ℕ} {s : ℕ} {t : Token} (source : Rattle.part_words.specs.js_grammar.Settings.Goal) (ds : List Diagnostic) → same_kind Undetermined t.kind ≡ false → GivesLexeme regular_expression (λ z. z) text s t → Outcome regular_expression (λ z. z) source text s t ds ds
going_outcome {text = text} {s = s} {t = t} source ds k g = subst (λ (b : Bool). elim b as (λ _. Type 0) [ true ↦ (d : Diagnostic) × (ds ≡ d ∷ []) × GivesNone regular_expression source text s t d | false ↦ (◌≡◌ {A = List Diagnostic} ds ds) × GivesLexeme regular_expression (λ z. z) text s t ]) (sym k) (refl, g)

-- a regular expression
pub found_again : (old new : State) (given t : Token) (r : RegularExpression) → IsUtf8 old.text → IsCharBoundary old.text given.span.start → SameText old new → new.place ≡ t.span.end → IsRegularExpression old.text given.span.start r → SettledBehind old.text old.keeps_tokens given (Ok (record { kind = RegExp; end = r.end; escaped = false; has_separator = false })) (Some r) old.kept new.kept t → (going_on : List Diagnostic) × (faults : List Diagnostic) × GivesAgain regular_expression old new given t going_on faults × FlagsStand old.text r.pattern_end t going_on
unfolding lexeme_behind
found_again old new given t r u b same place is h = (ds, ds, subst (λ (z : Token). GivesAgain regular_expression old new given z ds ds) (sym h.settled.0) again, subst (λ (z : Token). FlagsStand old.text r.pattern_end z ds) (sym h.settled.0) flags_there)
  where
    ds : List Diagnostic
    ds = flag_faults r.pattern_end [] is.flags_word

    sc : Scanned
    sc = record { kind = RegExp; end = r.end; escaped = false; has_separator = false }

    kept : Grows old.kept h.mid [] [] [] ds
    kept = h.flags_kept is.flags_word is.flags_stand

    marks : (s : ℕ) (y : Lexeme) → IsCharBoundary old.text s → LexemeBehind division old.text s y → Tells (cut y) given → Rattle.std.specs.List.All (λ d. Rattle.part_words.specs.js_grammar.LexicalFaults.FaultyBehind d.kind old.goal old.text s d.span.start d.span.end) ds
    marks s y between l tells =
        let p = passed u between l in
        let e : given.span.start ≡ y.from = given_start y tells in
        let w : Word old.text s given.span.start (joined p.pieces) = subst (λ (n : ℕ). Word old.text s n (joined p.pieces)) (sym e) p.stands in
        let q : are_trivia (s == 0) p.pieces (behind old.text given.span.start) ≡ true = subst (λ (n : ℕ). are_trivia (s == 0) p.pieces (behind old.text n) ≡ true) (sym e) p.trivia in
        flags_marked old.goal r.pattern_end is.flags_word (lexeme_behind p.pieces sc between.0 w q is.scanned) is.has_flags u (pattern_boundary u b is) is.flags_stand

    again : GivesAgain regular_expression old new given (token_of sc given.span.start given.is_on_new_line) ds ds
    again = record {
      same = same;
      start = refl;
      newline = refl;
      place = place ∙ ap (λ (z : Token). z.span.end) h.settled.0;
      lies = record { ordered = (let e = is.scanned.stands.end in omega arith); starts_whole = b; ends_whole = is.scanned.stands.boundary };
      outcome = λ s y between l tells. going_outcome old.goal ds refl (again_lexeme y given sc between.0 (passed u between l) tells is.scanned);
      marked = marks;
      comments = ap (λ o. o.comments) h.settled.1 ∙ kept.comments_grow ∙ append-nil old.kept.comments;
      blanks = ap (λ o. o.irregular_whitespaces) h.settled.1 ∙ kept.blanks_grow ∙ append-nil old.kept.irregular_whitespaces;
      tokens = ap (λ o. o.tokens) h.settled.1 ∙ ap (λ ts. relexed old.keeps_tokens ts t) (kept.tokens_grow ∙ append-nil old.kept.tokens) ∙ ap (λ (z : Token). relexed old.keeps_tokens old.kept.tokens z) h.settled.0;
      errors = ap (λ o. o.errors) h.settled.1 ∙ kept.faults_grow;
    }

    flags_there : FlagsStand old.text r.pattern_end (token_of sc given.span.start given.is_on_new_line) ds
    flags_there = (is.flags_word, is.flags_stand, ap Rattle.part_words.specs.js_grammar.RegularExpressions.flags (spelled old.text given.span.start r.end is.scanned.word u b (let e = is.scanned.stands.end in omega arith) is.scanned.stands) ∙ is.has_flags, refl)

-- no regular expression
pub stopped_again : (old new : State) (given t : Token) (f : Fault) → IsUtf8 old.text → IsCharBoundary old.text given.span.start → SameText old new → new.place ≡ t.span.end → IsStopped regular_expression old.text given.span.start f → SettledBehind old.text old.keeps_tokens given (Err f) None old.kept new.kept t → (going_on : List Diagnostic) × (faults : List Diagnostic) × GivesAgain regular_expression old new given t going_on faults × FlagsStand old.text t.span.end t going_on
stopped_again old new given t f u b same place stopped h =
    let s : SettledAgain old.keeps_tokens given (Err f) old.kept new.kept t = unflagged h in
    let g = gives_again old new given t (Err f) u b stopped same place s in
    ([], g.0, g.1, subst (λ (z : Token). FlagsStand old.text z.span.end z []) (sym s.0) refl)

-- ---- of the fields of a lexer: its text and a place

pub found_for : (old : State) (given : Token) (text : List ℕ) (i : ℕ) (r : RegularExpression) → text ≡ old.text → i ≡ given.span.start → IsRegularExpression text i r → IsRegularExpression old.text given.span.start r
found_for old given text i r e p h = subst (λ (v : List ℕ). IsRegularExpression v given.span.start r) e (subst (λ (n : ℕ). IsRegularExpression text n r) p h)

pub stopped_for : (old : State) (given : Token) (text : List ℕ) (i : ℕ) (f : Fault) → text ≡ old.text → i ≡ given.span.start → IsStopped regular_expression text i f → IsStopped regular_expression old.text given.span.start f
stopped_for old given text i f e p h = subst (λ (v : List ℕ). IsStopped regular_expression v given.span.start f) e (subst (λ (n : ℕ). IsStopped regular_expression text n f) p h)
