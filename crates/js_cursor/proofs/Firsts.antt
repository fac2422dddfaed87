-- What holds of the first token of a text.
use Rattle.std.proofs.Common.{ℕ, ◌≡◌, ◌≤◌, inl, inr, Bool, true, false, List, [], ◌∷◌, ◌++◌, refl, sym, ap, subst, arith, ◌∙◌, not, ◌&&◌, ◌==◌, Some, None, Option}
use Rattle.std.specs.Prelude.{IsTrue, ◌↔◌, IsUtf8, codes, chars, length, slice_index_or}
use Rattle.std.specs.List.{All}
use Rattle.std.proofs.lemmas.Bool.{false≢true, eqb-true}
use Rattle.std.proofs.lemmas.List.Elements.{All-append, All-same, All-cons, All-nil}
use Rattle.std.proofs.lemmas.Str.{IsCharBoundary-start, chars_past_char, IsUtf8-past_char, encode_ascii}
use Rattle.js_base.specs.declared.context.Context.{Context}
use Rattle.js_base.specs.declared.diagnostic.Diagnostic.{Diagnostic}
use Rattle.js_base.specs.declared.options.ParseOptions.{ParseOptions}
use Rattle.js_base.specs.declared.source_type.SourceType.{SourceType}
use Rattle.js_base.specs.declared.kind.Kind.{Kind}
use Rattle.js_base.specs.declared.kind.Kind.TheVariants.{HashbangComment, RAngle, Undetermined}
use Rattle.js_base.specs.declared.token.Token.{Token}
use Rattle.js_base.specs.part_text.Characters.{is_line_terminator}
use Rattle.js_base.specs.Kinds.{same_kind}
use Rattle.js_base.specs.declared.TheConstants.{MAX_LEN}
use Rattle.js_base.specs.Spans.{LiesIn}
use Rattle.js_tree.specs.js_grammar.Characters.{begins}
use Rattle.js_tree.specs.js_grammar.CoreTexts.{starts}
use Rattle.js_tree.specs.js_grammar.Lexemes.{division, hashbang, kind_in}
use Rattle.js_tree.specs.js_grammar.LexicalFaults.{behind, FaultyBehind}
use Rattle.js_tree.specs.js_grammar.Longest.{longest}
use Rattle.js_tree.specs.js_grammar.Marks.{Mark}
use Rattle.js_tree.specs.js_grammar.ModuleRecords.{Part as Visit}
use Rattle.js_tree.specs.js_grammar.Settings.{Goal}
use Rattle.js_tree.specs.js_grammar.Trivia.{within_line}
use Rattle.js_tree.proofs.js_grammar.LongestLemmas.{both, both-left, both-right}
use Rattle.js_lex.specs.Comments.{each_at, html_fault_at}
use Rattle.js_lex.specs.Kept.{IsEmpty}
use Rattle.js_lex.specs.Reading.{cut, GivesLexeme, GivesNone, Outcome, GivesNext, GivesHashbang, GivesFirst, in_a_module}
use Rattle.js_lex.specs.part_words.Scans.{NoLexeme}
use Rattle.js_lex.specs.States.{State, goal_of}
use Rattle.js_lex.proofs.part_words.KindsOfLexemes.{hashbang_is}
use Rattle.js_lex.proofs.Hashbangs.{comment_is, longest_line}
use Rattle.js_tree.specs.Nodes.{Node, empty_program}
use Rattle.js_cursor.specs.Histories.{StandBefore}
use Rattle.js_cursor.specs.Notes.{Notes, HasNone}
use Rattle.js_cursor.specs.Tokens.{IsToken, whole}
use Rattle.js_cursor.specs.Places.{IsFault}
use Rattle.js_cursor.specs.Starts.{AtStart, Starts}
use Rattle.js_cursor.proofs.Moving.{Alone, found_alone, html_alone, token_given}

-- ---- a text that begins with `#!` begins with a hashbang comment

record Line (cs : List ℕ) : Type 0 where
  word : List ℕ
  rest : List ℕ
  splits : cs ≡ word ++ rest
  one_line : within_line word ≡ true
  ends : begins (λ c. not (is_line_terminator c)) rest ≡ false

one_more : (c : ℕ) (cs : List ℕ) (b : Bool) → is_line_terminator c ≡ b → Line cs → Line (c ∷ cs)
one_more c cs true e l = record { word = []; rest = c ∷ cs; splits = refl; one_line = refl; ends = ap not e }
one_more c cs false e l = record { word = c ∷ l.word; rest = l.rest; splits = ap (λ (v : List ℕ). c ∷ v) l.splits; one_line = both (not (is_line_terminator c)) (within_line l.word) (ap not e) l.one_line; ends = l.ends }

line : (cs : List ℕ) → Line cs
line [] = record { word = []; rest = []; splits = refl; one_line = refl; ends = refl }
line (c ∷ cs) = one_more c cs (is_line_terminator c) refl (line cs)

abbrev if_line : Bool → Option Kind
if_line b = elim b [ true ↦ Some HashbangComment | false ↦ None ]

opens_comment : (text cs : List ℕ) → behind text 0 ≡ 35 ∷ 33 ∷ cs → NoLexeme hashbang text 0 → ⊥
opens_comment text cs e none =
    let l = line cs in
    none (35 ∷ 33 ∷ l.word) l.rest HashbangComment (e ∙ ap (λ (v : List ℕ). 35 ∷ 33 ∷ v) l.splits) (record { longest = longest_line l.word l.rest l.one_line l.ends; kind = comment_is l.word l.one_line; begins = refl; apart = refl })

starts_so : (text : List ℕ) → starts (codes "#!") text ≡ true → (v : List ℕ) × (text ≡ 35 ∷ 33 ∷ v)
starts_so [] h = absurd (false≢true h)
starts_so (a ∷ []) h = absurd (false≢true (both-right (35 == a) false h))
starts_so (a ∷ b ∷ v) h =
    let one : 35 ≡ a = eqb-true 35 a (both-left (35 == a) ((33 == b) && true) h) in
    let two : 33 ≡ b = eqb-true 33 b (both-left (33 == b) true (both-right (35 == a) ((33 == b) && true) h)) in
    (v, sym (ap (λ (x : ℕ). x ∷ 33 ∷ v) one ∙ ap (λ (x : ℕ). a ∷ x ∷ v) two))

spelled : (text v : List ℕ) → IsUtf8 text → text ≡ 35 ∷ 33 ∷ v → chars text ≡ 35 ∷ 33 ∷ chars v
spelled text v u e =
    let one = e ∙ sym (ap (λ (x : List ℕ). x ++ 33 ∷ v) (encode_ascii 35 (omega arith))) in
    let u2 : IsUtf8 (33 ∷ v) = IsUtf8-past_char text (33 ∷ v) 35 u one in
    let two = sym (ap (λ (x : List ℕ). x ++ v) (encode_ascii 33 (omega arith))) in
    chars_past_char text (33 ∷ v) 35 u one ∙ ap (λ (x : List ℕ). 35 ∷ x) (chars_past_char (33 ∷ v) v 33 u2 two)

no_hashbang : (text : List ℕ) → IsUtf8 text → NoLexeme hashbang text 0 → starts (codes "#!") text ≡ true → ⊥
no_hashbang text u none h = let s = starts_so text h in opens_comment text (chars s.0) (spelled text s.0 u s.1) none

-- ---- the faults of the first token

first_fault : {source : Goal} {text : List ℕ} (d : Diagnostic) → IsUtf8 text → NoLexeme hashbang text 0 → FaultyBehind d.kind source text 0 d.span.start d.span.end → Alone d → IsFault source text d
first_fault {source} {text} d u none f a = record { place = 0; reached = inl refl; faulty = f; no_hashbang = λ e z q. no_hashbang text u none q; alone = a }

first_faults : {source : Goal} {text : List ℕ} (ds : List Diagnostic) → IsUtf8 text → NoLexeme hashbang text 0 → All (λ d. FaultyBehind d.kind source text 0 d.span.start d.span.end) ds → All Alone ds → All (IsFault source text) ds
first_faults ds u none h a = λ k d l. first_fault (slice_index_or ds k d) u none (h k d l) (a k d l)

stopping_fault : {source : Goal} {text : List ℕ} {s : ℕ} (t : Token) (faults : List Diagnostic) → Outcome division cut source text s t [] faults → All (λ d. FaultyBehind d.kind source text s d.span.start d.span.end) faults
stopping_fault {source} {text} {s} t faults o = go (same_kind Undetermined t.kind) o
  where
    go : (b : Bool) → elim b as (λ _. Type 0) [ true ↦ (d : Diagnostic) × (faults ≡ d ∷ []) × GivesNone division source text s t d | false ↦ (faults ≡ []) × GivesLexeme division cut text s t ] → All (λ d. FaultyBehind d.kind source text s d.span.start d.span.end) faults
    go true x = All-same (λ d. FaultyBehind d.kind source text s d.span.start d.span.end) faults (x.0 ∷ []) x.1 (All-cons (λ d. FaultyBehind d.kind source text s d.span.start d.span.end) x.0 [] x.2.faulty (All-nil (λ d. FaultyBehind d.kind source text s d.span.start d.span.end)))
    go false x = All-same (λ d. FaultyBehind d.kind source text s d.span.start d.span.end) faults [] x.0 (All-nil (λ d. FaultyBehind d.kind source text s d.span.start d.span.end))

-- ---- the parser

none_before : {V : Type 0} {cs : List (ℕ × Option V)} {place : ℕ} → cs ≡ [] → StandBefore cs place
none_before {V} {cs} {place} e = subst (λ (v : List (ℕ × Option V)). StandBefore v place) (sym e) (λ k h. absurd (false≢true h))

record FirstToken (first l : State) (t : Token) (b : Bool) : Type 0 where
  text : l.text ≡ first.text
  read_for : l.goal ≡ first.goal
  token : IsToken first.goal first.text 0 l.kept.errors t b
  lies : LiesIn t.span first.text
  last : l.place ≡ t.span.end
  faulty : All (IsFault first.goal first.text) l.kept.errors

module _ {first l : State} {t : Token} {b : Bool} where
  hashbang_first : (IsTrue b ↔ (t.kind ≡ RAngle)) → IsEmpty first.kept → GivesHashbang first l t → FirstToken first l t b
  hashbang_first i n h = record {
    text = h.same.text;
    read_for = h.same.goal;
    token = go b refl;
    lies = h.lies;
    last = h.place;
    faulty = All-same (IsFault first.goal first.text) l.kept.errors [] (ap (λ x. x.errors) h.kept ∙ n.errors) (All-nil (IsFault first.goal first.text));
  }
    where
      is : t.kind ≡ HashbangComment
      is =
          let x = h.gives in
          let k : kind_in hashbang x.stands.lex.word x.stands.lex.rest ≡ Some x.lexeme.kind = subst (λ g. kind_in g x.stands.lex.word x.stands.lex.rest ≡ Some x.lexeme.kind) x.stands.of_goal x.stands.lex.lexeme.kind in
          x.tells.kind ∙ hashbang_is x.stands.lex.word x.lexeme.kind k

      go : (c : Bool) → b ≡ c → IsToken first.goal first.text 0 l.kept.errors t b
      go true e = absurd (let k : HashbangComment ≡ RAngle = sym is ∙ i.0 e in cc)
      go false e = subst (λ (c : Bool). IsToken first.goal first.text 0 l.kept.errors t c) (sym e) (whole (λ k. let z : HashbangComment ≡ Undetermined = sym is ∙ k in cc) h.gives)

  next_first : (IsTrue b ↔ (t.kind ≡ RAngle)) → IsEmpty first.kept → first.place ≡ 0 → NoLexeme hashbang first.text 0 → GivesNext division first l t → FirstToken first l t b
  next_first i n z none g = record {
    text = g.same.text;
    read_for = g.same.goal;
    token = token_given g.faults passing b i kept outcome;
    lies = g.lies;
    last = g.place;
    faulty = All-same (IsFault first.goal first.text) l.kept.errors (passing ++ g.faults) kept (All-append (IsFault first.goal first.text) passing g.faults (first_faults passing g.utf8 none passed (html_alone (in_a_module first.goal) first.place g.pieces)) (first_faults g.faults g.utf8 none (stopping_fault t g.faults outcome) (found_alone division cut first.goal first.text 0 t [] g.faults outcome (λ e. All-nil Alone))));
  }
    where
      passing : List Diagnostic
      passing = each_at (html_fault_at (in_a_module first.goal)) first.place g.pieces

      kept : l.kept.errors ≡ passing ++ g.faults
      kept = g.grows.faults_grow ∙ ap (λ (v : List Diagnostic). v ++ (passing ++ g.faults)) n.errors

      outcome : Outcome division cut first.goal first.text 0 t [] g.faults
      outcome = subst (λ (v : ℕ). Outcome division cut first.goal first.text v t [] g.faults) z g.outcome

      passed : All (λ d. FaultyBehind d.kind first.goal first.text 0 d.span.start d.span.end) passing
      passed = subst (λ (v : ℕ). All (λ d. FaultyBehind d.kind first.goal first.text v d.span.start d.span.end) passing) z g.marked

  first_token : (IsTrue b ↔ (t.kind ≡ RAngle)) → IsEmpty first.kept → first.place ≡ 0 → GivesFirst first l t → FirstToken first l t b
  first_token i n z (inl h) = hashbang_first i n h
  first_token i n z (inr h) = next_first i n z h.0 h.1

module _ {source : List ℕ} {read_as : SourceType} {asked : ParseOptions} {first l : State} {t : Token} {b : Bool} {ctx : Context} where
  pub starts_at : {asks : Bool} {nodes : List Node} {visits : List Visit} {state : Notes} {errors : List Diagnostic} → IsUtf8 source → length source ≤ MAX_LEN → first.text ≡ source → first.goal ≡ goal_of read_as → first.keeps_tokens ≡ asks → first.place ≡ 0 → IsEmpty first.kept → GivesFirst first l t → (IsTrue b ↔ (t.kind ≡ RAngle)) → nodes ≡ empty_program ∷ [] → visits ≡ [] → HasNone state → AtStart read_as asked ctx → errors ≡ []
      → Starts source read_as asked asks (record { text = source; source_type = read_as; options = asked; lexer = l; token = t; cut = b; prev_token_end = 0; nodes = nodes; visits = visits; state = state; ctx = ctx; errors = errors; depth = 0 })
  starts_at {asks} {nodes} {visits} {state} {errors} u few text as_goal keeps z n g i ns vs notes c es = record {
    text = refl;
    source_type = refl;
    options = refl;
    lexer = first;
    reads = text;
    reads_for = as_goal;
    keeps_tokens = keeps;
    at_start = z;
    kept_none = n;
    first = g;
    prev_token_end = refl;
    nodes = ns;
    visits = vs;
    state = notes;
    ctx = c;
    errors = es;
    depth = refl;
    at = record {
      reads = f.text ∙ text;
      reads_for = f.read_for ∙ as_goal;
      utf8 = u;
      short = few;
      reached = inl refl;
      between = IsCharBoundary-start source u;
      token = there (λ v w. IsToken v w 0 l.kept.errors t b) f.token;
      lies = subst (λ (w : List ℕ). LiesIn t.span w) text f.lies;
      last = f.last;
      marked = All-same (Mark (goal_of read_as) source) errors [] es (All-nil (Mark (goal_of read_as) source));
      faulty = there (λ v w. All (IsFault v w) l.kept.errors) f.faulty;
      noted = record { covers = none_before notes.covers; commas = none_before notes.commas };
    };
  }
    where
      f : FirstToken first l t b
      f = first_token i n z g

      there : (P : Goal → List ℕ → Type 0) → P first.goal first.text → P (goal_of read_as) source
      there P h = subst (λ (v : Goal). P v source) as_goal (subst (λ (v : List ℕ). P first.goal v) text h)
