-- What a parse answers, from what holds of the parser at its end.
use Rattle.std.proofs.Common.{Bool, ℕ, ◌≡◌, inl, inr, List, [], ◌∷◌, ◌++◌, length, take, map, true, false, Option, None, refl, sym, ap, subst, arith, ◌∙◌}
use Rattle.std.specs.List.{All}
use Rattle.std.specs.Prelude.{IsCharBoundary, IsUtf8, Result, Ok, Err, IfOk}
use Rattle.std.proofs.lemmas.List.Elements.{All-append, All-take, All-weaker, All-nil}
use Rattle.js_base.specs.declared.diagnostic.Diagnostic.{Diagnostic}
use Rattle.js_base.specs.declared.diagnostic.DiagnosticKind.TheVariants.{OverlongSource}
use Rattle.js_base.specs.declared.options.ParseOptions.{ParseOptions}
use Rattle.js_base.specs.declared.source_type.SourceType.{SourceType}
use Rattle.js_base.specs.declared.span.Span.{Span}
use Rattle.js_grammar.specs.Trees.{Slots, end, tree, Tree}
use Rattle.js_grammar.specs.Marks.{Mark}
use Rattle.js_cursor.specs.js_lex.States.{goal_of}
use Rattle.js_tree.specs.declared.id.NodeId.{NodeId}
use Rattle.js_tree.specs.Nodes.{Node, empty_program, program_node}
use Rattle.js_tree.specs.Holding.{HoldsAll, IsTree, program_tree, with_program}
use Rattle.js_tree.proofs.HoldingLemmas.{HoldsAll-none}
use Rattle.js_cursor.specs.Parsers.{Parser}
use Rattle.js_cursor.specs.Places.{IsAt, IsFault}
use Rattle.std.proofs.lemmas.Bool.{false≢true}
use Rattle.std.proofs.lemmas.Str.{IsCharBoundary-start, IsCharBoundary-end}
use Rattle.js_base.specs.Spans.{LiesIn}
use Rattle.js_base.specs.declared.token.Token.{Token}
use Rattle.js_cursor.specs.js_lex.Kept.{LieIn}
use Rattle.js_cursor.specs.js_lex.declared.comment.Comment.{Comment}
use Rattle.js_cursor.specs.js_lex.declared.output.LexerOutput.{LexerOutput}
use Rattle.js_core.proofs.Lists.{first_empty}
use Rattle.js_core.specs.Readings.{HasNoReading, HasNoReadingBy, IsOnlyReadingBy, AreOf}
use Rattle.js_parser.specs.Broken.{told_in}
use Rattle.js_parser.specs.declared.early.Position.TheVariants.{Anywhere}
use Rattle.js_parser.specs.FaultsTold.{AreBesideFatal, EndsAt}
use Rattle.js_cursor.specs.Stages.{stage}
use Rattle.js_parser.specs.Leftover.{leftover, with_leftover}
use Rattle.js_parser.specs.NodeSpans.{SlotsLie}
use Rattle.js_parser.proofs.Leftovers.{all_early, covered, early_marked, in_program, told_in_program, leftover_early, leftover_marked, leftover_none, none_before, none_leftover, none_read, only_read, spans_lie, spans_marked}
use Rattle.js_grammar.specs.CoverInitialisers.{initialised_in}
use Rattle.js_grammar.proofs.CoverInitialisers.{Marked}
use Rattle.js_tree.specs.Covering.{placed}
use Rattle.js_core.specs.laws_shared.States.{NodesLie}
use Rattle.js_grammar.specs.Options.{Options}
use Rattle.js_grammar.specs.Settings.{Goal}
use Rattle.js_core.specs.Kept.{TellsRead, KeepsRight}
use Rattle.js_parser.specs.Parsed.{options_of, IsAnswer, IsOverlong}
use Rattle.js_parser.proofs.NodeSpans.{slots_lie, program_lie}
use Rattle.js_core.specs.Taken.{IsOf, ReadOrNot, ProgramTaken, ProgramRefused, ProgramStops}
use Rattle.js_cursor.specs.declared.stop.Stop.{Stop}
use Rattle.js_cursor.specs.declared.stop.Stop.TheVariants.{Fatal}
use Rattle.js_core.specs.laws_shared.Classes.{IsEarly}
use Rattle.js_core.specs.laws_shared.States.{NodesLie}
use Rattle.js_core.proofs.laws_shared.Kept.{none_of_two}
use Rattle.js_core.proofs.laws_shared.Verdicts.{ending}

span_is : (sp : Span) {a b : ℕ} → sp.start ≡ a → sp.end ≡ b → sp ≡ record { start = a; end = b }
span_is sp x y = λ i. record { start = x i; end = y i }

module _ {text : List ℕ} {s : SourceType} {p : Parser} (t : IsOf text s p) where
  -- it is one of characters
  characters : IsUtf8 text
  characters = subst IsUtf8 t.text_is t.at.utf8

  -- what stands before the end of the current lexeme lies in it
  up_to_token : LiesIn (record { start = 0; end = p.token.span.end }) text
  up_to_token = record { ordered = omega arith; starts_whole = IsCharBoundary-start text characters; ends_whole = subst (λ (w : List ℕ). IsCharBoundary w p.token.span.end) t.text_is t.at.lies.ends_whole }

  -- what the lexer and the parser found has its marks
  faults : All (IsFault (goal_of s) text) p.lexer.kept.errors
  faults = subst (λ (w : List ℕ). All (IsFault (goal_of s) w) p.lexer.kept.errors) t.text_is (subst (λ (v : SourceType). All (IsFault (goal_of v) p.text) p.lexer.kept.errors) t.source_type t.at.faulty)

  marks : All (Mark (goal_of s) text) p.errors
  marks = subst (λ (w : List ℕ). All (Mark (goal_of s) w) p.errors) t.text_is (subst (λ (v : SourceType). All (Mark (goal_of v) p.text) p.errors) t.source_type t.at.marked)

  -- and lies in the text
  each_lies : (found : List Diagnostic) → All (Mark (goal_of s) text) found → All (λ d. LiesIn d.span text) found
  each_lies found h = All-weaker (Mark (goal_of s) text) (λ d. LiesIn d.span text) (λ d m. record { ordered = m.ordered; starts_whole = m.begins_between; ends_whole = m.ends_between }) found h

  marks_lie : All (λ d. LiesIn d.span text) p.errors
  marks_lie = each_lies p.errors marks

  faults_lie : (kept : List Diagnostic) → All (IsFault (goal_of s) text) kept → All (λ d. LiesIn d.span text) kept
  faults_lie kept h = All-weaker (IsFault (goal_of s) text) (λ d. LiesIn d.span text) (λ d f. record { ordered = (let l = f.faulty.ordered in omega arith); starts_whole = f.faulty.begins_between; ends_whole = f.faulty.ends_between }) kept h

  abbrev told_all : (kept found : List Diagnostic) → found ≡ kept ++ p.errors → All (IsFault (goal_of s) text) kept → AreOf (goal_of s) text found
  told_all kept found e h = record {
    faults = kept;
    told = p.errors;
    in_order = e;
    faulty = h;
    marked = marks;
    lie = subst (All (λ d. LiesIn d.span text)) (sym e) (All-append (λ d. LiesIn d.span text) kept p.errors (faults_lie kept h) marks_lie);
  }

  -- so do the comments, the white space and the tokens that were kept
  lies_with : (kept out : LexerOutput) (found : List Diagnostic) → out ≡ record kept { errors = found } → LieIn p.lexer.text kept → All (λ d. LiesIn d.span text) found → LieIn text out
  lies_with kept out found e l h = subst (λ (x : LexerOutput). LieIn text x) (sym e) (record {
    comments = subst (λ (v : List ℕ). All (λ (c : Comment). LiesIn c.span v) kept.comments) same l.comments;
    irregular_whitespaces = subst (λ (v : List ℕ). All (λ (c : Span). LiesIn c v) kept.irregular_whitespaces) same l.irregular_whitespaces;
    tokens = subst (λ (v : List ℕ). All (λ (c : Token). LiesIn c.span v) kept.tokens) same l.tokens;
    errors = h;
  })
    where
      same : p.lexer.text ≡ text
      same = t.at.reads ∙ t.text_is

  lies : (kept out : LexerOutput) (told : List Diagnostic) → out ≡ record kept { errors = told ++ p.errors } → LieIn p.lexer.text kept → All (IsFault (goal_of s) text) told → LieIn text out
  lies kept out told e l h = lies_with kept out (told ++ p.errors) e l (All-append (λ d. LiesIn d.span text) told p.errors (faults_lie told h) marks_lie)

-- nothing was found, or something was
by_found : (text : List ℕ) (s : SourceType) (o : ParseOptions) (p : Parser) (cs : Slots) (found : List Diagnostic) → found ≡ p.lexer.kept.errors ++ p.errors → ReadOrNot text s o p cs
    → (found ≡ [] → IsOnlyReadingBy true text (goal_of s) (options_of o) (program_tree (record { start = 0; end = p.token.span.end }) cs)) × ((found ≡ [] → ⊥) → HasNoReadingBy true text (goal_of s) (options_of o))
by_found text s o p cs found e (inl (z, r)) = (λ x. r, λ n. absurd (n (e ∙ none_of_two p.lexer.kept.errors p.errors z.faults z.errors)))
by_found text s o p cs found e (inr (z, r)) = (λ x. absurd (z (let k = sym e ∙ x in record { faults = first_empty p.lexer.kept.errors p.errors k; errors = ending p.lexer.kept.errors p.errors k })), λ n. r)

one_at_least : (d : Diagnostic) (ds : List Diagnostic) → d ∷ ds ≡ [] → ⊥
one_at_least d ds e = cc

-- what stands before the end of the current lexeme lies in the text
pub nodes_lie : {p : Parser} {ids : List (Option NodeId)} (span : Span) (nodes : List Node) → span.start ≡ 0 → span.end ≡ p.token.span.end → nodes ≡ with_program (program_node span ids) p.nodes → IsAt p → NodesLie p.text p.nodes → NodesLie p.text nodes
nodes_lie {p} {ids} span nodes a b n h l = subst (λ (ns : List Node). NodesLie p.text ns) (sym n) (program_lie (program_node span ids) tt p.nodes (subst (λ (v : Span). LiesIn v p.text) (sym (span_is span a b)) (record { ordered = omega arith; starts_whole = IsCharBoundary-start p.text h.utf8; ends_whole = h.lies.ends_whole })) l)

pub taken_answer : {text : List ℕ} {s : SourceType} {o : ParseOptions} {asks : Bool} {p : Parser} {ids : List (Option NodeId)} (span : Span) (nodes : List Node) (out kept : LexerOutput) (early : List Diagnostic) (covers : List Span) → kept ≡ p.lexer.kept → span.start ≡ 0 → span.end ≡ p.token.span.end → ((cs : Slots) → HoldsAll p.nodes 1 (length p.nodes) ids cs → IsTree nodes (program_tree span cs)) → nodes ≡ with_program (program_node span ids) p.nodes → ((t : Tree) → IsTree nodes t → early ≡ told_in p.text Anywhere t.slots) → ((t : Tree) → IsTree nodes t → covers ≡ map placed (initialised_in t.slots)) → out ≡ record kept { errors = with_leftover (p.lexer.kept.errors ++ p.errors) early covers } → LieIn p.lexer.text kept → ProgramTaken text s o asks p ids → IsAnswer text (goal_of s) (options_of o) nodes out false
taken_answer {text} {s} {o} {asks} {p} {ids} span nodes out kept early covers w a b t n f i e l h = go (p.lexer.kept.errors ++ p.errors) refl
  where
    program : Tree
    program = program_tree (record { start = 0; end = p.token.span.end }) h.slots

    whole : IsTree nodes program
    whole = subst (λ (v : Span). IsTree nodes (program_tree v h.slots)) (span_is span a b) (t h.slots h.holds)

    all_lie : NodesLie text nodes
    all_lie = subst (λ (ns : List Node). NodesLie text ns) (sym n) (program_lie (program_node span ids) tt p.nodes (subst (λ (v : Span). LiesIn v text) (sym (span_is span a b)) (up_to_token h.is_of)) h.lies)

    slots_inside : SlotsLie text h.slots
    slots_inside = slots_lie h.lies (h.holds).stands

    early_is : early ≡ told_in text Anywhere h.slots
    early_is = subst (λ (w : List ℕ). early ≡ told_in w Anywhere h.slots) h.is_of.text_is (f program whole)

    covers_are : covers ≡ map placed (initialised_in h.slots)
    covers_are = i program whole

    left_is : leftover early covers ≡ leftover (told_in text Anywhere h.slots) (map placed (initialised_in h.slots))
    left_is = λ j. leftover (early_is j) (covers_are j)

    outside : initialised_in (tree program.label program.slots end) ≡ initialised_in h.slots
    outside = in_program program refl

    told_outside : told_in text Anywhere (tree program.label program.slots end) ≡ told_in text Anywhere h.slots
    told_outside = told_in_program text (record { start = 0; end = p.token.span.end }) h.slots

    by_cover : (p.lexer.kept.errors ++ p.errors ≡ [] → IsOnlyReadingBy true text (goal_of s) (options_of o) program) × ((p.lexer.kept.errors ++ p.errors ≡ [] → ⊥) → HasNoReadingBy true text (goal_of s) (options_of o))
    by_cover = by_found text s o p h.slots (p.lexer.kept.errors ++ p.errors) refl h.outcome

    ends_at : (found : List Diagnostic) → out.errors ≡ p.lexer.kept.errors ++ found → EndsAt text (goal_of s) out false found
    ends_at found z = record {
      stop = stage p;
      came = h.came;
      whole = λ q. h.last;
      faults = p.lexer.kept.errors;
      told = refl;
      errors = z;
      comments = ap (λ (x : LexerOutput). x.comments) e ∙ ap (λ (x : LexerOutput). x.comments) w;
      blanks = ap (λ (x : LexerOutput). x.irregular_whitespaces) e ∙ ap (λ (x : LexerOutput). x.irregular_whitespaces) w;
    }

    go : (ds : List Diagnostic) → p.lexer.kept.errors ++ p.errors ≡ ds → IsAnswer text (goal_of s) (options_of o) nodes out false
    go (d ∷ ds) q =
        let same : with_leftover (p.lexer.kept.errors ++ p.errors) early covers ≡ p.lexer.kept.errors ++ p.errors = ap (λ (v : List Diagnostic). with_leftover v early covers) q ∙ sym q in
        let some : p.lexer.kept.errors ++ p.errors ≡ [] → ⊥ = λ z. one_at_least d ds (sym q ∙ z) in
        let in_order : out ≡ record kept { errors = p.lexer.kept.errors ++ p.errors } = e ∙ ap (λ (v : List Diagnostic). record kept { errors = v }) same in
        record {
          told = told_all h.is_of p.lexer.kept.errors out.errors (ap (λ (x : LexerOutput). x.errors) in_order) (faults h.is_of);
          lie = lies h.is_of kept out p.lexer.kept.errors in_order l (faults h.is_of);
          tree = program;
          is_tree = whole;
          program_lies = up_to_token h.is_of;
          inside = slots_inside;
          nodes_lie = all_lie;
          clean = λ z. absurd (some (sym (ap (λ (x : LexerOutput). x.errors) in_order) ∙ z));
          unclean = λ z. none_read (by_cover.1 some);
          early = λ z. h.early;
          stopped = λ z. absurd (false≢true z);
          ended = λ z y. false≢true z;
          childless = λ z. absurd (false≢true z);
          no_tokens = λ z. absurd (false≢true z);
          stopped_only = λ z. absurd (false≢true z);
          ends_at = ends_at p.errors (ap (λ (x : LexerOutput). x.errors) in_order);
          left = λ t r. absurd (by_cover.1 some t r);
        }
    go [] q =
        let found_is : out.errors ≡ leftover early covers = ap (λ (x : LexerOutput). x.errors) e ∙ ap (λ (v : List Diagnostic). with_leftover v early covers) q in
        let read = by_cover.0 q in
        let none_left : told_in text Anywhere h.slots ≡ [] → initialised_in h.slots ≡ [] → out.errors ≡ [] = λ y z. found_is ∙ (left_is ∙ (λ j. leftover (y j) (map placed (z j)))) in
        let left_none : out.errors ≡ [] → (told_in text Anywhere h.slots ≡ []) × (initialised_in h.slots ≡ []) = λ z. leftover_none (told_in text Anywhere h.slots) (initialised_in h.slots) (sym left_is ∙ (sym found_is ∙ z)) in
        let none : (out.errors ≡ [] → ⊥) → HasNoReading text (goal_of s) (options_of o) = λ z. none_leftover (λ x y. z (none_left (sym told_outside ∙ x) (sym outside ∙ y))) read in
        let left_marked : All (Mark (goal_of s) text) (leftover early covers) = subst (All (Mark (goal_of s) text)) (sym left_is) (leftover_marked (goal_of s) text (told_in text Anywhere h.slots) (initialised_in h.slots) (early_marked (characters h.is_of) read.reading slots_inside) (subst (All (Marked text)) outside (spans_marked read.reading)) (spans_lie text h.slots slots_inside)) in
        let left_lie : All (λ d. LiesIn d.span text) (leftover early covers) = each_lies h.is_of (leftover early covers) left_marked in
        record {
          told = record {
            faults = [];
            told = leftover early covers;
            in_order = found_is;
            faulty = All-nil (IsFault (goal_of s) text);
            marked = left_marked;
            lie = subst (All (λ d. LiesIn d.span text)) (sym found_is) left_lie;
          };
          lie = lies_with h.is_of kept out (leftover early covers) (e ∙ ap (λ (v : List Diagnostic). record kept { errors = with_leftover v early covers }) q) l left_lie;
          tree = program;
          is_tree = whole;
          program_lies = up_to_token h.is_of;
          inside = slots_inside;
          nodes_lie = all_lie;
          clean = λ z. let x = left_none z in only_read (told_outside ∙ x.0) (outside ∙ x.1) read;
          unclean = λ z. none z;
          early = λ z. leftover_early early covers (subst (All IsEarly) (sym early_is) (all_early text Anywhere h.slots));
          stopped = λ z. absurd (false≢true z);
          ended = λ z y. false≢true z;
          childless = λ z. absurd (false≢true z);
          no_tokens = λ z. absurd (false≢true z);
          stopped_only = λ z. absurd (false≢true z);
          ends_at = ends_at (leftover early covers) (found_is ∙ sym (ap (λ (v : List Diagnostic). v ++ leftover early covers) (first_empty p.lexer.kept.errors p.errors q)));
          left = λ t r.
              let same : t ≡ program = (read.only t r).0 in
              (sym same, refl, found_is ∙ (left_is ∙ ap (λ (v : Tree). leftover (told_in text Anywhere v.slots) (map placed (initialised_in v.slots))) (sym same)));
        }

-- and what was kept
pub taken_kept : {text : List ℕ} {s : SourceType} {o : ParseOptions} {asks : Bool} {p : Parser} {ids : List (Option NodeId)} (out kept : LexerOutput) (early : List Diagnostic) (covers : List Span) → out ≡ record kept { errors = with_leftover (p.lexer.kept.errors ++ p.errors) early covers } → kept ≡ p.lexer.kept → ProgramTaken text s o asks p ids → KeepsRight text (goal_of s) (options_of o) asks out
taken_kept {text} {s} {o} {asks} {p} out kept early covers e same h = record {
  unasked = λ a. ap (λ (x : LexerOutput). x.tokens) e ∙ (ap (λ (x : LexerOutput). x.tokens) same ∙ h.unasked a);
  kept = λ z t r.
      let none = none_before (p.lexer.kept.errors ++ p.errors) early covers (sym (ap (λ (x : LexerOutput). x.errors) e) ∙ z) in
      let k = h.kept (record { faults = first_empty p.lexer.kept.errors p.errors none; errors = ending p.lexer.kept.errors p.errors none }) t (covered r.strict) in
      record {
        comments = ap (λ (x : LexerOutput). x.comments) e ∙ (ap (λ (x : LexerOutput). x.comments) same ∙ k.comments);
        blanks = ap (λ (x : LexerOutput). x.irregular_whitespaces) e ∙ (ap (λ (x : LexerOutput). x.irregular_whitespaces) same ∙ k.blanks);
        tokens = λ a. subst (λ (ts : List Token). TellsRead text (goal_of s) r.strict.lexemes r.strict.lexed ts) (sym (ap (λ (x : LexerOutput). x.tokens) e ∙ ap (λ (x : LexerOutput). x.tokens) same)) (k.tokens a);
      };
}

-- where something was found, only that no tokens are kept has to be shown
pub found_kept : {text : List ℕ} {goal : Goal} {o : Options} {asks : Bool} {out : LexerOutput} → out.tokens ≡ [] → (out.errors ≡ [] → ⊥) → KeepsRight text goal o asks out
found_kept n f = record { unasked = λ a. n; kept = λ z. absurd (f z) }

-- of the goal and the config that were asked for
pub kept_for : {text : List ℕ} {goal goal' : Goal} {o : Options} {asks asks' : Bool} {out : LexerOutput} → goal ≡ goal' → asks ≡ asks' → KeepsRight text goal o asks out → KeepsRight text goal' o asks' out
kept_for {text} {goal} {goal'} {o} {asks} {asks'} {out} g a h = subst (λ (v : Goal). KeepsRight text v o asks' out) g (subst (λ (b : Bool). KeepsRight text goal o b out) a h)

-- a program without children
childless : {nodes : List Node} {ids : List (Option NodeId)} (ns : List Node) (span : Span) → ids ≡ [] → nodes ≡ with_program (program_node span ids) ns → IsTree nodes (program_tree span end)
childless {nodes} {ids} ns span z e = subst (λ (ms : List Node). IsTree ms (program_tree span end)) (sym (e ∙ ap (λ (js : List (Option NodeId)). with_program (program_node span js) ns) z)) (record {
  program = program_node span [];
  first = refl;
  label = refl;
  children = HoldsAll-none (with_program (program_node span []) ns) 1 (length (with_program (program_node span []) ns)) (omega arith);
})

pub refused_answer : {text : List ℕ} {s : SourceType} {o : ParseOptions} {p : Parser} {ids : List (Option NodeId)} (ns : List Node) (span : Span) (nodes : List Node) (faults_told : List Diagnostic) (out kept : LexerOutput) → kept ≡ p.lexer.kept → span.start ≡ 0 → span.end ≡ length p.text → AreBesideFatal p.lexer.kept.errors p.errors faults_told → (count : ℕ) × (faults_told ≡ take count p.lexer.kept.errors) → ids ≡ [] → nodes ≡ with_program (program_node span ids) ns → ns ≡ p.nodes → out ≡ record kept { tokens = []; errors = faults_told ++ p.errors } → LieIn p.lexer.text kept → ProgramRefused text s o p → IsAnswer text (goal_of s) (options_of o) nodes out true
refused_answer {text} {s} {o} {p} {ids} ns span nodes told out kept w a b k front z t same e l h = record {
  told = told_all h.is_of told out.errors (ap (λ (x : LexerOutput). x.errors) e) are_faults;
  lie = lies h.is_of (record kept { tokens = [] }) out told e (record { comments = l.comments; irregular_whitespaces = l.irregular_whitespaces; tokens = All-nil (λ (d : Token). LiesIn d.span p.lexer.text); errors = l.errors }) are_faults;
  tree = program_tree (record { start = 0; end = length text }) end;
  is_tree = subst (λ (v : Span). IsTree nodes (program_tree v end)) (span_is span a (b ∙ ap (λ (v : List ℕ). length v) h.is_of.text_is)) (childless ns span z t);
  program_lies = whole;
  inside = tt;
  nodes_lie = subst (λ (ms : List Node). NodesLie text ms) (sym (t ∙ ap (λ (ms : List Node). with_program (program_node span ids) ms) same)) (program_lie (program_node span ids) tt p.nodes (subst (λ (v : Span). LiesIn v text) (sym (span_is span a (b ∙ ap (λ (v : List ℕ). length v) h.is_of.text_is))) whole) h.lies);
  clean = λ y. absurd (some y);
  unclean = λ y. none_read h.none;
  early = λ q. absurd (false≢true (sym q));
  stopped = λ q. h.stopped;
  ended = λ q y. some y;
  childless = λ q. refl;
  no_tokens = λ q. ap (λ (x : LexerOutput). x.tokens) e;
  stopped_only = λ q. h.none_loosely;
  ends_at = record {
    stop = stage p;
    came = h.came;
    whole = λ q. absurd (false≢true (sym q));
    faults = told;
    told = k;
    errors = ap (λ (x : LexerOutput). x.errors) e;
    comments = ap (λ (x : LexerOutput). x.comments) e ∙ ap (λ (x : LexerOutput). x.comments) w;
    blanks = ap (λ (x : LexerOutput). x.irregular_whitespaces) e ∙ ap (λ (x : LexerOutput). x.irregular_whitespaces) w;
  };
  left = λ u r. absurd (h.none u r);
}
  where
    whole : LiesIn (record { start = 0; end = length text }) text
    whole = record { ordered = omega arith; starts_whole = IsCharBoundary-start text (characters h.is_of); ends_whole = IsCharBoundary-end text }

    are_faults : All (IsFault (goal_of s) text) told
    are_faults = subst (λ (ds : List Diagnostic). All (IsFault (goal_of s) text) ds) (sym front.1) (All-take (IsFault (goal_of s) text) front.0 p.lexer.kept.errors (faults h.is_of))

    some : out.errors ≡ [] → ⊥
    some y = h.some (ending told p.errors (sym (ap (λ (x : LexerOutput). x.errors) e) ∙ y))

pub overlong_answer : {found old : List Diagnostic} {comments : List Comment} {blanks : List Span} {tokens : List Token} {ids : List (Option NodeId)} (span : Span) (nodes ns : List Node) → old ≡ [] → found ≡ old ++ record { kind = OverlongSource; span = span; first = None; second = None } ∷ [] → comments ≡ [] → blanks ≡ [] → tokens ≡ [] → span.start ≡ 0 → span.end ≡ 0 → ids ≡ [] → ns ≡ empty_program ∷ [] → nodes ≡ with_program (program_node span ids) ns → IsOverlong nodes (record { comments = comments; irregular_whitespaces = blanks; tokens = tokens; errors = found }) true
overlong_answer {found} {old} {comments} {blanks} {tokens} {ids} span nodes ns o e c w k a b z n t = record {
  found_is = e ∙ (ap (λ (ds : List Diagnostic). ds ++ record { kind = OverlongSource; span = span; first = None; second = None } ∷ []) o ∙ ap (λ (v : Span). record { kind = OverlongSource; span = v; first = None; second = None } ∷ []) at_start);
  no_comments = c;
  no_blanks = w;
  no_tokens = k;
  tree = program_tree (record { start = 0; end = 0 }) end;
  is_tree = subst (λ (v : Span). IsTree nodes (program_tree v end)) at_start (childless ns span z t);
  childless = refl;
  alone = t ∙ (λ i. with_program (program_node (at_start i) (z i)) (n i));
  is_fatal = refl;
}
  where
    at_start : span ≡ record { start = 0; end = 0 }
    at_start = span_is span a b

pub both_ok : {V E : Type 0} {P Q R : V → Type 0} (r : Result V E) → ((v : V) → P v → Q v → R v) → IfOk r P → IfOk r Q → IfOk r R
both_ok (Ok v) f h k = f v h k
both_ok (Err e) f h k = h

pub fatal_stop : {text : List ℕ} {s : SourceType} {o : ParseOptions} {p : Parser} (e : Stop) → e ≡ Fatal → ProgramStops text s o p e → ProgramRefused text s o p
fatal_stop {text} {s} {o} {p} e q h = subst (λ (v : Stop). ProgramStops text s o p v) q h
