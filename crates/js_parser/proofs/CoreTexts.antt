-- A core text's readings by the whole table, over the kinds of lexemes that are read so far, are its readings by the core grammar.
use Rattle.std.proofs.Common.{ℕ, ◌≡◌, true, not, List, Some, None, refl, sym, subst, ap, ◌∙◌, Bool, false}
use Rattle.std.specs.Prelude.{IsUtf8, codes, Option}
use Rattle.std.proofs.lemmas.Bool.{false≢true, and_parts}
use Rattle.js_base.specs.declared.kind.Kind.{Kind}
use Rattle.js_base.specs.declared.kind.Kind.TheVariants.{Eof, HashbangComment}
use Rattle.js_base.specs.declared.options.ParseOptions.{ParseOptions}
use Rattle.js_base.specs.declared.source_type.SourceType.{SourceType}
use Rattle.js_base.specs.Kinds.{same_kind, one_of_kinds}
use Rattle.js_base.proofs.KindLemmas.{kind_of_same}
use Rattle.js_grammar.specs.Trees.{Tree}
use Rattle.js_grammar.specs.Grammar.{Lexeme, Lexemes, last, next, Derives}
use Rattle.js_grammar.specs.Productions.{Program, at}
use Rattle.js_grammar.specs.Lexemes.{LexicalGoal, kind_in, hashbang, hashbang_kind}
use Rattle.js_grammar.specs.Lexed.{NextLexeme, Lexes, Lexed, all_faults, passing_of}
use Rattle.js_grammar.specs.Trivia.{after, within_line}
use Rattle.js_grammar.specs.Settings.{Goal, script}
use Rattle.js_grammar.specs.Options.{Options, program_flags}
use Rattle.js_grammar.specs.CoreGrammar.{core_kinds, core_rule}
use Rattle.js_grammar.specs.CoreTexts.{CoreSource}
use Rattle.js_grammar.specs.CoreReadings.{core_lexeme, core_options, AllCore, IsReading}
use Rattle.js_grammar.proofs.CoreDerivations.{every_at}
use Rattle.js_grammar.proofs.CoreLexed.{core_first, core_lexemes, are_pieces, pieces_lexed}
use Rattle.js_grammar.proofs.CoreTrees.{derived_plain, derived_spared, early_spared, pure_plain}
use Rattle.js_grammar.proofs.CoreValid.{to_core, to_whole}
use Rattle.js_grammar.proofs.NoEnd.{ends_once_by, ends_behind}
use Rattle.js_cursor.specs.js_lex.declared.output.LexerOutput.{LexerOutput}
use Rattle.js_cursor.specs.js_lex.Reading.{LexemeBehind}
use Rattle.js_cursor.specs.js_lex.States.{goal_of}
use Rattle.js_core.specs.laws_shared.Lexemes.{Faultless, is_read, is_read_kind}
use Rattle.js_core.proofs.laws_shared.Paths.{read_of}
use Rattle.js_tree.specs.Nodes.{Node}
use Rattle.js_parser.specs.Parsed.{options_of, IsAnswer}
use Rattle.std.specs.List.{All}
use Rattle.std.proofs.lemmas.List.Elements.{All-append, All-pop, All-push, All-weaker}
use Rattle.js_base.specs.declared.diagnostic.Diagnostic.{Diagnostic}
use Rattle.js_base.specs.declared.diagnostic.DiagnosticClass.{DiagnosticClass}
use Rattle.js_base.specs.declared.diagnostic.DiagnosticClass.TheVariants.{Lexical, Syntax, Form}
use Rattle.js_base.specs.declared.diagnostic.DiagnosticKind.{DiagnosticKind}
use Rattle.js_base.specs.declared.diagnostic.DiagnosticKind.TheVariants as fault
use Rattle.js_base.specs.declared.span.Span.{Span}
use Rattle.js_base.specs.Diagnostics.{class_of}
use Rattle.js_grammar.specs.LexicalFaults.{Faulty}
use Rattle.js_grammar.specs.Marks.{Mark, StandsAt}
use Rattle.js_cursor.specs.Places.{IsFault}
use Rattle.js_core.specs.laws_shared.Classes.{IsEarly, EndsParse, EndedByLast, ends_parse}
use Rattle.js_parser.proofs.CoreFaults.{none_faulty}
use Rattle.js_core.specs.Readings.{parameters, read_at, AreOf, Reading, ReadingBy, IsOnlyReading, HasNoReading, AreRead, from_text_start, behind_a_hashbang}
use Rattle.js_core.specs.EarlyErrors.{MeetsEarlyRules}
use Rattle.js_parser.specs.CoreAnswers.{told_of_core, IsOnlyCoreReading, HasNoCoreReading, IsCoreAnswer}

plainly_so : (b : Bool) → not b ≡ true → b ≡ false
plainly_so true h = absurd (false≢true h)
plainly_so false h = refl

-- a core lexeme is read
read_so : (y : Lexeme) → core_lexeme y ≡ true → is_read y ≡ true
read_so y h = let k = and_parts (one_of_kinds core_kinds y.kind) (not y.escaped) h in read_of y refl (every_at is_read_kind core_kinds y.kind k.0 refl)

all_read : (text : List ℕ) (goal : Goal) (s : ℕ) (ls : Lexemes) → Lexes (NextLexeme (passing_of goal) text) s ls → AllCore ls → Lexes (Faultless goal text) s ls
all_read text goal s (last x) l c = (l, read_so x c)
all_read text goal s (next x ls) l c = ((l.0, read_so x c.0), all_read text goal x.to ls l.1 c.1)

pub plainly : (text : List ℕ) (goal : Goal) (s : ℕ) (ls : Lexemes) → Lexes (Faultless goal text) s ls → Lexes (NextLexeme (passing_of goal) text) s ls
plainly text goal s (last x) l = l.0
plainly text goal s (next x ls) l = (l.0.0, plainly text goal x.to ls l.1)

hashbang_is : (w : List ℕ) (k : Kind) → hashbang_kind w ≡ Some k → HashbangComment ≡ k
hashbang_is w k e = go (after (codes "#!") within_line w) e
  where
    go : (b : Bool) → elim b as (λ _. Option Kind) [ true ↦ Some HashbangComment | false ↦ None ] ≡ Some k → HashbangComment ≡ k
    go true e = cc
    go false e = cc

module _ {text : List ℕ} (u : IsUtf8 text) (s : CoreSource text) where
  -- no hashbang comment begins it
  no_hashbang : (y : Lexeme) → LexemeBehind hashbang text 0 y → ⊥
  no_hashbang y l =
      let k = hashbang_is l.lex.word y.kind (subst (λ (g : LexicalGoal). kind_in g l.lex.word l.lex.rest ≡ Some y.kind) l.of_goal l.lex.lexeme.kind) in
      let c = and_parts (one_of_kinds core_kinds y.kind) _ (core_first text u s all_faults y l.lex) in
      false≢true (subst (λ (a : Kind). one_of_kinds core_kinds a ≡ true) (sym k) c.0)

  module _ (goal : Goal) (o : Options) where
    all_plain : (ls : Lexemes) → AreRead text goal ls → Lexes (NextLexeme (passing_of goal) text) 0 ls
    all_plain ls (from_text_start l) = plainly text goal 0 ls l
    all_plain ls (behind_a_hashbang b) = absurd (no_hashbang b.comment b.stands)

    lexed_whole : {t : Tree} (r : ReadingBy false text goal o t) → Lexed goal text r.lexemes
    lexed_whole {t} r = record {
      lexes = all_plain r.lexemes r.lexed;
      ends = ends_once_by (at Program (parameters goal o)) t r.derived (subst (λ (k : Kind). same_kind Eof k ≡ true) (sym r.is_end) refl);
    }

    pub to_core_reading : (t : Tree) → Reading text goal o t → IsReading text o.allow_v8 t
    to_core_reading t r = let d = r.strict in let l = lexed_whole d in record {
      core = s;
      lexemes = d.lexemes;
      lexed = are_pieces u s l;
      end = d.place;
      final = d.final;
      derived = to_core (record { in_ = refl; v8 = refl; wide = refl }) t (core_lexemes text u s goal d.lexemes l) d.derived;
    }

    -- no core tree breaks an early rule
    core_early : (t : Tree) → IsReading text o.allow_v8 t → MeetsEarlyRules text t
    core_early t r =
        let n = at Program (program_flags script (core_options o.allow_v8)) in
        let p = pure_plain t (derived_plain n t refl r.derived) in
        let e = early_spared text t (derived_spared n t refl (subst (λ (v : Tree). Derives core_rule n v 0 r.lexemes r.end (last r.final)) (sym p) r.derived)) in
        record { not_u_and_v = e.not_u_and_v; cooked = e.templates_cooked; attribute_keys_differ = e.attribute_keys_differ; no_private_constructor = e.no_private_constructor; no_field_constructor = e.no_field_constructor; no_static_prototype = e.no_static_prototype; plain_constructor = e.plain_constructor }

    pub to_reading : (t : Tree) → IsReading text o.allow_v8 t → Reading text goal o t
    to_reading t r =
        let l = pieces_lexed goal u r.core r.lexed in
        let c = core_lexemes text u s goal r.lexemes l in
        let d = to_whole {g = parameters goal o} (record { in_ = refl; v8 = refl; wide = refl }) t c r.derived in
        record {
          strict = record {
            lexemes = r.lexemes;
            lexed = from_text_start (all_read text goal 0 r.lexemes l.lexes c);
            place = r.end;
            final = r.final;
            is_end = sym (kind_of_same Eof r.final.kind (ends_behind (at Program (parameters goal o)) t d l.ends));
            derived = d;
          };
          early = core_early t r;
        }

    pub only_core : (t : Tree) → IsOnlyReading text goal o t → IsOnlyCoreReading text o.allow_v8 t
    only_core t x = record { reading = to_core_reading t x.reading; only = λ v r. (x.only v (to_reading v r)).0 }

    pub none_core : HasNoReading text goal o → HasNoCoreReading text o.allow_v8
    none_core n t r = n t (to_reading t r)

-- ---- the classes of what is told of it

-- a diagnostic of the class Lexical has the mark of a fault
faulty_by : (k : DiagnosticKind) (goal : Goal) (text : List ℕ) (at : Span) (first second : Option Span) → class_of k ≡ Lexical → StandsAt k goal text at first second → Faulty k goal text at.start at.end
faulty_by fault.InvalidCharacter goal text at first second e p = p.0
faulty_by fault.BinaryFile goal text at first second e p = p.0
faulty_by fault.UnterminatedString goal text at first second e p = p.0
faulty_by fault.UnterminatedTemplate goal text at first second e p = p.0
faulty_by fault.UnterminatedRegexp goal text at first second e p = p.0
faulty_by fault.UnterminatedComment goal text at first second e p = p.0
faulty_by fault.InvalidEscape goal text at first second e p = p.0
faulty_by fault.InvalidNumber goal text at first second e p = p.0
faulty_by fault.RegExpFlag goal text at first second e p = p.0
faulty_by fault.HtmlCommentInModule goal text at first second e p = p.0
faulty_by _ goal text at first second e p = cc

allowed : (c : DiagnosticClass) → ends_parse c ≡ true → (c ≡ Lexical → ⊥) → told_of_core c ≡ true
allowed Lexical e n = absurd (n refl)
allowed Syntax e n = refl
allowed Form e n = refl
allowed _ e n = absurd (false≢true e)

-- an abbreviation for what is claimed of each
abbrev Allowed : Diagnostic → Type 0
Allowed d = told_of_core (class_of d.kind) ≡ true

module _ {text : List ℕ} (u : IsUtf8 text) (s : CoreSource text) (goal : Goal) where
  no_fault : (ds : List Diagnostic) → All (IsFault goal text) ds → All Allowed ds
  no_fault ds h = All-weaker (IsFault goal text) Allowed (λ d f. absurd (none_faulty u s goal d.kind f.place d.span.start d.span.end f.reached f.faulty)) ds h

  early_allowed : (ds : List Diagnostic) → All IsEarly ds → All Allowed ds
  early_allowed ds h = All-weaker IsEarly Allowed (λ d e. ap told_of_core e) ds h

  ending_allowed : (d : Diagnostic) → EndsParse d → Mark goal text d → Allowed d
  ending_allowed d e m = allowed (class_of d.kind) e (λ l. let f = faulty_by d.kind goal text d.span d.first d.second l m.stands in none_faulty u s goal d.kind f.place d.span.start d.span.end f.reached f.faulty)

  stopped_allowed : (ds : List Diagnostic) → All (Mark goal text) ds → EndedByLast ds → All Allowed ds
  stopped_allowed ds m h = subst (λ (es : List Diagnostic). All Allowed es) (sym h.is) (All-push Allowed h.before h.last (early_allowed h.before h.early) (ending_allowed h.last h.ends (All-pop (Mark goal text) ds h.before (Some h.last) h.is m).1))

  told_allowed : (fatal : Bool) (ds : List Diagnostic) → All (Mark goal text) ds → (fatal ≡ false → All IsEarly ds) → (fatal ≡ true → EndedByLast ds) → All Allowed ds
  told_allowed false ds m e n = early_allowed ds (e refl)
  told_allowed true ds m e n = stopped_allowed ds m (n refl)

  found_allowed : {found : List Diagnostic} (fatal : Bool) (a : AreOf goal text found) → (fatal ≡ false → All IsEarly a.told) → (fatal ≡ true → EndedByLast a.told) → All Allowed found
  found_allowed fatal a e n = subst (λ (ds : List Diagnostic). All Allowed ds) (sym a.in_order) (All-append Allowed a.faults a.told (no_fault a.faults a.faulty) (told_allowed fatal a.told a.marked e n))

-- what is answered for a text, if it is a core text
pub core_answer : {text : List ℕ} {given read taken : SourceType} {o : ParseOptions} {nodes : List Node} {out : LexerOutput} {fatal : Bool} → goal_of read ≡ read_at (goal_of given) → taken ≡ read → IsAnswer text (goal_of read) (options_of o) nodes out fatal → IsUtf8 text → CoreSource text → IsCoreAnswer text given taken o.allow_v8_intrinsics nodes out.errors
core_answer {read = read} {o = o} {fatal = fatal} settled same a u s = record {
  tree = a.tree;
  is_tree = a.is_tree;
  clean = λ z. only_core u s (goal_of read) (options_of o) a.tree (a.clean z);
  unclean = λ n. none_core u s (goal_of read) (options_of o) (a.unclean n);
  classes = found_allowed u s (goal_of read) fatal a.told a.early a.stopped;
  inside = a.told.lie;
  as_script = λ e. ap goal_of same ∙ (settled ∙ ap read_at e);
}
