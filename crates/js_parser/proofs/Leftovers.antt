-- From what the cover grammar derives to readings: where no shorthand has an initialiser (ECMA-262, 13.2.5.1), and no early rule is broken.
use Rattle.std.proofs.Common.{Bool, ℕ, ◌≡◌, ◌∙◌, ap, Option, inl, List, [], ◌∷◌, ◌++◌, map, cond, append-nil, true, false, refl, sym, subst}
use Rattle.std.specs.List.{All}
use Rattle.std.specs.Prelude.{None, Some, is_some, IsUtf8}
use Rattle.std.proofs.lemmas.List.Elements.{All-nil, All-cons, All-head, All-tail, All-append, All-map, All-weaker}
use Rattle.js_base.specs.declared.diagnostic.Diagnostic.{Diagnostic}
use Rattle.js_base.specs.declared.diagnostic.DiagnosticKind.{DiagnosticKind}
use Rattle.js_base.specs.declared.diagnostic.DiagnosticKind.TheVariants.{CoverInitializedName, Redeclaration, RegExpFlagUAndV, TemplateLiteral}
use Rattle.js_base.specs.declared.diagnostic.DiagnosticClass.TheVariants.{Early}
use Rattle.js_base.specs.part_text.Decoding.{cooked}
use Rattle.js_base.specs.Diagnostics.{class_of}
use Rattle.js_base.specs.declared.span.Span.{Span}
use Rattle.js_base.specs.Spans.{LiesIn}
use Rattle.js_grammar.specs.NodeNames.{characters_at}
use Rattle.js_grammar.specs.Trees.{NodeKind, reg_exp_literal, template_element, with_clause, Label, Slots, end, hole, tree, Tree, Span as TreeSpan, program}
use Rattle.js_grammar.specs.Grammar.{Lexemes, last, next}
use Rattle.js_grammar.specs.Lexed.{Lexes}
use Rattle.js_grammar.specs.LexicalFaults.{Reached}
use Rattle.js_grammar.specs.Marks.{Mark}
use Rattle.js_grammar.specs.CoverInitialisers.{initialised_in, with_cover}
use Rattle.js_grammar.specs.Options.{Options}
use Rattle.js_grammar.specs.Settings.{Goal}
use Rattle.js_grammar.proofs.CoverInitialisers.{Each, Led, Marked, each_listed, initialisers_marked, program_loosely, program_strictly, strict_has_none, placed}
use Rattle.js_grammar.specs.Productions.{at, Program}
use Rattle.js_tree.specs.Covering.{placed as made}
use Rattle.js_tree.specs.Holding.{program_tree}
use Rattle.js_cursor.specs.js_lex.declared.output.LexerOutput.{LexerOutput}
use Rattle.js_cursor.proofs.Moving.{reached_next}
use Rattle.js_core.specs.laws_shared.Classes.{IsEarly}
use Rattle.js_core.specs.laws_shared.Lexemes.{Faultless}
use Rattle.js_core.specs.laws_shared.Told.{unrelated_at}
use Rattle.js_core.proofs.laws_shared.Kept.{faults_aside}
use Rattle.js_core.proofs.laws_shared.Verdicts.{ending}
use Rattle.js_core.specs.Kept.{IsKeptOf}
use Rattle.js_parser.specs.AttributeKeys.{same_before, told_again, told_keys, told_of_keys, keys_in}
use Rattle.js_parser.specs.Broken.{past, within, broken_rule, told_rule, told_here, told_in, name_fault, told_fault}
use Rattle.js_parser.proofs.MemberNames.{each_told, no_member}
use Rattle.js_parser.specs.FlagScans.{has_both}
use Rattle.js_parser.specs.declared.early.Position.{Position}
use Rattle.js_parser.specs.declared.early.Position.TheVariants.{Anywhere, InTemplate}
use Rattle.js_parser.specs.Leftover.{told_at, leftover, with_leftover}
use Rattle.js_parser.specs.NodeSpans.{SlotsLie}
use Rattle.js_core.specs.Readings.{parameters, AreRead, from_text_start, behind_a_hashbang, ReadingBy, IsOnlyReadingBy, HasNoReadingBy, IsOnlyReading, HasNoReading}
use Rattle.js_parser.proofs.BuiltTrees.{derived_fine, named_fine}
use Rattle.js_parser.proofs.EarlyErrors.{none_broken, nothing_told}
use Rattle.js_core.proofs.Lists.{first_empty}
use Rattle.js_parser.proofs.EarlyMarks.{told_marked}

module _ {text : List ℕ} {goal : Goal} {o : Options} where
  -- a strict reading is one by the cover grammar
  abbrev pub covered : {t : Tree} → ReadingBy false text goal o t → ReadingBy true text goal o t
  covered {t} r = record { lexemes = r.lexemes; lexed = r.lexed; place = r.place; final = r.final; is_end = r.is_end; derived = program_loosely (parameters goal o) t 0 r.place r.lexemes (last r.final) r.derived }

  -- what isn't derived by the cover grammar is no reading
  pub none_read : HasNoReadingBy true text goal o → HasNoReading text goal o
  none_read n t r = n t (covered r.strict)

  -- and the other way round, where no shorthand has an initialiser
  only_strict : {t : Tree} → initialised_in (tree t.label t.slots end) ≡ [] → IsOnlyReadingBy true text goal o t → IsOnlyReadingBy false text goal o t
  only_strict {t} e x = let r = x.reading in record {
    reading = record { lexemes = r.lexemes; lexed = r.lexed; place = r.place; final = r.final; is_end = r.is_end; derived = program_strictly (parameters goal o) t 0 r.place r.lexemes (last r.final) r.derived e };
    only = λ u r. x.only u (covered r);
  }

  -- and no rule is broken
  pub only_read : {t : Tree} → told_in text Anywhere (tree t.label t.slots end) ≡ [] → initialised_in (tree t.label t.slots end) ≡ [] → IsOnlyReadingBy true text goal o t → IsOnlyReading text goal o t
  only_read {t} b e x = let y = only_strict e x in record {
    reading = record { strict = y.reading; early = none_broken text t (named_fine (tree t.label t.slots end) (derived_fine (at Program (with_cover true (parameters goal o))) t refl ((x.reading).derived))) b };
    only = λ u r. y.only u r.strict;
  }

  -- where one of either is left, the text has no reading
  pub none_leftover : {t : Tree} → (told_in text Anywhere (tree t.label t.slots end) ≡ [] → initialised_in (tree t.label t.slots end) ≡ [] → ⊥) → IsOnlyReadingBy true text goal o t → HasNoReading text goal o
  none_leftover {t} n x u r =
      let e = (x.only u (covered r.strict)).0 in
      n (subst (λ (v : Tree). told_in text Anywhere (tree v.label v.slots end) ≡ []) e (nothing_told text u r.early))
      (subst (λ (v : Tree). initialised_in (tree v.label v.slots end) ≡ []) e (strict_has_none Program (with_cover false (parameters goal o)) refl refl u r.strict.derived))

  -- what was kept is of the lexemes of a strict reading too
  pub kept_strict : {t : Tree} (r : ReadingBy false text goal o t) (asks : Bool) (out : LexerOutput) → IsKeptOf (covered r) asks out → IsKeptOf r asks out
  kept_strict r asks out k = record { comments = k.comments; blanks = k.blanks; tokens = k.tokens }

-- ---- marks

led_behind : (text : List ℕ) (goal : Goal) (s : ℕ) (ls : Lexemes) → Reached text s → Lexes (Faultless goal text) s ls → Lexes (Led text) s ls
led_behind text goal s (last x) r l = (r, (faults_aside goal l).0)
led_behind text goal s (next x ls) r l = let z = (faults_aside goal l.0).0 in ((r, z), led_behind text goal x.to ls (reached_next r z) l.1)

led_read : (text : List ℕ) (goal : Goal) (ls : Lexemes) → AreRead text goal ls → Lexes (Led text) 0 ls
led_read text goal ls (from_text_start l) = led_behind text goal 0 ls (inl refl) l
led_read text goal ls (behind_a_hashbang b) = subst (λ (v : Lexemes). Lexes (Led text) 0 v) (sym b.is) ((inl refl, b.stands.lex), led_behind text goal b.comment.to b.others (reached_next (inl refl) b.stands.lex) b.lexed)

pub spans_marked : {text : List ℕ} {goal : Goal} {o : Options} {t : Tree} → ReadingBy true text goal o t → All (Marked text) (initialised_in (tree t.label t.slots end))
spans_marked {text} {goal} {o} {t} r = initialisers_marked text (with_cover true (parameters goal o)) refl t (led_read text goal r.lexemes r.lexed) r.derived

pub early_marked : {text : List ℕ} {goal : Goal} {o : Options} {t : Tree} → IsUtf8 text → ReadingBy true text goal o t → SlotsLie text t.slots → All (Mark goal text) (told_in text Anywhere t.slots)
early_marked {text} {goal} {o} {t} u r h = told_marked goal text (with_cover true (parameters goal o)) t u (led_read text goal r.lexemes r.lexed) r.derived h

-- the spans of nodes lie in the text
abbrev Lies : List ℕ → TreeSpan → Type 0
Lies text s = LiesIn (placed s) text

each_lies : (text : List ℕ) (cs : Slots) → SlotsLie text cs → Each (Lies text) cs
each_lies text end h = tt
each_lies text (hole us) h = each_lies text us h
each_lies text (tree l cs us) h = (λ q. h.0, (each_lies text cs h.1, each_lies text us h.2))

pub spans_lie : (text : List ℕ) (cs : Slots) → SlotsLie text cs → All (λ (s : TreeSpan). LiesIn (placed s) text) (initialised_in cs)
spans_lie text cs h = each_listed (Lies text) cs (each_lies text cs h)

-- two facts of each
both : {X : Type 0} (P Q : X → Type 0) (xs : List X) → All P xs → All Q xs → All (λ x. P x × Q x) xs
both P Q [] a b = All-nil (λ x. P x × Q x)
both P Q (x ∷ xs) a b = All-cons (λ x. P x × Q x) x xs (All-head P x xs a, All-head Q x xs b) (both P Q xs (All-tail P x xs a) (All-tail Q x xs b))

-- nothing is told of Program itself
pub in_program : (t : Tree) → t.label.kind ≡ program → initialised_in (tree t.label t.slots end) ≡ initialised_in t.slots
in_program t k = rw k (append-nil (initialised_in t.slots))

pub told_in_program : (text : List ℕ) (s : Span) (cs : Slots) → told_in text Anywhere (tree (program_tree s cs).label cs end) ≡ told_in text Anywhere cs
told_in_program text s cs = ap (λ (v : Option Diagnostic). (told_fault v ++ []) ++ (told_in text Anywhere cs ++ [])) (no_member text (program_tree s cs).label cs refl) ∙ append-nil (told_in text Anywhere cs)

-- what is told of the shorthands has its mark
module _ (goal : Goal) (text : List ℕ) where
  covers_marked : (spans : List TreeSpan) → All (Marked text) spans → All (Lies text) spans → All (Mark goal text) (told_at CoverInitializedName (map made spans))
  covers_marked spans m l = All-map (Mark goal text) (unrelated_at CoverInitializedName) (map made spans) (All-map (λ (s : Span). Mark goal text (unrelated_at CoverInitializedName s)) made spans (All-weaker (λ (s : TreeSpan). Marked text s × Lies text s) (λ (s : TreeSpan). Mark goal text (unrelated_at CoverInitializedName (made s))) one spans (both (Marked text) (Lies text) spans m l)))
    where
      one : (s : TreeSpan) → Marked text s × Lies text s → Mark goal text (unrelated_at CoverInitializedName (made s))
      one s h = record { ordered = h.1.ordered; within = h.1.ends_whole.0; begins_between = h.1.starts_whole; ends_between = h.1.ends_whole; stands = (h.0, (refl, refl)) }

  pub leftover_marked : (early : List Diagnostic) (covers : List TreeSpan) → All (Mark goal text) early → All (Marked text) covers → All (Lies text) covers → All (Mark goal text) (leftover early (map made covers))
  leftover_marked early covers e m l = All-append (Mark goal text) early (told_at CoverInitializedName (map made covers)) e (covers_marked covers m l)

-- each is of the class Early
rule_early : (p : Position) (k : NodeKind) (w : List ℕ) (s : Span) → All IsEarly (told_rule (broken_rule p k w) s)
rule_early p reg_exp_literal w s = one_early (has_both w)
  where
    one_early : (b : Bool) → All IsEarly (told_rule (cond b (Some RegExpFlagUAndV) None) s)
    one_early true = All-cons IsEarly (unrelated_at RegExpFlagUAndV s) [] refl (All-nil IsEarly)
    one_early false = All-nil IsEarly
rule_early InTemplate template_element w s = one_early (is_some (cooked w))
  where
    one_early : (b : Bool) → All IsEarly (told_rule (cond b None (Some TemplateLiteral)) s)
    one_early true = All-nil IsEarly
    one_early false = All-cons IsEarly (unrelated_at TemplateLiteral s) [] refl (All-nil IsEarly)
rule_early p k w s = All-nil IsEarly

again_early : (k : Label) (o : Option Label) → All IsEarly (told_again k o)
again_early k None = All-nil IsEarly
again_early k (Some b) = All-cons IsEarly (record { kind = Redeclaration; span = made k.span; first = Some (made b.span); second = None }) [] refl (All-nil IsEarly)

keys_early : (text : List ℕ) (before ks : List Label) → All IsEarly (told_keys text before ks)
keys_early text before [] = All-nil IsEarly
keys_early text before (k ∷ ks) = All-append IsEarly (told_again k (same_before text before k)) (told_keys text (k ∷ before) ks) (again_early k (same_before text before k)) (keys_early text (k ∷ before) ks)

of_keys_early : (text : List ℕ) (k : NodeKind) (ks : List Label) → All IsEarly (told_of_keys text k ks)
of_keys_early text with_clause ks = keys_early text [] ks
of_keys_early text k ks = All-nil IsEarly

pub all_early : (text : List ℕ) (p : Position) (us : Slots) → All IsEarly (told_in text p us)
all_early text p end = All-nil IsEarly
all_early text p (hole us) = all_early text p us
all_early text p (tree l cs us) =
    All-append IsEarly (told_here text p l cs) (told_in text (within p l.kind) cs ++ told_in text (past p) us)
    (All-append IsEarly (told_rule (broken_rule p l.kind (characters_at text l)) (made l.span)) (told_fault (name_fault text l cs) ++ told_of_keys text l.kind (keys_in cs)) (rule_early p l.kind (characters_at text l) (made l.span))
    (All-append IsEarly (told_fault (name_fault text l cs)) (told_of_keys text l.kind (keys_in cs)) (each_told IsEarly (λ s. refl) (λ s. refl) (λ s. refl) (λ s. refl) (λ s. refl) (λ s. refl) (λ s. refl) text l cs) (of_keys_early text l.kind (keys_in cs))))
    (All-append IsEarly (told_in text (within p l.kind) cs) (told_in text (past p) us) (all_early text (within p l.kind) cs) (all_early text (past p) us))

told_early : (kind : DiagnosticKind) → class_of kind ≡ Early → (spans : List Span) → All IsEarly (told_at kind spans)
told_early kind e [] = All-nil IsEarly
told_early kind e (s ∷ ss) = All-cons IsEarly (unrelated_at kind s) (told_at kind ss) e (told_early kind e ss)

pub leftover_early : (early : List Diagnostic) (covers : List Span) → All IsEarly early → All IsEarly (leftover early covers)
leftover_early early covers h = All-append IsEarly early (told_at CoverInitializedName covers) h (told_early CoverInitializedName refl covers)

-- nothing is told only where nothing was found before
pub none_before : (found early : List Diagnostic) (covers : List Span) → with_leftover found early covers ≡ [] → found ≡ []
none_before [] early covers e = refl
none_before (d ∷ ds) early covers e = absurd (cc)

-- and nothing is left
told_none : (kind : DiagnosticKind) (spans : List TreeSpan) → told_at kind (map made spans) ≡ [] → spans ≡ []
told_none kind [] e = refl
told_none kind (s ∷ ss) e = absurd (cc)

pub leftover_none : (early : List Diagnostic) (covers : List TreeSpan) → leftover early (map made covers) ≡ [] → (early ≡ []) × (covers ≡ [])
leftover_none early covers e = (first_empty early (told_at CoverInitializedName (map made covers)) e, told_none CoverInitializedName covers (ending early (told_at CoverInitializedName (map made covers)) e))
