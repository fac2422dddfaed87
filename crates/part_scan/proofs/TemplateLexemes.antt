-- Template parts as lexemes, and texts in which none ends.
use Rattle.std.proofs.Common.{◌≡◌, ℕ, ◌+◌, Bool, true, false, List, [], ◌∷◌, ◌++◌, refl, sym, ap, subst, ◌∙◌, length, Option, Some, None, not, ◌||◌, ◌==◌, arith}
use Rattle.std.proofs.lemmas.List.{append-nil}
use Rattle.std.specs.Prelude.{IsCharBoundary, cond, is_some}
use Rattle.js_base.specs.declared.kind.Kind.{Kind}
use Rattle.js_base.specs.declared.kind.Kind.TheVariants.{NoSubstitutionTemplate, TemplateHead, TemplateMiddle, TemplateTail}
use Rattle.js_base.specs.declared.diagnostic.DiagnosticKind.{DiagnosticKind}
use Rattle.js_base.specs.Texts.{words}
use Rattle.part_words.specs.js_grammar.Longest.{Class, longest, none_longer, none_begins}
use Rattle.part_words.specs.js_grammar.Numbers.{is_number, stops_number}
use Rattle.part_words.specs.js_grammar.Templates.{closes_template, part_kind, template_kind, template_tail_kind}
use Rattle.part_words.specs.js_grammar.Lexemes.{LexicalGoal, division, template_tail, is_escaped, is_separated, a_template}
use Rattle.part_words.specs.js_grammar.Lexed.{IsLexeme}
use Rattle.part_words.specs.js_grammar.LexicalFaults.{behind, Stopping, Unterminated, is_open_part, is_part}
use Rattle.part_words.proofs.js_grammar.LongestLemmas.{both}
use Rattle.part_words.proofs.js_grammar.CoreLemmas.{none_longer-from}
use Rattle.part_words.specs.declared.scan.Scanned.{Scanned}
use Rattle.part_words.specs.declared.scan.Fault.{Fault}
use Rattle.part_scan.specs.declared.template.PartEnd.{PartEnd}
use Rattle.part_words.specs.Places.{Word}
use Rattle.part_words.specs.Scans.{IsScanned, IsStopped, NoLexeme}
use Rattle.part_scan.specs.TemplateParts.{Ended, Endless, IsPart, IsUnended}
use Rattle.part_words.proofs.Places.{then}
use Rattle.part_words.proofs.Plain.{is_lexeme, no_lexeme}
use Rattle.part_scan.proofs.TemplateParts.{no_more}
use Rattle.part_words.specs.Faults.{fault_kind, Reaches}
use Rattle.js_base.specs.declared.diagnostic.DiagnosticKind.TheVariants.{UnterminatedTemplate}

-- the kind of characters behind an opening, by how they end
abbrev pub PartKinds : (List ℕ → Option Kind) → ℕ → Kind → Kind → Type 0
PartKinds kind q closing opening = (cs : List ℕ) → kind (q ∷ cs) ≡ part_kind closing opening (closes_template false false cs)

abbrev of_kind : (List ℕ → Option Kind) → Class
of_kind kind w rest = is_some (kind w)

kind_of_part : (closing opening : Kind) (o : Bool) → part_kind closing opening (Some o) ≡ Some (cond o opening closing)
kind_of_part closing opening true = refl
kind_of_part closing opening false = refl

-- what ends a part makes it the longest one
longest_part : (kind : List ℕ → Option Kind) (q : ℕ) (closing opening : Kind) → PartKinds kind q closing opening → (inside rest : List ℕ) (o : Bool) → closes_template false false inside ≡ Some o → longest (of_kind kind) (q ∷ inside) rest ≡ true
longest_part kind q closing opening p inside rest o h =
    both (is_some (kind (q ∷ inside))) (none_longer (of_kind kind) (q ∷ inside) rest)
    (ap is_some (p inside ∙ ap (part_kind closing opening) h ∙ kind_of_part closing opening o))
    (none_longer-from (of_kind kind) (q ∷ inside) rest (λ c x more e. ap is_some (p (inside ++ c ∷ x) ∙ ap (part_kind closing opening) (no_more false false inside c x o h))))

kind_is : (kind : List ℕ → Option Kind) (q : ℕ) (closing opening : Kind) → PartKinds kind q closing opening → (inside : List ℕ) (o : Bool) → closes_template false false inside ≡ Some o → kind (q ∷ inside) ≡ Some (cond o opening closing)
kind_is kind q closing opening p inside o h = p inside ∙ ap (part_kind closing opening) h ∙ kind_of_part closing opening o

unescaped : (o : Bool) (w : List ℕ) → false ≡ is_escaped (cond o TemplateHead NoSubstitutionTemplate) w
unfolding words
unescaped true w = refl
unescaped false w = refl

unescaped_tail : (o : Bool) (w : List ℕ) → false ≡ is_escaped (cond o TemplateMiddle TemplateTail) w
unfolding words
unescaped_tail true w = refl
unescaped_tail false w = refl

unseparated : (o : Bool) (w : List ℕ) → false ≡ is_separated (cond o TemplateHead NoSubstitutionTemplate) w
unseparated true w = refl
unseparated false w = refl

unseparated_tail : (o : Bool) (w : List ℕ) → false ≡ is_separated (cond o TemplateMiddle TemplateTail) w
unseparated_tail true w = refl
unseparated_tail false w = refl

no_number : (o : Bool) (rest : List ℕ) → (not (is_number (cond o TemplateHead NoSubstitutionTemplate)) || stops_number rest) ≡ true
no_number true rest = refl
no_number false rest = refl

no_number_tail : (o : Bool) (rest : List ℕ) → (not (is_number (cond o TemplateMiddle TemplateTail)) || stops_number rest) ≡ true
no_number_tail true rest = refl
no_number_tail false rest = refl

stands_whole : {text : List ℕ} {i q : ℕ} {p : PartEnd} (s : Scanned) → s.end ≡ p.end → Word text i (i + 1) (q ∷ []) → (e : Ended text (i + 1) p) → Word text i s.end (q ∷ e.inside)
stands_whole {text = text} {i = i} {q = q} s h w e = subst (λ (n : ℕ). Word text i n (q ∷ e.inside)) (sym h) (then w e.stands)

-- a part behind a backquote
pub is_template : {text : List ℕ} {i : ℕ} {p : PartEnd} {s : Scanned} → IsPart s p NoSubstitutionTemplate TemplateHead → Word text i (i + 1) (96 ∷ []) → Ended text (i + 1) p → IsScanned division text i s
is_template {text = text} {i = i} {p = p} {s = s} is w e =
    let o : Bool = p.opens_substitution in
    record {
      word = 96 ∷ e.inside;
      stands = stands_whole s is.end w e;
      lexeme = subst (λ (k : Kind). IsLexeme division i (96 ∷ e.inside) (behind text s.end) k) (sym is.kind)
          (is_lexeme a_template i 96 e.inside (behind text s.end) (cond o TemplateHead NoSubstitutionTemplate) (λ d. refl)
          (longest_part template_kind 96 NoSubstitutionTemplate TemplateHead (λ cs. refl) e.inside (behind text s.end) o e.closed)
          (kind_is template_kind 96 NoSubstitutionTemplate TemplateHead (λ cs. refl) e.inside o e.closed)
          (no_number o (behind text s.end)));
      escaped = is.escaped ∙ unescaped o (96 ∷ e.inside) ∙ ap (λ (k : Kind). is_escaped k (96 ∷ e.inside)) (sym is.kind);
      separated = is.has_separator ∙ unseparated o (96 ∷ e.inside) ∙ ap (λ (k : Kind). is_separated k (96 ∷ e.inside)) (sym is.kind);
    }

-- a part behind a right brace
pub is_template_tail : {text : List ℕ} {i : ℕ} {p : PartEnd} {s : Scanned} → IsPart s p TemplateTail TemplateMiddle → Word text i (i + 1) (125 ∷ []) → Ended text (i + 1) p → IsScanned template_tail text i s
is_template_tail {text = text} {i = i} {p = p} {s = s} is w e =
    let o : Bool = p.opens_substitution in
    record {
      word = 125 ∷ e.inside;
      stands = stands_whole s is.end w e;
      lexeme = subst (λ (k : Kind). IsLexeme template_tail i (125 ∷ e.inside) (behind text s.end) k) (sym is.kind) (record {
        longest = longest_part template_tail_kind 125 TemplateTail TemplateMiddle (λ cs. refl) e.inside (behind text s.end) o e.closed;
        kind = kind_is template_tail_kind 125 TemplateTail TemplateMiddle (λ cs. refl) e.inside o e.closed;
        begins = refl;
        apart = no_number_tail o (behind text s.end);
      });
      escaped = is.escaped ∙ unescaped_tail o (125 ∷ e.inside) ∙ ap (λ (k : Kind). is_escaped k (125 ∷ e.inside)) (sym is.kind);
      separated = is.has_separator ∙ unseparated_tail o (125 ∷ e.inside) ∙ ap (λ (k : Kind). is_separated k (125 ∷ e.inside)) (sym is.kind);
    }

no_template : (c : ℕ) (x : List ℕ) → closes_template false false x ≡ None → template_kind (c ∷ x) ≡ None
no_template c x h = go (c == 96)
  where
    go : (b : Bool) → elim b as (λ _. Option Kind) [ true ↦ part_kind NoSubstitutionTemplate TemplateHead (closes_template false false x) | false ↦ None ] ≡ None
    go true = ap (part_kind NoSubstitutionTemplate TemplateHead) h
    go false = refl

no_template_tail : (c : ℕ) (x : List ℕ) → closes_template false false x ≡ None → template_tail_kind (c ∷ x) ≡ None
no_template_tail c x h = go (c == 125)
  where
    go : (b : Bool) → elim b as (λ _. Option Kind) [ true ↦ part_kind TemplateTail TemplateMiddle (closes_template false false x) | false ↦ None ] ≡ None
    go true = ap (part_kind TemplateTail TemplateMiddle) h
    go false = refl

no_part : (c : ℕ) (x more : List ℕ) → closes_template false false x ≡ None → is_part (c ∷ x) more ≡ false
no_part c x more h = rw (no_template c x h, no_template_tail c x h) refl

never_part : (q : ℕ) (cs : List ℕ) → ((w rest : List ℕ) → cs ≡ w ++ rest → closes_template false false w ≡ None) → none_begins is_part (q ∷ cs) ≡ true
never_part q cs f = none_longer-from is_part [] (q ∷ cs) (λ c x more e. no_part c x more (f x more (let k = e in cc)))

unended : (text : List ℕ) (i q : ℕ) → is_open_part (q ∷ []) [] ≡ true → Word text i (i + 1) (q ∷ []) → Endless text (i + 1) → Unterminated is_open_part is_part text i (length text)
unended text i q o w e =
    let whole : Word text i (length text) (q ∷ behind text (i + 1)) = then w e.stands in
    record {
      word = q ∷ behind text (i + 1);
      rest = [];
      here = w.splits ∙ sym (append-nil (q ∷ behind text (i + 1)));
      opened = both (is_open_part (q ∷ behind text (i + 1)) []) true o refl;
      never = subst (λ (y : List ℕ). none_begins is_part y ≡ true) (sym (append-nil (q ∷ behind text (i + 1)))) (never_part q (behind text (i + 1)) e.none);
      end = whole.end;
    }

stopped : (goal : LexicalGoal) (text : List ℕ) (i q : ℕ) (f : Fault) → IsUnended text i f → ((cs : List ℕ) → fault_kind (q ∷ cs) ≡ UnterminatedTemplate) → NoLexeme goal text i → is_open_part (q ∷ []) [] ≡ true → IsCharBoundary text i → Word text i (i + 1) (q ∷ []) → Endless text (i + 1) → IsStopped goal text i f
stopped goal text i q f is told none o b w e =
    let s = is.start in
    let l = is.end in
    let within = w.boundary.0 in
    record {
      none = none;
      condition = subst (λ (k : DiagnosticKind). Stopping k text i f.start f.end) (sym is.kind) (is.start, subst (λ (n : ℕ). Unterminated is_open_part is_part text i n) (sym is.end) (unended text i q o w e));
      follows = omega arith;
      ordered = omega arith;
      begins_between = subst (λ (n : ℕ). IsCharBoundary text n) (sym is.start) b;
      ends_between = subst (λ (n : ℕ). IsCharBoundary text n) (sym is.end) e.stands.boundary;
      told = is.kind ∙ sym (ap fault_kind w.splits ∙ told (behind text (i + 1)));
      reaches = subst (λ (k : DiagnosticKind). Reaches k text f.start f.end) (sym is.kind) tt;
    }

-- no part behind a backquote
pub no_template_ends : {text : List ℕ} {i : ℕ} {f : Fault} → IsUnended text i f → IsCharBoundary text i → Word text i (i + 1) (96 ∷ []) → Endless text (i + 1) → IsStopped division text i f
no_template_ends {text = text} {i = i} {f = f} is b w e =
    stopped division text i 96 f is (λ cs. refl) (no_lexeme a_template text i 96 (behind text (i + 1)) (λ d. refl) w.splits (λ v more k s l h a. let n = no_template 96 v (e.none v more s) in cc)) refl b w e

-- no part behind a right brace
pub no_template_tail_ends : {text : List ℕ} {i : ℕ} {f : Fault} → IsUnended text i f → IsCharBoundary text i → Word text i (i + 1) (125 ∷ []) → Endless text (i + 1) → IsStopped template_tail text i f
no_template_tail_ends {text = text} {i = i} {f = f} is b w e =
    stopped template_tail text i 125 f is (λ cs. refl) none refl b w e
  where
    none : NoLexeme template_tail text i
    none [] rest k s l = let h = l.kind in cc
    none (c ∷ v) more k s l =
        let g : 125 ∷ behind text (i + 1) ≡ c ∷ v ++ more = sym w.splits ∙ s in
        let left : behind text (i + 1) ≡ v ++ more = cc in
        let n = no_template_tail c v (e.none v more left) in
        let h = l.kind in
        cc
