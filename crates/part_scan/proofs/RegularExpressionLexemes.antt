-- Regular expressions as lexemes, and lines in which none ends.
use Rattle.std.proofs.Common.{◌≡◌, ℕ, ◌+◌, Bool, true, false, List, [], ◌∷◌, ◌++◌, refl, sym, ap, subst, ◌∙◌, append_assoc, Option, Some, None, not, ◌&&◌, ◌==◌, arith}
use Rattle.std.specs.Prelude.{IsCharBoundary, is_some, codes}
use Rattle.std.specs.List.{list_all}
use Rattle.std.proofs.lemmas.Bool.{eqb-true}
use Rattle.std.proofs.lemmas.List.{append-nil}
use Rattle.js_base.specs.declared.kind.Kind.{Kind}
use Rattle.js_base.specs.declared.kind.Kind.TheVariants.{RegExp}
use Rattle.js_base.specs.declared.diagnostic.DiagnosticKind.TheVariants.{UnterminatedRegexp, UnterminatedComment}
use Rattle.js_base.specs.Texts.{words}
use Rattle.js_base.specs.part_text.Characters.{one_of, is_line_terminator}
use Rattle.part_words.specs.js_grammar.Characters.{is_identifier_part, begins}
use Rattle.part_words.specs.js_grammar.Trivia.{within_line}
use Rattle.part_words.specs.js_grammar.Longest.{longest, none_longer, none_begins}
use Rattle.part_words.specs.js_grammar.Lexemes.{regular_expression, lexemes_in, is_escaped}
use Rattle.part_words.specs.js_grammar.LexicalFaults.{behind, Unterminated, is_open_pattern, is_open_regular_expression}
use Rattle.part_words.specs.js_grammar.RegularExpressions.{behind_pattern, flags, flagged, regular_expression_kind}
use Rattle.part_words.proofs.js_grammar.LongestLemmas.{both}
use Rattle.part_words.proofs.js_grammar.CoreLemmas.{none_longer-from}
use Rattle.part_words.proofs.js_grammar.QuickLexemes.{pattern_longer}
use Rattle.part_words.specs.Places.{Word}
use Rattle.part_words.specs.Scans.{IsStopped, NoLexeme}
use Rattle.part_scan.specs.RegularExpressionParts.{Pattern, OpenPattern, IsRegularExpression, ends_bracketed}
use Rattle.part_words.proofs.Places.{then}
use Rattle.part_words.proofs.Fronts.{not_all}
use Rattle.part_words.specs.Faults.{PartsEnd, fault_kind}

-- the pattern that a list begins with, and nothing of a comment, give the flags behind the slash
flags_of : (p fs rest : List ℕ) → ((v : List ℕ) → behind_pattern false false (p ++ v) ≡ Some v) → begins (one_of (codes "*/")) (p ++ rest) ≡ false → flags (47 ∷ (p ++ fs)) ≡ Some fs
flags_of [] fs rest f h = absurd (let k : None ≡ Some [] = f [] in cc)
flags_of (c ∷ p) fs rest f h = chosen (one_of (codes "*/") c) h
  where
    chosen : (b : Bool) → b ≡ false → elim ((47 == 47) && not b) as (λ _. Option (List ℕ)) [ true ↦ behind_pattern false false (c ∷ (p ++ fs)) | false ↦ None ] ≡ Some fs
    chosen true e = absurd (let k = e in cc)
    chosen false e = f fs

abbrev if_named : Bool → Option Kind
if_named b = elim b [ true ↦ Some RegExp | false ↦ None ]

kind_of_flags : (w fs : List ℕ) → flags w ≡ Some fs → list_all is_identifier_part fs ≡ true → regular_expression_kind w ≡ Some RegExp
kind_of_flags w fs h a = ap flagged h ∙ ap if_named a

no_kind_of_flags : (w fs : List ℕ) → flags w ≡ Some fs → list_all is_identifier_part fs ≡ false → regular_expression_kind w ≡ None
no_kind_of_flags w fs h a = ap flagged h ∙ ap if_named a

-- as many name characters as follow make it the longest one
longest_flags : (p fs rest : List ℕ) → ((v : List ℕ) → behind_pattern false false (p ++ v) ≡ Some v) → begins (one_of (codes "*/")) (p ++ (fs ++ rest)) ≡ false → list_all is_identifier_part fs ≡ true → begins is_identifier_part rest ≡ false → longest (lexemes_in regular_expression) (47 ∷ (p ++ fs)) rest ≡ true
longest_flags p fs rest f h a n =
    both (lexemes_in regular_expression (47 ∷ (p ++ fs)) rest) (none_longer (lexemes_in regular_expression) (47 ∷ (p ++ fs)) rest)
    (ap is_some (kind_of_flags (47 ∷ (p ++ fs)) fs (flags_of p fs (fs ++ rest) f h) a))
    (none_longer-from (lexemes_in regular_expression) (47 ∷ (p ++ fs)) rest (λ d x more e. ap is_some (longer d x (sym (ap (begins is_identifier_part) e) ∙ n))))
  where
    longer : (d : ℕ) (x : List ℕ) → is_identifier_part d ≡ false → regular_expression_kind ((47 ∷ (p ++ fs)) ++ d ∷ x) ≡ None
    longer d x g =
        ap (λ (v : List ℕ). regular_expression_kind (47 ∷ v)) (append_assoc p fs (d ∷ x))
        ∙ no_kind_of_flags (47 ∷ (p ++ (fs ++ d ∷ x))) (fs ++ d ∷ x) (flags_of p (fs ++ d ∷ x) (fs ++ rest) f h) (not_all is_identifier_part fs d x g)

unescaped : (w : List ℕ) → false ≡ is_escaped RegExp w
unfolding words
unescaped w = refl

pub is_regular_expression : {text : List ℕ} {i j k : ℕ} → Word text i (i + 1) (47 ∷ []) → begins (one_of (codes "*/")) (behind text (i + 1)) ≡ false → Pattern text (i + 1) j → PartsEnd false text j k → IsRegularExpression text i (record { pattern_end = j; end = k })
is_regular_expression {text = text} {i = i} {j = j} {k = k} w h p f =
    let rest : List ℕ = behind text k in
    let no_comment : begins (one_of (codes "*/")) (p.word ++ (f.word ++ rest)) ≡ false = ap (begins (one_of (codes "*/"))) (sym (p.stands.splits ∙ ap (λ (v : List ℕ). p.word ++ v) f.stands.splits)) ∙ h in
    let has : flags (47 ∷ (p.word ++ f.word)) ≡ Some f.word = flags_of p.word f.word (f.word ++ rest) p.ended no_comment in
    record {
      scanned = record {
        word = 47 ∷ (p.word ++ f.word);
        stands = then w (then p.stands f.stands);
        lexeme = record {
          longest = longest_flags p.word f.word rest p.ended no_comment f.pass f.no_more;
          kind = kind_of_flags (47 ∷ (p.word ++ f.word)) f.word has f.pass;
          begins = refl;
          apart = refl;
        };
        escaped = unescaped (47 ∷ (p.word ++ f.word));
        separated = refl;
      };
      flags_word = f.word;
      has_flags = has;
      flags_stand = f.stands;
    }

abbrev chosen : Bool → Bool → List ℕ → Option (List ℕ) → Option (List ℕ)
chosen p q cs r = elim p [ true ↦ None | false ↦ elim q [ true ↦ Some cs | false ↦ r ] ]

abbrev brackets_behind : Bool → Bool → ℕ → Bool
brackets_behind b e c = elim e [ true ↦ b | false ↦ ends_bracketed b c ]

-- where nothing ends a pattern, no front of it is one
no_front : (w rest : List ℕ) → behind_pattern false false (w ++ rest) ≡ None → behind_pattern false false w ≡ None
no_front w rest n = go (behind_pattern false false w) refl
  where
    go : (o : Option (List ℕ)) → behind_pattern false false w ≡ o → behind_pattern false false w ≡ None
    go None h = h
    go (Some r) h = absurd (let k : None ≡ Some (r ++ rest) = sym n ∙ pattern_longer false false w rest r h in cc)

no_flags : (c : ℕ) (w : List ℕ) → behind_pattern false false w ≡ None → flags (c ∷ w) ≡ None
no_flags c [] h = refl
no_flags c (d ∷ w) h = go ((c == 47) && not (one_of (codes "*/") d))
  where
    go : (b : Bool) → elim b as (λ _. Option (List ℕ)) [ true ↦ behind_pattern false false (d ∷ w) | false ↦ None ] ≡ None
    go true = h
    go false = refl

no_kind : (cs : List ℕ) → behind_pattern false false cs ≡ None → (c : ℕ) (w rest : List ℕ) → cs ≡ w ++ rest → regular_expression_kind (c ∷ w) ≡ None
no_kind cs n c w rest e = ap flagged (no_flags c w (no_front w rest (ap (λ (v : List ℕ). behind_pattern false false v) (sym e) ∙ n)))

never_ends : (cs : List ℕ) → behind_pattern false false cs ≡ None → none_begins (lexemes_in regular_expression) (47 ∷ cs) ≡ true
never_ends cs n = none_longer-from (lexemes_in regular_expression) [] (47 ∷ cs) (λ c x more e. ap is_some (no_kind cs n c x more (let k = e in cc)))

no_star : (w rest : List ℕ) → begins (one_of (codes "*/")) (w ++ rest) ≡ false → begins (λ c. c == 42) w ≡ false
no_star [] rest h = refl
no_star (c ∷ w) rest h = go (c == 42) refl
  where
    go : (b : Bool) → (c == 42) ≡ b → (c == 42) ≡ false
    go false e = e
    go true e = absurd (let t : one_of (codes "*/") 42 ≡ false = subst (λ (x : ℕ). one_of (codes "*/") x ≡ false) (eqb-true c 42 e) h in let k : true ≡ false = t in cc)

-- as far as the line goes, the opening of a regular expression stands
longest_open : (w rest : List ℕ) → within_line w ≡ true → begins (one_of (codes "*/")) (w ++ rest) ≡ false → begins (λ c. not (is_line_terminator c)) rest ≡ false → longest is_open_regular_expression (47 ∷ w) rest ≡ true
longest_open w rest a h l =
    both (is_open_regular_expression (47 ∷ w) rest) (none_longer is_open_regular_expression (47 ∷ w) rest)
    (both (within_line w) (not (begins (λ c. c == 42) w)) a (let e = no_star w rest h in rw e refl))
    (none_longer-from is_open_regular_expression (47 ∷ w) rest (λ d x more e. longer d x (sym (ap (begins (λ c. not (is_line_terminator c))) e) ∙ l)))
  where
    longer : (d : ℕ) (x : List ℕ) → not (is_line_terminator d) ≡ false → is_open_pattern (w ++ d ∷ x) ≡ false
    longer d x g = let e = not_all (λ c. not (is_line_terminator c)) w d x g in rw e refl

unterminated : {text : List ℕ} {i j : ℕ} → Word text i (i + 1) (47 ∷ []) → begins (one_of (codes "*/")) (behind text (i + 1)) ≡ false → OpenPattern text (i + 1) j → Unterminated is_open_regular_expression (lexemes_in regular_expression) text i j
unterminated {text = text} {i = i} {j = j} w h o =
    let whole : Word text i j (47 ∷ o.word) = then w o.stands in
    record {
      word = 47 ∷ o.word;
      rest = behind text j;
      here = whole.splits;
      opened = longest_open o.word (behind text j) o.within (ap (begins (one_of (codes "*/"))) (sym o.stands.splits) ∙ h) o.line_ends;
      never = subst (λ (v : List ℕ). none_begins (lexemes_in regular_expression) (47 ∷ v) ≡ true) o.stands.splits (never_ends (behind text (i + 1)) o.endless);
      end = whole.end;
    }

none_here : {text : List ℕ} {i j : ℕ} → Word text i (i + 1) (47 ∷ []) → OpenPattern text (i + 1) j → NoLexeme regular_expression text i
none_here {text = text} {i = i} o p [] rest k s l = let h = l.kind in cc
none_here {text = text} {i = i} o p (c ∷ w) rest k s l =
    let g : 47 ∷ behind text (i + 1) ≡ c ∷ w ++ rest = sym o.splits ∙ s in
    let left : behind text (i + 1) ≡ w ++ rest = cc in
    let n = no_kind (behind text (i + 1)) p.endless c w rest left in
    let h = l.kind in
    cc

pub is_open : {text : List ℕ} {i j : ℕ} → IsCharBoundary text i → Word text i (i + 1) (47 ∷ []) → begins (one_of (codes "*/")) (behind text (i + 1)) ≡ false → OpenPattern text (i + 1) j → IsStopped regular_expression text i (record { kind = UnterminatedRegexp; start = i; end = j })
is_open {text = text} {i = i} {j = j} b w h o = record {
  none = none_here w o;
  condition = (refl, unterminated w h o);
  follows = omega arith;
  ordered = let e = o.stands.end in omega arith;
  begins_between = b;
  ends_between = o.stands.boundary;
  told = sym (ap fault_kind w.splits ∙ ap (λ (s : Bool). elim s [ true ↦ UnterminatedComment | false ↦ UnterminatedRegexp ]) (no_star (behind text (i + 1)) [] (ap (begins (one_of (codes "*/"))) (append-nil (behind text (i + 1))) ∙ h)));
  reaches = tt;
}
