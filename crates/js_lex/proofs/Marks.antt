-- Faults that are kept and don't stop the lexemes: what stands at the span of each.
use Rattle.std.proofs.Common.{◌≡◌, ◌<◌, ℕ, ◌+◌, ◌==◌, Bool, true, false, List, [], ◌∷◌, ◌++◌, refl, sym, ap, subst, ◌∙◌, not, ◌&&◌, ◌||◌, arith, append_assoc, Option, Some, None}
use Rattle.std.specs.Prelude.{codes, IsCharBoundary, IsUtf8}
use Rattle.std.specs.List.{All}
use Rattle.std.proofs.lemmas.Str.{len_utf8_bounds}
use Rattle.std.proofs.lemmas.List.{append_cancel_left}
use Rattle.std.proofs.lemmas.List.Elements.{All-nil, All-cons, All-append}
use Rattle.js_base.specs.declared.kind.Kind.TheVariants.{RegExp}
use Rattle.js_base.specs.declared.diagnostic.Diagnostic.{Diagnostic}
use Rattle.js_base.specs.declared.diagnostic.DiagnosticKind.TheVariants.{RegExpFlag, HtmlCommentInModule}
use Rattle.js_base.specs.part_text.Characters.{one_of, is_line_terminator}
use Rattle.part_words.specs.js_grammar.Grammar.{Lexeme}
use Rattle.part_words.specs.js_grammar.Settings.{Goal, script, module_goal, commonjs, unambiguous}
use Rattle.part_words.specs.js_grammar.Characters.{width}
use Rattle.part_words.specs.js_grammar.Longest.{joined}
use Rattle.part_words.specs.js_grammar.Trivia.{is_html_comment}
use Rattle.part_words.specs.js_grammar.Lexemes.{LexicalGoal, regular_expression, kind_in}
use Rattle.part_words.specs.js_grammar.Lexed.{NextLexeme, Stands, all_faults, in_module, passing_of}
use Rattle.part_words.specs.js_grammar.RegularExpressions.{behind_pattern, flags}
use Rattle.part_words.specs.js_grammar.LexicalFaults.{behind, FaultyBehind}
use Rattle.part_words.specs.Places.{Word}
use Rattle.js_lex.specs.Comments.{html_fault_at, each_at}
use Rattle.js_lex.specs.Reading.{LexemeBehind, in_a_module, is_wrong_flag, flag_faults}
use Rattle.part_scan.specs.RegularExpressionParts.{IsRegularExpression}
use Rattle.part_scan.specs.declared.regular_expression.RegularExpression.{RegularExpression}
use Rattle.part_words.proofs.KindsOfLexemes.{pattern_is}
use Rattle.js_lex.proofs.Passing.{joined-more}
use Rattle.part_words.proofs.Places.{width-append}
use Rattle.part_scan.proofs.StringPlaces.{front_word}

-- ---- the flags of a regular expression

-- what stands between two places, in two parts
pub split_word : (text : List ℕ) (i j : ℕ) (u v : List ℕ) → IsUtf8 text → IsCharBoundary text i → Word text i j (u ++ v) → Word text i (i + width u) u × Word text (i + width u) j v
split_word text i j u v t b h =
    let whole : behind text i ≡ u ++ (v ++ behind text j) = h.splits ∙ append_assoc u v (behind text j) in
    let f : Word text i (i + width u) u = front_word text i u (v ++ behind text j) t b whole in
    let s : behind text (i + width u) ≡ v ++ behind text j = append_cancel_left u (behind text (i + width u)) (v ++ behind text j) (sym f.splits ∙ whole) in
    let e = h.end in
    let w = width-append u v in
    (f, record { boundary = h.boundary; splits = s; end = omega arith })

abbrev chosen : Bool → Bool → List ℕ → Option (List ℕ) → Option (List ℕ)
chosen p q cs r = elim p [ true ↦ None | false ↦ elim q [ true ↦ Some cs | false ↦ r ] ]

-- what stands behind a pattern is the end of the characters
behind_pattern_ends : (b e : Bool) (w r : List ℕ) → behind_pattern b e w ≡ Some r → (u : List ℕ) × (w ≡ u ++ r)
behind_pattern_ends b e [] r h = absurd (let k = h in cc)
behind_pattern_ends b e (c ∷ cs) r h = go (is_line_terminator c) (not e && (not b && (c == 47))) (behind_pattern (elim e [ true ↦ b | false ↦ (b && not (c == 93)) || (c == 91) ]) (not e && (c == 92)) cs) h (λ k. behind_pattern_ends (elim e [ true ↦ b | false ↦ (b && not (c == 93)) || (c == 91) ]) (not e && (c == 92)) cs r k)
  where
    go : (p q : Bool) (o : Option (List ℕ)) → chosen p q cs o ≡ Some r → (o ≡ Some r → (u : List ℕ) × (cs ≡ u ++ r)) → (u : List ℕ) × (c ∷ cs ≡ u ++ r)
    go true q o k f = absurd (let z = k in cc)
    go false true o k f = (c ∷ [], let z = k in cc)
    go false false o k f = let z = f k in (c ∷ z.0, ap (λ (v : List ℕ). c ∷ v) z.1)

flags_end : (w fs : List ℕ) → flags w ≡ Some fs → (u : List ℕ) × (w ≡ u ++ fs)
flags_end [] fs h = absurd (let k = h in cc)
flags_end (a ∷ []) fs h = absurd (let k = h in cc)
flags_end (a ∷ c ∷ cs) fs h = go ((a == 47) && not (one_of (codes "*/") c)) h
  where
    go : (b : Bool) → elim b as (λ _. Option (List ℕ)) [ true ↦ behind_pattern false false (c ∷ cs) | false ↦ None ] ≡ Some fs → (u : List ℕ) × (a ∷ c ∷ cs ≡ u ++ fs)
    go true k = let z = behind_pattern_ends false false (c ∷ cs) fs k in (a ∷ z.0, ap (λ (v : List ℕ). a ∷ v) z.1)
    go false k = absurd (let z = k in cc)

-- the pattern of a regular expression ends between characters
pub pattern_boundary : {text : List ℕ} {i : ℕ} {r : RegularExpression} → IsUtf8 text → IsCharBoundary text i → IsRegularExpression text i r → IsCharBoundary text r.pattern_end
pattern_boundary {text = text} {i = i} {r = r} t b h =
    let f = flags_end h.scanned.word h.flags_word h.has_flags in
    let s = split_word text i r.end f.0 h.flags_word t b (subst (λ (v : List ℕ). Word text i r.end v) f.1 h.scanned.stands) in
    let same : i + width f.0 ≡ r.pattern_end = (let x = s.1.end in let y = h.flags_stand.end in omega arith) in
    subst (IsCharBoundary text) same s.0.boundary

-- the fault lies where its kind says
abbrev pub Marks : Goal → List ℕ → ℕ → Diagnostic → Type 0
Marks source text s d = FaultyBehind d.kind source text s d.span.start d.span.end

-- flags that stand behind others, up to the end of a regular expression
flags_marked_from : (text : List ℕ) (source : Goal) (s : ℕ) (y : Lexeme) (lex : NextLexeme all_faults text s y) → IsUtf8 text → y.kind ≡ RegExp → (i : ℕ) (before fs : List ℕ) → flags lex.word ≡ Some (before ++ fs) → IsCharBoundary text i → Word text i y.to fs → All (Marks source text s) (flag_faults i before fs)
flags_marked_from text source s y lex t k i before [] h b w = All-nil (Marks source text s)
flags_marked_from text source s y lex t k i before (f ∷ fs) h b w =
    let parts : Word text i (i + width (f ∷ [])) (f ∷ []) × Word text (i + width (f ∷ [])) y.to fs = split_word text i y.to (f ∷ []) fs t b w in
    by (is_wrong_flag before f) refl parts.0.boundary parts.1.end (flags_marked_from text source s y lex t k (i + width (f ∷ [])) (before ++ f ∷ []) fs (h ∙ ap Some (sym (append_assoc before (f ∷ []) fs))) parts.0.boundary parts.1)
  where
    fault : Diagnostic
    fault = record { kind = RegExpFlag; span = record { start = i; end = i + width (f ∷ []) }; first = None; second = None }

    others : List Diagnostic
    others = flag_faults (i + width (f ∷ [])) (before ++ f ∷ []) fs

    by : (wrong : Bool) → is_wrong_flag before f ≡ wrong → IsCharBoundary text (i + width (f ∷ [])) → y.to ≡ (i + width (f ∷ [])) + width fs → All (Marks source text s) others → All (Marks source text s) (elim wrong [ true ↦ fault ∷ others | false ↦ others ])
    by false q c n o = o
    by true q c n o = All-cons (Marks source text s) fault others (record {
      ordered = let l = (len_utf8_bounds f).0 in omega arith;
      begins_between = b;
      ends_between = c;
      condition = record { lexeme = y; lex = lex; is = k; before = before; flag = f; behind = fs; splits = h; wrong = q; end = n; begin = refl };
    }) o

-- each wrong flag of a regular expression is a fault behind the place where that is
pub flags_marked : {text : List ℕ} {s : ℕ} {y : Lexeme} (source : Goal) (pattern_end : ℕ) (fs : List ℕ) (h : LexemeBehind regular_expression text s y) → flags h.lex.word ≡ Some fs → IsUtf8 text → IsCharBoundary text pattern_end → Word text pattern_end y.to fs → All (λ d. FaultyBehind d.kind source text s d.span.start d.span.end) (flag_faults pattern_end [] fs)
flags_marked {text = text} {s = s} {y = y} source pattern_end fs h f t b w =
    let k : kind_in regular_expression h.lex.word h.lex.rest ≡ Some y.kind = subst (λ (g : LexicalGoal). kind_in g h.lex.word h.lex.rest ≡ Some y.kind) h.of_goal h.lex.lexeme.kind in
    flags_marked_from text source s y h.lex t (pattern_is h.lex.word y.kind k) pattern_end [] fs f b w

-- ---- HTML-like comments in a module

passing_same : (source : Goal) → in_a_module source ≡ true → passing_of source ≡ in_module
passing_same module_goal h = refl
passing_same script h = absurd (let k = h in cc)
passing_same commonjs h = absurd (let k = h in cc)
passing_same unambiguous h = absurd (let k = h in cc)

-- an HTML-like comment isn't empty
html_width : (p : List ℕ) → is_html_comment p ≡ true → 0 < width p
html_width [] h = absurd (let k = h in cc)
html_width (c ∷ cs) h = let n = (len_utf8_bounds c).0 in omega arith

-- pieces that stand behind others
html_marked_from : (text : List ℕ) (source : Goal) (s : ℕ) (all : List (List ℕ)) (rest : List ℕ) → IsUtf8 text → Stands text s all [] rest → (i : ℕ) (before ps : List (List ℕ)) → all ≡ before ++ ps → i ≡ s + width (joined before) → IsCharBoundary text i → behind text i ≡ joined ps ++ rest → All (Marks source text s) (each_at (html_fault_at (in_a_module source)) i ps)
html_marked_from text source s all rest t st i before [] a n b e = All-nil (Marks source text s)
html_marked_from text source s all rest t st i before (p ∷ ps) a n b e =
    let whole : behind text i ≡ p ++ (joined ps ++ rest) = e ∙ append_assoc p (joined ps) rest in
    let here : Word text i (i + width p) p = front_word text i p (joined ps ++ rest) t b whole in
    let goes_on : i + width p ≡ s + width (joined (before ++ p ∷ [])) = (let x = ap width (joined-more before p) in let y = width-append (joined before) p in omega arith) in
    All-append (Marks source text s) (html_fault_at (in_a_module source) i p) (each_at (html_fault_at (in_a_module source)) (i + width p) ps) (by (in_a_module source) (is_html_comment p) refl refl here.boundary)
    (html_marked_from text source s all rest t st (i + width p) (before ++ p ∷ []) ps (a ∙ sym (append_assoc before (p ∷ []) ps)) goes_on here.boundary (append_cancel_left p (behind text (i + width p)) (joined ps ++ rest) (sym here.splits ∙ whole)))
  where
    fault : Diagnostic
    fault = record { kind = HtmlCommentInModule; span = record { start = i; end = i + width p }; first = None; second = None }

    by : (m html : Bool) → in_a_module source ≡ m → is_html_comment p ≡ html → IsCharBoundary text (i + width p) → All (Marks source text s) (elim (m && html) [ true ↦ fault ∷ [] | false ↦ [] ])
    by false html q r c = All-nil (Marks source text s)
    by true false q r c = All-nil (Marks source text s)
    by true true q r c = All-cons (Marks source text s) fault [] (record {
      ordered = let w = html_width p r in omega arith;
      begins_between = b;
      ends_between = c;
      condition = (passing_same source q, record { before = before; comment = p; behind = ps; rest = rest; stands = subst (λ (v : List (List ℕ)). Stands text s v [] rest) a st; is = r; begin = n });
    }) (All-nil (Marks source text s))

-- each HTML-like comment that is a fault of a module is one behind the place
pub html_marked : (text : List ℕ) (source : Goal) (s : ℕ) (ps : List (List ℕ)) (rest : List ℕ) → IsUtf8 text → IsCharBoundary text s → Stands text s ps [] rest → All (λ d. FaultyBehind d.kind source text s d.span.start d.span.end) (each_at (html_fault_at (in_a_module source)) s ps)
html_marked text source s ps rest t b st = html_marked_from text source s ps rest t st s [] ps refl (omega arith) b st.splits
