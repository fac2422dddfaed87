-- The faults that wrong flags are, one flag after the other.
use Rattle.std.proofs.Common.{◌≡◌, ◌≤◌, ◌<◌, ℕ, ◌+◌, Bool, true, false, List, [], ◌∷◌, ◌++◌, refl, sym, ap, subst, ◌∙◌, arith, append_assoc, append-nil, None}
use Rattle.std.specs.Prelude.{IsCharBoundary}
use Rattle.std.proofs.lemmas.List.{append_cancel_right}
use Rattle.std.proofs.lemmas.Str.{len_utf8_bounds}
use Rattle.js_base.specs.declared.span.Span.{Span}
use Rattle.js_base.specs.declared.diagnostic.Diagnostic.{Diagnostic}
use Rattle.js_base.specs.declared.diagnostic.DiagnosticKind.TheVariants.{RegExpFlag}
use Rattle.part_words.specs.js_grammar.Characters.{width}
use Rattle.part_words.specs.js_grammar.LexicalFaults.{behind}
use Rattle.js_lex.specs.declared.output.LexerOutput.{LexerOutput}
use Rattle.part_scan.specs.declared.regular_expression.Flag.{Flag}
use Rattle.part_words.specs.Places.{Word}
use Rattle.js_lex.specs.Kept.{Grows, fault_at}
use Rattle.js_lex.specs.Reading.{is_wrong_flag, flag_faults}
use Rattle.part_scan.specs.declared.regular_expression.Seen.{Seen}
use Rattle.part_scan.specs.RegularExpressionParts.{SeenIn, IsFlag}
use Rattle.part_words.proofs.Places.{none_passed, then}
use Rattle.js_lex.proofs.Keeping.{grow_on}
use Rattle.part_words.proofs.Flags.{others_stand}
use Rattle.part_scan.proofs.FlagsSeen.{seen_none}

-- the fault that a wrong flag between two places is
abbrev pub fault_between : Span → Diagnostic
fault_between s = record { kind = RegExpFlag; span = s; first = None; second = None }

-- The flags between two places are kept, as far as they are wrong; behind the second place others stand.
pub record Flagged (text : List ℕ) (first end at : ℕ) (old new : LexerOutput) : Type 0 where
  pub before : List ℕ
  pub others : List ℕ
  pub passed : Word text first at before
  pub left : Word text at end others
  pub faults : List Diagnostic
  pub grows : Grows old new [] [] [] faults
  pub faults_are : flag_faults first [] (before ++ others) ≡ faults ++ flag_faults at before others

nothing_grows : (o : LexerOutput) → Grows o o [] [] [] []
nothing_grows o = record { comments_grow = sym (append-nil o.comments); blanks_grow = sym (append-nil o.irregular_whitespaces); tokens_grow = sym (append-nil o.tokens); faults_grow = sym (append-nil o.errors) }

pub flagged_none : (text : List ℕ) (first end : ℕ) (old : LexerOutput) → IsCharBoundary text first → ((fs : List ℕ) × Word text first end fs) → Flagged text first end first old old
flagged_none text first end old b f = record {
  before = [];
  others = f.0;
  passed = none_passed text first b;
  left = f.1;
  faults = [];
  grows = nothing_grows old;
  faults_are = refl;
}

-- and which of the eight flags are seen
pub record FlaggedSo (text : List ℕ) (first end at : ℕ) (seen : Seen) (old new : LexerOutput) : Type 0 where
  pub flagged : Flagged text first end at old new
  pub seen_in : SeenIn seen flagged.before

pub flagged_so_none : (text : List ℕ) (first end : ℕ) (old : LexerOutput) → IsCharBoundary text first → ((fs : List ℕ) × Word text first end fs) → FlaggedSo text first end first (record { d = false; g = false; i = false; m = false; s = false; u = false; v = false; y = false }) old old
unfolding flagged_none
flagged_so_none text first end old b f = record { flagged = flagged_none text first end old b f; seen_in = seen_none }

pub flagged_from : {text : List ℕ} {first end at : ℕ} {old new : LexerOutput} → Flagged text first end at old new → first ≤ at
flagged_from h = let e = h.passed.end in omega arith

-- the characters between two places are no others
same_word : {text : List ℕ} {i j : ℕ} {w v : List ℕ} → Word text i j w → Word text i j v → w ≡ v
same_word {text = text} {j = j} {w = w} {v = v} a b = append_cancel_right w v (behind text j) (sym a.splits ∙ b.splits)

-- all flags are kept
pub flagged_all : {text : List ℕ} {first end at : ℕ} {old new : LexerOutput} → Flagged text first end at old new → end ≤ at → (fs : List ℕ) → Word text first end fs → Grows old new [] [] [] (flag_faults first [] fs)
flagged_all {text = text} {first = first} {end = end} {at = at} {old = old} {new = new} h l fs w = by h.others refl
  where
    by : (os : List ℕ) → h.others ≡ os → Grows old new [] [] [] (flag_faults first [] fs)
    by [] e =
        let same : fs ≡ h.before ++ h.others = same_word w (then h.passed h.left) in
        let all : flag_faults first [] fs ≡ h.faults = ap (flag_faults first []) same ∙ h.faults_are ∙ ap (λ (v : List ℕ). h.faults ++ flag_faults at h.before v) e ∙ append-nil h.faults in
        subst (λ (v : List Diagnostic). Grows old new [] [] [] v) (sym all) h.grows
    by (o ∷ os) e = absurd (let a = h.left.end in let b = ap width e in let c = (len_utf8_bounds o).0 in omega arith)

-- where nothing stands the flags have ended
pub flagged_end : {text : List ℕ} {first end at : ℕ} {old new : LexerOutput} → Flagged text first end at old new → behind text at ≡ [] → end ≤ at
flagged_end {text = text} {end = end} {at = at} h n = by h.others refl
  where
    by : (os : List ℕ) → h.others ≡ os → end ≤ at
    by [] e = let a = h.left.end in let b = ap width e in omega arith
    by (o ∷ os) e = absurd (let a : [] ≡ o ∷ (os ++ behind text end) = sym n ∙ h.left.splits ∙ ap (λ (v : List ℕ). v ++ behind text end) e in cc)

-- what is kept of one flag
abbrev fault_of : Bool → Span → List Diagnostic
fault_of wrong s = elim wrong [ true ↦ fault_between s ∷ [] | false ↦ [] ]

faults_step : (at : ℕ) (before : List ℕ) (f : ℕ) (fs : List ℕ) → flag_faults at before (f ∷ fs) ≡ fault_of (is_wrong_flag before f) (record { start = at; end = at + width (f ∷ []) }) ++ flag_faults (at + width (f ∷ [])) (before ++ f ∷ []) fs
faults_step at before f fs = by (is_wrong_flag before f)
  where
    by : (b : Bool) → elim b [ true ↦ fault_between (record { start = at; end = at + width (f ∷ []) }) ∷ flag_faults (at + width (f ∷ [])) (before ++ f ∷ []) fs | false ↦ flag_faults (at + width (f ∷ [])) (before ++ f ∷ []) fs ] ≡ fault_of b (record { start = at; end = at + width (f ∷ []) }) ++ flag_faults (at + width (f ∷ [])) (before ++ f ∷ []) fs
    by true = refl
    by false = refl

-- one flag more
pub flagged_more : {text : List ℕ} {first end at : ℕ} {seen : Seen} {old mid : LexerOutput} (new : LexerOutput) (f : Flag) → FlaggedSo text first end at seen old mid → IsFlag text at seen f → at < end → Grows mid new [] [] [] (fault_of f.is_wrong (record { start = at; end = f.end })) → FlaggedSo text first end f.end f.seen old new
flagged_more {text = text} {first = first} {end = end} {at = at} {seen = seen} {old = old} {mid = mid} new f z g l k = by h.others refl
  where
    h : Flagged text first end at old mid
    h = z.flagged

    told : (f.is_wrong ≡ is_wrong_flag h.before g.flag) × SeenIn f.seen (h.before ++ g.flag ∷ [])
    told = g.tells h.before z.seen_in

    by : (os : List ℕ) → h.others ≡ os → FlaggedSo text first end f.end f.seen old new
    by [] e = absurd (let a = h.left.end in let b = ap width e in omega arith)
    by (o ∷ os) e =
        let q : Word text at end (o ∷ os) = subst (λ (v : List ℕ). Word text at end v) e h.left in
        let r : (g.flag ≡ o) × Word text f.end end os = others_stand g.stands q in
        let w : f.is_wrong ≡ is_wrong_flag h.before o = told.0 ∙ ap (λ (c : ℕ). is_wrong_flag h.before c) r.0 in
        let n : f.end ≡ at + width (o ∷ []) = g.stands.end ∙ ap (λ (c : ℕ). at + width (c ∷ [])) r.0 in
        let s : h.before ++ (o ∷ os) ≡ (h.before ++ o ∷ []) ++ os = sym (append_assoc h.before (o ∷ []) os) in
        record {
          flagged = record {
            before = h.before ++ o ∷ [];
            others = os;
            passed = then h.passed (subst (λ (c : ℕ). Word text at f.end (c ∷ [])) r.0 g.stands);
            left = r.1;
            faults = h.faults ++ fault_of f.is_wrong (record { start = at; end = f.end });
            grows = grow_on h.grows k;
            faults_are = ap (flag_faults first []) (sym s ∙ ap (λ (v : List ℕ). h.before ++ v) (sym e)) ∙ h.faults_are
                ∙ ap (λ (v : List ℕ). h.faults ++ flag_faults at h.before v) e
                ∙ ap (λ (v : List Diagnostic). h.faults ++ v) (faults_step at h.before o os)
                ∙ ap (λ (b : Bool). h.faults ++ (fault_of b (record { start = at; end = at + width (o ∷ []) }) ++ flag_faults (at + width (o ∷ [])) (h.before ++ o ∷ []) os)) (sym w)
                ∙ ap (λ (m : ℕ). h.faults ++ (fault_of f.is_wrong (record { start = at; end = m }) ++ flag_faults m (h.before ++ o ∷ []) os)) (sym n)
                ∙ sym (append_assoc h.faults (fault_of f.is_wrong (record { start = at; end = f.end })) (flag_faults f.end (h.before ++ o ∷ []) os));
          };
          seen_in = subst (λ (c : ℕ). SeenIn f.seen (h.before ++ c ∷ [])) r.0 told.1;
        }

-- a wrong flag is kept
pub flagged_wrong : {text : List ℕ} {first end at : ℕ} {seen : Seen} {old mid : LexerOutput} (new : LexerOutput) (f : Flag) (s : Span) → FlaggedSo text first end at seen old mid → IsFlag text at seen f → at < end → f.is_wrong ≡ true → s.start ≡ at → s.end ≡ f.end → Grows mid new [] [] [] (fault_at RegExpFlag s ∷ []) → FlaggedSo text first end f.end f.seen old new
flagged_wrong {at = at} {mid = mid} new f s h g l w a b k =
    let sp : s ≡ record { start = at; end = f.end } = ap (λ (n : ℕ). record { start = n; end = s.end }) a ∙ ap (λ (n : ℕ). record { start = at; end = n }) b in
    flagged_more new f h g l (subst (λ (v : List Diagnostic). Grows mid new [] [] [] v) (ap (fault_of true) sp ∙ ap (λ (x : Bool). fault_of x (record { start = at; end = f.end })) (sym w)) k)

-- nothing is kept of any other
pub flagged_right : {text : List ℕ} {first end at : ℕ} {seen : Seen} {old mid : LexerOutput} (f : Flag) → FlaggedSo text first end at seen old mid → IsFlag text at seen f → at < end → f.is_wrong ≡ false → FlaggedSo text first end f.end f.seen old mid
flagged_right {at = at} {mid = mid} f h g l w = flagged_more mid f h g l (subst (λ (x : Bool). Grows mid mid [] [] [] (fault_of x (record { start = at; end = f.end }))) (sym w) (nothing_grows mid))
