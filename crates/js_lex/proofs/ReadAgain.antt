-- What is kept where a token is read again: the flags of a regular expression, then what is settled.
use Rattle.std.proofs.Common.{◌≡◌, ◌+◌, ℕ, Bool, true, false, List, [], ◌∷◌, ◌++◌, sym, ap, subst, ◌∙◌, arith, append-nil, Option, Some, None}
use Rattle.std.specs.Prelude.{IsCharBoundary, IsUtf8, Result, Ok, Err, IfOk, OnErr}
use Rattle.std.specs.List.{All}
use Rattle.std.proofs.lemmas.Str.{len_utf8_bounds}
use Rattle.std.proofs.lemmas.List.Elements.{All-nil, All-cons, All-append}
use Rattle.js_base.specs.declared.token.Token.{Token}
use Rattle.js_base.specs.declared.span.Span.{Span}
use Rattle.js_base.specs.declared.diagnostic.Diagnostic.{Diagnostic}
use Rattle.js_base.specs.declared.diagnostic.DiagnosticKind.TheVariants.{RegExpFlag}
use Rattle.js_base.specs.Spans.{LiesIn}
use Rattle.part_words.specs.js_grammar.Characters.{width}
use Rattle.js_lex.specs.declared.output.LexerOutput.{LexerOutput}
use Rattle.js_lex.specs.declared.comment.Comment.{Comment}
use Rattle.part_words.specs.declared.scan.Scanned.{Scanned}
use Rattle.part_words.specs.declared.scan.Fault.{Fault}
use Rattle.part_scan.specs.declared.regular_expression.RegularExpression.{RegularExpression}
use Rattle.part_words.specs.Places.{Word}
use Rattle.js_lex.specs.Kept.{Extends, LieIn, fault_at}
use Rattle.js_lex.specs.Reading.{is_wrong_flag, flag_faults}
use Rattle.js_lex.specs.Settling.{SettledAgain, HasFlags, FlagsKept, SettledBehind}
use Rattle.js_lex.proofs.Keeping.{extend_on}
use Rattle.js_lex.proofs.Marks.{split_word}

-- what is settled behind the flags
pub settled_behind : {E : Type 0} (text : List ℕ) (keeps : Bool) (given : Token) (scan : Result Scanned Fault) (flags : Option RegularExpression) (old mid new : LexerOutput) (r : Result Token E) → FlagsKept text flags old mid → IfOk r (λ t. SettledAgain keeps given scan mid new t) → IfOk r (λ t. SettledBehind text keeps given scan flags old new t)
settled_behind text keeps given scan flags old mid new (Ok t) f k = record { mid = mid; flags_kept = f; settled = k }
settled_behind text keeps given scan flags old mid new (Err e) f k = tt

-- without flags it is settled alone
pub unflagged : {text : List ℕ} {keeps : Bool} {given : Token} {scan : Result Scanned Fault} {old new : LexerOutput} {t : Token} → SettledBehind text keeps given scan None old new t → SettledAgain keeps given scan old new t
unflagged {keeps = keeps} {given = given} {scan = scan} {new = new} {t = t} s = subst (λ (o : LexerOutput). SettledAgain keeps given scan o new t) s.flags_kept s.settled

-- what was kept before the flags is still there
flags_extend : (text : List ℕ) (flags : Option RegularExpression) (old mid new : LexerOutput) → HasFlags text flags → FlagsKept text flags old mid → Extends mid new → Extends old new
flags_extend text None old mid new h k x = subst (λ (o : LexerOutput). Extends o new) k x
flags_extend text (Some r) old mid new h k x = extend_on (k h.1.0 h.1.1) x

pub err_behind : {T E : Type 0} (text : List ℕ) (flags : Option RegularExpression) (old mid new : LexerOutput) (r : Result T E) → HasFlags text flags → FlagsKept text flags old mid → OnErr r (Extends mid new) → OnErr r (Extends old new)
err_behind text flags old mid new (Ok t) h k x = tt
err_behind text flags old mid new (Err e) h k x = flags_extend text flags old mid new h k x

-- ---- the faults of flags lie in the text

flag_faults_lie : (text : List ℕ) (i j : ℕ) (before fs : List ℕ) → IsUtf8 text → IsCharBoundary text i → Word text i j fs → All (λ (d : Diagnostic). LiesIn d.span text) (flag_faults i before fs)
flag_faults_lie text i j before [] u b w = All-nil (λ (d : Diagnostic). LiesIn d.span text)
flag_faults_lie text i j before (f ∷ fs) u b w =
    let parts : Word text i (i + width (f ∷ [])) (f ∷ []) × Word text (i + width (f ∷ [])) j fs = split_word text i j (f ∷ []) fs u b w in
    by (is_wrong_flag before f) parts.0.boundary (flag_faults_lie text (i + width (f ∷ [])) j (before ++ f ∷ []) fs u parts.0.boundary parts.1)
  where
    fault : Diagnostic
    fault = fault_at RegExpFlag (record { start = i; end = i + width (f ∷ []) })

    others : List Diagnostic
    others = flag_faults (i + width (f ∷ [])) (before ++ f ∷ []) fs

    by : (wrong : Bool) → IsCharBoundary text (i + width (f ∷ [])) → All (λ (d : Diagnostic). LiesIn d.span text) others → All (λ (d : Diagnostic). LiesIn d.span text) (elim wrong [ true ↦ fault ∷ others | false ↦ others ])
    by false c o = o
    by true c o = All-cons (λ (d : Diagnostic). LiesIn d.span text) fault others (record { ordered = (let l = (len_utf8_bounds f).0 in omega arith); starts_whole = b; ends_whole = c }) o

pub lie_flags : (text : List ℕ) (flags : Option RegularExpression) (old mid : LexerOutput) → IsUtf8 text → HasFlags text flags → FlagsKept text flags old mid → LieIn text old → LieIn text mid × (mid.comments ≡ old.comments)
lie_flags text None old mid u h k l = (subst (LieIn text) (sym k) l, ap (λ (o : LexerOutput). o.comments) k)
lie_flags text (Some r) old mid u h k l =
    let g = k h.1.0 h.1.1 in (
      record {
        comments = subst (All (λ (c : Comment). LiesIn c.span text)) (sym (g.comments_grow ∙ append-nil old.comments)) l.comments;
        irregular_whitespaces = subst (All (λ (s : Span). LiesIn s text)) (sym (g.blanks_grow ∙ append-nil old.irregular_whitespaces)) l.irregular_whitespaces;
        tokens = subst (All (λ (t : Token). LiesIn t.span text)) (sym (g.tokens_grow ∙ append-nil old.tokens)) l.tokens;
        errors = subst (All (λ (d : Diagnostic). LiesIn d.span text)) (sym g.faults_grow) (All-append (λ (d : Diagnostic). LiesIn d.span text) old.errors (flag_faults r.pattern_end [] h.1.0) l.errors (flag_faults_lie text r.pattern_end r.end [] h.1.0 u h.0 h.1.1));
      },
      g.comments_grow ∙ append-nil old.comments,
    )
