-- What `next_token` gives is settled by the text, the goal and the place: of two answers from one state the tokens are the same.
use Rattle.std.proofs.Common.{◌≡◌, ◌+◌, ◌==◌, ℕ, Bool, true, false, List, [], ◌∷◌, ◌++◌, refl, sym, ap, subst, ◌∙◌, not, ◌||◌, Option, Some, None, ◌⊎◌, inl, inr}
use Rattle.std.specs.Prelude.{bytes_eq, is_some, Result, Ok, Err, IfOk}
use Rattle.js_base.specs.declared.kind.Kind.{Kind}
use Rattle.js_base.specs.declared.kind.Kind.TheVariants.{Undetermined}
use Rattle.js_base.specs.declared.token.Token.{Token}
use Rattle.js_base.specs.declared.diagnostic.Diagnostic.{Diagnostic}
use Rattle.js_base.specs.declared.diagnostic.DiagnosticKind.{DiagnosticKind}
use Rattle.js_base.specs.declared.diagnostic.DiagnosticKind.TheVariants as fault
use Rattle.js_base.specs.Kinds.{same_kind}
use Rattle.js_base.proofs.KindLemmas.{kind_of_same}
use Rattle.js_base.specs.part_text.Characters.{one_of}
use Rattle.js_base.specs.part_text.Escapes.{in_name, before_all, code_points}
use Rattle.part_words.specs.js_grammar.Grammar.{Lexeme}
use Rattle.part_words.specs.js_grammar.Settings.{Goal}
use Rattle.part_words.specs.js_grammar.Characters.{width, is_identifier_start, has_line_terminator}
use Rattle.part_words.specs.js_grammar.Longest.{Class, longest, none_longer, joined}
use Rattle.part_words.specs.js_grammar.Names.{named, name_of}
use Rattle.part_words.specs.js_grammar.Strings.{nothing_left}
use Rattle.part_words.specs.js_grammar.Lexemes.{LexicalGoal, division, lexemes_in, is_separated}
use Rattle.part_words.specs.js_grammar.LexicalFaults.{behind, Unterminated, InvalidCharacter, InvalidNameEscape, InvalidStringEscape, is_name_word, is_right_inside, Stopping}
use Rattle.part_words.proofs.js_grammar.LongestLemmas.{fronts, GoesOn, Same, none_longer-at, longest-same, both-left}
use Rattle.part_words.proofs.js_grammar.Alike.{stands-same, lex-same}
use Rattle.part_words.proofs.js_grammar.CorePlain.{no_backslash, points-append}
use Rattle.part_words.proofs.js_grammar.Finding.{member}
use Rattle.part_words.specs.Faults.{fault_kind, Reaches}
use Rattle.js_lex.specs.Settling.{GivesAtOnce}
use Rattle.js_lex.specs.States.{State}
use Rattle.js_lex.specs.Reading.{cut, LexemeBehind, GivesLexeme, GivesNone, Outcome, GivesNext}
use Rattle.part_words.proofs.Parts.{parts_same}

-- ---- the span of a fault that stops

unterminated_same : (opening closing : Class) {text : List ℕ} {from to other : ℕ} → Unterminated opening closing text from to → Unterminated opening closing text from other → to ≡ other
unterminated_same opening closing {from = from} a b =
    let s = longest-same opening a.word a.rest b.word b.rest (sym a.here ∙ b.here) a.opened b.opened in
    a.end ∙ ap (λ (v : List ℕ). from + width v) s.front ∙ sym b.end

character_same : {text : List ℕ} {from to other : ℕ} → InvalidCharacter text from to → InvalidCharacter text from other → to ≡ other
character_same {from = from} a b =
    let e : a.character ∷ a.rest ≡ b.character ∷ b.rest = sym a.here ∙ b.here in
    let c : a.character ≡ b.character = cc in
    a.end ∙ ap (λ (x : ℕ). from + width (x ∷ [])) c ∙ sym b.end

-- no longer front of the one list or of the other is of the class
none_same : (class : Class) (w rest v more : List ℕ) → w ++ rest ≡ v ++ more → none_longer class w rest ≡ true → none_longer class v more ≡ true → (GoesOn w rest v more → class v more ≡ true) → (GoesOn v more w rest → class w rest ≡ true) → w ≡ v
none_same class w rest v more e h k f g = elim (fronts w rest v more e) [
  | inl s ↦ s.front
  | inr o ↦ elim o [ inl a ↦ absurd (beyond w rest v more h a (f a)) | inr a ↦ absurd (beyond v more w rest k a (g a)) ]
]
  where
    beyond : (w rest v more : List ℕ) → none_longer class w rest ≡ true → GoesOn w rest v more → class v more ≡ true → ⊥
    beyond w rest v more h a t =
        let n : none_longer class w (a.head ∷ a.tail ++ more) ≡ true = subst (λ (u : List ℕ). none_longer class w u ≡ true) a.left h in
        let m : class v more ≡ false = subst (λ (u : List ℕ). class u more ≡ false) (sym a.longer) (none_longer-at class w a.head a.tail more n) in
        cc

-- a character that begins no name
not_name : (c : ℕ) (cs : List ℕ) → no_backslash c ≡ true → is_identifier_start c ≡ false → name_of (c ∷ cs) ≡ None
not_name c cs n s = ap named (points-append in_name (c ∷ []) cs (plainly n)) ∙ by (code_points in_name cs)
  where
    plainly : no_backslash c ≡ true → Rattle.std.specs.List.list_all no_backslash (c ∷ []) ≡ true
    plainly e = rw e refl

    by : (o : Option (List ℕ)) → named (before_all (c ∷ []) o) ≡ None
    by None = refl
    by (Some zs) = ap (λ (b : Bool). elim (Rattle.std.proofs.Common.◌&&◌ b (Rattle.std.specs.List.list_all Rattle.part_words.specs.js_grammar.Characters.is_identifier_part zs)) [ true ↦ Some (c ∷ zs) | false ↦ None ]) s

some_not : {A : Type 0} (o : Option A) → is_some o ≡ true → o ≡ None → ⊥
some_not o h e = let k : is_some o ≡ false = ap is_some e in cc

-- the mark before an escape of a name
mark_is : (mark : List ℕ) → (nothing_left mark || bytes_eq mark (35 ∷ [])) ≡ true → (mark ≡ []) ⊎ (mark ≡ 35 ∷ [])
mark_is [] h = inl refl
mark_is (c ∷ []) h = inr (ap (λ (x : ℕ). x ∷ []) (Rattle.std.proofs.lemmas.Bool.eqb-true c 35 (both-left (c == 35) true h)))
mark_is (c ∷ d ∷ cs) h = absurd (by (c == 35) h)
  where
    by : (b : Bool) → Rattle.std.proofs.Common.◌&&◌ b false ≡ true → ⊥
    by true e = cc
    by false e = cc

-- a name, or none, before a backslash with which no name goes on
record Before (cs : List ℕ) (name rest : List ℕ) : Type 0 where
  pub here : cs ≡ name ++ 92 ∷ rest
  pub named : (nothing_left name || is_name_word name []) ≡ true
  pub never : none_longer is_name_word name (92 ∷ rest) ≡ true

before_same : {cs name rest other more : List ℕ} → Before cs name rest → Before cs other more → name ≡ other
before_same {name = name} {rest = rest} {other = other} {more = more} a b =
    none_same is_name_word name (92 ∷ rest) other (92 ∷ more) (sym a.here ∙ b.here) a.never b.never
    (λ g. some name g.head g.tail other g.longer b.named)
    (λ g. some other g.head g.tail name g.longer a.named)
  where
    some : (u : List ℕ) (c : ℕ) (x v : List ℕ) → v ≡ u ++ c ∷ x → (nothing_left v || is_name_word v []) ≡ true → is_name_word v [] ≡ true
    some [] c x [] e h = cc
    some (d ∷ u) c x [] e h = cc
    some u c x (d ∷ v) e h = h

-- what begins with a character that begins no name isn't so
begins_otherwise : (c : ℕ) (cs name rest : List ℕ) → no_backslash c ≡ true → is_identifier_start c ≡ false → Before (c ∷ cs) name rest → ⊥
begins_otherwise c cs [] rest n s a =
    let e : c ∷ cs ≡ 92 ∷ rest = a.here in
    let f : c ≡ 92 = cc in
    let k : no_backslash 92 ≡ true = subst (λ (x : ℕ). no_backslash x ≡ true) f n in
    cc
begins_otherwise c cs (d ∷ name) rest n s a =
    let e : c ∷ cs ≡ d ∷ (name ++ 92 ∷ rest) = a.here in
    let f : d ≡ c = cc in
    some_not (name_of (c ∷ name)) (subst (λ (x : ℕ). is_some (name_of (x ∷ name)) ≡ true) f a.named) (not_name c name n s)

-- behind its mark
record Marked (cs : List ℕ) (mark name rest : List ℕ) : Type 0 where
  pub here : cs ≡ mark ++ (name ++ 92 ∷ rest)
  pub marked : (nothing_left mark || bytes_eq mark (35 ∷ [])) ≡ true
  pub named : (nothing_left name || is_name_word name []) ≡ true
  pub never : none_longer is_name_word name (92 ∷ rest) ≡ true

marked_same : {cs mark name rest sign other more : List ℕ} → Marked cs mark name rest → Marked cs sign other more → (mark ≡ sign) × (name ≡ other)
marked_same {cs = cs} {mark = mark} {name = name} {rest = rest} {sign = sign} {other = other} {more = more} a b = by (mark_is mark a.marked) (mark_is sign b.marked)
  where
    plain : mark ≡ [] → Before cs name rest
    plain e = record { here = a.here ∙ ap (λ (u : List ℕ). u ++ (name ++ 92 ∷ rest)) e; named = a.named; never = a.never }

    plain' : sign ≡ [] → Before cs other more
    plain' e = record { here = b.here ∙ ap (λ (u : List ℕ). u ++ (other ++ 92 ∷ more)) e; named = b.named; never = b.never }

    private : mark ≡ 35 ∷ [] → cs ≡ 35 ∷ (name ++ 92 ∷ rest)
    private e = a.here ∙ ap (λ (u : List ℕ). u ++ (name ++ 92 ∷ rest)) e

    private' : sign ≡ 35 ∷ [] → cs ≡ 35 ∷ (other ++ 92 ∷ more)
    private' e = b.here ∙ ap (λ (u : List ℕ). u ++ (other ++ 92 ∷ more)) e

    by : (mark ≡ []) ⊎ (mark ≡ 35 ∷ []) → (sign ≡ []) ⊎ (sign ≡ 35 ∷ []) → (mark ≡ sign) × (name ≡ other)
    by (inl e) (inl f) = (e ∙ sym f, before_same (plain e) (plain' f))
    by (inl e) (inr f) = absurd (begins_otherwise 35 (other ++ 92 ∷ more) name rest refl refl (subst (λ (v : List ℕ). Before v name rest) (private' f) (plain e)))
    by (inr e) (inl f) = absurd (begins_otherwise 35 (name ++ 92 ∷ rest) other more refl refl (subst (λ (v : List ℕ). Before v other more) (private e) (plain' f)))
    by (inr e) (inr f) =
        let g : 35 ∷ (name ++ 92 ∷ rest) ≡ 35 ∷ (other ++ 92 ∷ more) = sym (private e) ∙ private' f in
        let h : name ++ 92 ∷ rest ≡ other ++ 92 ∷ more = cc in
        let p : Before (name ++ 92 ∷ rest) name rest = record { here = refl; named = a.named; never = a.never } in
        let q : Before (name ++ 92 ∷ rest) other more = record { here = h; named = b.named; never = b.never } in
        (e ∙ sym f, before_same p q)

marked_of : {text : List ℕ} {i from : ℕ} (a : InvalidNameEscape text i from) → Marked (behind text i) a.mark a.name a.rest
marked_of a = record { here = a.here; marked = a.marked; named = a.named; never = a.never }

name_escape_same : {text : List ℕ} {i from other : ℕ} → InvalidNameEscape text i from → InvalidNameEscape text i other → from ≡ other
name_escape_same {i = i} a b =
    let s = marked_same (marked_of a) (marked_of b) in
    a.begin ∙ ap (λ (v : List ℕ). i + width v + width a.name) s.0 ∙ ap (λ (v : List ℕ). i + width b.mark + width v) s.1 ∙ sym b.begin

string_escape_same : {text : List ℕ} {i from other : ℕ} → InvalidStringEscape text i from → InvalidStringEscape text i other → from ≡ other
string_escape_same {i = i} a b =
    let e : a.quote ∷ (a.inside ++ 92 ∷ a.rest) ≡ b.quote ∷ (b.inside ++ 92 ∷ b.rest) = sym a.here ∙ b.here in
    let f : a.inside ++ 92 ∷ a.rest ≡ b.inside ++ 92 ∷ b.rest = cc in
    let s = none_same is_right_inside a.inside (92 ∷ a.rest) b.inside (92 ∷ b.rest) f a.never b.never (λ g. b.right) (λ g. a.right) in
    a.begin ∙ ap (λ (v : List ℕ). i + 1 + width v) s ∙ sym b.begin

-- a quote begins no name, marked or not
escapes_differ : {text : List ℕ} {i from other : ℕ} → InvalidNameEscape text i from → InvalidStringEscape text i other → ⊥
escapes_differ {text = text} {i = i} a b = by (mark_is a.mark a.marked)
  where
    is_quote : one_of (34 ∷ 39 ∷ []) b.quote ≡ true
    is_quote = both-left (one_of (34 ∷ 39 ∷ []) b.quote) _ b.opened

    no_backslash_there : no_backslash b.quote ≡ true
    no_backslash_there = member no_backslash (34 ∷ 39 ∷ []) b.quote is_quote refl

    no_start : is_identifier_start b.quote ≡ false
    no_start = Rattle.part_words.proofs.js_grammar.LongestLemmas.not-true (is_identifier_start b.quote) (member (λ c. not (is_identifier_start c)) (34 ∷ 39 ∷ []) b.quote is_quote refl)

    no_mark : (b.quote == 35) ≡ false
    no_mark = Rattle.part_words.proofs.js_grammar.LongestLemmas.not-true (b.quote == 35) (member (λ c. not (c == 35)) (34 ∷ 39 ∷ []) b.quote is_quote refl)

    by : (a.mark ≡ []) ⊎ (a.mark ≡ 35 ∷ []) → ⊥
    by (inl e) = begins_otherwise b.quote (b.inside ++ 92 ∷ b.rest) a.name a.rest no_backslash_there no_start
        (record { here = sym b.here ∙ a.here ∙ ap (λ (u : List ℕ). u ++ (a.name ++ 92 ∷ a.rest)) e; named = a.named; never = a.never })
    by (inr e) =
        let f : b.quote ∷ (b.inside ++ 92 ∷ b.rest) ≡ 35 ∷ (a.name ++ 92 ∷ a.rest) = sym b.here ∙ a.here ∙ ap (λ (u : List ℕ). u ++ (a.name ++ 92 ∷ a.rest)) e in
        let g : b.quote ≡ 35 = cc in
        let h : (35 == 35) ≡ false = subst (λ (x : ℕ). (x == 35) ≡ false) g no_mark in
        cc

escape_same : {text : List ℕ} {i from other : ℕ} → InvalidNameEscape text i from ⊎ InvalidStringEscape text i from → InvalidNameEscape text i other ⊎ InvalidStringEscape text i other → from ≡ other
escape_same (inl a) (inl b) = name_escape_same a b
escape_same (inr a) (inr b) = string_escape_same a b
escape_same (inl a) (inr b) = absurd (escapes_differ a b)
escape_same (inr a) (inl b) = absurd (escapes_differ b a)

pub stopping_same : (k : DiagnosticKind) (text : List ℕ) (i from to from' to' : ℕ) → Stopping k text i from to → Stopping k text i from' to' → Reaches k text from to → Reaches k text from' to' → (from ≡ from') × (to ≡ to')
stopping_same fault.InvalidCharacter text i from to from' to' a b r q = (a.0 ∙ sym b.0, character_same a.1 b.1)
stopping_same fault.BinaryFile text i from to from' to' a b r q = (a.0 ∙ sym b.0, let x = a.1 in let y = b.1 in x.end ∙ sym y.end)
stopping_same fault.UnterminatedString text i from to from' to' a b r q = (a.0 ∙ sym b.0, unterminated_same _ _ a.1 b.1)
stopping_same fault.UnterminatedTemplate text i from to from' to' a b r q = (a.0 ∙ sym b.0, unterminated_same _ _ a.1 b.1)
stopping_same fault.UnterminatedRegexp text i from to from' to' a b r q = (a.0 ∙ sym b.0, unterminated_same _ _ a.1 b.1)
stopping_same fault.UnterminatedComment text i from to from' to' a b r q = (a.0 ∙ sym b.0, unterminated_same _ _ a.1 b.1)
stopping_same fault.InvalidEscape text i from to from' to' a b r q =
    let e = escape_same a b in
    (e, parts_same r (subst (λ (n : ℕ). Rattle.part_words.specs.Faults.PartsEnd false text (n + 1) to') (sym e) q))
stopping_same fault.InvalidNumber text i from to from' to' a b r q =
    let e = a.0 ∙ sym b.0 in
    (e, parts_same r (subst (λ (n : ℕ). Rattle.part_words.specs.Faults.PartsEnd true text n to') (sym e) q))
stopping_same _ text i from to from' to' a b r q = absurd a

-- ---- the token

token_same : (t u : Token) → t.kind ≡ u.kind → t.span.start ≡ u.span.start → t.span.end ≡ u.span.end → t.is_on_new_line ≡ u.is_on_new_line → t.escaped ≡ u.escaped → t.has_separator ≡ u.has_separator → t ≡ u
token_same t u a b c d e f = λ i. record { kind = a i; span = record { start = b i; end = c i }; is_on_new_line = d i; escaped = e i; has_separator = f i }

none_ends : {goal : LexicalGoal} {source : Goal} {text : List ℕ} {s : ℕ} {t u : Token} {d e : Diagnostic} → t.span.start ≡ u.span.start → GivesNone goal source text s t d → GivesNone goal source text s u e → t.span.end ≡ u.span.end
none_ends {text = text} {t = t} {u = u} {d = d} {e = e} p a b =
    let k : e.kind ≡ d.kind = b.told ∙ ap (λ (n : ℕ). fault_kind (behind text n)) (sym p) ∙ sym a.told in
    let st : Stopping d.kind text t.span.start e.span.start e.span.end = subst (λ (x : DiagnosticKind). Stopping x text t.span.start e.span.start e.span.end) k (subst (λ (n : ℕ). Stopping e.kind text n e.span.start e.span.end) (sym p) b.stops) in
    let re : Reaches d.kind text e.span.start e.span.end = subst (λ (x : DiagnosticKind). Reaches x text e.span.start e.span.end) k b.reaches in
    a.end ∙ (stopping_same d.kind text t.span.start d.span.start d.span.end e.span.start e.span.end a.stops st a.reaches re).1 ∙ sym b.end

-- one lexeme stands there, of the same characters
word_same : {goal : LexicalGoal} {text : List ℕ} {s : ℕ} {y z : Lexeme} (a : LexemeBehind goal text s y) (b : LexemeBehind goal text s z) → (y ≡ z) × (a.lex.word ≡ b.lex.word)
word_same {goal = goal} {y = y} {z = z} a b =
    let t = stands-same a.lex.stands b.lex.stands in
    let g : a.lex.goal ≡ b.lex.goal = a.of_goal ∙ sym b.of_goal in
    let l : longest (lexemes_in a.lex.goal) b.lex.word b.lex.rest ≡ true = subst (λ (x : LexicalGoal). longest (lexemes_in x) b.lex.word b.lex.rest ≡ true) (sym g) b.lex.lexeme.longest in
    let w = longest-same (lexemes_in a.lex.goal) a.lex.word a.lex.rest b.lex.word b.lex.rest t.back a.lex.lexeme.longest l in
    (lex-same a.lex b.lex g, w.front)

lexeme_tokens : {goal : LexicalGoal} {text : List ℕ} {s : ℕ} {t u : Token} (form : Lexeme → Lexeme) → GivesLexeme goal form text s t → GivesLexeme goal form text s u → t ≡ u
lexeme_tokens {t = t} {u = u} form a b =
    let w = word_same a.stands b.stands in
    let y : form a.lexeme ≡ form b.lexeme = ap form w.0 in
    token_same t u
    (a.tells.kind ∙ ap (λ (x : Lexeme). x.kind) y ∙ sym b.tells.kind)
    (a.tells.start ∙ ap (λ (x : Lexeme). x.from) y ∙ sym b.tells.start)
    (a.tells.end ∙ ap (λ (x : Lexeme). x.to) y ∙ sym b.tells.end)
    (a.tells.newline ∙ ap (λ (x : Lexeme). x.newline) y ∙ sym b.tells.newline)
    (a.tells.escaped ∙ ap (λ (x : Lexeme). x.escaped) y ∙ sym b.tells.escaped)
    (a.separated ∙ ap (λ (k : Kind). is_separated k a.stands.lex.word) (ap (λ (x : Lexeme). x.kind) w.0) ∙ ap (is_separated b.lexeme.kind) w.1 ∙ sym b.separated)

outcome_none : (goal : LexicalGoal) (form : Lexeme → Lexeme) (source : Goal) (text : List ℕ) (s : ℕ) (t : Token) (going_on faults : List Diagnostic) → same_kind Undetermined t.kind ≡ true → Outcome goal form source text s t going_on faults → (d : Diagnostic) × GivesNone goal source text s t d
outcome_none goal form source text s t going_on faults k o =
    let z = subst (λ (b : Bool). elim b as (λ _. Type 0) [ true ↦ (d : Diagnostic) × (faults ≡ d ∷ []) × GivesNone goal source text s t d | false ↦ (faults ≡ going_on) × GivesLexeme goal form text s t ]) k o in
    (z.0, z.2)

outcome_lexeme : (goal : LexicalGoal) (form : Lexeme → Lexeme) (source : Goal) (text : List ℕ) (s : ℕ) (t : Token) (going_on faults : List Diagnostic) → same_kind Undetermined t.kind ≡ false → Outcome goal form source text s t going_on faults → GivesLexeme goal form text s t
outcome_lexeme goal form source text s t going_on faults k o =
    (subst (λ (b : Bool). elim b as (λ _. Type 0) [ true ↦ (d : Diagnostic) × (faults ≡ d ∷ []) × GivesNone goal source text s t d | false ↦ (faults ≡ going_on) × GivesLexeme goal form text s t ]) k o).1

-- of two answers from one state the tokens are the same
pub next_same : (old a b : State) (t u : Token) → GivesNext division old a t → GivesNext division old b u → t ≡ u
next_same old a b t u g h = by (same_kind Undetermined t.kind) (same_kind Undetermined u.kind) refl refl
  where
    pieces : g.pieces ≡ h.pieces
    pieces = (stands-same g.stands h.stands).pieces

    starts : t.span.start ≡ u.span.start
    starts = g.start ∙ ap (λ (ps : List (List ℕ)). old.place + width (joined ps)) pieces ∙ sym h.start

    newlines : t.is_on_new_line ≡ u.is_on_new_line
    newlines = g.newline ∙ ap (λ (ps : List (List ℕ)). has_line_terminator (joined ps)) pieces ∙ sym h.newline

    by : (p q : Bool) → same_kind Undetermined t.kind ≡ p → same_kind Undetermined u.kind ≡ q → t ≡ u
    by true true e f =
        let m = outcome_none division cut old.goal old.text old.place t [] g.faults e g.outcome in
        let n = outcome_none division cut old.goal old.text old.place u [] h.faults f h.outcome in
        let x = m.1 in
        let y = n.1 in
        token_same t u (sym (kind_of_same Undetermined t.kind e) ∙ kind_of_same Undetermined u.kind f) starts (none_ends starts x y) newlines (x.escaped ∙ sym y.escaped) (x.separated ∙ sym y.separated)
    by false false e f = lexeme_tokens cut (outcome_lexeme division cut old.goal old.text old.place t [] g.faults e g.outcome) (outcome_lexeme division cut old.goal old.text old.place u [] h.faults f h.outcome)
    by true false e f = absurd (let m = outcome_none division cut old.goal old.text old.place t [] g.faults e g.outcome in let x = m.1 in let l = outcome_lexeme division cut old.goal old.text old.place u [] h.faults f h.outcome in x.none l.lexeme l.stands)
    by false true e f = absurd (let m = outcome_none division cut old.goal old.text old.place u [] h.faults f h.outcome in let x = m.1 in let l = outcome_lexeme division cut old.goal old.text old.place t [] g.faults e g.outcome in x.none l.lexeme l.stands)

pub ok_only : (old mid : State) {E : Type 0} (r : Result Token E) → IfOk r (λ t. GivesNext division old mid t) → IfOk r (λ t. (after : State) (u : Token) → GivesNext division old after u → u ≡ t)
ok_only old mid (Ok t) h = λ after u g. next_same old after mid u t g h
ok_only old mid (Err e) h = tt

-- where a token is given at once, nothing is kept
pub at_once : (q : State) (text : List ℕ) (s : ℕ) (t : Token) → q.text ≡ text → q.place ≡ s → GivesAtOnce text s t → q.keeps_tokens ≡ false → GivesNext division q (record q { place = t.span.end }) t
at_once q text s t w p h e = subst (λ (b : Bool). GivesNext division (record q { keeps_tokens = b }) (record q { keeps_tokens = b; place = t.span.end }) t) (sym e) (subst (λ (v : List ℕ). GivesNext division (record q { keeps_tokens = false; text = v }) (record q { keeps_tokens = false; text = v; place = t.span.end }) t) (sym w) (subst (λ (v : ℕ). GivesNext division (record q { keeps_tokens = false; text = text; place = v }) (record q { keeps_tokens = false; text = text; place = t.span.end }) t) (sym p) (h q.goal q.kept)))
