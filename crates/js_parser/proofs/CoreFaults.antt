-- A core text has no lexical fault.
use Rattle.std.proofs.Common.{◌≡◌, ℕ, ◌+◌, ◌==◌, Bool, true, false, List, [], ◌∷◌, ◌++◌, refl, sym, ap, subst, ◌∙◌, not, ◌&&◌, ◌||◌, Option, Some, None, inl, inr}
use Rattle.std.specs.Prelude.{codes, IsUtf8, is_some, bytes_eq, chars}
use Rattle.std.specs.List.{list_all}
use Rattle.std.proofs.lemmas.Bool.{eqb-true, or_cases}
use Rattle.std.proofs.lemmas.List.{append-nil}
use Rattle.js_base.specs.declared.diagnostic.DiagnosticKind.{DiagnosticKind}
use Rattle.js_base.specs.declared.diagnostic.DiagnosticKind.TheVariants as fault
use Rattle.js_base.specs.declared.kind.Kind.{Kind}
use Rattle.js_base.specs.declared.kind.Kind.TheVariants.{Eof, RegExp, Str}
use Rattle.js_base.specs.Kinds.{code}
use Rattle.js_base.specs.Texts.{text_of}
use Rattle.js_base.specs.part_text.Characters.{one_of, is_decimal}
use Rattle.js_base.specs.part_text.Escapes.{line_feeds}
use Rattle.js_base.specs.part_text.Decoding.{string_points}
use Rattle.js_grammar.specs.Grammar.{Lexeme, Lexemes, last, next}
use Rattle.js_grammar.specs.Characters.{width, begins}
use Rattle.js_grammar.specs.Longest.{longest, none_longer, none_begins, joined}
use Rattle.js_grammar.specs.Lexed.{Lexes, NextLexeme, Stands, all_faults, end_of}
use Rattle.js_grammar.specs.Lexemes.{a_number, a_string, division, lexemes_in, may_precede, opening}
use Rattle.js_grammar.specs.Numbers.{number_kind, digits, is_number, stops_number}
use Rattle.js_grammar.specs.Settings.{Goal}
use Rattle.js_grammar.specs.Strings.{closes_string, nothing_left, string_inside, string_kind}
use Rattle.js_grammar.specs.Trivia.{is_html_comment, lack_html_comments}
use Rattle.js_grammar.specs.CoreTexts.{CoreSource, are_core, closes_core_string, core_punctuators, ends_in_glue, occurs}
use Rattle.js_grammar.specs.LexicalFaults.{behind, Due, Reached, FaultyBehind, Condition, InvalidCharacter, InvalidNameEscape, InvalidNumber, InvalidStringEscape, BinaryFile, Unterminated, is_closed_string, is_number_word, is_open_comment, is_open_part, is_open_pattern, is_open_regular_expression, is_open_string, is_part, is_comment, lacks_line_end}
use Rattle.js_grammar.specs.Lexemes.{regular_expression}
use Rattle.js_grammar.proofs.Alike.{stands-same}
use Rattle.js_grammar.proofs.CoreFirst.{is_core_first, punctuator_mark, Sort, blank, name, number, string, punctuator, decimal-ascii}
use Rattle.js_grammar.proofs.CoreLemmas.{none_longer-from, plain_of}
use Rattle.js_grammar.proofs.CoreLexed.{at_end, at_word, stands_of, at_along}
use Rattle.js_grammar.proofs.CoreNames.{ascii, IsPlain, name_no_backslash}
use Rattle.js_grammar.proofs.CoreNumbers.{nothing-nil, number-opens}
use Rattle.js_grammar.proofs.CorePlain.{no_backslash}
use Rattle.js_grammar.proofs.CoreStrings.{body_of, plain_in}
use Rattle.js_grammar.proofs.CoreTrivia.{ahead, Ahead, blanks, ends, word, lacks-behind, Lacks, piece_of, split}
use Rattle.js_grammar.proofs.Finding.{all-append, all-mono, found-all, member, neither-left, neither-right}
use Rattle.js_grammar.proofs.LongestLemmas.{both, both-left, both-right, none_longer-at, not-true}
use Rattle.js_grammar.proofs.Places.{At, at-behind, at-chars, at-start}
use Rattle.js_grammar.proofs.Standing.{none_stands}
use Rattle.js_grammar.proofs.Quotations.{quote_opens}
use Rattle.js_grammar.proofs.NumberKinds.{kind_numeric}
use Rattle.js_core.proofs.laws_shared.Paths.{unless}

-- what passes in all passes in those further on
all_back : {A : Type 0} (t : A → Bool) (xs ys : List A) → list_all t (xs ++ ys) ≡ true → list_all t ys ≡ true
all_back t [] ys h = h
all_back t (x ∷ xs) ys h = all_back t xs ys (both-right (t x) (list_all t (xs ++ ys)) h)

-- ---- no backslash stands in a core text

in_plain : (q d : ℕ) → plain_in q d ≡ true → no_backslash d ≡ true
in_plain q d p = go (d == 92) refl
  where
    go : (b : Bool) → (d == 92) ≡ b → no_backslash d ≡ true
    go false e = rw e refl
    go true e =
        let s : d ≡ 92 = eqb-true d 92 e in
        let n : one_of (92 ∷ 13 ∷ 10 ∷ []) d ≡ false = not-true (one_of (92 ∷ 13 ∷ 10 ∷ []) d) (both-right (not (d == q)) (not (one_of (92 ∷ 13 ∷ 10 ∷ []) d)) p) in
        let m : one_of (92 ∷ 13 ∷ 10 ∷ []) 92 ≡ false = subst (λ (a : ℕ). one_of (92 ∷ 13 ∷ 10 ∷ []) a ≡ false) s n in
        absurd (cc)

digit_plain : (d : ℕ) → is_decimal d ≡ true → no_backslash d ≡ true
digit_plain d h = ascii is_decimal no_backslash d refl (decimal-ascii d h) h

piece_plain : (c : ℕ) (cs rest : List ℕ) → Sort c cs rest → list_all no_backslash (c ∷ cs) ≡ true
unfolding core_punctuators
piece_plain c cs rest (blank b) =
    let n = nothing-nil cs (both-right (one_of blanks c) (nothing_left cs) b) in
    subst (λ (v : List ℕ). list_all no_backslash (c ∷ v) ≡ true) (sym n) (both (no_backslash c) true (member no_backslash blanks c (both-left (one_of blanks c) (nothing_left cs) b) refl) refl)
piece_plain c cs rest (name n) = name_no_backslash c cs n
piece_plain c cs rest (number n) =
    let ds = both-right (is_decimal c) (list_all is_decimal cs && (not (c == 48) || nothing_left cs)) n in
    all-mono is_decimal no_backslash (c ∷ cs) digit_plain (both (is_decimal c) (list_all is_decimal cs) (both-left (is_decimal c) (list_all is_decimal cs && (not (c == 48) || nothing_left cs)) n) (both-left (list_all is_decimal cs) (not (c == 48) || nothing_left cs) ds))
piece_plain c cs rest (string s) =
    let b = body_of c cs (both-right (one_of (34 ∷ 39 ∷ []) c) (closes_core_string c cs) s) in
    let k : no_backslash c ≡ true = member no_backslash (34 ∷ 39 ∷ []) c (both-left (one_of (34 ∷ 39 ∷ []) c) (closes_core_string c cs) s) refl in
    both (no_backslash c) (list_all no_backslash cs) k (subst (λ (v : List ℕ). list_all no_backslash v ≡ true) (sym b.is) (all-append no_backslash b.body (c ∷ []) (all-mono (plain_in c) no_backslash b.body (λ d p. in_plain c d p) b.plain) (both (no_backslash c) true k refl)))
piece_plain c cs rest (punctuator p) =
    let m = punctuator_mark c cs rest p in
    subst (λ (v : List ℕ). list_all no_backslash v ≡ true) m.text (found-all (λ k. bytes_eq (text_of k) (c ∷ cs) && may_precede k rest) (λ k. list_all no_backslash (text_of k)) core_punctuators m.kind m.listed refl)

pieces_plain : (glued : Bool) (ps : List (List ℕ)) → are_core glued ps ≡ true → list_all no_backslash (joined ps) ≡ true
pieces_plain glued [] h = refl
pieces_plain glued ([] ∷ ps) h = pieces_plain (ends_in_glue []) ps (split glued [] ps h).2
pieces_plain glued ((c ∷ cs) ∷ ps) h = all-append no_backslash (c ∷ cs) (joined ps) (piece_plain c cs (joined ps) (piece_of glued c cs ps h)) (pieces_plain (ends_in_glue (c ∷ cs)) ps (split glued (c ∷ cs) ps h).2)

-- ---- the places that lexemes lead to

-- behind the place the text goes on with core pieces
record Place (text : List ℕ) (s : ℕ) : Type 0 where
  pub glued : Bool
  pub pieces : List (List ℕ)
  pub core : are_core glued pieces ≡ true
  pub lacks : Lacks (joined pieces)
  pub at : At text s (joined pieces)

at_first : {text : List ℕ} → IsUtf8 text → CoreSource text → Place text 0
at_first {text} u c = record {
  glued = false;
  pieces = c.pieces;
  core = c.core;
  lacks = subst (λ (v : List ℕ). Lacks v) c.splits (record { open_mark = not-true (occurs (codes "<!--") (chars text)) c.lacks_open; close_mark = not-true (occurs (codes "-->") (chars text)) c.lacks_close });
  at = at_along c.splits (at-start text u);
}

-- which lexeme stands there, and that it is no regular expression
record Stood (text : List ℕ) (s : ℕ) (y : Lexeme) : Type 0 where
  pub behind : Place text y.to
  pub plain : y.kind ≡ RegExp → ⊥

stood : {text : List ℕ} {s : ℕ} → Place text s → (y : Lexeme) → NextLexeme all_faults text s y → Stood text s y
stood {text} {s} p y l = go (ahead (s == 0) p.glued p.pieces p.core p.lacks)
  where
    go : Ahead (s == 0) p.pieces → Stood text s y
    go (ends qs e t h) =
        let same = (at_end text s qs (stands_of qs [] [] p.at e t) h).only all_faults y l in
        let a : At text (s + width (joined qs) + width []) [] = at-behind [] [] (at-behind (joined qs) [] (at_along e p.at)) in
        record {
          behind = subst (λ (x : Lexeme). Place text x.to) (sym same) (record { glued = false; pieces = []; core = refl; lacks = lacks-behind (joined qs) [] (subst (λ (v : List ℕ). Lacks v) e p.lacks); at = a });
          plain = λ k. let z : Eof ≡ RegExp = sym (ap (λ (x : Lexeme). x.kind) same) ∙ k in cc;
        }
    go (word qs c cs later e t h f i k m) =
        let inside = not-true (one_of (code Eof ∷ code RegExp ∷ []) (code i.kind)) i.inside in
        let other = neither-left (code RegExp == code i.kind) false (neither-right (code Eof == code i.kind) (one_of (code RegExp ∷ []) (code i.kind)) inside) in
        let same = (at_word text s qs c cs (joined later) (stands_of qs (c ∷ cs) (joined later) p.at e t) h f i other).only all_faults y l in
        let a : At text (s + width (joined qs) + width (c ∷ cs)) (joined later) = at-behind (c ∷ cs) (joined later) (at-behind (joined qs) (c ∷ cs ++ joined later) (at_along e p.at)) in
        record {
          behind = subst (λ (x : Lexeme). Place text x.to) (sym same) (record { glued = ends_in_glue (c ∷ cs); pieces = later; core = k; lacks = lacks-behind (c ∷ cs) (joined later) (lacks-behind (joined qs) (c ∷ cs ++ joined later) (subst (λ (v : List ℕ). Lacks v) e p.lacks)); at = a });
          plain = λ z. let n : (code RegExp == code RegExp) ≡ false = subst (λ (a : Kind). (code RegExp == code a) ≡ false) (sym (ap (λ (x : Lexeme). x.kind) same) ∙ z) other in cc;
        }

through : {text : List ℕ} {s : ℕ} → Place text s → (ls : Lexemes) → Lexes (NextLexeme all_faults text) s ls → Place text (end_of ls)
through p (last x) l = (stood p x l).behind
through p (next x ls) l = through (stood p x l.0).behind ls l.1

place_at : {text : List ℕ} {s : ℕ} → IsUtf8 text → CoreSource text → Reached text s → Place text s
place_at {text} u c (inl e) = subst (λ (n : ℕ). Place text n) (sym e) (at_first u c)
place_at {text} u c (inr h) = subst (λ (n : ℕ). Place text n) h.2 (through (at_first u c) h.0 h.1)

-- ---- what stands where a lexeme is due

data Met (cs : List ℕ) : Type 0 where
  nothing : cs ≡ [] → Met cs
  something : (c : ℕ) (w rest : List ℕ) → cs ≡ c ∷ w ++ rest → is_core_first c ≡ true → IsPlain (c ∷ w) rest → Met cs

met : {text : List ℕ} {s i : ℕ} → Place text s → Due text s i → Met (behind text i)
met {text} {s} {i} p d = go (ahead (s == 0) p.glued p.pieces p.core p.lacks)
  where
    go : Ahead (s == 0) p.pieces → Met (behind text i)
    go (ends qs e t h) = nothing (stands-same d.stands (stands_of qs [] [] p.at e t)).back
    go (word qs c cs later e t h f j k m) = something c cs (joined later) (stands-same d.stands (stands_of qs (c ∷ cs) (joined later) p.at e t)).back f j

lacking : {text : List ℕ} {s : ℕ} {qs : List (List ℕ)} {rest : List ℕ} → Place text s → Stands text s qs [] rest → lack_html_comments qs ≡ true
lacking {text} {s} {qs} p st = go (ahead (s == 0) p.glued p.pieces p.core p.lacks)
  where
    go : Ahead (s == 0) p.pieces → lack_html_comments qs ≡ true
    go (ends os e t h) = subst (λ (v : List (List ℕ)). lack_html_comments v ≡ true) (sym (stands-same st (stands_of os [] [] p.at e t)).pieces) h
    go (word os c cs later e t h f j k m) = subst (λ (v : List (List ℕ)). lack_html_comments v ≡ true) (sym (stands-same st (stands_of os (c ∷ cs) (joined later) p.at e t)).pieces) h

due_plain : {text : List ℕ} {s i : ℕ} → Place text s → Due text s i → list_all no_backslash (behind text i) ≡ true
due_plain {text} {s} {i} p d = all_back no_backslash (joined d.pieces) (behind text i) (subst (λ (v : List ℕ). list_all no_backslash v ≡ true) (sym (at-chars p.at) ∙ d.stands.splits) (pieces_plain p.glued p.pieces p.core))

-- ---- the faults

no_first : (c d : ℕ) → c ≡ d → is_core_first c ≡ true → is_core_first d ≡ false → ⊥
no_first c d e f n = let k : is_core_first d ≡ true = subst (λ (a : ℕ). is_core_first a ≡ true) e f in cc

-- the first characters of a form that is opened
no_character : {text : List ℕ} {i to : ℕ} → Met (behind text i) → InvalidCharacter text i to → ⊥
no_character (nothing e) x = let h = x.here in cc
no_character (something c w rest e f j) x =
    let n = both-left (none_begins (lexemes_in division) (x.character ∷ x.rest)) _ x.nothing in
    none_stands division (c ∷ w) rest x.character x.rest n (sym e ∙ x.here) (both-left (lexemes_in division (c ∷ w) rest) (none_longer (lexemes_in division) (c ∷ w) rest) j.longest)

no_binary : {text : List ℕ} {i to : ℕ} → Met (behind text i) → BinaryFile text i to → ⊥
no_binary (nothing e) x = let h = x.here in cc
no_binary (something c w rest e f j) x = let s : c ≡ 65533 = (let h = sym e ∙ x.here in cc) in no_first c 65533 s f refl

no_part : {text : List ℕ} {i to : ℕ} → Met (behind text i) → Unterminated is_open_part is_part text i to → ⊥
no_part {text} {i} m x = go x.word x.rest x.here (both-left (is_open_part x.word x.rest) (none_longer is_open_part x.word x.rest) x.opened) m
  where
    go : (v more : List ℕ) → behind text i ≡ v ++ more → is_open_part v more ≡ true → Met (behind text i) → ⊥
    go [] more h o m = cc
    go (d ∷ v) more h o (nothing e) = cc
    go (d ∷ v) more h o (something c w rest e f j) =
        let s : c ≡ d = (let q = sym e ∙ h in cc) in
        no_first c d s f (not-true (is_core_first d) (member (λ a. not (is_core_first a)) (96 ∷ 125 ∷ []) d o refl))

no_pattern : {text : List ℕ} {i to : ℕ} → Met (behind text i) → Unterminated is_open_regular_expression (lexemes_in regular_expression) text i to → ⊥
no_pattern {text} {i} m x = go x.word x.rest x.here (both-left (is_open_regular_expression x.word x.rest) (none_longer is_open_regular_expression x.word x.rest) x.opened) m
  where
    go : (v more : List ℕ) → behind text i ≡ v ++ more → is_open_regular_expression v more ≡ true → Met (behind text i) → ⊥
    go [] more h o m = cc
    go (d ∷ v) more h o (nothing e) = cc
    go (d ∷ v) more h o (something c w rest e f j) =
        let s : c ≡ d = (let q = sym e ∙ h in cc) in
        no_first c 47 (s ∙ sym (eqb-true 47 d (both-left (47 == d) (is_open_pattern v) o))) f refl

no_comment : {text : List ℕ} {i to : ℕ} → Met (behind text i) → Unterminated is_open_comment is_comment text i to → ⊥
no_comment {text} {i} m x = go x.word x.rest x.here (both-left (is_open_comment x.word x.rest) (none_longer is_open_comment x.word x.rest) x.opened) m
  where
    go : (v more : List ℕ) → behind text i ≡ v ++ more → is_open_comment v more ≡ true → Met (behind text i) → ⊥
    go [] more h o m = cc
    go (d ∷ v) more h o (nothing e) = cc
    go (d ∷ v) more h o (something c w rest e f j) =
        let s : c ≡ d = (let q = sym e ∙ h in cc) in
        no_first c 47 (s ∙ sym (eqb-true 47 d (both-left (47 == d) _ o))) f refl

-- a string is closed
closed : (q : ℕ) (cs : List ℕ) (k : Kind) → string_kind (q ∷ cs) ≡ Some k → (one_of (34 ∷ 39 ∷ []) q && closes_string q false (line_feeds cs)) ≡ true
closed q cs k e = go (one_of (34 ∷ 39 ∷ []) q) (closes_string q false (line_feeds cs)) (is_some (string_points (string_inside (q ∷ cs)))) e
  where
    go : (a b d : Bool) → elim (a && (b && d)) as (λ _. Option Kind) [ true ↦ Some Str | false ↦ None ] ≡ Some k → (a && b) ≡ true
    go true true d h = refl
    go true false d h = cc
    go false b d h = cc

no_string : {text : List ℕ} {i to : ℕ} → Met (behind text i) → Unterminated is_open_string is_closed_string text i to → ⊥
no_string {text} {i} m x = go x.word x.rest x.here (both-left (is_open_string x.word x.rest) (none_longer is_open_string x.word x.rest) x.opened) x.never m
  where
    go : (v more : List ℕ) → behind text i ≡ v ++ more → is_open_string v more ≡ true → none_begins is_closed_string (v ++ more) ≡ true → Met (behind text i) → ⊥
    go [] more h o n m = cc
    go (d ∷ v) more h o n (nothing e) = cc
    go (d ∷ v) more h o n (something c w rest e f j) =
        let q = sym e ∙ h in
        let s : d ≡ c = cc in
        let quote : one_of (34 ∷ 39 ∷ []) c ≡ true = subst (λ (a : ℕ). one_of (34 ∷ 39 ∷ []) a ≡ true) s (both-left (one_of (34 ∷ 39 ∷ []) d) (lacks_line_end false (line_feeds v)) o) in
        let k : string_kind (c ∷ w) ≡ Some j.kind = sym (plain_of a_string c w rest (quote_opens c (begins is_decimal w) quote)) ∙ j.is in
        let is : is_closed_string (c ∷ w) rest ≡ true = closed c w j.kind k in
        let no : is_closed_string (c ∷ w) rest ≡ false = none_longer-at is_closed_string [] c w rest (subst (λ (u : List ℕ). none_begins is_closed_string u ≡ true) (sym q) n) in
        cc

-- no escape
no_name_escape : {text : List ℕ} {i from : ℕ} → list_all no_backslash (behind text i) ≡ true → InvalidNameEscape text i from → ⊥
no_name_escape {text} {i} h x =
    let a = all_back no_backslash x.mark (x.name ++ 92 ∷ x.rest) (subst (λ (v : List ℕ). list_all no_backslash v ≡ true) x.here h) in
    let b = all_back no_backslash x.name (92 ∷ x.rest) a in
    cc

no_string_escape : {text : List ℕ} {i from : ℕ} → list_all no_backslash (behind text i) ≡ true → InvalidStringEscape text i from → ⊥
no_string_escape {text} {i} h x =
    let b = all_back no_backslash (x.quote ∷ x.inside) (92 ∷ x.rest) (subst (λ (v : List ℕ). list_all no_backslash v ≡ true) x.here h) in
    cc

-- where a number opens, it is the longest one, and stops
record Numbered (w rest : List ℕ) : Type 0 where
  pub long : longest is_number_word w rest ≡ true
  pub stops : stops_number rest ≡ true

numbered : (c : ℕ) (cs rest : List ℕ) → IsPlain (c ∷ cs) rest → ((x : List ℕ) → opening c (begins is_decimal (cs ++ x)) ≡ a_number) → Numbered (c ∷ cs) rest
numbered c cs rest j o =
    let first : opening c (begins is_decimal cs) ≡ a_number = subst (λ (v : List ℕ). opening c (begins is_decimal v) ≡ a_number) (append-nil cs) (o []) in
    let k : number_kind (c ∷ cs) ≡ Some j.kind = sym (plain_of a_number c cs rest first) ∙ j.is in
    record {
      long = both (is_number_word (c ∷ cs) rest) (none_longer is_number_word (c ∷ cs) rest) (ap is_some k) (none_longer-from is_number_word (c ∷ cs) rest (λ d x more e.
          let n : lexemes_in division (c ∷ cs ++ d ∷ x) more ≡ false = none_longer-at (lexemes_in division) (c ∷ cs) d x more (subst (λ (v : List ℕ). none_longer (lexemes_in division) (c ∷ cs) v ≡ true) e (both-right (lexemes_in division (c ∷ cs) rest) (none_longer (lexemes_in division) (c ∷ cs) rest) j.longest)) in
          sym (ap is_some (plain_of a_number c (cs ++ d ∷ x) more (o (d ∷ x)))) ∙ n));
      stops = unless (is_number j.kind) (stops_number rest) (kind_numeric (c ∷ cs) j.kind k) j.apart;
    }

-- a dot and a digit are a number
dotted : (d : ℕ) (rest : List ℕ) → is_decimal d ≡ true → lexemes_in division (46 ∷ d ∷ []) rest ≡ true
dotted d rest h = ap is_some (plain_of a_number 46 (d ∷ []) rest (ap (λ (b : Bool). opening 46 b) h)) ∙ rw (h, digits) refl

no_number : {text : List ℕ} {i : ℕ} → Met (behind text i) → InvalidNumber text i → ⊥
no_number (nothing e) x = let h = x.here in cc
no_number {text} {i} (something c w rest e f j) x = elim (or_cases (is_decimal x.first) ((x.first == 46) && begins is_decimal x.others) x.begun) [
  | inl d ↦ by_none (numbered c w rest j (λ v. number-opens c (begins is_decimal (w ++ v)) (subst (λ (a : ℕ). is_decimal a ≡ true) (sym first) d)))
  | inr d ↦ by_dot (first ∙ eqb-true x.first 46 (both-left (x.first == 46) (begins is_decimal x.others) d)) (subst (λ (v : List ℕ). begins is_decimal v ≡ true) (sym others) (both-right (x.first == 46) (begins is_decimal x.others) d)) w j refl
]
  where
    first : c ≡ x.first
    first = let q = sym e ∙ x.here in cc

    others : w ++ rest ≡ x.others
    others = let q = sym e ∙ x.here in cc

    by_none : Numbered (c ∷ w) rest → ⊥
    by_none n = x.none (c ∷ w) rest (sym x.here ∙ e) n.long n.stops

    at_digit : (rs : List ℕ) → rest ≡ rs → begins is_decimal rs ≡ true → c ≡ 46 → IsPlain (c ∷ []) rs → ⊥
    at_digit [] q b z k = cc
    at_digit (d ∷ rs) q b z k =
        let l : IsPlain (46 ∷ []) (d ∷ rs) = subst (λ (a : ℕ). IsPlain (a ∷ []) (d ∷ rs)) z k in
        let n : lexemes_in division (46 ∷ d ∷ []) rs ≡ false = none_longer-at (lexemes_in division) (46 ∷ []) d [] rs (both-right (lexemes_in division (46 ∷ []) (d ∷ rs)) (none_longer (lexemes_in division) (46 ∷ []) (d ∷ rs)) l.longest) in
        let y = dotted d rs b in
        cc

    by_dot : c ≡ 46 → begins is_decimal (w ++ rest) ≡ true → (v : List ℕ) → IsPlain (c ∷ v) rest → w ≡ v → ⊥
    by_dot z b [] k q = at_digit rest refl (subst (λ (v : List ℕ). begins is_decimal (v ++ rest) ≡ true) q b) z k
    by_dot z b (d ∷ v) k q = by_none (subst (λ (u : List ℕ). Numbered (c ∷ u) rest) (sym q) (numbered c (d ∷ v) rest k (λ y. ap (λ (a : ℕ). opening a (is_decimal d)) z ∙ ap (λ (a : Bool). opening 46 a) (subst (λ (u : List ℕ). begins is_decimal (u ++ rest) ≡ true) q b))))

-- no fault lies behind a place that lexemes lead to
pub none_faulty : {text : List ℕ} → IsUtf8 text → CoreSource text → (goal : Goal) (k : DiagnosticKind) (s from to : ℕ) → Reached text s → FaultyBehind k goal text s from to → ⊥
none_faulty {text} u c goal k s from to r f = go k f.condition
  where
    p : Place text s
    p = place_at u c r

    go : (k : DiagnosticKind) → Condition k goal text s from to → ⊥
    go fault.RegExpFlag x = (stood p x.lexeme x.lex).plain x.is
    go fault.HtmlCommentInModule x =
        let h = all_back (λ (v : List ℕ). not (is_html_comment v)) x.1.before (x.1.comment ∷ x.1.behind) (lacking p x.1.stands) in
        let n = both-left (not (is_html_comment x.1.comment)) (lack_html_comments x.1.behind) h in
        let y = x.1.is in
        cc
    go fault.InvalidCharacter (i, d, x) = no_character (met p d) x.1
    go fault.BinaryFile (i, d, x) = no_binary (met p d) x.1
    go fault.UnterminatedString (i, d, x) = no_string (met p d) x.1
    go fault.UnterminatedTemplate (i, d, x) = no_part (met p d) x.1
    go fault.UnterminatedRegexp (i, d, x) = no_pattern (met p d) x.1
    go fault.UnterminatedComment (i, d, x) = no_comment (met p d) x.1
    go fault.InvalidEscape (i, d, inl x) = no_name_escape (due_plain p d) x
    go fault.InvalidEscape (i, d, inr x) = no_string_escape (due_plain p d) x
    go fault.InvalidNumber (i, d, x) = no_number (met p d) x.1
    go _ x = absurd x.2
