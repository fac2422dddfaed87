-- What the longest punctuator, or none, tells of lexemes.
use Rattle.part_scan.proofs.Punctuators.{lone_there, lone_opens}
use Rattle.part_scan.specs.Punctuators.{StandsAlone}
use Rattle.std.proofs.Common.{◌≡◌, ◌≤◌, ℕ, ◌+◌, ◌==◌, Bool, true, false, List, [], ◌∷◌, ◌++◌, refl, sym, ap, subst, ◌∙◌, not, ◌&&◌, ◌||◌, append_assoc, arith, Some, None, length, length-append, length-drop, drop}
use Rattle.std.specs.Prelude.{is_some, IsCharBoundary, IsUtf8, bytes_eq, codes, encode_utf8, encode_utf8_all}
use Rattle.std.specs.Char.{len_utf8}
use Rattle.std.specs.List.{list_all}
use Rattle.std.proofs.lemmas.Bool.{eqb-true}
use Rattle.std.proofs.lemmas.Bool.Decides.{nat_tests}
use Rattle.std.proofs.lemmas.Str.{length-encode, len_utf8_bounds, encodes-chars, IsUtf8-drop, IsCharBoundary-end}
use Rattle.std.proofs.lemmas.List.{append-nil}
use Rattle.js_base.specs.declared.kind.Kind.{Kind}
use Rattle.js_base.specs.declared.kind.Kind.TheVariants.{Slash, PrivateIdentifier}
use Rattle.js_base.specs.declared.diagnostic.DiagnosticKind.TheVariants as fault
use Rattle.js_base.specs.Kinds.{same_kind}
use Rattle.js_base.specs.Texts.{text_of, punctuators, words}
use Rattle.js_base.specs.part_text.Characters.{one_of, is_decimal}
use Rattle.part_words.specs.js_grammar.Characters.{begins, is_identifier_start, width}
use Rattle.part_words.specs.js_grammar.CoreTexts.{starts}
use Rattle.part_words.specs.js_grammar.Longest.{Class, none_longer, none_begins}
use Rattle.part_words.specs.js_grammar.Trivia.{is_single_line_comment, is_multi_line_comment}
use Rattle.part_words.specs.js_grammar.Numbers.{is_number, stops_number}
use Rattle.part_words.specs.js_grammar.Lexemes.{Opening, punctuator_kind, plain_kind, lexemes_in, division, a_name, a_number, a_string, a_template, a_private_name, a_punctuator, opening, is_word}
use Rattle.part_words.specs.js_grammar.Lexed.{IsLexeme}
use Rattle.part_words.specs.js_grammar.LexicalFaults.{behind, begins_nothing, is_comment}
use Rattle.part_words.proofs.js_grammar.LongestLemmas.{both-left, both-right, both, not-true, none_longer-at}
use Rattle.part_words.proofs.js_grammar.Finding.{neither-left, neither-right, found-all}
use Rattle.part_words.proofs.js_grammar.CoreLemmas.{none_longer-from, plain_of}
use Rattle.part_scan.specs.declared.punctuator.Punctuator.{Punctuator}
use Rattle.part_words.specs.Places.{Word}
use Rattle.part_words.specs.Faults.{fault_kind, kind_of_fault, stray_kind}
use Rattle.part_scan.specs.Punctuators.{punctuator_of, OpensPunctuator, BeginsNone, begins_no_comment, IsPunctuator}
use Rattle.part_words.specs.Scans.{IsScanned, IsStopped, NoLexeme}
use Rattle.part_scan.proofs.Punctuators.{kind_none, kind_some, alone_none}

pub turned : (a b : ℕ) → (a == b) ≡ false → (b == a) ≡ false
turned a b h = grind (arith, nat_tests)

-- What else a character doesn't begin that begins a punctuator.
record OpensNone (name number quote backquote : Bool) : Type 0 where
  pub no_name : name ≡ false
  pub no_number : number ≡ false
  pub no_quote : quote ≡ false
  pub no_backquote : backquote ≡ false

opens_none : (a b d e f : Bool) → elim a [ true ↦ a_name | false ↦ elim b [ true ↦ a_number | false ↦ elim d [ true ↦ a_string | false ↦ elim e [ true ↦ a_template | false ↦ elim f [ true ↦ a_private_name | false ↦ a_punctuator ] ] ] ] ] ≡ a_punctuator → OpensNone a b d e
opens_none true b d e f h = absurd cc
opens_none false true d e f h = absurd cc
opens_none false false true e f h = absurd cc
opens_none false false false true f h = absurd cc
opens_none false false false false f h = record { no_name = refl; no_number = refl; no_quote = refl; no_backquote = refl }

opening_none : (c : ℕ) (b : Bool) → opening c b ≡ a_punctuator → OpensNone (is_identifier_start c || (c == 92)) (is_decimal c || ((c == 46) && b)) (one_of (34 ∷ 39 ∷ []) c) (c == 96)
opening_none c b h = opens_none (is_identifier_start c || (c == 92)) (is_decimal c || ((c == 46) && b)) (one_of (34 ∷ 39 ∷ []) c) (c == 96) (c == 35) h

-- the same for each front of the characters
fronts_open : (c : ℕ) (others cs more : List ℕ) → opening c (begins is_decimal others) ≡ a_punctuator → others ≡ cs ++ more → opening c (begins is_decimal cs) ≡ a_punctuator
fronts_open c others (d ∷ cs) more h e = subst (λ (v : List ℕ). opening c (begins is_decimal v) ≡ a_punctuator) e h
fronts_open c others [] more h e = go (begins is_decimal others) h
  where
    go : (b : Bool) → opening c b ≡ a_punctuator → opening c false ≡ a_punctuator
    go false h = h
    go true h =
        let n = (opening_none c true h).no_number in
        let m : (is_decimal c || ((c == 46) && false)) ≡ (is_decimal c || ((c == 46) && true)) = drops (is_decimal c) (c == 46) n in
        ap (λ (b : Bool). elim (is_identifier_start c || (c == 92)) [ true ↦ a_name | false ↦ elim b [ true ↦ a_number | false ↦ elim (one_of (34 ∷ 39 ∷ []) c) [ true ↦ a_string | false ↦ elim (c == 96) [ true ↦ a_template | false ↦ elim (c == 35) [ true ↦ a_private_name | false ↦ a_punctuator ] ] ] ] ]) m ∙ h
      where
        drops : (a b : Bool) → (a || (b && true)) ≡ false → (a || (b && false)) ≡ (a || (b && true))
        drops true b h = refl
        drops false true h = absurd cc
        drops false false h = refl

plain_punctuator : (c : ℕ) (cs rest : List ℕ) → opening c (begins is_decimal cs) ≡ a_punctuator → plain_kind (c ∷ cs) rest ≡ punctuator_kind (c ∷ cs) rest
plain_punctuator c cs rest h = plain_of a_punctuator c cs rest h

-- No punctuator is a word, a private name or a number.
abbrev is_mark : Kind → Bool
is_mark k = not (is_number k) && not (is_word k || same_kind PrivateIdentifier k)

all_marks : list_all is_mark punctuators ≡ true
unfolding punctuators words
all_marks = refl

mark_of : (w : List ℕ) (k : Kind) → punctuator_of w ≡ Some k → is_mark k ≡ true
mark_of w k e = found-all (λ l. bytes_eq (text_of l) w) is_mark punctuators k e all_marks

-- the longest punctuator is the longest lexeme
pub scanned : {text : List ℕ} {i : ℕ} {p : Punctuator} → OpensPunctuator (behind text i) → IsPunctuator text i p → IsScanned division text i (record { kind = p.kind; end = p.end; escaped = false; has_separator = false })
scanned {text = text} {i = i} {p = p} o x =
    let c = x.first in
    let cs = x.others in
    let rest = behind text p.end in
    let h : opening c (begins is_decimal (cs ++ rest)) ≡ a_punctuator = subst OpensPunctuator x.stands.splits o in
    let kd : plain_kind (c ∷ cs) rest ≡ Some p.kind = plain_punctuator c cs rest (fronts_open c (cs ++ rest) cs rest h refl) ∙ kind_some (c ∷ cs) rest p.kind x.kind x.precedes in
    let m = mark_of (c ∷ cs) p.kind x.kind in
    let n = not-true (is_number p.kind) (both-left (not (is_number p.kind)) (not (is_word p.kind || same_kind PrivateIdentifier p.kind)) m) in
    let w = not-true (is_word p.kind || same_kind PrivateIdentifier p.kind) (both-right (not (is_number p.kind)) (not (is_word p.kind || same_kind PrivateIdentifier p.kind)) m) in
    record {
      word = c ∷ cs;
      stands = x.stands;
      lexeme = record {
        longest = both (lexemes_in division (c ∷ cs) rest) (none_longer (lexemes_in division) (c ∷ cs) rest) (ap is_some kd)
            (none_longer-from (lexemes_in division) (c ∷ cs) rest (λ d y more e.
            let t : cs ++ rest ≡ (cs ++ d ∷ y) ++ more = ap (λ (v : List ℕ). cs ++ v) e ∙ sym (append_assoc cs (d ∷ y) more) in
            ap is_some (plain_punctuator c (cs ++ d ∷ y) more (fronts_open c (cs ++ rest) (cs ++ d ∷ y) more h t) ∙ x.never d y more e)));
        kind = kd;
        begins = refl;
        apart = ap (λ (b : Bool). not b || stops_number rest) n;
      };
      escaped = sym (ap (λ (b : Bool). b && Rattle.part_words.specs.js_grammar.Names.has_backslash (c ∷ cs)) w);
      separated = sym (ap (λ (b : Bool). b && Rattle.part_words.specs.js_grammar.Numbers.has_separator (c ∷ cs)) n);
    }

-- where no punctuator begins with the character
no_kind : (c : ℕ) (cs w more : List ℕ) → opening c (begins is_decimal cs) ≡ a_punctuator → punctuator_of (c ∷ []) ≡ None → cs ≡ w ++ more → plain_kind (c ∷ w) more ≡ None
no_kind c cs w more h n e = plain_punctuator c w more (fronts_open c cs w more h e) ∙ kind_none (c ∷ w) more (alone_none c w n)

no_lexeme : (text : List ℕ) (i : ℕ) → OpensPunctuator (behind text i) → BeginsNone (behind text i) → NoLexeme division text i
no_lexeme text i o n w more k e l = by w more e l
  where
    by : (w more : List ℕ) → behind text i ≡ w ++ more → IsLexeme division i w more k → ⊥
    by [] [] e l = subst OpensPunctuator e o
    by [] (d ∷ more) e l = let g = l.kind in cc
    by (c ∷ w) more e l =
        let a : plain_kind (c ∷ w) more ≡ None = no_kind c (w ++ more) w more (subst OpensPunctuator e o) (subst BeginsNone e n) refl in
        let b = l.kind in
        cc

binary_there : {text : List ℕ} {i j : ℕ} → IsCharBoundary text i → OpensPunctuator (behind text i) → BeginsNone (behind text i) → Word text i j (65533 ∷ []) → IsStopped division text i (record { kind = fault.BinaryFile; start = i; end = j })
binary_there {text = text} {i = i} {j = j} b o n w = record {
  none = no_lexeme text i o n;
  condition = (refl, record { rest = behind text j; here = w.splits; end = let e = w.end in omega arith });
  follows = omega arith;
  ordered = let e = w.end in omega arith;
  begins_between = b;
  ends_between = w.boundary;
  told = sym (ap fault_kind w.splits ∙ ap (λ (p : Opening). kind_of_fault p 65533 (behind text j)) (subst OpensPunctuator w.splits o));
  reaches = tt;
}

pub binary : {text : List ℕ} {i j c : ℕ} → IsCharBoundary text i → OpensPunctuator (behind text i) → BeginsNone (behind text i) → Word text i j (c ∷ []) → c ≡ 65533 → IsStopped division text i (record { kind = fault.BinaryFile; start = i; end = j })
binary {text = text} {i = i} {j = j} b o n w e = binary_there b o n (subst (λ (d : ℕ). Word text i j (d ∷ [])) e w)

not_in : (c d : ℕ) (k : Kind) → punctuator_of (d ∷ []) ≡ Some k → punctuator_of (c ∷ []) ≡ None → (d == c) ≡ false
not_in c d k e n = go (d == c) refl
  where
    go : (b : Bool) → (d == c) ≡ b → (d == c) ≡ false
    go false g = g
    go true g = absurd (let s : punctuator_of (d ∷ []) ≡ None = subst (λ (x : ℕ). punctuator_of (x ∷ []) ≡ None) (sym (eqb-true d c g)) n in cc)

slash_in : (c : ℕ) → punctuator_of (c ∷ []) ≡ None → (47 == c) ≡ false
unfolding punctuators
slash_in c n = not_in c 47 Slash refl n

brace_in : (c : ℕ) → punctuator_of (c ∷ []) ≡ None → (125 == c) ≡ false
unfolding punctuators
brace_in c n = not_in c 125 Rattle.js_base.specs.declared.kind.Kind.TheVariants.RCurly refl n

nothing_begins : (c : ℕ) (cs : List ℕ) → opening c (begins is_decimal cs) ≡ a_punctuator → punctuator_of (c ∷ []) ≡ None → (0xFFFD == c) ≡ false → begins_nothing c cs ≡ true
nothing_begins c cs h n r =
    let f = opening_none c (begins is_decimal cs) h in
    let digit = neither-left (is_decimal c) ((c == 46) && begins is_decimal cs) f.no_number in
    let dot = neither-right (is_decimal c) ((c == 46) && begins is_decimal cs) f.no_number in
    let quote = neither-left (34 == c) (one_of (39 ∷ []) c) f.no_quote in
    let apostrophe = neither-left (39 == c) false (neither-right (34 == c) (one_of (39 ∷ []) c) f.no_quote) in
    let backquote = turned c 96 f.no_backquote in
    let backslash = turned c 92 (neither-right (is_identifier_start c) (c == 92) f.no_name) in
    let slash = slash_in c n in
    let brace = brace_in c n in
    both (none_begins (lexemes_in division) (c ∷ cs)) (not (is_decimal c || (one_of (34 ∷ 39 ∷ 96 ∷ 47 ∷ 92 ∷ 125 ∷ 0xFFFD ∷ []) c || ((c == 46) && begins is_decimal cs))))
    (none_longer-from (lexemes_in division) [] (c ∷ cs) (λ d y more e. (let s : c ≡ d = cc in let t : cs ≡ y ++ more = cc in ap is_some (subst (λ (x : ℕ). plain_kind (x ∷ y) more ≡ None) s (no_kind c cs y more h n t)))))
    (not_any (is_decimal c) (34 == c) (39 == c) (96 == c) (47 == c) (92 == c) (125 == c) (0xFFFD == c) ((c == 46) && begins is_decimal cs) digit quote apostrophe backquote slash backslash brace r dot)
  where
    not_any : (a b d e f g h i j : Bool) → a ≡ false → b ≡ false → d ≡ false → e ≡ false → f ≡ false → g ≡ false → h ≡ false → i ≡ false → j ≡ false → not (a || ((b || (d || (e || (f || (g || (h || (i || false))))))) || j)) ≡ true
    not_any a b d e f g h i j p1 p2 p3 p4 p5 p6 p7 p8 p9 = rw (p1, p2, p3, p4, p5, p6, p7, p8, p9) refl

differs : (c d : ℕ) → (c ≡ d → ⊥) → (d == c) ≡ false
differs c d f = go (d == c) refl
  where
    go : (b : Bool) → (d == c) ≡ b → (d == c) ≡ false
    go false g = g
    go true g = absurd (f (sym (eqb-true d c g)))

stray_told : (c : ℕ) (cs : List ℕ) → punctuator_of (c ∷ []) ≡ None → (0xFFFD == c) ≡ false → stray_kind c cs ≡ fault.InvalidCharacter
stray_told c cs n r = by (c == 47) (c == 125) (c == 0xFFFD) (turned 47 c (slash_in c n)) (turned 125 c (brace_in c n)) (turned 0xFFFD c r)
  where
    by : (a b d : Bool) → a ≡ false → b ≡ false → d ≡ false → elim a [ true ↦ elim (begins (λ x. x == 42) cs) [ true ↦ fault.UnterminatedComment | false ↦ fault.UnterminatedRegexp ] | false ↦ elim b [ true ↦ fault.UnterminatedTemplate | false ↦ elim d [ true ↦ fault.BinaryFile | false ↦ fault.InvalidCharacter ] ] ] ≡ fault.InvalidCharacter
    by a b d e f g = rw (e, f, g) refl

pub stray : {text : List ℕ} {i j c : ℕ} → IsCharBoundary text i → OpensPunctuator (behind text i) → BeginsNone (behind text i) → Word text i j (c ∷ []) → (c ≡ 0xFFFD → ⊥) → IsStopped division text i (record { kind = fault.InvalidCharacter; start = i; end = j })
stray {text = text} {i = i} {j = j} {c = c} b o z w n = record {
  none = no_lexeme text i o z;
  condition = (refl, record { character = c; rest = behind text j; here = w.splits; nothing = nothing_begins c (behind text j) (subst OpensPunctuator w.splits o) (subst BeginsNone w.splits z) (differs c 0xFFFD n); end = let e = w.end in omega arith });
  follows = omega arith;
  ordered = let e = w.end in let l = (len_utf8_bounds c).0 in omega arith;
  begins_between = b;
  ends_between = w.boundary;
  told = sym (ap fault_kind w.splits ∙ ap (λ (p : Opening). kind_of_fault p c (behind text j)) (subst OpensPunctuator w.splits o) ∙ stray_told c (behind text j) (subst BeginsNone w.splits z) (differs c 0xFFFD n));
  reaches = tt;
}

-- a comment that nothing ends
none_mono : (a b : Class) (cs : List ℕ) → ((w rest : List ℕ) → a w rest ≡ false → b w rest ≡ false) → none_begins a cs ≡ true → none_begins b cs ≡ true
none_mono a b cs f h = none_longer-from b [] cs (λ c x more e. f (c ∷ x) more (none_longer-at a [] c x more (subst (λ (v : List ℕ). none_longer a [] v ≡ true) e h)))

pub length-all : (cs : List ℕ) → length (encode_utf8_all cs) ≡ width cs
length-all [] = refl
length-all (c ∷ cs) = length-append (encode_utf8 c) (encode_utf8_all cs) ∙ ap (λ (n : ℕ). n + length (encode_utf8_all cs)) (length-encode c) ∙ ap (λ (n : ℕ). len_utf8 c + n) (length-all cs)

to_end : (text : List ℕ) (i : ℕ) → IsUtf8 text → IsCharBoundary text i → length text ≡ i + width (behind text i)
to_end text i u b =
    let e : width (behind text i) ≡ length (drop i text) = sym (length-all (behind text i)) ∙ ap length (encodes-chars (drop i text) (IsUtf8-drop text i u b)) in
    let l = length-drop i text in
    let w = b.0 in
    omega arith

record Begun (cs : List ℕ) : Type 0 where
  pub others : List ℕ
  pub is : cs ≡ 47 ∷ 42 ∷ others

begun : (cs : List ℕ) → starts (codes "/*") cs ≡ true → Begun cs
begun [] h = absurd cc
begun (c ∷ []) h = absurd (let g = both-right (47 == c) false h in cc)
begun (c ∷ d ∷ cs) h =
    let p = eqb-true 47 c (both-left (47 == c) ((42 == d) && true) h) in
    let q = eqb-true 42 d (both-left (42 == d) true (both-right (47 == c) ((42 == d) && true) h)) in
    record { others = cs; is = ap (λ (x : ℕ). x ∷ d ∷ cs) (sym p) ∙ ap (λ (x : ℕ). 47 ∷ x ∷ cs) (sym q) }

slash_star_none : (x : List ℕ) → punctuator_of (47 ∷ 42 ∷ x) ≡ None
unfolding punctuators
slash_star_none x = refl

slash_before_star : (more : List ℕ) → punctuator_kind (47 ∷ []) (42 ∷ more) ≡ None
unfolding punctuators
slash_before_star more = refl

slash_kind : (w more others : List ℕ) → 42 ∷ others ≡ w ++ more → plain_kind (47 ∷ w) more ≡ None
slash_kind [] more others e = subst (λ (v : List ℕ). punctuator_kind (47 ∷ []) v ≡ None) e (slash_before_star others)
slash_kind (d ∷ w) more others e = let h : 42 ≡ d = cc in subst (λ (x : ℕ). plain_kind (47 ∷ x ∷ w) more ≡ None) h (kind_none (47 ∷ 42 ∷ w) more (slash_star_none w))

no_lexeme_begun : (text : List ℕ) (i : ℕ) → Begun (behind text i) → NoLexeme division text i
no_lexeme_begun text i g w more k e l = by w more (sym g.is ∙ e) l
  where
    by : (w more : List ℕ) → 47 ∷ 42 ∷ g.others ≡ w ++ more → IsLexeme division i w more k → ⊥
    by [] [] e l = absurd cc
    by [] (d ∷ more) e l = let h = l.kind in cc
    by (c ∷ w) more e l =
        let s : 47 ≡ c = cc in
        let t : 42 ∷ g.others ≡ w ++ more = cc in
        let a : plain_kind (c ∷ w) more ≡ None = subst (λ (x : ℕ). plain_kind (x ∷ w) more ≡ None) s (slash_kind w more g.others t) in
        let b = l.kind in
        cc

begun-width : (cs : List ℕ) → Begun cs → 1 ≤ width cs
begun-width cs g = let e : width cs ≡ 1 + (1 + width g.others) = ap width g.is in omega arith

pub unterminated : {text : List ℕ} {i : ℕ} → IsUtf8 text → IsCharBoundary text i → starts (codes "/*") (behind text i) ≡ true → begins_no_comment (behind text i) ≡ true → IsStopped division text i (record { kind = fault.UnterminatedComment; start = i; end = length text })
unterminated {text = text} {i = i} u b h n =
    let e = to_end text i u b in
    let g = begun (behind text i) h in
    let l = begun-width (behind text i) g in
    record {
      none = no_lexeme_begun text i g;
      condition = (
        refl,
        record {
          word = behind text i;
          rest = [];
          here = sym (append-nil (behind text i));
          opened = both (starts (codes "/*") (behind text i)) true h refl;
          never = subst (λ (v : List ℕ). none_begins is_comment v ≡ true) (sym (append-nil (behind text i)))
              (none_mono (λ w rest. is_single_line_comment w || is_multi_line_comment w) is_comment (behind text i) (λ w rest f. neither-right (is_single_line_comment w) (is_multi_line_comment w) f) n);
          end = e;
        },
      );
      follows = omega arith;
      ordered = omega arith;
      begins_between = b;
      ends_between = IsCharBoundary-end text;
      told = sym (ap fault_kind g.is);
      reaches = tt;
    }

-- a punctuator of one character that is the longest one
pub lone_scanned : {text : List ℕ} {i b : ℕ} {k : Kind} → Word text i (i + 1) (b ∷ []) → punctuator_of (b ∷ []) ≡ Some k → StandsAlone text i b → IsScanned division text i (record { kind = k; end = i + 1; escaped = false; has_separator = false })
lone_scanned s e a = scanned (lone_opens s e a) (lone_there s e a)
