-- Readings of whole numbers, and what they tell of lexemes.
use Rattle.std.proofs.Common.{◌≡◌, ℕ, ◌+◌, ◌==◌, Bool, true, false, List, [], ◌∷◌, ◌++◌, refl, sym, ap, subst, ◌∙◌, not, ◌&&◌, ◌||◌, arith, Option, Some, None, inl, inr}
use Rattle.std.specs.Prelude.{is_some, nat_lt, nat_eq, IsCharBoundary, Result, Ok, IsTrue}
use Rattle.std.specs.List.{list_all}
use Rattle.std.proofs.lemmas.Bool.{eqb-true, or_right}
use Rattle.std.proofs.lemmas.Bool.Decides.{nat_tests}
use Rattle.js_base.specs.declared.kind.Kind.{Kind}
use Rattle.js_base.specs.declared.kind.Kind.TheVariants.{Ident, PrivateIdentifier, Decimal, Float, Binary, Octal, Hex, PositiveExponential, NegativeExponential, DecimalBigInt, BinaryBigInt, OctalBigInt, HexBigInt}
use Rattle.js_base.specs.declared.diagnostic.DiagnosticKind.{DiagnosticKind}
use Rattle.js_base.specs.declared.diagnostic.DiagnosticKind.TheVariants as fault
use Rattle.js_base.specs.Kinds.{code, same_kind, one_of_kinds}
use Rattle.js_base.specs.part_text.Characters.{one_of, is_decimal, is_hex, is_octal, is_binary}
use Rattle.part_words.specs.js_grammar.Characters.{begins}
use Rattle.part_words.specs.js_grammar.Longest.{longest, none_longer}
use Rattle.part_words.specs.js_grammar.Numbers.{Rest, suffix, digits, exponent, decimal_rest, integer_rest, legacy, zero_rest, number_kind, has_separator, stops_number, is_number}
use Rattle.part_words.specs.js_grammar.Lexemes.{plain_kind, lexemes_in, division, a_number, opening, is_escaped, Opening}
use Rattle.part_words.specs.js_grammar.Lexed.{IsLexeme}
use Rattle.part_words.specs.js_grammar.LexicalFaults.{behind, InvalidNumber, is_number_word, Stopping}
use Rattle.part_words.proofs.js_grammar.LongestLemmas.{both-left, both-right, both, not-true, none_longer-at, fronts}
use Rattle.part_words.proofs.js_grammar.Finding.{member, kind_member, all-mono}
use Rattle.part_words.proofs.js_grammar.CoreLemmas.{none_longer-from, plain_of}
use Rattle.part_words.proofs.js_grammar.CoreFirst.{decimal-ascii}
use Rattle.part_words.proofs.js_grammar.CoreNames.{ascii}
use Rattle.part_words.proofs.js_grammar.CoreNumbers.{number-opens}
use Rattle.part_words.proofs.js_grammar.NumberKinds.{kind_numeric}
use Rattle.part_scan.specs.declared.number.Number.{Number}
use Rattle.part_scan.specs.declared.number.Legacy.{Legacy}
use Rattle.part_words.specs.declared.scan.Fault.{Fault}
use Rattle.part_words.specs.Places.{Word}
use Rattle.part_words.specs.Scans.{IsScanned, IsStopped, NoLexeme}
use Rattle.part_scan.specs.Numbers.{begins_number, goes_on, Unstopped, IsRest, Reads, AreLegacy}
use Rattle.part_words.specs.Places.{in_radix, Finds}
use Rattle.part_scan.proofs.Numbers.{decimal-on, same-head}
use Rattle.part_scan.proofs.NumberRests.{behind_word, behind_one, behind_rejected, same_here, same_from_head, fronts_go_on, one_fails, front-of, stays}
use Rattle.part_words.specs.Faults.{PartsEnd, Reaches, fault_kind, kind_of_fault, is_part}
use Rattle.part_words.proofs.Parts.{parts_some}
use Rattle.std.proofs.lemmas.Str.{len_utf8_bounds}

-- behind a zero: the digits of a legacy integer
zero_legacy : (word v : List ℕ) → begins is_decimal word ≡ true → zero_rest (word ++ v) ≡ legacy false (word ++ v)
zero_legacy [] v h = cc
zero_legacy (c ∷ word) v h = rw (h, zero_rest, legacy) refl

legacy_above : (v : List ℕ) → begins is_decimal v ≡ false → legacy true v ≡ decimal_rest v
legacy_above [] h = refl
legacy_above (c ∷ v) h = rw (h, legacy) refl

-- a word from a place at which a digit stands to one at which none does
word_begins : (p : ℕ → Bool) (word cs ds : List ℕ) → cs ≡ word ++ ds → begins p cs ≡ true → begins p ds ≡ false → begins p word ≡ true
word_begins p [] cs ds e h k = let m : begins p ds ≡ true = subst (λ (v : List ℕ). begins p v ≡ true) e h in cc
word_begins p (c ∷ word) cs ds e h k = subst (λ (v : List ℕ). begins p v ≡ true) e h

no_separators : (word : List ℕ) → list_all is_decimal word ≡ true → has_separator word ≡ false
no_separators word h = Rattle.part_words.proofs.js_grammar.Runs.none-any (λ c. c == 95) is_decimal word (λ c g. not-true (c == 95) (ascii is_decimal (λ a. not (a == 95)) c refl (decimal-ascii c g) g)) h

legacy_word : {q : Rest} {text : List ℕ} {i : ℕ} {n : Legacy} {result : Result Number ℕ} → AreLegacy text i n → begins is_decimal (behind text i) ≡ true
    → ((v more : List ℕ) → behind text n.end ≡ v ++ more → legacy n.above v ≡ q v) → Reads q false text n.end result → Reads zero_rest false text i result
legacy_word {text = text} {i = i} {n = n} d h f x =
    let w : begins is_decimal d.word ≡ true = word_begins is_decimal d.word (behind text i) (behind text n.end) d.stands.splits h d.end in
    behind_word d.stands (λ v more e. zero_legacy d.word v w ∙ d.left v ∙ f v more e) (fronts_go_on zero_rest d.word (behind text n.end) (all-mono is_decimal goes_on d.word decimal-on d.decimal)) (sym (no_separators d.word d.decimal)) x

pub reads_above : {text : List ℕ} {i : ℕ} {n : Legacy} {result : Result Number ℕ} → AreLegacy text i n → begins is_decimal (behind text i) ≡ true → n.above ≡ true → Reads decimal_rest false text n.end result → Reads zero_rest false text i result
reads_above {text = text} {n = n} d h a x = legacy_word d h (λ v more e. ap (λ (b : Bool). legacy b v) a ∙ legacy_above v (front-of is_decimal v more d.end e)) x

legacy_octal : (c : ℕ) (v : List ℕ) → is_decimal c ≡ false → legacy false (c ∷ v) ≡ None
legacy_octal c v h = rw (h, legacy) refl

pub reads_octal : {text : List ℕ} {i : ℕ} {n : Legacy} → AreLegacy text i n → begins is_decimal (behind text i) ≡ true → n.above ≡ false → Reads zero_rest false text i (Ok (record { kind = Octal; end = n.end; has_separator = false }))
reads_octal {text = text} {n = n} d h a =
    legacy_word {q = legacy false} d h (λ v more e. ap (λ (b : Bool). legacy b v) a)
    (stays d.stands.boundary refl (λ c x others e. legacy_octal c x (subst (λ (v : List ℕ). begins is_decimal v ≡ false) e d.end)))

-- zero_rest
pub reads_hex : {text : List ℕ} {i : ℕ} {result : Result Number ℕ} → Finds (in_radix 10) text i false → Finds (one_of (88 ∷ 120 ∷ [])) text i true → Reads (digits is_hex (suffix Hex HexBigInt) false) false text (i + 1) result → Reads zero_rest false text i result
reads_hex n f x =
    let h = f.2 in
    let d : is_decimal f.0 ≡ false = same-head is_decimal f.1 n in
    behind_one f.1 (λ v. rw (d, h, zero_rest) refl) (member goes_on (88 ∷ 120 ∷ []) f.0 f.2 refl) (not-true (f.0 == 95) (member (λ a. not (a == 95)) (88 ∷ 120 ∷ []) f.0 f.2 refl)) x

pub reads_modern_octal : {text : List ℕ} {i : ℕ} {result : Result Number ℕ} → Finds (in_radix 10) text i false → Finds (one_of (88 ∷ 120 ∷ [])) text i false → Finds (one_of (79 ∷ 111 ∷ [])) text i true → Reads (digits is_octal (suffix Octal OctalBigInt) false) false text (i + 1) result → Reads zero_rest false text i result
reads_modern_octal n m f x =
    let h = f.2 in
    let d : is_decimal f.0 ≡ false = same-head is_decimal f.1 n in
    let e : one_of (88 ∷ 120 ∷ []) f.0 ≡ false = same-head (one_of (88 ∷ 120 ∷ [])) f.1 m in
    behind_one f.1 (λ v. rw (d, e, h, zero_rest) refl) (member goes_on (79 ∷ 111 ∷ []) f.0 f.2 refl) (not-true (f.0 == 95) (member (λ a. not (a == 95)) (79 ∷ 111 ∷ []) f.0 f.2 refl)) x

pub reads_binary : {text : List ℕ} {i : ℕ} {result : Result Number ℕ} → Finds (in_radix 10) text i false → Finds (one_of (88 ∷ 120 ∷ [])) text i false → Finds (one_of (79 ∷ 111 ∷ [])) text i false → Finds (one_of (66 ∷ 98 ∷ [])) text i true → Reads (digits is_binary (suffix Binary BinaryBigInt) false) false text (i + 1) result → Reads zero_rest false text i result
reads_binary n m o f x =
    let h = f.2 in
    let d : is_decimal f.0 ≡ false = same-head is_decimal f.1 n in
    let e : one_of (88 ∷ 120 ∷ []) f.0 ≡ false = same-head (one_of (88 ∷ 120 ∷ [])) f.1 m in
    let g : one_of (79 ∷ 111 ∷ []) f.0 ≡ false = same-head (one_of (79 ∷ 111 ∷ [])) f.1 o in
    behind_one f.1 (λ v. rw (d, e, g, h, zero_rest) refl) (member goes_on (66 ∷ 98 ∷ []) f.0 f.2 refl) (not-true (f.0 == 95) (member (λ a. not (a == 95)) (66 ∷ 98 ∷ []) f.0 f.2 refl)) x

no_prefix : (v : List ℕ) → begins is_decimal v ≡ false → begins (one_of (88 ∷ 120 ∷ [])) v ≡ false → begins (one_of (79 ∷ 111 ∷ [])) v ≡ false → begins (one_of (66 ∷ 98 ∷ [])) v ≡ false → zero_rest v ≡ integer_rest v
no_prefix [] a b c d = refl
no_prefix (x ∷ v) a b c d = rw (a, b, c, d, zero_rest) refl

pub reads_no_prefix : {text : List ℕ} {i : ℕ} {result : Result Number ℕ} → IsCharBoundary text i → Finds (in_radix 10) text i false → Finds (one_of (88 ∷ 120 ∷ [])) text i false → Finds (one_of (79 ∷ 111 ∷ [])) text i false → Finds (one_of (66 ∷ 98 ∷ [])) text i false → Reads integer_rest false text i result → Reads zero_rest false text i result
reads_no_prefix b n m o p x = same_here b (λ v more e. no_prefix v (front-of is_decimal v more n e) (front-of (one_of (88 ∷ 120 ∷ [])) v more m e) (front-of (one_of (79 ∷ 111 ∷ [])) v more o e) (front-of (one_of (66 ∷ 98 ∷ [])) v more p e)) x

-- number_kind
pub reads_fraction_alone : {text : List ℕ} {i : ℕ} {result : Result Number ℕ} → Finds (λ c. c == 46) text i true → Reads (digits is_decimal (exponent Float) false) false text (i + 1) result → Reads number_kind false text i result
reads_fraction_alone f x = behind_rejected f.1 (λ v. (let h = f.2 in rw (h, number_kind) refl)) refl (one_fails 95 46 f.0 f.2 refl) x

pub reads_zero : {text : List ℕ} {i : ℕ} {result : Result Number ℕ} → Finds (λ c. c == 48) text i true → Reads zero_rest false text (i + 1) result → Reads number_kind false text i result
reads_zero f x = behind_rejected f.1 (λ v. (let h = f.2 in let m = one_fails 46 48 f.0 f.2 refl in rw (m, h, number_kind) refl)) refl (one_fails 95 48 f.0 f.2 refl) x

record Head (p : ℕ → Bool) (cs : List ℕ) : Type 0 where
  pub first : ℕ
  pub others : List ℕ
  pub is : cs ≡ first ∷ others
  pub passes : p first ≡ true

head_passes : (p : ℕ → Bool) (cs : List ℕ) → begins p cs ≡ true → Head p cs
head_passes p [] h = cc
head_passes p (c ∷ cs) h = record { first = c; others = cs; is = refl; passes = h }

pub begins_digit : (cs : List ℕ) → begins_number cs ≡ true → begins (λ c. c == 46) cs ≡ false → begins is_decimal cs ≡ true
begins_digit [] h n = h
begins_digit (c ∷ cs) h n = go (is_decimal c) h
  where
    go : (b : Bool) → (b || ((c == 46) && begins is_decimal cs)) ≡ true → b ≡ true
    go true g = refl
    go false g = let m = both-left (c == 46) (begins is_decimal cs) g in cc

pub reads_integer : {text : List ℕ} {i : ℕ} {result : Result Number ℕ} → begins is_decimal (behind text i) ≡ true → Finds (λ c. c == 46) text i false → Finds (λ c. c == 48) text i false → Reads (digits is_decimal integer_rest false) false text i result → Reads number_kind false text i result
reads_integer {text = text} {i = i} b n m x =
    let h = head_passes is_decimal (behind text i) b in
    let p = h.passes in
    let s : (h.first == 46) ≡ false = subst (λ (v : List ℕ). begins (λ c. c == 46) v ≡ false) h.is n in
    let t : (h.first == 48) ≡ false = subst (λ (v : List ℕ). begins (λ c. c == 48) v ≡ false) h.is m in
    same_from_head h.is (decimal-on h.first p) (λ v. rw (s, t, p, number_kind, digits) refl) refl x

-- No number is a word or a private name.
above_words : (i : ℕ) → nat_lt 122 i ≡ true → (nat_eq 120 i ≡ false) × (nat_eq 121 i ≡ false)
above_words i h = grind (arith, nat_tests)

no_word : (i : ℕ) → nat_lt 122 i ≡ true → nat_lt i 62 ≡ false
no_word i h = grind (arith, nat_tests)

not_escaped : (k : Kind) (w : List ℕ) → is_number k ≡ true → is_escaped k w ≡ false
not_escaped k w h = let a = both_false in rw (a.0, a.1, no_word (code k) high) refl
  where
    high : nat_lt 122 (code k) ≡ true
    high = kind_member (λ i. nat_lt 122 i) (Decimal ∷ Float ∷ Binary ∷ Octal ∷ Hex ∷ PositiveExponential ∷ NegativeExponential ∷ DecimalBigInt ∷ BinaryBigInt ∷ OctalBigInt ∷ HexBigInt ∷ []) k h refl

    both_false : (same_kind Ident k ≡ false) × (same_kind PrivateIdentifier k ≡ false)
    both_false = above_words (code k) high

begins_with_digit : (r : Rest) (v : List ℕ) (k : Kind) → digits is_decimal r false v ≡ Some k → begins is_decimal v ≡ true
begins_with_digit r [] k e = cc
begins_with_digit r (c ∷ v) k e = go (is_decimal c) refl
  where
    go : (b : Bool) → is_decimal c ≡ b → is_decimal c ≡ true
    go true g = g
    go false g = absurd (let h : digits is_decimal r false (c ∷ v) ≡ None = rw (g, digits) refl in cc)

first_of_number : (w : List ℕ) (k : Kind) → number_kind w ≡ Some k → begins_number w ≡ true
first_of_number [] k e = cc
first_of_number (c ∷ v) k e = go (is_decimal c) (c == 46) refl refl
  where
    go : (b d : Bool) → is_decimal c ≡ b → (c == 46) ≡ d → (is_decimal c || ((c == 46) && begins is_decimal v)) ≡ true
    go true d g h = rw g refl
    go false true g h =
        let t : digits is_decimal (exponent Float) false v ≡ Some k = subst (λ (b : Bool). elim b [ true ↦ digits is_decimal (exponent Float) false v | false ↦ elim (c == 48) [ true ↦ zero_rest v | false ↦ elim (is_decimal c) [ true ↦ digits is_decimal integer_rest true v | false ↦ None ] ] ] ≡ Some k) h e in
        rw (g, h) (begins_with_digit (exponent Float) v k t)
    go false false g h = absurd (let z : (c == 48) ≡ false = no_zero (c == 48) refl in let n : number_kind (c ∷ v) ≡ None = rw (h, z, g, number_kind) refl in cc)
      where
        no_zero : (b : Bool) → (c == 48) ≡ b → (c == 48) ≡ false
        no_zero false q = q
        no_zero true q = absurd (let d : is_decimal c ≡ true = subst (λ (x : ℕ). is_decimal x ≡ true) (sym (eqb-true c 48 q)) refl in cc)

record Dot (c : ℕ) (v : List ℕ) : Type 0 where
  pub dot : c ≡ 46
  pub digit : begins is_decimal v ≡ true

dot-of : (c : ℕ) (v : List ℕ) → is_decimal c ≡ false → begins_number (c ∷ v) ≡ true → Dot c v
dot-of c v g h =
    let t : ((c == 46) && begins is_decimal v) ≡ true = subst (λ (b : Bool). (b || ((c == 46) && begins is_decimal v)) ≡ true) g h in
    record { dot = eqb-true c 46 (both-left (c == 46) (begins is_decimal v) t); digit = both-right (c == 46) (begins is_decimal v) t }

opens_number : (c : ℕ) (v : List ℕ) → begins_number (c ∷ v) ≡ true → opening c (begins is_decimal v) ≡ a_number
opens_number c v h = go (is_decimal c) refl
  where
    go : (b : Bool) → is_decimal c ≡ b → opening c (begins is_decimal v) ≡ a_number
    go true g = number-opens c (begins is_decimal v) g
    go false g = let d = dot-of c v g h in ap (λ (b : Bool). opening c b) d.digit ∙ ap (λ (x : ℕ). opening x true) d.dot

begins_more : (c : ℕ) (v x : List ℕ) → begins_number (c ∷ v) ≡ true → begins_number (c ∷ v ++ x) ≡ true
begins_more c (d ∷ v) x h = h
begins_more c [] x h = go (is_decimal c) refl
  where
    go : (b : Bool) → is_decimal c ≡ b → (is_decimal c || ((c == 46) && begins is_decimal x)) ≡ true
    go true g = rw g refl
    go false g = absurd (let d = (dot-of c [] g h).digit in cc)

plain_number : (c : ℕ) (v rest : List ℕ) → begins_number (c ∷ v) ≡ true → plain_kind (c ∷ v) rest ≡ number_kind (c ∷ v)
plain_number c v rest h = plain_of a_number c v rest (opens_number c v h)

-- the longest number is the longest lexeme
pub scanned : {text : List ℕ} {i : ℕ} {n : Number} → IsRest number_kind false text i n → stops_number (behind text n.end) ≡ true → IsScanned division text i (record { kind = n.kind; end = n.end; escaped = false; has_separator = n.has_separator })
scanned {text = text} {i = i} {n = n} x t = go x.word x.stands x.kind x.never x.separated
  where
    go : (w : List ℕ) → Word text i n.end w → number_kind w ≡ Some n.kind → ((c : ℕ) (y others : List ℕ) → behind text n.end ≡ c ∷ y ++ others → number_kind (w ++ c ∷ y) ≡ None) → n.has_separator ≡ has_separator w → IsScanned division text i (record { kind = n.kind; end = n.end; escaped = false; has_separator = n.has_separator })
    go [] s k m b = absurd cc
    go (c ∷ w) s k m b =
        let f = first_of_number (c ∷ w) n.kind k in
        let num = kind_numeric (c ∷ w) n.kind k in
        let p = plain_number c w (behind text n.end) f ∙ k in
        record {
          word = c ∷ w;
          stands = s;
          lexeme = record {
            longest = both (lexemes_in division (c ∷ w) (behind text n.end)) (none_longer (lexemes_in division) (c ∷ w) (behind text n.end)) (ap is_some p)
                (none_longer-from (lexemes_in division) (c ∷ w) (behind text n.end) (λ d y more e. ap is_some (plain_number c (w ++ d ∷ y) more (begins_more c w (d ∷ y) f) ∙ m d y more e)));
            kind = p;
            begins = refl;
            apart = or_right (not (is_number n.kind)) (stops_number (behind text n.end)) t;
          };
          escaped = sym (not_escaped n.kind (c ∷ w) num);
          separated = b ∙ sym (ap (λ (a : Bool). a && has_separator (c ∷ w)) num);
        }

-- a longest number that doesn't stop
pub unstopped : {text : List ℕ} {i : ℕ} {n : Number} → IsRest number_kind false text i n → stops_number (behind text n.end) ≡ false → Unstopped number_kind (behind text i)
unstopped {text = text} {n = n} x t w more e s m u = elim (fronts x.word (behind text n.end) w more (sym x.stands.splits ∙ e)) [
  | inl a ↦ (let b : stops_number more ≡ false = subst (λ (v : List ℕ). stops_number v ≡ false) a.back t in cc)
  | inr o ↦ elim o [
    | inl g ↦ (let a : number_kind w ≡ None = ap number_kind g.longer ∙ x.never g.head g.tail more g.left in let b : is_some (number_kind w) ≡ false = ap is_some a in cc)
    | inr g ↦ (let a : number_kind x.word ≡ None = ap number_kind g.longer ∙ m g.head g.tail (behind text n.end) g.left in let k = x.kind in cc)
  ]
]

none-of : (o : Option Kind) → is_some o ≡ false → o ≡ None
none-of None h = refl
none-of (Some k) h = cc

dot_digit : (c d : ℕ) → (c == 46) ≡ true → is_decimal d ≡ true → number_kind (c ∷ d ∷ []) ≡ Some Float
dot_digit c d h g = rw (h, g, number_kind, digits) refl

-- a lexeme that begins as a number does is one
front_begins_number : (c : ℕ) (w rest : List ℕ) → begins_number (c ∷ w ++ rest) ≡ true → longest (lexemes_in division) (c ∷ w) rest ≡ true → begins_number (c ∷ w) ≡ true
front_begins_number c (d ∷ w) rest h l = h
front_begins_number c [] rest h l = go (is_decimal c) refl rest h l
  where
    go : (b : Bool) → is_decimal c ≡ b → (r : List ℕ) → begins_number (c ∷ r) ≡ true → longest (lexemes_in division) (c ∷ []) r ≡ true → (is_decimal c || ((c == 46) && false)) ≡ true
    go true g r h l = rw g refl
    go false g [] h l = absurd (let d = (dot-of c [] g h).digit in cc)
    go false g (d ∷ r) h l =
        absurd (
        let e = dot-of c (d ∷ r) g h in
        let z : number_kind (c ∷ d ∷ []) ≡ Some Float = dot_digit c d (subst (λ (x : ℕ). (x == 46) ≡ true) (sym e.dot) refl) e.digit in
        let y : lexemes_in division (c ∷ d ∷ []) r ≡ true = ap is_some (plain_number c (d ∷ []) r h ∙ z) in
        let n : lexemes_in division (c ∷ d ∷ []) r ≡ false = none_longer-at (lexemes_in division) (c ∷ []) d [] r (both-right (lexemes_in division (c ∷ []) (d ∷ r)) (none_longer (lexemes_in division) (c ∷ []) (d ∷ r)) l) in
        cc)

stops-of : (k : Kind) (rest : List ℕ) → is_number k ≡ true → (not (is_number k) || stops_number rest) ≡ true → stops_number rest ≡ true
stops-of k rest h a = subst (λ (b : Bool). (not b || stops_number rest) ≡ true) h a

no_lexeme : (text : List ℕ) (i : ℕ) → begins_number (behind text i) ≡ true → Unstopped number_kind (behind text i) → NoLexeme division text i
no_lexeme text i h u w more k e l = by w more e l
  where
    by : (w more : List ℕ) → behind text i ≡ w ++ more → IsLexeme division i w more k → ⊥
    by [] [] e l = let g : begins_number [] ≡ true = subst (λ (v : List ℕ). begins_number v ≡ true) e h in cc
    by [] (d ∷ more) e l = let g = l.kind in cc
    by (c ∷ w) more e l =
        let f = front_begins_number c w more (subst (λ (v : List ℕ). begins_number v ≡ true) e h) l.longest in
        let p : number_kind (c ∷ w) ≡ Some k = sym (plain_number c w more f) ∙ l.kind in
        u (c ∷ w) more e (ap is_some p)
        (λ d y others g.
        let n : none_longer (lexemes_in division) (c ∷ w) (d ∷ y ++ others) ≡ true = subst (λ (v : List ℕ). none_longer (lexemes_in division) (c ∷ w) v ≡ true) g (both-right (lexemes_in division (c ∷ w) more) (none_longer (lexemes_in division) (c ∷ w) more) l.longest) in
        none-of (number_kind (c ∷ w ++ d ∷ y)) (ap is_some (sym (plain_number c (w ++ d ∷ y) others (begins_more c w (d ∷ y) f))) ∙ none_longer-at (lexemes_in division) (c ∷ w) d y others n))
        (stops-of k more (kind_numeric (c ∷ w) k p) l.apart)

invalid : {text : List ℕ} {i : ℕ} → begins_number (behind text i) ≡ true → Unstopped number_kind (behind text i) → InvalidNumber text i
invalid {text = text} {i = i} h u = by (behind text i) refl
  where
    by : (cs : List ℕ) → behind text i ≡ cs → InvalidNumber text i
    by [] e = absurd (let g : begins_number [] ≡ true = subst (λ (v : List ℕ). begins_number v ≡ true) e h in cc)
    by (c ∷ cs) e = record {
      first = c;
      others = cs;
      here = e;
      begun = subst (λ (v : List ℕ). begins_number v ≡ true) e h;
      none = λ w rest f l t. u w rest (e ∙ f) (both-left (is_number_word w rest) (none_longer is_number_word w rest) l)
          (λ d y others g.
          let n : none_longer is_number_word w (d ∷ y ++ others) ≡ true = subst (λ (v : List ℕ). none_longer is_number_word w v ≡ true) g (both-right (is_number_word w rest) (none_longer is_number_word w rest) l) in
          none-of (number_kind (w ++ d ∷ y)) (none_longer-at is_number_word w d y others n)) t;
    }

-- a digit, or a dot before one, begins a number alone, and is one of the characters of its fault's span
number_told : (cs : List ℕ) → begins_number cs ≡ true → (fault_kind cs ≡ fault.InvalidNumber) × (begins (is_part true) cs ≡ true)
number_told [] h = absurd (cc)
number_told (c ∷ cs) h = go (is_decimal c) refl
  where
    part : (c : ℕ) → is_decimal c ≡ true → IsTrue (is_part true c)
    part c d = ascii is_decimal (λ a. is_part true a) c refl (decimal-ascii c d) d

    go : (b : Bool) → is_decimal c ≡ b → (fault_kind (c ∷ cs) ≡ fault.InvalidNumber) × (begins (is_part true) (c ∷ cs) ≡ true)
    go true d = (ap (λ (o : Opening). kind_of_fault o c cs) (number-opens c (begins is_decimal cs) d), part c d)
    go false d =
        let e : ((c == 46) && begins is_decimal cs) ≡ true = subst (λ (b : Bool). (b || ((c == 46) && begins is_decimal cs)) ≡ true) d h in
        let dot : c ≡ 46 = eqb-true c 46 (both-left (c == 46) (begins is_decimal cs) e) in
        let digit : begins is_decimal cs ≡ true = both-right (c == 46) (begins is_decimal cs) e in (
          ap (λ (x : ℕ). fault_kind (x ∷ cs)) dot ∙ ap (λ (b : Bool). kind_of_fault (opening 46 b) 46 cs) digit,
          ap (is_part true) dot,
        )

pub stopped : {text : List ℕ} {i : ℕ} {f : Fault} → begins_number (behind text i) ≡ true → Unstopped number_kind (behind text i) → f.kind ≡ fault.InvalidNumber → f.start ≡ i → IsCharBoundary text i → PartsEnd true text i f.end → IsStopped division text i f
stopped {text = text} {i = i} {f = f} h u k s b p =
    let t = number_told (behind text i) h in
    let z = parts_some t.1 p in
    let w = (len_utf8_bounds z.0).0 in
    let e = z.2 in
    record {
      none = no_lexeme text i h u;
      condition = subst (λ (d : DiagnosticKind). Stopping d text i f.start f.end) (sym k) (s, invalid h u);
      follows = omega arith;
      ordered = omega arith;
      begins_between = subst (λ (n : ℕ). IsCharBoundary text n) (sym s) b;
      ends_between = p.stands.boundary;
      told = k ∙ sym t.0;
      reaches = subst (λ (d : DiagnosticKind). Reaches d text f.start f.end) (sym k) (subst (λ (n : ℕ). PartsEnd true text n f.end) (sym s) p);
    }
