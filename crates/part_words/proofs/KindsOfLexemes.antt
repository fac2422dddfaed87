-- What the kind of a lexeme tells of its characters.
use Rattle.std.proofs.Common.{◌≡◌, ℕ, ◌==◌, Bool, true, false, List, [], ◌∷◌, ◌++◌, refl, sym, ap, subst, ◌∙◌, not, ◌&&◌, ◌||◌, Option, Some, None, nat_lt, nat_le, ◌⊎◌, inl, inr}
use Rattle.std.specs.Prelude.{bytes_eq, codes}
use Rattle.std.specs.Bool.{beq}
use Rattle.std.specs.Cmp.{booleans_Decides}
use Rattle.std.specs.List.{list_all}
use Rattle.std.proofs.lemmas.Bool.{eqb-true}
use Rattle.std.proofs.lemmas.Slice.Eq.{bytes_eq-Decides}
use Rattle.js_base.specs.declared.kind.Kind.{Kind}
use Rattle.js_base.specs.declared.kind.Kind.TheVariants.{LParen, RCurly, Slash, SlashEq, RAngle, GtEq, ShiftRight, ShiftRightEq, ShiftRight3, ShiftRight3Eq, Ident, PrivateIdentifier, Str, RegExp, NoSubstitutionTemplate, TemplateHead, TemplateMiddle, TemplateTail, HashbangComment, Eof, Undetermined, Decimal, Float, Binary, Octal, Hex, PositiveExponential, NegativeExponential, DecimalBigInt, BinaryBigInt, OctalBigInt, HexBigInt}
use Rattle.js_base.specs.Kinds.{code, same_kind, one_of_kinds}
use Rattle.js_base.specs.Texts.{text_of, words, punctuators}
use Rattle.js_base.specs.Keywords.{first_with_text, keyword_of}
use Rattle.js_base.specs.part_text.Characters.{one_of, is_decimal, is_hex, is_octal, is_binary}
use Rattle.js_grammar.specs.Characters.{begins, is_identifier_part}
use Rattle.js_grammar.specs.Longest.{Class, none_longer, none_begins}
use Rattle.js_grammar.specs.Trivia.{is_trivia_piece, is_blank, is_single_line_comment, is_multi_line_comment, is_html_open, is_html_close, after, within_line}
use Rattle.js_grammar.specs.Names.{name_of, word_of, private_of, private_kind}
use Rattle.js_grammar.specs.Numbers.{Rest, ends, suffix, digits, signed, exponent, fraction, decimal_rest, integer_rest, legacy, zero_rest, number_kind}
use Rattle.js_grammar.specs.Strings.{string_kind}
use Rattle.js_grammar.specs.Templates.{closes_template, part_kind, template_kind, template_tail_kind}
use Rattle.js_grammar.specs.RegularExpressions.{flags, flagged, regular_expression_kind}
use Rattle.js_grammar.specs.Lexemes.{Opening, a_name, a_number, a_string, a_template, a_private_name, a_punctuator, opening, kind_of, plain_kind, punctuator_kind, may_precede, hashbang_kind, LexicalGoal, division, regular_expression, template_tail, hashbang, kind_in, lexemes_in}
use Rattle.js_grammar.specs.Lexed.{IsLexeme}
use Rattle.js_grammar.proofs.LongestLemmas.{both, both-left, both-right, not-true, longest-same}
use Rattle.js_grammar.proofs.Finding.{kind_member, found-test, found-all}
use Rattle.js_grammar.proofs.CoreLemmas.{opens, opens-same}

-- ---- what opens a lexeme of a kind

-- by the number of the kind, as `code` counts: words, punctuators, then the others
abbrev pub opened_number : ℕ → Option Opening
opened_number n =
    elim (nat_lt n (code LParen) || (code Ident == n)) [
      | true ↦ Some a_name
      | false ↦
          elim (nat_lt n (code Ident)) [
            | true ↦ Some a_punctuator
            | false ↦
                elim (code PrivateIdentifier == n) [
                  | true ↦ Some a_private_name
                  | false ↦
                      elim (code Str == n) [
                        | true ↦ Some a_string
                        | false ↦
                            elim (nat_lt n (code RegExp)) [
                              | true ↦ Some a_number
                              | false ↦
                                  elim ((code NoSubstitutionTemplate == n) || (code TemplateHead == n)) [ true ↦ Some a_template | false ↦ None ]
                            ]
                      ]
                ]
          ]
    ]

-- which opening a lexeme of a kind has at the plain goal; none where none is of the kind
abbrev pub opened : Kind → Option Opening
opened k = opened_number (code k)

-- whether a kind's opening is this one
abbrev is_opened_by : Opening → Option Opening → Bool
is_opened_by o None = false
is_opened_by o (Some p) = opens p o

opened-same : (o : Opening) (p : Option Opening) → is_opened_by o p ≡ true → p ≡ Some o
opened-same o None h = cc
opened-same o (Some p) h = ap (λ (q : Opening). Some q) (opens-same p o h)

-- the opening of the kinds of a list, where they all have the same one
pub opened_member : (o : Opening) (ks : List Kind) (k : Kind) → one_of_kinds ks k ≡ true → list_all (λ a. is_opened_by o (opened_number (code a))) ks ≡ true → opened k ≡ Some o
opened_member o ks k h a = opened-same o (opened k) (kind_member (λ n. is_opened_by o (opened_number n)) ks k h a)

-- a kind without opening is none that has one
pub unopened : (j k : Kind) (o : Opening) → opened j ≡ None → opened k ≡ Some o → same_kind j k ≡ false
unopened j k o n h = go (same_kind j k) refl
  where
    go : (b : Bool) → same_kind j k ≡ b → same_kind j k ≡ false
    go false e = e
    go true e = let s : opened j ≡ opened k = ap opened_number (eqb-true (code j) (code k) e) in cc

-- ---- each opening gives kinds of its own

-- no kind, or one with this opening
abbrev gives : Opening → Option Kind → Bool
gives o None = true
gives o (Some k) = is_opened_by o (opened k)

given : (o : Opening) (m : Option Kind) (k : Kind) → gives o m ≡ true → m ≡ Some k → opened k ≡ Some o
given o None k g h = cc
given o (Some j) k g h = let s : j ≡ k = cc in subst (λ (l : Kind). opened l ≡ Some o) s (opened-same o (opened j) g)

chosen : (o : Opening) (b : Bool) (x y : Option Kind) → gives o x ≡ true → gives o y ≡ true → gives o (elim b [ true ↦ x | false ↦ y ]) ≡ true
chosen o true x y h k = h
chosen o false x y h k = k

-- names

-- each word of a list has the opening of names, and `Ident` has
first_opened : (ks : List Kind) (w : List ℕ) → list_all (λ k. is_opened_by a_name (opened k)) ks ≡ true → is_opened_by a_name (opened (first_with_text ks w)) ≡ true
first_opened [] w h = refl
first_opened (k ∷ ks) w h = go (bytes_eq (text_of k) w) refl (first_opened ks w (both-right (is_opened_by a_name (opened k)) (list_all (λ k. is_opened_by a_name (opened k)) ks) h))
  where
    go : (b : Bool) → bytes_eq (text_of k) w ≡ b → is_opened_by a_name (opened (first_with_text ks w)) ≡ true → is_opened_by a_name (opened (first_with_text (k ∷ ks) w)) ≡ true
    go true e r = rw (e, first_with_text) (both-left (is_opened_by a_name (opened k)) (list_all (λ k. is_opened_by a_name (opened k)) ks) h)
    go false e r = rw (e, first_with_text) r

word_opened : (w : List ℕ) → is_opened_by a_name (opened (keyword_of w)) ≡ true
unfolding keyword_of words
word_opened w = first_opened words w refl

name_gives : (n : Option (List ℕ)) → gives a_name (word_of n) ≡ true
name_gives None = refl
name_gives (Some w) = word_opened w

private_of_gives : (n : Option (List ℕ)) → gives a_private_name (private_of n) ≡ true
private_of_gives None = refl
private_of_gives (Some w) = refl

private_gives : (w : List ℕ) → gives a_private_name (private_kind w) ≡ true
private_gives [] = refl
private_gives (c ∷ cs) = chosen a_private_name (c == 35) (private_of (name_of cs)) None (private_of_gives (name_of cs)) refl

-- numbers

-- what is left of a number gives kinds of numbers alone
abbrev Numeric : Rest → Type 0
Numeric r = (w : List ℕ) → gives a_number (r w) ≡ true

ends_numeric : (k : Kind) → gives a_number (Some k) ≡ true → Numeric (ends k)
ends_numeric k h [] = h
ends_numeric k h (c ∷ cs) = refl

suffix_numeric : (k big : Kind) → gives a_number (Some k) ≡ true → gives a_number (Some big) ≡ true → Numeric (suffix k big)
suffix_numeric k big h g [] = h
suffix_numeric k big h g (c ∷ cs) = chosen a_number (c == 110) (ends big cs) None (ends_numeric big g cs) refl

digits_numeric : (d : ℕ → Bool) (r : Rest) (digit : Bool) → Numeric r → Numeric (digits d r digit)
digits_numeric d r digit h [] = chosen a_number digit (r []) None (h []) refl
digits_numeric d r digit h (c ∷ cs) = chosen a_number (d c) _ _ (digits_numeric d r true h cs) (chosen a_number digit _ _ (chosen a_number (c == 95) _ _ (digits_numeric d r false h cs) (h (c ∷ cs))) refl)

signed_numeric : Numeric signed
signed_numeric [] = refl
signed_numeric (c ∷ cs) =
    let positive : Numeric (digits is_decimal (ends PositiveExponential) false) = digits_numeric is_decimal (ends PositiveExponential) false (ends_numeric PositiveExponential refl) in
    chosen a_number (c == 45) _ _ (digits_numeric is_decimal (ends NegativeExponential) false (ends_numeric NegativeExponential refl) cs) (chosen a_number (c == 43) _ _ (positive cs) (positive (c ∷ cs)))

exponent_numeric : (k : Kind) → gives a_number (Some k) ≡ true → Numeric (exponent k)
exponent_numeric k h [] = h
exponent_numeric k h (c ∷ cs) = chosen a_number (one_of (69 ∷ 101 ∷ []) c) (signed cs) None (signed_numeric cs) refl

fraction_numeric : Numeric fraction
fraction_numeric [] = refl
fraction_numeric (c ∷ cs) = chosen a_number (is_decimal c) _ _ (digits_numeric is_decimal (exponent Float) true (exponent_numeric Float refl) cs) (exponent_numeric Float refl (c ∷ cs))

decimal_rest_numeric : Numeric decimal_rest
decimal_rest_numeric [] = refl
decimal_rest_numeric (c ∷ cs) = chosen a_number (c == 46) _ _ (fraction_numeric cs) (exponent_numeric Decimal refl (c ∷ cs))

integer_rest_numeric : Numeric integer_rest
integer_rest_numeric [] = refl
integer_rest_numeric (c ∷ cs) = chosen a_number (c == 110) _ _ (ends_numeric DecimalBigInt refl cs) (decimal_rest_numeric (c ∷ cs))

legacy_numeric : (above : Bool) → Numeric (legacy above)
legacy_numeric above [] = chosen a_number above (Some Decimal) (Some Octal) refl refl
legacy_numeric above (c ∷ cs) = chosen a_number (is_decimal c) _ _ (legacy_numeric (above || nat_le 56 c) cs) (chosen a_number above _ _ (decimal_rest_numeric (c ∷ cs)) refl)

zero_rest_numeric : Numeric zero_rest
zero_rest_numeric [] = refl
zero_rest_numeric (c ∷ cs) =
    chosen a_number (is_decimal c) _ _ (legacy_numeric (nat_le 56 c) cs)
    (chosen a_number (one_of (88 ∷ 120 ∷ []) c) _ _ (digits_numeric is_hex (suffix Hex HexBigInt) false (suffix_numeric Hex HexBigInt refl refl) cs)
    (chosen a_number (one_of (79 ∷ 111 ∷ []) c) _ _ (digits_numeric is_octal (suffix Octal OctalBigInt) false (suffix_numeric Octal OctalBigInt refl refl) cs)
    (chosen a_number (one_of (66 ∷ 98 ∷ []) c) _ _ (digits_numeric is_binary (suffix Binary BinaryBigInt) false (suffix_numeric Binary BinaryBigInt refl refl) cs)
    (integer_rest_numeric (c ∷ cs)))))

number_numeric : Numeric number_kind
number_numeric [] = refl
number_numeric (c ∷ cs) =
    chosen a_number (c == 46) _ _ (digits_numeric is_decimal (exponent Float) false (exponent_numeric Float refl) cs)
    (chosen a_number (c == 48) _ _ (zero_rest_numeric cs)
    (chosen a_number (is_decimal c) _ _ (digits_numeric is_decimal integer_rest true integer_rest_numeric cs) refl))

-- strings, templates

string_gives : (w : List ℕ) → gives a_string (string_kind w) ≡ true
string_gives [] = refl
string_gives (q ∷ cs) = chosen a_string _ (Some Str) None refl refl

part_gives : (o : Option Bool) → gives a_template (part_kind NoSubstitutionTemplate TemplateHead o) ≡ true
part_gives None = refl
part_gives (Some true) = refl
part_gives (Some false) = refl

template_gives : (w : List ℕ) → gives a_template (template_kind w) ≡ true
template_gives [] = refl
template_gives (c ∷ cs) = chosen a_template (c == 96) _ None (part_gives (closes_template false false cs)) refl

-- punctuators

punctuator_opened : (w rest : List ℕ) (k : Kind) → punctuator_kind w rest ≡ Some k → opened k ≡ Some a_punctuator
unfolding punctuators
punctuator_opened w rest k h = opened-same a_punctuator (opened k) (found-all (λ k. bytes_eq (text_of k) w && may_precede k rest) (λ k. is_opened_by a_punctuator (opened k)) punctuators k h refl)

kind_opened : (o : Opening) (w rest : List ℕ) (k : Kind) → kind_of o w rest ≡ Some k → opened k ≡ Some o
kind_opened a_name w rest k h = given a_name (word_of (name_of w)) k (name_gives (name_of w)) h
kind_opened a_number w rest k h = given a_number (number_kind w) k (number_numeric w) h
kind_opened a_string w rest k h = given a_string (string_kind w) k (string_gives w) h
kind_opened a_template w rest k h = given a_template (template_kind w) k (template_gives w) h
kind_opened a_private_name w rest k h = given a_private_name (private_kind w) k (private_gives w) h
kind_opened a_punctuator w rest k h = punctuator_opened w rest k h

-- The kind of a lexeme of the plain goal tells what its first character opens.
pub opened_is : (c : ℕ) (cs rest : List ℕ) (k : Kind) → plain_kind (c ∷ cs) rest ≡ Some k → opened k ≡ Some (opening c (begins is_decimal cs))
opened_is c cs rest k h = kind_opened (opening c (begins is_decimal cs)) (c ∷ cs) rest k h

-- ---- the kinds of each goal

-- a kind without opening is that of no lexeme of the plain goal with a character
pub no_plain : (j : Kind) (c : ℕ) (cs rest : List ℕ) (k : Kind) → opened j ≡ None → plain_kind (c ∷ cs) rest ≡ Some k → same_kind j k ≡ false
no_plain j c cs rest k n h = unopened j k (opening c (begins is_decimal cs)) n (opened_is c cs rest k h)

pub plain_no_end : (c : ℕ) (cs rest : List ℕ) (k : Kind) → plain_kind (c ∷ cs) rest ≡ Some k → same_kind Eof k ≡ false
plain_no_end c cs rest k h = no_plain Eof c cs rest k refl h

pub plain_no_hashbang : (c : ℕ) (cs rest : List ℕ) (k : Kind) → plain_kind (c ∷ cs) rest ≡ Some k → same_kind HashbangComment k ≡ false
plain_no_hashbang c cs rest k h = no_plain HashbangComment c cs rest k refl h

-- at the plain goal no characters are the end of the text alone
pub plain_end : (rest : List ℕ) (k : Kind) → plain_kind [] rest ≡ Some k → (k ≡ Eof) × (rest ≡ [])
plain_end [] k h = (cc, refl)
plain_end (c ∷ rest) k h = cc

-- the kinds of the other goals
pub pattern_is : (w : List ℕ) (k : Kind) → regular_expression_kind w ≡ Some k → k ≡ RegExp
pattern_is w k h = go (flags w) h
  where
    go : (o : Option (List ℕ)) → flagged o ≡ Some k → k ≡ RegExp
    go None e = cc
    go (Some fs) e = by (list_all is_identifier_part fs) e
      where
        by : (b : Bool) → elim b [ true ↦ Some RegExp | false ↦ None ] ≡ Some k → k ≡ RegExp
        by true f = cc
        by false f = cc

pub tail_is : (w : List ℕ) (k : Kind) → template_tail_kind w ≡ Some k → (k ≡ TemplateMiddle) ⊎ (k ≡ TemplateTail)
tail_is [] k h = cc
tail_is (c ∷ cs) k h = go (c == 125) h
  where
    part : (o : Option Bool) → part_kind TemplateTail TemplateMiddle o ≡ Some k → (k ≡ TemplateMiddle) ⊎ (k ≡ TemplateTail)
    part None e = cc
    part (Some true) e = inl cc
    part (Some false) e = inr cc

    go : (b : Bool) → elim b [ true ↦ part_kind TemplateTail TemplateMiddle (closes_template false false cs) | false ↦ None ] ≡ Some k → (k ≡ TemplateMiddle) ⊎ (k ≡ TemplateTail)
    go true e = part (closes_template false false cs) e
    go false e = cc

pub hashbang_is : (w : List ℕ) (k : Kind) → hashbang_kind w ≡ Some k → k ≡ HashbangComment
hashbang_is w k h = go (after (codes "#!") within_line w) h
  where
    go : (b : Bool) → elim b [ true ↦ Some HashbangComment | false ↦ None ] ≡ Some k → k ≡ HashbangComment
    go true e = cc
    go false e = cc

-- At no goal a lexeme's kind is left open.
pub determined : (g : LexicalGoal) (w rest : List ℕ) (k : Kind) → kind_in g w rest ≡ Some k → same_kind Undetermined k ≡ false
determined division [] rest k h = ap (same_kind Undetermined) (plain_end rest k h).0
determined division (c ∷ cs) rest k h = no_plain Undetermined c cs rest k refl h
determined regular_expression w rest k h = ap (same_kind Undetermined) (pattern_is w k h)
determined template_tail w rest k h = elim (tail_is w k h) [ inl e ↦ ap (same_kind Undetermined) e | inr e ↦ ap (same_kind Undetermined) e ]
determined hashbang w rest k h = ap (same_kind Undetermined) (hashbang_is w k h)

-- ---- punctuators

-- a lexeme of the plain goal with the kind of a punctuator is found among them
listed : (c : ℕ) (cs rest : List ℕ) (k : Kind) → plain_kind (c ∷ cs) rest ≡ Some k → opened k ≡ Some a_punctuator → punctuator_kind (c ∷ cs) rest ≡ Some k
listed c cs rest k h p =
    let o = opened_is c cs rest k h in
    let e : opening c (begins is_decimal cs) ≡ a_punctuator = cc in
    subst (λ (q : Opening). kind_of q (c ∷ cs) rest ≡ Some k) e h

listed_word : (w rest : List ℕ) (k : Kind) → punctuator_kind w rest ≡ Some k → (w ≡ text_of k) × (may_precede k rest ≡ true)
listed_word w rest k h =
    let t = found-test (λ k. bytes_eq (text_of k) w && may_precede k rest) punctuators k h in
    (sym ((bytes_eq-Decides (text_of k) w).0 (both-left (bytes_eq (text_of k) w) (may_precede k rest) t)), both-right (bytes_eq (text_of k) w) (may_precede k rest) t)

-- A lexeme with the kind of a punctuator is written as that one, and stands where it may.
pub punctuator_word : (c : ℕ) (cs rest : List ℕ) (k : Kind) → plain_kind (c ∷ cs) rest ≡ Some k → opened k ≡ Some a_punctuator → (c ∷ cs ≡ text_of k) × (may_precede k rest ≡ true)
punctuator_word c cs rest k h p = listed_word (c ∷ cs) rest k (listed c cs rest k h p)

-- the punctuators that begin with a greater-than sign
abbrev pub greater_kinds : List Kind
greater_kinds = RAngle ∷ GtEq ∷ ShiftRight ∷ ShiftRightEq ∷ ShiftRight3 ∷ ShiftRight3Eq ∷ []

-- a punctuator is one of these exactly where its text begins so
greater_first : (w rest : List ℕ) (k : Kind) → punctuator_kind w rest ≡ Some k → one_of_kinds greater_kinds k ≡ begins (λ d. d == 62) (text_of k)
unfolding punctuators
greater_first w rest k h = (booleans_Decides _ _).0 (found-all (λ k. bytes_eq (text_of k) w && may_precede k rest) (λ k. beq (one_of_kinds greater_kinds k) (begins (λ d. d == 62) (text_of k))) punctuators k h refl)

-- a lexeme of one of these kinds begins with a greater-than sign
pub greater_word : (c : ℕ) (cs rest : List ℕ) (k : Kind) → plain_kind (c ∷ cs) rest ≡ Some k → one_of_kinds greater_kinds k ≡ true → c ≡ 62
greater_word c cs rest k h g =
    let l = listed c cs rest k h (opened_member a_punctuator greater_kinds k g refl) in
    let e = (listed_word (c ∷ cs) rest k l).0 in
    eqb-true c 62 (ap (begins (λ d. d == 62)) e ∙ sym (greater_first (c ∷ cs) rest k l) ∙ g)

-- a lexeme that begins with a greater-than sign is of one of these kinds
pub greater_kind : (cs rest : List ℕ) (k : Kind) → plain_kind (62 ∷ cs) rest ≡ Some k → one_of_kinds greater_kinds k ≡ true
greater_kind cs rest k h =
    let l : punctuator_kind (62 ∷ cs) rest ≡ Some k = h in
    greater_first (62 ∷ cs) rest k l ∙ sym (ap (begins (λ d. d == 62)) (listed_word (62 ∷ cs) rest k l).0)

-- a slash is one character, and what stands behind it makes no comment of it
pub slash_word : (c : ℕ) (cs rest : List ℕ) → plain_kind (c ∷ cs) rest ≡ Some Slash → (c ≡ 47) × (cs ≡ []) × (begins (one_of (codes "*/")) rest ≡ false)
slash_word c cs rest h =
    let p = punctuator_word c cs rest Slash h refl in
    let e : c ∷ cs ≡ 47 ∷ [] = p.0 in
    (cc, cc, not-true (begins (one_of (codes "*/")) rest) p.1)

pub slash_equals_word : (c : ℕ) (cs rest : List ℕ) → plain_kind (c ∷ cs) rest ≡ Some SlashEq → c ∷ cs ≡ 47 ∷ 61 ∷ []
slash_equals_word c cs rest h = (punctuator_word c cs rest SlashEq h refl).0

-- the slash with which a lexeme of one of these two kinds begins, begins no comment
pub no_comment_opens : (c : ℕ) (cs rest : List ℕ) (k : Kind) → plain_kind (c ∷ cs) rest ≡ Some k → (k ≡ Slash) ⊎ (k ≡ SlashEq) → begins (one_of (codes "*/")) (cs ++ rest) ≡ false
no_comment_opens c cs rest k h (inl e) = let s = slash_word c cs rest (h ∙ ap (λ (l : Kind). Some l) e) in ap (λ (v : List ℕ). begins (one_of (codes "*/")) (v ++ rest)) s.1 ∙ s.2
no_comment_opens c cs rest k h (inr e) =
    let s = slash_equals_word c cs rest (h ∙ ap (λ (l : Kind). Some l) e) in
    let t : cs ≡ 61 ∷ [] = cc in
    ap (λ (v : List ℕ). begins (one_of (codes "*/")) (v ++ rest)) t

pub brace_word : (c : ℕ) (cs rest : List ℕ) → plain_kind (c ∷ cs) rest ≡ Some RCurly → c ∷ cs ≡ 125 ∷ []
brace_word c cs rest h = (punctuator_word c cs rest RCurly h refl).0

-- ---- one lexeme

-- At a place one lexeme of a goal stands.
pub same_lexeme : (g : LexicalGoal) (i : ℕ) (w rest v more : List ℕ) (k l : Kind) → w ++ rest ≡ v ++ more → IsLexeme g i w rest k → IsLexeme g i v more l → (w ≡ v) × (rest ≡ more) × (k ≡ l)
same_lexeme g i w rest v more k l e a b =
    let s = longest-same (lexemes_in g) w rest v more e a.longest b.longest in
    let m : kind_in g v more ≡ Some k = subst (λ (x : List ℕ). kind_in g x more ≡ Some k) s.front (subst (λ (x : List ℕ). kind_in g w x ≡ Some k) s.back a.kind) in
    let n : kind_in g v more ≡ Some l = b.kind in
    (s.front, s.back, cc)

-- ---- comments

-- what no longer front is of a class, none is of a class within it
pub none_longer-within : (a b : Class) (w cs : List ℕ) → ((v rest : List ℕ) → a v rest ≡ false → b v rest ≡ false) → none_longer a w cs ≡ true → none_longer b w cs ≡ true
none_longer-within a b w [] f h = refl
none_longer-within a b w (c ∷ cs) f h =
    let first = f (w ++ c ∷ []) cs (not-true (a (w ++ c ∷ []) cs) (both-left (not (a (w ++ c ∷ []) cs)) (none_longer a (w ++ c ∷ []) cs) h)) in
    both (not (b (w ++ c ∷ []) cs)) (none_longer b (w ++ c ∷ []) cs) (rw first refl)
    (none_longer-within a b (w ++ c ∷ []) cs f (both-right (not (a (w ++ c ∷ []) cs)) (none_longer a (w ++ c ∷ []) cs) h))

no_piece : (blank line block others : Bool) → (blank || (line || (block || others))) ≡ false → (line || block) ≡ false
no_piece false false false others h = refl
no_piece false false true others h = h
no_piece false true block others h = h
no_piece true line block others h = cc

-- Where no piece of trivia begins, no comment of ECMA-262, 12.4 does.
pub comment_free : (first : Bool) (cs : List ℕ) → none_begins (is_trivia_piece first) cs ≡ true → none_begins (λ w rest. is_single_line_comment w || is_multi_line_comment w) cs ≡ true
comment_free first cs h =
    none_longer-within (is_trivia_piece first) (λ w rest. is_single_line_comment w || is_multi_line_comment w) [] cs
    (λ v rest e. no_piece (is_blank v) (is_single_line_comment v) (is_multi_line_comment v) (is_html_open v || (first && is_html_close v)) e) h
