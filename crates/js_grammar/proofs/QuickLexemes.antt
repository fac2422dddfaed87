-- Whether no longer front is a lexeme or a piece of trivia, by the next character alone where that is enough. What these tests say yes to holds.
use Rattle.std.proofs.Common.{ℕ, ◌≡◌, ◌==◌, Bool, true, false, not, ◌&&◌, ◌||◌, List, [], ◌∷◌, ◌++◌, Option, Some, None, refl, sym, ap, subst, ◌∙◌, append_assoc}
use Rattle.std.proofs.lemmas.Bool.{and_right, and_left}
use Rattle.std.specs.Prelude.{codes, bytes_eq, is_some, cond}
use Rattle.std.specs.List.{list_all, find}
use Rattle.js_base.specs.declared.kind.Kind.{Kind}
use Rattle.js_base.specs.declared.kind.Kind.TheVariants.{RegExp, Str, NoSubstitutionTemplate, TemplateHead, TemplateMiddle, TemplateTail}
use Rattle.js_base.specs.Texts.{text_of, punctuators}
use Rattle.js_base.specs.part_text.Characters.{one_of, is_decimal, is_line_terminator}
use Rattle.js_base.specs.part_text.Escapes.{line_feeds_after, line_feeds}
use Rattle.js_grammar.specs.Characters.{is_identifier_part, is_white_space, has_line_terminator, begins}
use Rattle.js_grammar.specs.Longest.{longest, none_longer, none_begins, joined}
use Rattle.js_grammar.specs.Trivia.{after, within_line, closes_comment, is_blank, is_single_line_comment, is_multi_line_comment, is_html_open, is_html_close, is_trivia_piece, are_trivia}
use Rattle.js_grammar.specs.Names.{name_of, word_of, private_of}
use Rattle.js_grammar.specs.Strings.{nothing_left, closes_string, string_inside}
use Rattle.js_base.specs.part_text.Decoding.{string_points}
use Rattle.js_grammar.specs.Templates.{closes_template, part_kind}
use Rattle.js_grammar.specs.RegularExpressions.{behind_pattern, flags, flagged}
use Rattle.js_grammar.specs.Lexemes.{LexicalGoal, division, regular_expression, template_tail, hashbang, lexemes_in, punctuator_kind, may_precede, Opening, a_name, a_number, a_string, a_template, a_private_name, a_punctuator, opening}
use Rattle.js_grammar.specs.CoreTexts.{is_core_number, starts}
use Rattle.js_grammar.proofs.LongestLemmas.{both-left, both-right, both, not-true}
use Rattle.js_grammar.proofs.Finding.{neither}
use Rattle.js_grammar.proofs.CoreLemmas.{none_longer-from, plain_of, opens, opens-same}
use Rattle.js_grammar.proofs.CorePlain.{no_backslash, no_return, feeds-append}
use Rattle.js_grammar.proofs.CoreNames.{longer_name, parts_stop}
use Rattle.js_grammar.proofs.CoreNumbers.{Ends, number-longer, number-opens}
use Rattle.js_grammar.proofs.CoreTrivia.{after-starts}

-- the first characters of two equal lists
head : {c d : ℕ} {xs ys : List ℕ} → c ∷ xs ≡ d ∷ ys → c ≡ d
head e = cc

-- a character opens the same, whether a digit stands behind it or not
abbrev pub always : Opening → ℕ → Bool
always o c = opens (opening c true) o && opens (opening c false) o

always_opens : (o : Opening) (c : ℕ) (digit : Bool) → always o c ≡ true → opening c digit ≡ o
always_opens o c true h = opens-same (opening c true) o (both-left (opens (opening c true) o) (opens (opening c false) o) h)
always_opens o c false h = opens-same (opening c false) o (both-right (opens (opening c true) o) (opens (opening c false) o) h)

-- a name goes on neither with this character nor with an escape
abbrev pub ends_name : List ℕ → ℕ → Bool
ends_name cs d = list_all no_backslash cs && (no_backslash d && not (is_identifier_part d))

no_longer_name : (c : ℕ) (cs : List ℕ) (d : ℕ) (x : List ℕ) → ends_name (c ∷ cs) d ≡ true → name_of (c ∷ cs ++ d ∷ x) ≡ None
no_longer_name c cs d x h =
    let k = both-right (list_all no_backslash (c ∷ cs)) (no_backslash d && not (is_identifier_part d)) h in
    longer_name c cs d x (both-left (list_all no_backslash (c ∷ cs)) (no_backslash d && not (is_identifier_part d)) h) (both-left (no_backslash d) (not (is_identifier_part d)) k) (not-true (is_identifier_part d) (both-right (no_backslash d) (not (is_identifier_part d)) k))

name_longer : (c : ℕ) (cs : List ℕ) (d : ℕ) (x more : List ℕ) → (always a_name c && ends_name (c ∷ cs) d) ≡ true → lexemes_in division (c ∷ cs ++ d ∷ x) more ≡ false
name_longer c cs d x more h = ap is_some (
    plain_of a_name c (cs ++ d ∷ x) more (always_opens a_name c (begins is_decimal (cs ++ d ∷ x)) (both-left (always a_name c) (ends_name (c ∷ cs) d) h))
    ∙ ap word_of (no_longer_name c cs d x (both-right (always a_name c) (ends_name (c ∷ cs) d) h)))

private_longer : (c a : ℕ) (cs : List ℕ) (d : ℕ) (x more : List ℕ) → (always a_private_name c && ends_name (a ∷ cs) d) ≡ true → lexemes_in division (c ∷ a ∷ cs ++ d ∷ x) more ≡ false
private_longer c a cs d x more h = ap is_some (
    plain_of a_private_name c (a ∷ cs ++ d ∷ x) more (always_opens a_private_name c (begins is_decimal (a ∷ cs ++ d ∷ x)) (both-left (always a_private_name c) (ends_name (a ∷ cs) d) h))
    ∙ ap (λ (o : Option (List ℕ)). elim (c == 35) [ true ↦ private_of o | false ↦ None ]) (no_longer_name a cs d x (both-right (always a_private_name c) (ends_name (a ∷ cs) d) h))
    ∙ neither_way (c == 35))
  where
    neither_way : (b : Bool) → ◌≡◌ {A = Option Kind} (elim b [ true ↦ private_of None | false ↦ None ]) None
    neither_way true = refl
    neither_way false = refl

-- a number of decimal digits alone, and what none goes on with
abbrev pub ends_number : ℕ → Bool
ends_number d = not (is_decimal d) && (not (d == 95) && (not (d == 110) && (not (d == 46) && (not (one_of (69 ∷ 101 ∷ []) d) && (not (one_of (88 ∷ 120 ∷ []) d) && (not (one_of (79 ∷ 111 ∷ []) d) && not (one_of (66 ∷ 98 ∷ []) d)))))))

ends_is : (d : ℕ) → ends_number d ≡ true → Ends d
ends_is d h =
    let h1 = both-right (not (is_decimal d)) _ h in
    let h2 = both-right (not (d == 95)) _ h1 in
    let h3 = both-right (not (d == 110)) _ h2 in
    let h4 = both-right (not (d == 46)) _ h3 in
    let h5 = both-right (not (one_of (69 ∷ 101 ∷ []) d)) _ h4 in
    let h6 = both-right (not (one_of (88 ∷ 120 ∷ []) d)) _ h5 in
    record {
      digit = not-true _ (both-left (not (is_decimal d)) _ h);
      underscore = not-true _ (both-left (not (d == 95)) _ h1);
      big = not-true _ (both-left (not (d == 110)) _ h2);
      dot = not-true _ (both-left (not (d == 46)) _ h3);
      e = not-true _ (both-left (not (one_of (69 ∷ 101 ∷ []) d)) _ h4);
      x = not-true _ (both-left (not (one_of (88 ∷ 120 ∷ []) d)) _ h5);
      o = not-true _ (both-left (not (one_of (79 ∷ 111 ∷ []) d)) _ h6);
      b = not-true _ (both-right (not (one_of (79 ∷ 111 ∷ []) d)) _ h6);
    }

number_longer : (c : ℕ) (cs : List ℕ) (d : ℕ) (x more : List ℕ) → (is_core_number (c ∷ cs) && ends_number d) ≡ true → lexemes_in division (c ∷ cs ++ d ∷ x) more ≡ false
number_longer c cs d x more h =
    let n = both-left (is_core_number (c ∷ cs)) (ends_number d) h in
    ap is_some (
    plain_of a_number c (cs ++ d ∷ x) more (number-opens c (begins is_decimal (cs ++ d ∷ x)) (both-left (is_decimal c) (list_all is_decimal cs && (not (c == 48) || nothing_left cs)) n))
    ∙ number-longer c cs d x n (ends_is d (both-right (is_core_number (c ∷ cs)) (ends_number d) h)))

-- what is closed is no longer closed with more behind it
something_left : (xs : List ℕ) (d : ℕ) (ys : List ℕ) → nothing_left (xs ++ d ∷ ys) ≡ false
something_left [] d ys = refl
something_left (x ∷ xs) d ys = refl

closed_longer : (q : ℕ) (e : Bool) (xs : List ℕ) (d : ℕ) (ys : List ℕ) → closes_string q e xs ≡ true → closes_string q e (xs ++ d ∷ ys) ≡ false
closed_longer q e [] d ys h = cc
closed_longer q e (c ∷ xs) d ys h = go (not e && (c == q)) h (λ k. closed_longer q (not e && (c == 92)) xs d ys k)
  where
    go : (b : Bool) → elim b [ true ↦ nothing_left xs | false ↦ (e || not (c == 10)) && closes_string q (not e && (c == 92)) xs ] ≡ true → (closes_string q (not e && (c == 92)) xs ≡ true → closes_string q (not e && (c == 92)) (xs ++ d ∷ ys) ≡ false)
        → elim b [ true ↦ nothing_left (xs ++ d ∷ ys) | false ↦ (e || not (c == 10)) && closes_string q (not e && (c == 92)) (xs ++ d ∷ ys) ] ≡ false
    go true k r = something_left xs d ys
    go false k r = and_right (e || not (c == 10)) (closes_string q (not e && (c == 92)) (xs ++ d ∷ ys)) (r (both-right (e || not (c == 10)) (closes_string q (not e && (c == 92)) xs) k))

-- a string without CR, closed
abbrev pub ends_string : ℕ → List ℕ → Bool
ends_string c cs = list_all no_return cs && closes_string c false cs

string_longer : (c : ℕ) (cs : List ℕ) (d : ℕ) (x more : List ℕ) → (always a_string c && ends_string c cs) ≡ true → lexemes_in division (c ∷ cs ++ d ∷ x) more ≡ false
string_longer c cs d x more h =
    let k = both-right (always a_string c) (ends_string c cs) h in
    let r = both-left (list_all no_return cs) (closes_string c false cs) k in
    let s = both-right (list_all no_return cs) (closes_string c false cs) k in
    let shut : closes_string c false (line_feeds (cs ++ d ∷ x)) ≡ false = ap (λ (v : List ℕ). closes_string c false v) (feeds-append cs (d ∷ x) r) ∙ go s (d == 13) in
    ap is_some (
    plain_of a_string c (cs ++ d ∷ x) more (always_opens a_string c (begins is_decimal (cs ++ d ∷ x)) (both-left (always a_string c) (ends_string c cs) h))
    ∙ ap (λ (b : Bool). elim b [ true ↦ Some Str | false ↦ None ]) (and_right (one_of (34 ∷ 39 ∷ []) c) _ (and_left (closes_string c false (line_feeds (cs ++ d ∷ x))) (is_some (string_points (string_inside (c ∷ cs ++ d ∷ x)))) shut)))
  where
    go : closes_string c false cs ≡ true → (b : Bool) → closes_string c false (cs ++ elim b [ true ↦ 10 ∷ line_feeds_after true x | false ↦ d ∷ line_feeds_after false x ]) ≡ false
    go s true = closed_longer c false cs 10 (line_feeds_after true x) s
    go s false = closed_longer c false cs d (line_feeds_after false x) s

part_longer : (e l : Bool) (xs : List ℕ) (d : ℕ) (ys : List ℕ) → is_some (closes_template e l xs) ≡ true → closes_template e l (xs ++ d ∷ ys) ≡ None
part_longer e l [] d ys h = cc
part_longer e l (c ∷ xs) d ys h = go (not e && (c == 96)) (l && (c == 123)) h (λ k. part_longer (not e && (c == 92)) (not e && (c == 36)) xs d ys k)
  where
    closed : (w : Bool) → ◌≡◌ {A = Option Bool} (elim (nothing_left (xs ++ d ∷ ys)) [ true ↦ Some w | false ↦ None ]) None
    closed w = ap (λ (b : Bool). elim b [ true ↦ Some w | false ↦ None ]) (something_left xs d ys)

    go : (a b : Bool) → is_some (elim a [ true ↦ elim (nothing_left xs) [ true ↦ Some false | false ↦ None ] | false ↦ elim b [ true ↦ elim (nothing_left xs) [ true ↦ Some true | false ↦ None ] | false ↦ closes_template (not e && (c == 92)) (not e && (c == 36)) xs ] ]) ≡ true
        → (is_some (closes_template (not e && (c == 92)) (not e && (c == 36)) xs) ≡ true → closes_template (not e && (c == 92)) (not e && (c == 36)) (xs ++ d ∷ ys) ≡ None)
        → ◌≡◌ {A = Option Bool} (elim a [ true ↦ elim (nothing_left (xs ++ d ∷ ys)) [ true ↦ Some false | false ↦ None ] | false ↦ elim b [ true ↦ elim (nothing_left (xs ++ d ∷ ys)) [ true ↦ Some true | false ↦ None ] | false ↦ closes_template (not e && (c == 92)) (not e && (c == 36)) (xs ++ d ∷ ys) ] ]) None
    go true b k r = closed false
    go false true k r = closed true
    go false false k r = r k

no_part : (c quote : ℕ) (j k : Kind) (v : List ℕ) → closes_template false false v ≡ None → ◌≡◌ {A = Option Kind} (elim (c == quote) [ true ↦ part_kind j k (closes_template false false v) | false ↦ None ]) None
no_part c quote j k v h = ap (λ (o : Option Bool). elim (c == quote) [ true ↦ part_kind j k o | false ↦ None ]) h ∙ neither_way (c == quote)
  where
    neither_way : (b : Bool) → ◌≡◌ {A = Option Kind} (elim b [ true ↦ part_kind j k None | false ↦ None ]) None
    neither_way true = refl
    neither_way false = refl

template_longer : (c : ℕ) (cs : List ℕ) (d : ℕ) (x more : List ℕ) → (always a_template c && is_some (closes_template false false cs)) ≡ true → lexemes_in division (c ∷ cs ++ d ∷ x) more ≡ false
template_longer c cs d x more h = ap is_some (
    plain_of a_template c (cs ++ d ∷ x) more (always_opens a_template c (begins is_decimal (cs ++ d ∷ x)) (both-left (always a_template c) (is_some (closes_template false false cs)) h))
    ∙ no_part c 96 NoSubstitutionTemplate TemplateHead (cs ++ d ∷ x) (part_longer false false cs d x (both-right (always a_template c) (is_some (closes_template false false cs)) h)))

tail_longer : (c : ℕ) (cs : List ℕ) (d : ℕ) (x more : List ℕ) → is_some (closes_template false false cs) ≡ true → lexemes_in template_tail (c ∷ cs ++ d ∷ x) more ≡ false
tail_longer c cs d x more h = ap is_some (no_part c 125 TemplateTail TemplateMiddle (cs ++ d ∷ x) (part_longer false false cs d x h))

-- a pattern that is closed, and more characters behind its flags
pub pattern_longer : (b e : Bool) (xs ys fs : List ℕ) → behind_pattern b e xs ≡ Some fs → behind_pattern b e (xs ++ ys) ≡ Some (fs ++ ys)
pattern_longer b e [] ys fs h = cc
pattern_longer b e (c ∷ xs) ys fs h = go (is_line_terminator c) (not e && (not b && (c == 47))) h (λ k. pattern_longer (elim e [ true ↦ b | false ↦ (b && not (c == 93)) || (c == 91) ]) (not e && (c == 92)) xs ys fs k)
  where
    again : List ℕ → Option (List ℕ)
    again v = behind_pattern (elim e [ true ↦ b | false ↦ (b && not (c == 93)) || (c == 91) ]) (not e && (c == 92)) v

    go : (l s : Bool) → elim l [ true ↦ None | false ↦ elim s [ true ↦ Some xs | false ↦ behind_pattern (elim e [ true ↦ b | false ↦ (b && not (c == 93)) || (c == 91) ]) (not e && (c == 92)) xs ] ] ≡ Some fs
        → (behind_pattern (elim e [ true ↦ b | false ↦ (b && not (c == 93)) || (c == 91) ]) (not e && (c == 92)) xs ≡ Some fs → behind_pattern (elim e [ true ↦ b | false ↦ (b && not (c == 93)) || (c == 91) ]) (not e && (c == 92)) (xs ++ ys) ≡ Some (fs ++ ys))
        → elim l [ true ↦ None | false ↦ elim s [ true ↦ Some (xs ++ ys) | false ↦ behind_pattern (elim e [ true ↦ b | false ↦ (b && not (c == 93)) || (c == 91) ]) (not e && (c == 92)) (xs ++ ys) ] ] ≡ Some (fs ++ ys)
    go true s k r = cc
    go false true k r = let f : xs ≡ fs = cc in ap (λ (v : List ℕ). Some (v ++ ys)) f
    go false false k r = r k

flags_longer : (a c : ℕ) (cs ys fs : List ℕ) → flags (a ∷ c ∷ cs) ≡ Some fs → flags (a ∷ c ∷ cs ++ ys) ≡ Some (fs ++ ys)
flags_longer a c cs ys fs h = go ((a == 47) && not (one_of (codes "*/") c)) h (λ k. pattern_longer false false (c ∷ cs) ys fs k)
  where
    go : (b : Bool) → elim b [ true ↦ behind_pattern false false (c ∷ cs) | false ↦ None ] ≡ Some fs → (behind_pattern false false (c ∷ cs) ≡ Some fs → behind_pattern false false (c ∷ cs ++ ys) ≡ Some (fs ++ ys)) → elim b [ true ↦ behind_pattern false false (c ∷ cs ++ ys) | false ↦ None ] ≡ Some (fs ++ ys)
    go true k r = r k
    go false k r = cc

expression_longer : (a c : ℕ) (cs : List ℕ) (d : ℕ) (x more : List ℕ) → (is_some (flags (a ∷ c ∷ cs)) && not (is_identifier_part d)) ≡ true → lexemes_in regular_expression (a ∷ c ∷ cs ++ d ∷ x) more ≡ false
expression_longer a c cs d x more h = go (flags (a ∷ c ∷ cs)) refl (both-left (is_some (flags (a ∷ c ∷ cs))) (not (is_identifier_part d)) h)
  where
    stop : is_identifier_part d ≡ false
    stop = not-true (is_identifier_part d) (both-right (is_some (flags (a ∷ c ∷ cs))) (not (is_identifier_part d)) h)

    go : (o : Option (List ℕ)) → flags (a ∷ c ∷ cs) ≡ o → is_some o ≡ true → lexemes_in regular_expression (a ∷ c ∷ cs ++ d ∷ x) more ≡ false
    go None e k = cc
    go (Some fs) e k = ap is_some (ap flagged (flags_longer a c cs (d ∷ x) fs e) ∙ ap (λ (b : Bool). elim b [ true ↦ Some RegExp | false ↦ None ]) (parts_stop fs d x stop))

-- no punctuator begins with these characters
abbrev pub begins_none : List ℕ → List Kind → Bool
begins_none u ks = list_all (λ k. not (starts u (text_of k))) ks

starts_itself : (u x t : List ℕ) → bytes_eq t (u ++ x) ≡ true → starts u t ≡ true
starts_itself [] x t h = refl
starts_itself (c ∷ u) x [] h = cc
starts_itself (c ∷ u) x (d ∷ t) h = both (c == d) (starts u t) (flip (both-left (d == c) (bytes_eq t (u ++ x)) h)) (starts_itself u x t (both-right (d == c) (bytes_eq t (u ++ x)) h))
  where
    flip : (d == c) ≡ true → (c == d) ≡ true
    flip e = Rattle.std.proofs.lemmas.Bool.eq-eqb c d (sym (Rattle.std.proofs.lemmas.Bool.eqb-true d c e))

not_text : (u x t : List ℕ) → starts u t ≡ false → bytes_eq t (u ++ x) ≡ false
not_text u x t h = go (bytes_eq t (u ++ x)) refl
  where
    go : (b : Bool) → bytes_eq t (u ++ x) ≡ b → bytes_eq t (u ++ x) ≡ false
    go false e = e
    go true e = let s = starts_itself u x t e in cc

none_found : (ks : List Kind) (u x more : List ℕ) → begins_none u ks ≡ true → find (λ k. bytes_eq (text_of k) (u ++ x) && may_precede k more) ks ≡ None
none_found [] u x more h = refl
none_found (k ∷ ks) u x more h =
    ap (λ (b : Bool). cond b (Some k) (find (λ j. bytes_eq (text_of j) (u ++ x) && may_precede j more) ks)) (and_left (bytes_eq (text_of k) (u ++ x)) (may_precede k more) (not_text u x (text_of k) (not-true (starts u (text_of k)) (both-left (not (starts u (text_of k))) (begins_none u ks) h))))
    ∙ none_found ks u x more (both-right (not (starts u (text_of k))) (begins_none u ks) h)

punctuator_longer : (c : ℕ) (cs : List ℕ) (d : ℕ) (x more : List ℕ) → (opens (opening c (begins is_decimal (cs ++ d ∷ []))) a_punctuator && begins_none (c ∷ cs ++ d ∷ []) punctuators) ≡ true → lexemes_in division (c ∷ cs ++ d ∷ x) more ≡ false
punctuator_longer c cs d x more h =
    let o = opens-same (opening c (begins is_decimal (cs ++ d ∷ []))) a_punctuator (both-left (opens (opening c (begins is_decimal (cs ++ d ∷ []))) a_punctuator) (begins_none (c ∷ cs ++ d ∷ []) punctuators) h) in
    let n = none_found punctuators (c ∷ cs ++ d ∷ []) x more (both-right (opens (opening c (begins is_decimal (cs ++ d ∷ []))) a_punctuator) (begins_none (c ∷ cs ++ d ∷ []) punctuators) h) in
    ap is_some (
    plain_of a_punctuator c (cs ++ d ∷ x) more (ap (λ (b : Bool). opening c b) (same_first cs) ∙ o)
    ∙ subst (λ (v : List ℕ). punctuator_kind v more ≡ None) (append_assoc (c ∷ cs) (d ∷ []) x) n)
  where
    same_first : (v : List ℕ) → begins is_decimal (v ++ d ∷ x) ≡ begins is_decimal (v ++ d ∷ [])
    same_first [] = refl
    same_first (a ∷ v) = refl

-- the tests, by what the first character opens
abbrev pub stops_plainly : Opening → ℕ → List ℕ → ℕ → Bool
stops_plainly a_name c cs d = always a_name c && ends_name (c ∷ cs) d
stops_plainly a_number c cs d = is_core_number (c ∷ cs) && ends_number d
stops_plainly a_string c cs d = always a_string c && ends_string c cs
stops_plainly a_template c cs d = always a_template c && is_some (closes_template false false cs)
stops_plainly a_private_name c [] d = false
stops_plainly a_private_name c (a ∷ cs) d = always a_private_name c && ends_name (a ∷ cs) d
stops_plainly a_punctuator c cs d = opens (opening c (begins is_decimal (cs ++ d ∷ []))) a_punctuator && begins_none (c ∷ cs ++ d ∷ []) punctuators

plainly_longer : (o : Opening) (c : ℕ) (cs : List ℕ) (d : ℕ) (x more : List ℕ) → stops_plainly o c cs d ≡ true → lexemes_in division (c ∷ cs ++ d ∷ x) more ≡ false
plainly_longer a_name c cs d x more h = name_longer c cs d x more h
plainly_longer a_number c cs d x more h = number_longer c cs d x more h
plainly_longer a_string c cs d x more h = string_longer c cs d x more h
plainly_longer a_template c cs d x more h = template_longer c cs d x more h
plainly_longer a_private_name c [] d x more h = cc
plainly_longer a_private_name c (a ∷ cs) d x more h = private_longer c a cs d x more h
plainly_longer a_punctuator c cs d x more h = punctuator_longer c cs d x more h

-- the characters don't go on with the next one
abbrev pub stops : LexicalGoal → List ℕ → ℕ → Bool
stops division (c ∷ cs) d = stops_plainly (opening c (begins is_decimal cs)) c cs d
stops regular_expression (a ∷ c ∷ cs) d = is_some (flags (a ∷ c ∷ cs)) && not (is_identifier_part d)
stops template_tail (c ∷ cs) d = is_some (closes_template false false cs)
stops _ _ _ = false

stops_longer : (g : LexicalGoal) (w : List ℕ) (d : ℕ) (x more : List ℕ) → stops g w d ≡ true → lexemes_in g (w ++ d ∷ x) more ≡ false
stops_longer division [] d x more h = cc
stops_longer division (c ∷ cs) d x more h = plainly_longer (opening c (begins is_decimal cs)) c cs d x more h
stops_longer regular_expression [] d x more h = cc
stops_longer regular_expression (a ∷ []) d x more h = cc
stops_longer regular_expression (a ∷ c ∷ cs) d x more h = expression_longer a c cs d x more h
stops_longer template_tail [] d x more h = cc
stops_longer template_tail (c ∷ cs) d x more h = tail_longer c cs d x more h
stops_longer hashbang w d x more h = cc

-- none is longer: by the next character, else by trying all
abbrev pub none_goes_on : LexicalGoal → List ℕ → List ℕ → Bool
none_goes_on g w [] = true
none_goes_on g w (d ∷ rest) = elim (stops g w d) [ true ↦ true | false ↦ none_longer (lexemes_in g) w (d ∷ rest) ]

pub none_goes_on-is : (g : LexicalGoal) (w rest : List ℕ) → none_goes_on g w rest ≡ true → none_longer (lexemes_in g) w rest ≡ true
none_goes_on-is g w [] h = refl
none_goes_on-is g w (d ∷ rest) h = go (stops g w d) refl h
  where
    go : (b : Bool) → stops g w d ≡ b → elim b [ true ↦ true | false ↦ none_longer (lexemes_in g) w (d ∷ rest) ] ≡ true → none_longer (lexemes_in g) w (d ∷ rest) ≡ true
    go true e k = none_longer-from (lexemes_in g) w (d ∷ rest) (λ c x more q. stops_longer g w c x more (subst (λ (a : ℕ). stops g w a ≡ true) (head q) e))
    go false e k = k

-- Trivia.

not_after : (a w more rest : List ℕ) (p : List ℕ → Bool) → rest ≡ w ++ more → not (starts a rest) ≡ true → after a p w ≡ false
not_after a w more rest p e n = go (after a p w) refl
  where
    go : (b : Bool) → after a p w ≡ b → after a p w ≡ false
    go false f = f
    go true f = let s = after-starts a w more p f in let t : starts a (w ++ more) ≡ false = subst (λ (v : List ℕ). starts a v ≡ false) e (not-true (starts a rest) n) in cc

abbrev pub blank : ℕ → Bool
blank c = is_white_space c || is_line_terminator c

-- no piece of trivia begins
abbrev pub no_trivia : List ℕ → Bool
no_trivia [] = true
no_trivia (c ∷ cs) = not (blank c) && (not (starts (codes "//") (c ∷ cs)) && (not (starts (codes "/*") (c ∷ cs)) && (not (starts (codes "<!--") (c ∷ cs)) && not (starts (codes "-->") (c ∷ cs)))))

not_blank : (d : ℕ) (x : List ℕ) → blank d ≡ false → is_blank (d ∷ x) ≡ false
not_blank d [] h = h
not_blank d (e ∷ x) h = refl

no_trivia-is : (first : Bool) (cs : List ℕ) → no_trivia cs ≡ true → none_begins (is_trivia_piece first) cs ≡ true
no_trivia-is first [] h = refl
no_trivia-is first (c ∷ cs) h =
    let h1 = both-right (not (blank c)) _ h in
    let h2 = both-right (not (starts (codes "//") (c ∷ cs))) _ h1 in
    let h3 = both-right (not (starts (codes "/*") (c ∷ cs))) _ h2 in
    let s1 = both-left (not (starts (codes "//") (c ∷ cs))) _ h1 in
    let s2 = both-left (not (starts (codes "/*") (c ∷ cs))) _ h2 in
    let s3 = both-left (not (starts (codes "<!--") (c ∷ cs))) (not (starts (codes "-->") (c ∷ cs))) h3 in
    let s4 = both-right (not (starts (codes "<!--") (c ∷ cs))) (not (starts (codes "-->") (c ∷ cs))) h3 in
    none_longer-from (is_trivia_piece first) [] (c ∷ cs) (λ d x more e.
    neither (is_blank (d ∷ x)) _ (not_blank d x (subst (λ (a : ℕ). blank a ≡ false) (head e) (not-true (blank c) (both-left (not (blank c)) _ h))))
    (neither (is_single_line_comment (d ∷ x)) _ (not_after (codes "//") (d ∷ x) more (c ∷ cs) within_line e s1)
    (neither (is_multi_line_comment (d ∷ x)) _ (not_after (codes "/*") (d ∷ x) more (c ∷ cs) (closes_comment false) e s2)
    (neither (is_html_open (d ∷ x)) (first && is_html_close (d ∷ x)) (not_after (codes "<!--") (d ∷ x) more (c ∷ cs) within_line e s3)
    (and_right first (is_html_close (d ∷ x)) (not_after (codes "-->") (d ∷ x) more (c ∷ cs) within_line e s4))))))

-- one character that is a piece, and no other begins with it
abbrev pub is_single : List ℕ → Bool
is_single [] = false
is_single (c ∷ []) = blank c && (not (47 == c) && (not (60 == c) && not (45 == c)))
is_single (c ∷ d ∷ cs) = false

single_piece : (first : Bool) (p rest : List ℕ) → is_single p ≡ true → longest (is_trivia_piece first) p rest ≡ true
single_piece first [] rest h = cc
single_piece first (c ∷ d ∷ cs) rest h = cc
single_piece first (c ∷ []) rest h =
    let b = both-left (blank c) _ h in
    let h1 = both-right (blank c) _ h in
    let h2 = both-right (not (47 == c)) _ h1 in
    let slash = not-true (47 == c) (both-left (not (47 == c)) _ h1) in
    let less = not-true (60 == c) (both-left (not (60 == c)) (not (45 == c)) h2) in
    let minus = not-true (45 == c) (both-right (not (60 == c)) (not (45 == c)) h2) in
    both (is_trivia_piece first (c ∷ []) rest) (none_longer (is_trivia_piece first) (c ∷ []) rest)
    (ap (λ (a : Bool). a || (is_single_line_comment (c ∷ []) || (is_multi_line_comment (c ∷ []) || (is_html_open (c ∷ []) || (first && is_html_close (c ∷ [])))))) b)
    (none_longer-from (is_trivia_piece first) (c ∷ []) rest (λ d x more e.
    neither (is_single_line_comment (c ∷ d ∷ x)) _ (and_left (47 == c) (after (47 ∷ []) within_line (d ∷ x)) slash)
    (neither (is_multi_line_comment (c ∷ d ∷ x)) _ (and_left (47 == c) (after (42 ∷ []) (closes_comment false) (d ∷ x)) slash)
    (neither (is_html_open (c ∷ d ∷ x)) (first && is_html_close (c ∷ d ∷ x)) (and_left (60 == c) (after (codes "!--") within_line (d ∷ x)) less)
    (and_right first (is_html_close (c ∷ d ∷ x)) (and_left (45 == c) (after (codes "->") within_line (d ∷ x)) minus))))))

abbrev pub trivia_stands : Bool → List (List ℕ) → List ℕ → Bool
trivia_stands first [] rest = elim (no_trivia rest) [ true ↦ true | false ↦ none_begins (is_trivia_piece first) rest ]
trivia_stands first (p ∷ ps) rest = elim (is_single p) [ true ↦ true | false ↦ longest (is_trivia_piece first) p (joined ps ++ rest) ] && trivia_stands (first || has_line_terminator p) ps rest

pub trivia_stands-is : (first : Bool) (ps : List (List ℕ)) (rest : List ℕ) → trivia_stands first ps rest ≡ true → are_trivia first ps rest ≡ true
trivia_stands-is first [] rest h = go (no_trivia rest) refl h
  where
    go : (b : Bool) → no_trivia rest ≡ b → elim b [ true ↦ true | false ↦ none_begins (is_trivia_piece first) rest ] ≡ true → none_begins (is_trivia_piece first) rest ≡ true
    go true e k = no_trivia-is first rest e
    go false e k = k
trivia_stands-is first (p ∷ ps) rest h =
    both (longest (is_trivia_piece first) p (joined ps ++ rest)) (are_trivia (first || has_line_terminator p) ps rest)
    (go (is_single p) refl (both-left (elim (is_single p) [ true ↦ true | false ↦ longest (is_trivia_piece first) p (joined ps ++ rest) ]) (trivia_stands (first || has_line_terminator p) ps rest) h))
    (trivia_stands-is (first || has_line_terminator p) ps rest (both-right (elim (is_single p) [ true ↦ true | false ↦ longest (is_trivia_piece first) p (joined ps ++ rest) ]) (trivia_stands (first || has_line_terminator p) ps rest) h))
  where
    go : (b : Bool) → is_single p ≡ b → elim b [ true ↦ true | false ↦ longest (is_trivia_piece first) p (joined ps ++ rest) ] ≡ true → longest (is_trivia_piece first) p (joined ps ++ rest) ≡ true
    go true e k = single_piece first p (joined ps ++ rest) e
    go false e k = k
