-- Which punctuators there are, and that a front of one is one.
use Rattle.std.proofs.Common.{◌≡◌, ◌<◌, ◌≤◌, ℕ, ◌+◌, ◌==◌, Bool, true, false, List, [], ◌∷◌, ◌++◌, refl, sym, ap, subst, ◌∙◌, not, ◌&&◌, ◌||◌, append_assoc, arith, Option, Some, None, ◌⊎◌, inl, inr, slice_index_or}
use Rattle.std.specs.Prelude.{is_some, nat_lt, bytes_eq, cond, codes}
use Rattle.std.specs.List.{list_all, find}
use Rattle.std.proofs.lemmas.Bool.{cases_lt, and_left}
use Rattle.std.proofs.lemmas.Slice.Eq.{bytes_eq-Decides}
use Rattle.js_base.specs.declared.kind.Kind.{Kind}
use Rattle.js_base.specs.declared.kind.Kind.TheVariants.{QuestionDot, Slash}
use Rattle.js_base.specs.Kinds.{same_kind}
use Rattle.js_base.specs.Texts.{text_of, punctuators}
use Rattle.js_base.specs.part_text.Characters.{one_of, is_decimal}
use Rattle.part_words.specs.js_grammar.Characters.{begins}
use Rattle.part_words.specs.js_grammar.Lexemes.{may_precede, punctuator_kind, Opening, opening, a_name, a_number, a_string, a_template, a_private_name, a_punctuator}
use Rattle.part_words.specs.js_grammar.LexicalFaults.{behind}
use Rattle.part_words.proofs.js_grammar.LongestLemmas.{both-left, both-right, both, not-true}
use Rattle.part_words.proofs.js_grammar.Finding.{neither-left, neither-right, found-test, found-all}
use Rattle.part_words.proofs.js_grammar.CoreLemmas.{implies, implied}
use Rattle.part_words.proofs.js_grammar.CoreFirst.{lt-true}
use Rattle.part_words.specs.Places.{Word, Peeks}
use Rattle.part_scan.specs.Punctuators.{punctuator_of, is_free, opens_no_comment, IsPunctuator, OpensPunctuator, StandsAlone, EndsSign}
use Rattle.part_scan.specs.declared.punctuator.TheConstants.{SINGLES}
use Rattle.part_words.specs.ByteClasses.{IsOf, is_end_class, is_alone_class, is_lone, ends_sign}
use Rattle.part_words.specs.declared.byte_class.ByteClass.{ByteClass}
use Rattle.part_words.proofs.ByteClasses.{agree}
use Rattle.part_words.proofs.Places.{then}

-- what is found where fewer pass
find_fewer : (t u : Kind → Bool) (ks : List Kind) (k : Kind) → ((l : Kind) → t l ≡ false → u l ≡ false) → find t ks ≡ Some k → u k ≡ true → find u ks ≡ Some k
find_fewer t u [] k f e h = cc
find_fewer t u (d ∷ ks) k f e h = go (t d) refl e (λ g. find_fewer t u ks k f g h)
  where
    go : (b : Bool) → t d ≡ b → cond b (Some d) (find t ks) ≡ Some k → (find t ks ≡ Some k → find u ks ≡ Some k) → cond (u d) (Some d) (find u ks) ≡ Some k
    go true g e r = let s : d ≡ k = cc in let m : u d ≡ true = subst (λ (x : Kind). u x ≡ true) (sym s) h in rw m (ap Some s)
    go false g e r = rw (f d g) (r e)

find_none : (t u : Kind → Bool) (ks : List Kind) → ((l : Kind) → t l ≡ false → u l ≡ false) → find t ks ≡ None → find u ks ≡ None
find_none t u [] f e = refl
find_none t u (d ∷ ks) f e = go (t d) refl e (λ g. find_none t u ks f g)
  where
    go : (b : Bool) → t d ≡ b → cond b (Some d) (find t ks) ≡ None → (find t ks ≡ None → find u ks ≡ None) → cond (u d) (Some d) (find u ks) ≡ None
    go true g e r = cc
    go false g e r = rw (f d g) (r e)

pub kind_none : (w rest : List ℕ) → punctuator_of w ≡ None → punctuator_kind w rest ≡ None
kind_none w rest e = find_none (λ k. bytes_eq (text_of k) w) (λ k. bytes_eq (text_of k) w && may_precede k rest) punctuators (λ l h. and_left (bytes_eq (text_of l) w) (may_precede l rest) h) e

pub written : (w : List ℕ) (k : Kind) → punctuator_of w ≡ Some k → bytes_eq (text_of k) w ≡ true
written w k e = found-test (λ l. bytes_eq (text_of l) w) punctuators k e

pub text_written : (w : List ℕ) (k : Kind) → punctuator_of w ≡ Some k → text_of k ≡ w
text_written w k e = (bytes_eq-Decides (text_of k) w).0 (written w k e)

pub kind_some : (w rest : List ℕ) (k : Kind) → punctuator_of w ≡ Some k → may_precede k rest ≡ true → punctuator_kind w rest ≡ Some k
kind_some w rest k e h = find_fewer (λ l. bytes_eq (text_of l) w) (λ l. bytes_eq (text_of l) w && may_precede l rest) punctuators k (λ l g. and_left (bytes_eq (text_of l) w) (may_precede l rest) g) e (both (bytes_eq (text_of k) w) (may_precede k rest) (written w k e) h)

-- a test that the texts of all punctuators pass
pub passes : (t : List ℕ → Bool) (w : List ℕ) (k : Kind) → punctuator_of w ≡ Some k → list_all (λ l. t (text_of l)) punctuators ≡ true → t w ≡ true
passes t w k e a = subst (λ (v : List ℕ). t v ≡ true) (text_written w k e) (found-all (λ l. bytes_eq (text_of l) w) (λ l. t (text_of l)) punctuators k e a)

-- no punctuator is so written that doesn't pass
pub fails : (t : List ℕ → Bool) (w : List ℕ) → list_all (λ l. t (text_of l)) punctuators ≡ true → t w ≡ false → punctuator_of w ≡ None
fails t w a h = go (punctuator_of w) refl
  where
    go : (o : Option Kind) → punctuator_of w ≡ o → punctuator_of w ≡ None
    go None e = e
    go (Some k) e = absurd (let p = passes t w k e a in cc)

-- each front of the characters behind w is, with w, a punctuator
abbrev pub known : List ℕ → List ℕ → Bool
known w [] = true
known w (c ∷ cs) = is_some (punctuator_of (w ++ c ∷ [])) && known (w ++ c ∷ []) cs

front_known : (w v : List ℕ) (d : ℕ) (x : List ℕ) → known w (v ++ d ∷ x) ≡ true → is_some (punctuator_of (w ++ (v ++ d ∷ []))) ≡ true
front_known w [] d x h = both-left (is_some (punctuator_of (w ++ d ∷ []))) (known (w ++ d ∷ []) x) h
front_known w (c ∷ v) d x h =
    subst (λ (u : List ℕ). is_some (punctuator_of u) ≡ true) (append_assoc w (c ∷ []) (v ++ d ∷ []))
    (front_known (w ++ c ∷ []) v d x (both-right (is_some (punctuator_of (w ++ c ∷ []))) (known (w ++ c ∷ []) (v ++ d ∷ x)) h))

abbrev pub fronts_known : List ℕ → Bool
fronts_known w = begins (one_of (46 ∷ [])) w || known [] w

all_known : list_all (λ k. fronts_known (text_of k)) punctuators ≡ true
unfolding punctuators
all_known = refl

-- longer characters are no punctuator where one more character makes none
longer_none : (c : ℕ) (w : List ℕ) (d : ℕ) (x : List ℕ) → one_of (46 ∷ []) c ≡ false → punctuator_of (c ∷ w ++ d ∷ []) ≡ None → punctuator_of (c ∷ w ++ d ∷ x) ≡ None
longer_none c w d x h e = go (punctuator_of (c ∷ w ++ d ∷ x)) refl
  where
    go : (o : Option Kind) → punctuator_of (c ∷ w ++ d ∷ x) ≡ o → punctuator_of (c ∷ w ++ d ∷ x) ≡ None
    go None g = g
    go (Some k) g = absurd (
        let p : (one_of (46 ∷ []) c || known [] (c ∷ w ++ d ∷ x)) ≡ true = passes fronts_known (c ∷ w ++ d ∷ x) k g all_known in
        let q : known [] (c ∷ w ++ d ∷ x) ≡ true = subst (λ (b : Bool). (b || known [] (c ∷ w ++ d ∷ x)) ≡ true) h p in
        let r : is_some (punctuator_of (c ∷ w ++ d ∷ [])) ≡ true = front_known [] (c ∷ w) d x q in
        let s : is_some (punctuator_of (c ∷ w ++ d ∷ [])) ≡ false = ap is_some e in
        cc)

first_known : list_all (λ k. begins (λ d. is_some (punctuator_of (d ∷ []))) (text_of k)) punctuators ≡ true
unfolding punctuators
first_known = refl

pub alone_none : (c : ℕ) (x : List ℕ) → punctuator_of (c ∷ []) ≡ None → punctuator_of (c ∷ x) ≡ None
alone_none c x e = go (punctuator_of (c ∷ x)) refl
  where
    go : (o : Option Kind) → punctuator_of (c ∷ x) ≡ o → punctuator_of (c ∷ x) ≡ None
    go None g = g
    go (Some k) g = absurd (
        let p : is_some (punctuator_of (c ∷ [])) ≡ true = passes (begins (λ d. is_some (punctuator_of (d ∷ [])))) (c ∷ x) k g first_known in
        let s : is_some (punctuator_of (c ∷ [])) ≡ false = ap is_some e in
        cc)

-- all punctuators are ASCII
all_ascii : list_all (λ k. list_all (λ c. nat_lt c 128) (text_of k)) punctuators ≡ true
unfolding punctuators
all_ascii = refl

high_in : (w : List ℕ) (c : ℕ) (x : List ℕ) → list_all (λ d. nat_lt d 128) (w ++ c ∷ x) ≡ true → c < 128
high_in [] c x h = lt-true c 128 (both-left (nat_lt c 128) (list_all (λ d. nat_lt d 128) x) h)
high_in (a ∷ w) c x h = high_in w c x (both-right (nat_lt a 128) (list_all (λ d. nat_lt d 128) (w ++ c ∷ x)) h)

pub ascii_of : (w : List ℕ) (c : ℕ) (x : List ℕ) (k : Kind) → punctuator_of (w ++ c ∷ x) ≡ Some k → c < 128
ascii_of w c x k e = high_in w c x (passes (list_all (λ d. nat_lt d 128)) (w ++ c ∷ x) k e all_ascii)

pub high_none : (w : List ℕ) (c : ℕ) (x : List ℕ) → 128 ≤ c → punctuator_of (w ++ c ∷ x) ≡ None
high_none w c x h = go (punctuator_of (w ++ c ∷ x)) refl
  where
    go : (o : Option Kind) → punctuator_of (w ++ c ∷ x) ≡ o → punctuator_of (w ++ c ∷ x) ≡ None
    go None e = e
    go (Some k) e = absurd (let l = ascii_of w c x k e in omega arith)

-- The character at the place makes no punctuator of w.
pub record Stops (w cs : List ℕ) : Type 0 where
  pub none : (d : ℕ) (r : List ℕ) → cs ≡ d ∷ r → punctuator_of (w ++ d ∷ []) ≡ None

stops_at_end : (w cs : List ℕ) → cs ≡ [] → Stops w cs
stops_at_end w cs e = record { none = λ d r f. absurd (let g = sym e ∙ f in cc) }

pub stops_at_byte : {text : List ℕ} {j b : ℕ} (w : List ℕ) → Peeks text j b → punctuator_of (w ++ b ∷ []) ≡ None → Stops w (behind text j)
stops_at_byte {text = text} {j = j} {b = b} w p e = record { none = go (cases_lt b 128) }
  where
    go : (b < 128) ⊎ (128 ≤ b) → (d : ℕ) (r : List ℕ) → behind text j ≡ d ∷ r → punctuator_of (w ++ d ∷ []) ≡ None
    go (inl l) d r f = let g : b ∷ behind text (j + 1) ≡ d ∷ r = sym (p.ascii l).splits ∙ f in let s : b ≡ d = cc in subst (λ (x : ℕ). punctuator_of (w ++ x ∷ []) ≡ None) s e
    go (inr h) d r f =
        let q = p.high h in
        let g : q.character ∷ behind text (j + Rattle.std.specs.Char.len_utf8 q.character) ≡ d ∷ r = sym q.word.splits ∙ f in
        let s : q.character ≡ d = cc in
        subst (λ (x : ℕ). punctuator_of (w ++ x ∷ []) ≡ None) s (high_none w q.character [] q.high)

pub goes_on_at_byte : {text : List ℕ} {i j n b : ℕ} {k : Kind} (w : List ℕ) → Word text i j w → Peeks text j b → punctuator_of (w ++ b ∷ []) ≡ Some k → j + 1 ≡ n → Word text i n (w ++ b ∷ [])
goes_on_at_byte {text = text} {i = i} {b = b} {k = k} w s p e f = subst (λ (m : ℕ). Word text i m (w ++ b ∷ [])) f (then s (p.ascii (ascii_of w b [] k e)))

-- what is free may precede anything
abbrev free_kind : Kind → Bool
free_kind k = implies (is_free (text_of k)) (not (same_kind QuestionDot k) && not (same_kind Slash k))

all_free : list_all free_kind punctuators ≡ true
unfolding punctuators
all_free = refl

pub free_precedes : (w rest : List ℕ) (k : Kind) → punctuator_of w ≡ Some k → is_free w ≡ true → may_precede k rest ≡ true
free_precedes w rest k e h =
    let f = found-all (λ l. bytes_eq (text_of l) w) free_kind punctuators k e all_free in
    let g = implied (is_free (text_of k)) (not (same_kind QuestionDot k) && not (same_kind Slash k)) f (subst (λ (v : List ℕ). is_free v ≡ true) (sym (text_written w k e)) h) in
    let a = not-true (same_kind QuestionDot k) (both-left (not (same_kind QuestionDot k)) (not (same_kind Slash k)) g) in
    let b = not-true (same_kind Slash k) (both-right (not (same_kind QuestionDot k)) (not (same_kind Slash k)) g) in
    rw (a, b) refl

free_no_dot : (c : ℕ) (w : List ℕ) → is_free (c ∷ w) ≡ true → one_of (46 ∷ []) c ≡ false
free_no_dot c w h =
    let n = neither-left (one_of (46 ∷ 47 ∷ []) c) (one_of (63 ∷ []) c && begins (one_of (46 ∷ [])) w) (not-true (one_of (46 ∷ 47 ∷ []) c || (one_of (63 ∷ []) c && begins (one_of (46 ∷ [])) w)) h) in
    let m = neither-left (46 == c) (one_of (47 ∷ []) c) n in
    rw m refl

pub first_free : (c : ℕ) (w : List ℕ) → one_of (46 ∷ 47 ∷ 63 ∷ []) c ≡ false → is_free (c ∷ w) ≡ true
first_free c w h =
    let a = neither-left (46 == c) (one_of (47 ∷ 63 ∷ []) c) h in
    let r = neither-right (46 == c) (one_of (47 ∷ 63 ∷ []) c) h in
    let b = neither-left (47 == c) (one_of (63 ∷ []) c) r in
    let d = neither-left (63 == c) false (neither-right (47 == c) (one_of (63 ∷ []) c) r) in
    rw (a, b, d) refl

pub alone : {text : List ℕ} {i j c : ℕ} {w : List ℕ} {k : Kind} → Word text i j (c ∷ w) → punctuator_of (c ∷ w) ≡ Some k → is_free (c ∷ w) ≡ true → Stops (c ∷ w) (behind text j) → IsPunctuator text i (record { kind = k; end = j })
alone {text = text} {j = j} {c = c} {w = w} {k = k} s e f t = record {
  first = c;
  others = w;
  stands = s;
  kind = e;
  precedes = free_precedes (c ∷ w) (behind text j) k e f;
  never = λ d x more g. kind_none (c ∷ w ++ d ∷ x) more (longer_none c w d x (free_no_dot c w f) (t.none d (x ++ more) g));
}

pub alone_at_end : {text : List ℕ} {i j c : ℕ} {w : List ℕ} {k : Kind} → Word text i j (c ∷ w) → punctuator_of (c ∷ w) ≡ Some k → is_free (c ∷ w) ≡ true → behind text j ≡ [] → IsPunctuator text i (record { kind = k; end = j })
alone_at_end {text = text} {j = j} {c = c} {w = w} s e f t = alone s e f (stops_at_end (c ∷ w) (behind text j) t)

-- the longest punctuators have four characters
abbrev at_most_four : List ℕ → Bool
at_most_four (a ∷ b ∷ c ∷ d ∷ e ∷ w) = false
at_most_four _ = true

all_short : list_all (λ k. at_most_four (text_of k)) punctuators ≡ true
unfolding punctuators
all_short = refl

pub four_stop : {cs : List ℕ} (a b c d : ℕ) → Stops (a ∷ b ∷ c ∷ d ∷ []) cs
four_stop a b c d = record { none = λ e r f. fails at_most_four (a ∷ b ∷ c ∷ d ∷ e ∷ []) all_short refl }

pub free_second : (c d : ℕ) (w : List ℕ) → is_free (c ∷ d ∷ []) ≡ true → is_free (c ∷ d ∷ w) ≡ true
free_second c d w h = h

-- no punctuator begins with the character at the place
pub begins_none : {text : List ℕ} {i b : ℕ} → Peeks text i b → punctuator_of (b ∷ []) ≡ None → Rattle.part_scan.specs.Punctuators.BeginsNone (behind text i)
begins_none {text = text} {i = i} {b = b} p e = go (cases_lt b 128)
  where
    go : (b < 128) ⊎ (128 ≤ b) → Rattle.part_scan.specs.Punctuators.BeginsNone (behind text i)
    go (inl l) = subst Rattle.part_scan.specs.Punctuators.BeginsNone (sym (p.ascii l).splits) e
    go (inr h) = let q = p.high h in subst Rattle.part_scan.specs.Punctuators.BeginsNone (sym q.word.splits) (high_none [] q.character [] q.high)

-- ---- a punctuator of one character, told by the character or by the next one

-- no punctuator has a character behind a lone one, nor one that ends a sign behind its first
abbrev lone_or_short : List ℕ → Bool
lone_or_short (c ∷ d ∷ x) = not (is_lone c)
lone_or_short _ = true

lone_all : list_all (λ k. lone_or_short (text_of k)) punctuators ≡ true
unfolding punctuators
lone_all = refl

abbrev goes_on_or_short : List ℕ → Bool
goes_on_or_short (c ∷ d ∷ x) = not (ends_sign d)
goes_on_or_short _ = true

goes_on_all : list_all (λ k. goes_on_or_short (text_of k)) punctuators ≡ true
unfolding punctuators
goes_on_all = refl

-- whether it is no name, no number and so on
abbrev is_punctuator_opening : Opening → Bool
is_punctuator_opening a_punctuator = true
is_punctuator_opening _ = false

opens_punctuator : (o : Opening) → is_punctuator_opening o ≡ true → o ≡ a_punctuator
opens_punctuator a_punctuator h = refl
opens_punctuator a_name h = cc
opens_punctuator a_number h = cc
opens_punctuator a_string h = cc
opens_punctuator a_template h = cc
opens_punctuator a_private_name h = cc

singles_open : list_all (λ k. begins (λ c. is_punctuator_opening (opening c false)) (text_of k)) punctuators ≡ true
unfolding punctuators
singles_open = refl

single_opens : (c : ℕ) (k : Kind) → punctuator_of (c ∷ []) ≡ Some k → opening c false ≡ a_punctuator
single_opens c k e = opens_punctuator (opening c false) (passes (begins (λ d. is_punctuator_opening (opening d false))) (c ∷ []) k e singles_open)

-- what the characters tell that are lone
record IsLone (c : ℕ) : Type 0 where
  free : one_of (46 ∷ 47 ∷ 63 ∷ []) c ≡ false
  opens : opening c true ≡ a_punctuator

lone_told : (c : ℕ) → c < 128 → is_lone c ≡ true → IsLone c
lone_told c l h = record {
  free = implied-not (is_lone c) (one_of (46 ∷ 47 ∷ 63 ∷ []) c) (agree 128 (λ d. implies (is_lone d) (not (one_of (46 ∷ 47 ∷ 63 ∷ []) d))) (λ d. true) refl c l) h;
  opens = opens_punctuator (opening c true) (implied (is_lone c) (is_punctuator_opening (opening c true)) (agree 128 (λ d. implies (is_lone d) (is_punctuator_opening (opening d true))) (λ d. true) refl c l) h);
}
  where
    implied-not : (a b : Bool) → implies a (not b) ≡ true → a ≡ true → b ≡ false
    implied-not a b h e = not-true b (implied a (not b) h e)

-- what ends a sign is no digit, and opens no comment
ends_told : (d : ℕ) → ends_sign d ≡ true → (is_decimal d ≡ false) × (one_of (codes "*/") d ≡ false)
ends_told d h =
    let a = both-right (nat_lt d 128) (not (is_decimal d) && not (one_of (codes "=>.?+-*<&|/") d)) h in
    let n = not-true (one_of (codes "=>.?+-*<&|/") d) (both-right (not (is_decimal d)) (not (one_of (codes "=>.?+-*<&|/") d)) a) in
    (not-true (is_decimal d) (both-left (not (is_decimal d)) (not (one_of (codes "=>.?+-*<&|/") d)) a), fewer d (lt-true d 128 (both-left (nat_lt d 128) (not (is_decimal d) && not (one_of (codes "=>.?+-*<&|/") d)) h)) n)
  where
    fewer : (c : ℕ) → c < 128 → one_of (codes "=>.?+-*<&|/") c ≡ false → one_of (codes "*/") c ≡ false
    fewer c l n = not-true (one_of (codes "*/") c) (implied (not (one_of (codes "=>.?+-*<&|/") c)) (not (one_of (codes "*/") c)) (agree 128 (λ d. implies (not (one_of (codes "=>.?+-*<&|/") d)) (not (one_of (codes "*/") d))) (λ d. true) refl c l) (ap not n))

begins_no : (p : ℕ → Bool) (cs : List ℕ) → ((d : ℕ) (r : List ℕ) → cs ≡ d ∷ r → p d ≡ false) → begins p cs ≡ false
begins_no p [] h = refl
begins_no p (d ∷ r) h = h d r refl

pub lone_there : {text : List ℕ} {i b : ℕ} {k : Kind} → Word text i (i + 1) (b ∷ []) → punctuator_of (b ∷ []) ≡ Some k → StandsAlone text i b → IsPunctuator text i (record { kind = k; end = i + 1 })
lone_there {b = b} s e (inl h) = alone s e (first_free b [] (lone_told b (ascii_of [] b [] _ e) h).free) (record { none = λ d r f. fails lone_or_short (b ∷ d ∷ []) lone_all (ap not h) })
lone_there {text = text} {i = i} {b = b} {k = k} s e (inr h) = record {
  first = b;
  others = [];
  stands = s;
  kind = e;
  precedes = (
      let d = begins_no is_decimal (behind text (i + 1)) (λ d r f. (ends_told d (h d r f)).0) in
      let c = begins_no (one_of (codes "*/")) (behind text (i + 1)) (λ d r f. (ends_told d (h d r f)).1) in
      precedes-all (same_kind QuestionDot k) (same_kind Slash k) (begins is_decimal (behind text (i + 1))) (begins (one_of (codes "*/")) (behind text (i + 1))) d c);
  never = λ d x more f. kind_none (b ∷ d ∷ x) more (fails goes_on_or_short (b ∷ d ∷ x) goes_on_all (ap not (h d (x ++ more) f)));
}
  where
    precedes-all : (a b c d : Bool) → c ≡ false → d ≡ false → (not (a && c) && not (b && d)) ≡ true
    precedes-all true true c d f g = rw (f, g) refl
    precedes-all true false c d f g = rw f refl
    precedes-all false true c d f g = rw g refl
    precedes-all false false c d f g = refl

-- and it opens a punctuator
pub lone_opens : {text : List ℕ} {i b : ℕ} {k : Kind} → Word text i (i + 1) (b ∷ []) → punctuator_of (b ∷ []) ≡ Some k → StandsAlone text i b → OpensPunctuator (behind text i)
lone_opens {text = text} {i = i} {b = b} {k = k} s e a = subst OpensPunctuator (sym s.splits) (go a)
  where
    both_ways : (x : Bool) → opening b true ≡ a_punctuator → opening b x ≡ a_punctuator
    both_ways true h = h
    both_ways false h = single_opens b k e

    go : StandsAlone text i b → opening b (begins is_decimal (behind text (i + 1))) ≡ a_punctuator
    go (inl h) = both_ways (begins is_decimal (behind text (i + 1))) (lone_told b (ascii_of [] b [] k e) h).opens
    go (inr h) = ap (opening b) (begins_no is_decimal (behind text (i + 1)) (λ d r f. (ends_told d (h d r f)).0)) ∙ single_opens b k e

-- the table of the punctuators of one character
pub single_is : (b : ℕ) → b < 256 → slice_index_or SINGLES b None ≡ punctuator_of (b ∷ [])
unfolding punctuators
single_is b l = agree 256 (λ c. slice_index_or SINGLES c None) (λ c. punctuator_of (c ∷ [])) refl b l

-- a byte that ends a sign, and the end of the text
pub ends_at_byte : {text : List ℕ} {i b : ℕ} {k : ByteClass} → Peeks text i b → IsOf b k → is_end_class k ≡ true → EndsSign text i
ends_at_byte {b = b} {k = k} p o h c cs e =
    let t : ends_sign b ≡ true = subst (λ (x : Bool). (not x || ends_sign b) ≡ true) h o.ends in
    let low = lt-true b 128 (both-left (nat_lt b 128) (not (is_decimal b) && not (one_of (codes "=>.?+-*<&|/") b)) t) in
    let f = sym (p.ascii low).splits ∙ e in
    let same : b ≡ c = cc in
    subst (λ (x : ℕ). ends_sign x ≡ true) same t

pub ends_at_end : (text : List ℕ) (i : ℕ) → behind text i ≡ [] → EndsSign text i
ends_at_end text i n c cs e = absurd (let f = sym n ∙ e in cc)

pub alone_told : {b : ℕ} {k : ByteClass} → IsOf b k → is_alone_class k ≡ true → is_lone b ≡ true
alone_told {b = b} o h = subst (λ (x : Bool). (not x || is_lone b) ≡ true) h o.alone
