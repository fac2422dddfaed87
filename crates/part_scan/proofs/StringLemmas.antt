-- What the inside of a string passes, and what stands where it is closed, open, or has an ill-formed escape: of lists of characters.
use Rattle.std.proofs.Common.{◌≡◌, ℕ, ◌==◌, Bool, true, false, List, [], ◌∷◌, ◌++◌, refl, sym, ap, subst, ◌∙◌, not, ◌&&◌, ◌||◌, Option, Some, None, ◌⊎◌, inl, inr, append_assoc, arith}
use Rattle.std.specs.Prelude.{is_some}
use Rattle.std.specs.List.{list_all}
use Rattle.std.proofs.lemmas.Bool.{eqb-true, eq-eqb, and_right, and_left, or_cases, ne_eqb}
use Rattle.std.proofs.lemmas.Bool.Decides.{nat_tests}
use Rattle.std.proofs.lemmas.List.{append-nil}
use Rattle.js_base.specs.declared.kind.Kind.TheVariants.{Str}
use Rattle.js_base.specs.part_text.Characters.{one_of}
use Rattle.js_base.specs.part_text.Escapes.{in_string, Stage, Step, outside, backslash, unicode, nul, due, braced, octal, step, finish, line_feeds, line_feeds_after}
use Rattle.js_base.specs.part_text.InvalidEscapes.{is_right}
use Rattle.js_base.proofs.part_text.EscapeLemmas.{is_backslash, right_from, right-on, right-stops}
use Rattle.part_words.specs.js_grammar.Characters.{begins}
use Rattle.part_words.specs.js_grammar.Longest.{longest, none_longer, none_begins}
use Rattle.part_words.specs.js_grammar.Strings.{nothing_left, closes_string, string_inside, string_kind}
use Rattle.part_words.specs.js_grammar.LexicalFaults.{lacks_line_end, is_open_string, is_closed_string, is_right_inside}
use Rattle.part_words.specs.js_grammar.Lexemes.{a_string, opening}
use Rattle.part_words.proofs.js_grammar.LongestLemmas.{both-left, both-right, both, not-true}
use Rattle.part_words.proofs.js_grammar.Finding.{member}
use Rattle.part_words.proofs.js_grammar.CoreNumbers.{nothing-nil}
use Rattle.part_words.proofs.js_grammar.CoreLemmas.{none_longer-from, opens, opens-same}
use Rattle.part_words.proofs.js_grammar.Quotations.{plain-feeds, something_left, inside_of}
use Rattle.part_scan.specs.Strings.{Within, lacks_backslash, is_escaped_word, is_line_feed_word, ends_line}
use Rattle.part_words.proofs.Plain.{opened_by, Opens}

quote-other : (q n : ℕ) → one_of (34 ∷ 39 ∷ []) q ≡ true → list_all (λ c. not (n == c)) (34 ∷ 39 ∷ []) ≡ true → (n == q) ≡ false
quote-other q n h k = not-true (n == q) (member (λ c. not (n == c)) (34 ∷ 39 ∷ []) q h k)

quote-is-no : (q n : ℕ) → one_of (34 ∷ 39 ∷ []) q ≡ true → list_all (λ c. not (c == n)) (34 ∷ 39 ∷ []) ≡ true → (q == n) ≡ false
quote-is-no q n h k = not-true (q == n) (member (λ c. not (c == n)) (34 ∷ 39 ∷ []) q h k)

-- of two fronts of one list, the second ends within the first, or goes on behind it
pub front_of : (w x v more : List ℕ) → w ++ x ≡ v ++ more → ((m : List ℕ) × (w ≡ v ++ m)) ⊎ ((u : List ℕ) × (v ≡ w ++ u) × (x ≡ u ++ more))
front_of w x [] more e = inl (w, refl)
front_of [] x (d ∷ v) more e = inr (d ∷ v, refl, e)
front_of (c ∷ w) x (d ∷ v) more e =
    let h : c ≡ d = cc in
    let t : w ++ x ≡ v ++ more = cc in
    elim (front_of w x v more t) [
      | inl f ↦ inl (f.0, (let g = f.1 in cc))
      | inr f ↦ inr (f.0, (let g = f.1 in cc), f.2)
    ]

-- characters of the inside, and others behind them
pub and_on : (q : ℕ) (w x rest : List ℕ) → Within q w (x ++ rest) → Within q x rest → Within q (w ++ x) rest
and_on q w x rest a b = record {
  closes = λ v more e. ap (λ (y : List ℕ). closes_string q false (line_feeds y)) (append_assoc w x v) ∙ a.closes (x ++ v) more (on v more e) ∙ b.closes v more e;
  lacks = λ v more e. ap (λ (y : List ℕ). lacks_line_end false (line_feeds y)) (append_assoc w x v) ∙ a.lacks (x ++ v) more (on v more e) ∙ b.lacks v more e;
  unclosed = λ v more e. elim (front_of w x v more e) [
    | inl f ↦ a.unclosed v f.0 f.1
    | inr f ↦ ap (λ (y : List ℕ). closes_string q false (line_feeds y)) f.1 ∙ a.closes f.0 (more ++ rest) (ap (λ (y : List ℕ). y ++ rest) f.2 ∙ append_assoc f.0 more rest) ∙ b.unclosed f.0 more f.2
  ];
}
  where
    on : (v more : List ℕ) → rest ≡ v ++ more → x ++ rest ≡ (x ++ v) ++ more
    on v more e = ap (λ (y : List ℕ). x ++ y) e ∙ sym (append_assoc x v more)

-- nothing is passed yet
pub none_within : (q : ℕ) (rest : List ℕ) → Within q [] rest
none_within q rest = record { closes = λ v more e. refl; lacks = λ v more e. refl; unclosed = λ v more e. nothing v more e }
  where
    nothing : (v more : List ℕ) → [] ≡ v ++ more → closes_string q false (line_feeds v) ≡ false
    nothing [] more e = refl
    nothing (c ∷ v) more e = absurd (let k = e in cc)

plain-closes : (q c : ℕ) (cs : List ℕ) → (c == q) ≡ false → (c == 10) ≡ false → (c == 92) ≡ false → closes_string q false (c ∷ cs) ≡ closes_string q false cs
plain-closes q c cs e f g = rw (e, f, g, closes_string) refl

plain-lacks : (c : ℕ) (cs : List ℕ) → (c == 10) ≡ false → (c == 92) ≡ false → lacks_line_end false (c ∷ cs) ≡ lacks_line_end false cs
plain-lacks c cs f g = rw (f, g, lacks_line_end) refl

pub one_within : (q c : ℕ) (rest : List ℕ) → (c ≡ q → ⊥) → (c ≡ 10 → ⊥) → (c ≡ 13 → ⊥) → (c ≡ 92 → ⊥) → Within q (c ∷ []) rest
one_within q c rest e f g h =
    let quote = ne_eqb c q e in
    let feed = ne_eqb c 10 f in
    let carriage = ne_eqb c 13 g in
    let slash = ne_eqb c 92 h in
    let closes : (v : List ℕ) → closes_string q false (line_feeds (c ∷ v)) ≡ closes_string q false (line_feeds v) = λ v. ap (λ (y : List ℕ). closes_string q false y) (plain-feeds c v carriage) ∙ plain-closes q c (line_feeds v) quote feed slash in
    record {
      closes = λ v more i. closes v;
      lacks = λ v more i. ap (λ (y : List ℕ). lacks_line_end false y) (plain-feeds c v carriage) ∙ plain-lacks c (line_feeds v) feed slash;
      unclosed = λ v more i. fronts v more i (closes []);
    }
  where
    fronts : (v more : List ℕ) → c ∷ [] ≡ v ++ more → closes_string q false (line_feeds (c ∷ [])) ≡ false → closes_string q false (line_feeds v) ≡ false
    fronts [] more i k = refl
    fronts (d ∷ []) more i k = let s : d ≡ c = cc in ap (λ (y : ℕ). closes_string q false (line_feeds (y ∷ []))) s ∙ k
    fronts (d ∷ e ∷ v) more i k = absurd (let m = i in cc)

-- of the fronts of a list
front_cons : (P : List ℕ → Type 0) (a : ℕ) (w v more : List ℕ) → a ∷ w ≡ v ++ more → P [] → ((u left : List ℕ) → w ≡ u ++ left → P (a ∷ u)) → P v
front_cons P a w [] more e p q = p
front_cons P a w (d ∷ v) more e p q =
    let s : a ≡ d = cc in
    let t : w ≡ v ++ more = cc in
    subst (λ (x : ℕ). P (x ∷ v)) s (q v more t)

front_nil : (P : List ℕ → Type 0) (v more : List ℕ) → [] ≡ v ++ more → P [] → P v
front_nil P [] more e p = p
front_nil P (d ∷ v) more e p = absurd (let k = e in cc)

-- a backslash, and what it escapes
slash-closes : (q : ℕ) (cs : List ℕ) → (92 == q) ≡ false → closes_string q false (92 ∷ cs) ≡ closes_string q true cs
slash-closes q cs e = ap (λ (b : Bool). elim b [ true ↦ nothing_left cs | false ↦ closes_string q true cs ]) e

pair-closes : (q d : ℕ) (cs : List ℕ) → (92 == q) ≡ false → closes_string q false (92 ∷ d ∷ cs) ≡ closes_string q false cs
pair-closes q d cs e = slash-closes q (d ∷ cs) e

feeds-without : (v : List ℕ) → begins (λ d. d == 10) v ≡ false → line_feeds_after true v ≡ line_feeds_after false v
feeds-without [] h = refl
feeds-without (d ∷ v) h = ap (λ (b : Bool). elim (d == 13) [ true ↦ 10 ∷ line_feeds_after true v | false ↦ elim b [ true ↦ line_feeds_after false v | false ↦ d ∷ line_feeds_after false v ] ]) h

begins-front : (v more : List ℕ) → begins (λ d. d == 10) (v ++ more) ≡ false → begins (λ d. d == 10) v ≡ false
begins-front [] more h = refl
begins-front (d ∷ v) more h = h

-- a backslash and a character that count as a backslash and a character
pair_within : (q c d : ℕ) (w rest : List ℕ) → (92 == q) ≡ false → ((v more : List ℕ) → rest ≡ v ++ more → line_feeds (92 ∷ (c ∷ (w ++ v))) ≡ 92 ∷ (d ∷ line_feeds v))
    → ((u left : List ℕ) → c ∷ w ≡ u ++ left → closes_string q false (line_feeds (92 ∷ u)) ≡ false) → Within q (92 ∷ (c ∷ w)) rest
pair_within q c d w rest e f g = record {
  closes = λ v more i. ap (λ (y : List ℕ). closes_string q false y) (f v more i) ∙ pair-closes q d (line_feeds v) e;
  lacks = λ v more i. ap (λ (y : List ℕ). lacks_line_end false y) (f v more i);
  unclosed = λ v more i. front_cons (λ (y : List ℕ). closes_string q false (line_feeds y) ≡ false) 92 (c ∷ w) v more i refl g;
}

slash-alone : (q : ℕ) → (92 == q) ≡ false → closes_string q false (line_feeds (92 ∷ [])) ≡ false
slash-alone q e = slash-closes q [] e

-- an escaped character that is no CR, and a CR with no LF behind it
plain_pair : (q c : ℕ) (rest : List ℕ) → (92 == q) ≡ false → (c == 13) ≡ false → Within q (92 ∷ (c ∷ [])) rest
plain_pair q c rest e h = pair_within q c c [] rest e (λ v more i. ap (λ (y : List ℕ). 92 ∷ y) (plain-feeds c v h)) (λ u left i.
    front_cons (λ (y : List ℕ). closes_string q false (line_feeds (92 ∷ y)) ≡ false) c [] u left i (slash-alone q e) (λ v more j.
    front_nil (λ (y : List ℕ). closes_string q false (line_feeds (92 ∷ (c ∷ y))) ≡ false) v more j
    (ap (λ (y : List ℕ). closes_string q false (92 ∷ y)) (plain-feeds c [] h) ∙ pair-closes q c [] e)))

return_pair : (q : ℕ) (rest : List ℕ) → (92 == q) ≡ false → begins (λ d. d == 10) rest ≡ false → Within q (92 ∷ (13 ∷ [])) rest
return_pair q rest e h = pair_within q 13 10 [] rest e (λ v more i. ap (λ (y : List ℕ). 92 ∷ (10 ∷ y)) (feeds-without v (begins-front v more (sym (ap (begins (λ d. d == 10)) i) ∙ h)))) (λ u left i.
    front_cons (λ (y : List ℕ). closes_string q false (line_feeds (92 ∷ y)) ≡ false) 13 [] u left i (slash-alone q e) (λ v more j.
    front_nil (λ (y : List ℕ). closes_string q false (line_feeds (92 ∷ (13 ∷ y))) ≡ false) v more j (pair-closes q 10 [] e)))

-- CR LF
return_feed : (q : ℕ) (rest : List ℕ) → (92 == q) ≡ false → Within q (92 ∷ (13 ∷ (10 ∷ []))) rest
return_feed q rest e = pair_within q 13 10 (10 ∷ []) rest e (λ v more i. refl) (λ u left i.
    front_cons (λ (y : List ℕ). closes_string q false (line_feeds (92 ∷ y)) ≡ false) 13 (10 ∷ []) u left i (slash-alone q e) (λ v more j.
    front_cons (λ (y : List ℕ). closes_string q false (line_feeds (92 ∷ (13 ∷ y))) ≡ false) 10 [] v more j (pair-closes q 10 [] e) (λ x m k.
    front_nil (λ (y : List ℕ). closes_string q false (line_feeds (92 ∷ (13 ∷ (10 ∷ y)))) ≡ false) x m k (pair-closes q 10 [] e))))

-- a backslash at the end of the text
slash_within : (q : ℕ) → (92 == q) ≡ false → Within q (92 ∷ []) []
slash_within q e = record {
  closes = λ v more i. front_nil (λ (y : List ℕ). closes_string q false (line_feeds (92 ∷ y)) ≡ closes_string q false (line_feeds y)) v more i (slash-alone q e);
  lacks = λ v more i. front_nil (λ (y : List ℕ). lacks_line_end false (line_feeds (92 ∷ y)) ≡ lacks_line_end false (line_feeds y)) v more i refl;
  unclosed = λ v more i. front_cons (λ (y : List ℕ). closes_string q false (line_feeds y) ≡ false) 92 [] v more i refl (λ u left j.
      front_nil (λ (y : List ℕ). closes_string q false (line_feeds (92 ∷ y)) ≡ false) u left j (slash-alone q e));
}

pub escaped_within : (q : ℕ) (w rest : List ℕ) → one_of (34 ∷ 39 ∷ []) q ≡ true → is_escaped_word w rest ≡ true → Within q (92 ∷ w) rest
escaped_within q [] rest o h = subst (λ (y : List ℕ). Within q (92 ∷ []) y) (sym (nothing-nil rest h)) (slash_within q (quote-other q 92 o refl))
escaped_within q (c ∷ []) rest o h = by (c == 13) refl
  where
    by : (b : Bool) → (c == 13) ≡ b → Within q (92 ∷ (c ∷ [])) rest
    by false e = plain_pair q c rest (quote-other q 92 o refl) e
    by true e = subst (λ (y : ℕ). Within q (92 ∷ (y ∷ [])) rest) (sym (eqb-true c 13 e)) (return_pair q rest (quote-other q 92 o refl) (not-true (begins (λ d. d == 10) rest) (sym (ap (λ (b : Bool). not b || not (begins (λ d. d == 10) rest)) e) ∙ h)))
escaped_within q (c ∷ d ∷ []) rest o h =
    let e : c ≡ 13 = eqb-true c 13 (both-left (c == 13) (d == 10) h) in
    let f : d ≡ 10 = eqb-true d 10 (both-right (c == 13) (d == 10) h) in
    subst (λ (y : ℕ). Within q (92 ∷ (y ∷ (d ∷ []))) rest) (sym e) (subst (λ (y : ℕ). Within q (92 ∷ (13 ∷ (y ∷ []))) rest) (sym f) (return_feed q rest (quote-other q 92 o refl)))
escaped_within q (c ∷ d ∷ e ∷ w) rest o h = absurd (let k = h in cc)

-- an LF behind a CR is escaped with it
pub line_feed_escaped : (w rest : List ℕ) → is_line_feed_word w rest ≡ true → is_escaped_word (13 ∷ w) rest ≡ true
line_feed_escaped [] rest h = h
line_feed_escaped (c ∷ []) rest h = both-left (c == 10) true h
line_feed_escaped (c ∷ d ∷ w) rest h = absurd (let k = both-right (c == 10) false h in cc)

-- where the quote stands
quote-closes : (q : ℕ) (cs : List ℕ) → closes_string q false (q ∷ cs) ≡ nothing_left cs
quote-closes q cs = ap (λ (b : Bool). elim b [ true ↦ nothing_left cs | false ↦ not (q == 10) && closes_string q (q == 92) cs ]) (eq-eqb q q refl)

pub closed_now : (q : ℕ) (w after : List ℕ) → one_of (34 ∷ 39 ∷ []) q ≡ true → Within q w (q ∷ after) → closes_string q false (line_feeds (w ++ q ∷ [])) ≡ true
closed_now q w after o i = i.closes (q ∷ []) after refl ∙ ap (λ (y : List ℕ). closes_string q false y) (plain-feeds q [] (quote-is-no q 13 o refl)) ∙ quote-closes q []

pub closed_before : (q : ℕ) (w after : List ℕ) → one_of (34 ∷ 39 ∷ []) q ≡ true → Within q w (q ∷ after) → (d : ℕ) (u more : List ℕ) → after ≡ d ∷ (u ++ more) → closes_string q false (line_feeds (w ++ q ∷ (d ∷ u))) ≡ false
closed_before q w after o i d u more e = i.closes (q ∷ (d ∷ u)) more (ap (λ (y : List ℕ). q ∷ y) e) ∙ ap (λ (y : List ℕ). closes_string q false y) (plain-feeds q (d ∷ u) (quote-is-no q 13 o refl)) ∙ quote-closes q (line_feeds (d ∷ u)) ∙ something_left d u

pub a_string_kind : (q : ℕ) (w after : List ℕ) → one_of (34 ∷ 39 ∷ []) q ≡ true → Within q w (q ∷ after) → is_right w ≡ true → string_kind (q ∷ (w ++ q ∷ [])) ≡ Some Str
a_string_kind q w after o i r =
    ap (λ (b : Bool). elim b [ true ↦ Some Str | false ↦ None ])
    (both (one_of (34 ∷ 39 ∷ []) q) (closes_string q false (line_feeds (w ++ q ∷ [])) && is_right (string_inside (q ∷ (w ++ q ∷ [])))) o
    (both (closes_string q false (line_feeds (w ++ q ∷ []))) (is_right (string_inside (q ∷ (w ++ q ∷ [])))) (closed_now q w after o i) (ap is_right (inside_of q w) ∙ r)))

no_string : (q : ℕ) (u : List ℕ) → closes_string q false (line_feeds u) ≡ false → string_kind (q ∷ u) ≡ None
no_string q u h =
    ap (λ (b : Bool). elim b [ true ↦ Some Str | false ↦ None ])
    (and_right (one_of (34 ∷ 39 ∷ []) q) (closes_string q false (line_feeds u) && is_right (string_inside (q ∷ u))) (and_left (closes_string q false (line_feeds u)) (is_right (string_inside (q ∷ u))) h))

wrong_string : (q : ℕ) (w : List ℕ) → is_right w ≡ false → string_kind (q ∷ (w ++ q ∷ [])) ≡ None
wrong_string q w h =
    ap (λ (b : Bool). elim b [ true ↦ Some Str | false ↦ None ])
    (and_right (one_of (34 ∷ 39 ∷ []) q) (closes_string q false (line_feeds (w ++ q ∷ [])) && is_right (string_inside (q ∷ (w ++ q ∷ []))))
    (and_right (closes_string q false (line_feeds (w ++ q ∷ []))) (is_right (string_inside (q ∷ (w ++ q ∷ [])))) (ap is_right (inside_of q w) ∙ h)))

pub quote_opens : (q : ℕ) → one_of (34 ∷ 39 ∷ []) q ≡ true → Opens a_string q
quote_opens q h true = opens-same _ _ (member (λ c. opens (opening c true) a_string) (34 ∷ 39 ∷ []) q h refl)
quote_opens q h false = opens-same _ _ (member (λ c. opens (opening c false) a_string) (34 ∷ 39 ∷ []) q h refl)

pub longest_string : (q : ℕ) (w after : List ℕ) → one_of (34 ∷ 39 ∷ []) q ≡ true → Within q w (q ∷ after) → is_right w ≡ true → longest (opened_by a_string) (q ∷ (w ++ q ∷ [])) after ≡ true
longest_string q w after o i r =
    both (opened_by a_string (q ∷ (w ++ q ∷ [])) after) (none_longer (opened_by a_string) (q ∷ (w ++ q ∷ [])) after) (ap is_some (a_string_kind q w after o i r))
    (none_longer-from (opened_by a_string) (q ∷ (w ++ q ∷ [])) after (λ d x more e. ap is_some (ap (λ (y : List ℕ). string_kind (q ∷ y)) (append_assoc w (q ∷ []) (d ∷ x)) ∙ no_string q (w ++ q ∷ (d ∷ x)) (closed_before q w after o i d x more e))))

-- no string stands where an escape is ill-formed
pub wrong_none : (q : ℕ) (w after : List ℕ) → one_of (34 ∷ 39 ∷ []) q ≡ true → Within q w (q ∷ after) → is_right w ≡ false → (u more : List ℕ) → w ++ q ∷ after ≡ u ++ more → string_kind (q ∷ u) ≡ None
wrong_none q w after o i r u more e = elim (front_of w (q ∷ after) u more e) [
  | inl f ↦ no_string q u (i.unclosed u f.0 f.1)
  | inr f ↦ ap (λ (y : List ℕ). string_kind (q ∷ y)) f.1 ∙ by f.0 f.2
]
  where
    by : (t : List ℕ) → q ∷ after ≡ t ++ more → string_kind (q ∷ (w ++ t)) ≡ None
    by [] g = ap (λ (y : List ℕ). string_kind (q ∷ y)) (append-nil w) ∙ no_string q w (i.unclosed w [] (sym (append-nil w)))
    by (x ∷ []) g = let s : x ≡ q = cc in ap (λ (y : ℕ). string_kind (q ∷ (w ++ y ∷ []))) s ∙ wrong_string q w r
    by (x ∷ d ∷ t) g =
        let s : x ≡ q = cc in
        let l : after ≡ d ∷ (t ++ more) = cc in
        ap (λ (y : ℕ). string_kind (q ∷ (w ++ y ∷ (d ∷ t)))) s ∙ no_string q (w ++ q ∷ (d ∷ t)) (closed_before q w after o i d t more l)

-- a line end
record FeedsTen (c : ℕ) (v : List ℕ) : Type 0 where
  pub behind : List ℕ
  pub is : line_feeds (c ∷ v) ≡ 10 ∷ behind

line_end-feeds : (c : ℕ) (v : List ℕ) → one_of (10 ∷ 13 ∷ []) c ≡ true → FeedsTen c v
line_end-feeds c v h = by (or_cases (10 == c) ((13 == c) || false) h)
  where
    ten : 10 ≡ c → FeedsTen c v
    ten e = subst (λ (y : ℕ). FeedsTen y v) e (record { behind = line_feeds_after false v; is = refl })

    thirteen : 13 ≡ c → FeedsTen c v
    thirteen e = subst (λ (y : ℕ). FeedsTen y v) e (record { behind = line_feeds_after true v; is = refl })

    by : ((10 == c) ≡ true) ⊎ (((13 == c) || false) ≡ true) → FeedsTen c v
    by (inl e) = ten (eqb-true 10 c e)
    by (inr e) = elim (or_cases (13 == c) false e) [ inl f ↦ thirteen (eqb-true 13 c f) | inr f ↦ absurd (let k = f in cc) ]

line_end-closes : (q c : ℕ) (v : List ℕ) → one_of (34 ∷ 39 ∷ []) q ≡ true → one_of (10 ∷ 13 ∷ []) c ≡ true → closes_string q false (line_feeds (c ∷ v)) ≡ false
line_end-closes q c v o h =
    let f = line_end-feeds c v h in
    ap (λ (y : List ℕ). closes_string q false y) f.is ∙ ap (λ (b : Bool). elim b [ true ↦ nothing_left f.behind | false ↦ false ]) (quote-other q 10 o refl)

line_end-lacks : (c : ℕ) (v : List ℕ) → one_of (10 ∷ 13 ∷ []) c ≡ true → lacks_line_end false (line_feeds (c ∷ v)) ≡ false
line_end-lacks c v h = ap (λ (y : List ℕ). lacks_line_end false y) (line_end-feeds c v h).is

-- no string stands where its line or the text ends
pub never_closes : (q : ℕ) (w rest : List ℕ) → one_of (34 ∷ 39 ∷ []) q ≡ true → Within q w rest → ends_line rest ≡ true → (u more : List ℕ) → w ++ rest ≡ u ++ more → closes_string q false (line_feeds u) ≡ false
never_closes q w rest o i h u more e = elim (front_of w rest u more e) [
  | inl f ↦ i.unclosed u f.0 f.1
  | inr f ↦ ap (λ (y : List ℕ). closes_string q false (line_feeds y)) f.1 ∙ i.closes f.0 more f.2 ∙ by f.0 (sym (ap ends_line f.2) ∙ h)
]
  where
    by : (t : List ℕ) → ends_line (t ++ more) ≡ true → closes_string q false (line_feeds t) ≡ false
    by [] g = refl
    by (c ∷ t) g = line_end-closes q c t o g

pub open_none : (q : ℕ) (w rest : List ℕ) → one_of (34 ∷ 39 ∷ []) q ≡ true → Within q w rest → ends_line rest ≡ true → (u more : List ℕ) → w ++ rest ≡ u ++ more → string_kind (q ∷ u) ≡ None
open_none q w rest o i h u more e = no_string q u (never_closes q w rest o i h u more e)

lacks-now : (q : ℕ) (w rest : List ℕ) → Within q w rest → lacks_line_end false (line_feeds w) ≡ true
lacks-now q w rest i = sym (ap (λ (y : List ℕ). lacks_line_end false (line_feeds y)) (append-nil w)) ∙ i.lacks [] rest refl

pub longest_open : (q : ℕ) (w rest : List ℕ) → one_of (34 ∷ 39 ∷ []) q ≡ true → Within q w rest → ends_line rest ≡ true → longest is_open_string (q ∷ w) rest ≡ true
longest_open q w rest o i h =
    both (is_open_string (q ∷ w) rest) (none_longer is_open_string (q ∷ w) rest) (both (one_of (34 ∷ 39 ∷ []) q) (lacks_line_end false (line_feeds w)) o (lacks-now q w rest i))
    (none_longer-from is_open_string (q ∷ w) rest (λ c x more e. and_right (one_of (34 ∷ 39 ∷ []) q) (lacks_line_end false (line_feeds (w ++ c ∷ x))) (i.lacks (c ∷ x) more e ∙ line_end-lacks c x (sym (ap ends_line e) ∙ h))))

-- none of the fronts of these characters is closed
pub none_closed : (q : ℕ) (cs : List ℕ) → ((u more : List ℕ) → cs ≡ u ++ more → closes_string q false (line_feeds u) ≡ false) → none_begins is_closed_string (q ∷ cs) ≡ true
none_closed q cs f = none_longer-from is_closed_string [] (q ∷ cs) (λ c x more e.
    let s : c ≡ q = cc in
    let t : cs ≡ x ++ more = cc in
    ap (λ (y : ℕ). is_closed_string (y ∷ x) more) s ∙ and_right (one_of (34 ∷ 39 ∷ []) q) (closes_string q false (line_feeds x)) (f x more t))

-- the inside is right where no backslash is in it
right-plainly : (c : ℕ) (cs : List ℕ) → (c == 92) ≡ false → right_from outside (c ∷ cs) ≡ right_from outside cs
right-plainly c cs h = right-on outside c cs (record { stage = outside; gives = c ∷ [] }) (ap (λ (b : Bool). elim b [ true ↦ Some (record { stage = backslash; gives = [] }) | false ↦ Some (record { stage = outside; gives = c ∷ [] }) ]) h)

abbrev feeds_by : Bool → Bool → ℕ → List ℕ → List ℕ
feeds_by b d c v = elim b [ true ↦ 10 ∷ line_feeds_after true v | false ↦ elim d [ true ↦ line_feeds_after false v | false ↦ c ∷ line_feeds_after false v ] ]

feeds-is : (a : Bool) (c : ℕ) (v : List ℕ) (b d : Bool) → (c == 13) ≡ b → (a && (c == 10)) ≡ d → line_feeds_after a (c ∷ v) ≡ feeds_by b d c v
feeds-is a c v b d e f = ap (λ (x : Bool). feeds_by x (a && (c == 10)) c v) e ∙ ap (λ (y : Bool). feeds_by b y c v) f

right-without : (a : Bool) (w : List ℕ) → lacks_backslash w ≡ true → right_from outside (line_feeds_after a w) ≡ true
right-without a [] h = refl
right-without a (c ∷ w) h = by (c == 13) refl (a && (c == 10)) refl (λ b. right-without b w (both-right (not (c == 92)) (lacks_backslash w) h))
  where
    by : (b : Bool) → (c == 13) ≡ b → (d : Bool) → (a && (c == 10)) ≡ d → ((b : Bool) → right_from outside (line_feeds_after b w) ≡ true) → right_from outside (line_feeds_after a (c ∷ w)) ≡ true
    by true e d f r = ap (λ (y : List ℕ). right_from outside y) (feeds-is a c w true d e f) ∙ right-plainly 10 (line_feeds_after true w) refl ∙ r true
    by false e true f r = ap (λ (y : List ℕ). right_from outside y) (feeds-is a c w false true e f) ∙ r false
    by false e false f r = ap (λ (y : List ℕ). right_from outside y) (feeds-is a c w false false e f) ∙ right-plainly c (line_feeds_after false w) (not-true (c == 92) (both-left (not (c == 92)) (lacks_backslash w) h)) ∙ r false

pub plain_right : (w : List ℕ) → lacks_backslash w ≡ true → is_right w ≡ true
plain_right w h = right-without false w h

-- A backslash escapes alike for what closes a string and for its escapes.
abbrev is_backslash_after : Bool → Option Step → Bool
is_backslash_after b None = b
is_backslash_after b (Some t) = is_backslash t.stage

alike : (s : Stage) (c : ℕ) → is_backslash_after (not (is_backslash s) && (c == 92)) (step in_string s c) ≡ (not (is_backslash s) && (c == 92))
alike outside c = grind (arith, nat_tests)
alike backslash c = grind (arith, nat_tests)
alike unicode c = grind (arith, nat_tests)
alike nul c = grind (arith, nat_tests)
alike (due n v) c = grind (arith, nat_tests)
alike (braced any v) c = grind (arith, nat_tests)
alike (octal n v) c = grind (arith, nat_tests)

-- no escape goes on with a quote but behind a backslash
abbrev is_stopped : Option Step → Bool
is_stopped None = true
is_stopped (Some t) = false

stopped : (s : Stage) (q : ℕ) (cs : List ℕ) → is_stopped (step in_string s q) ≡ true → right_from s (q ∷ cs) ≡ false
stopped s q cs h = by (step in_string s q) refl h
  where
    by : (o : Option Step) → step in_string s q ≡ o → is_stopped o ≡ true → right_from s (q ∷ cs) ≡ false
    by None e h = right-stops s q cs e
    by (Some t) e h = cc

quote_stops : (s : Stage) (q : ℕ) (cs : List ℕ) → one_of (34 ∷ 39 ∷ []) q ≡ true → is_backslash s ≡ false → is_some (finish s) ≡ false → right_from s (q ∷ cs) ≡ false
quote_stops outside q cs o h k = absurd (let m = k in cc)
quote_stops backslash q cs o h k = absurd (let m = h in cc)
quote_stops unicode q cs o h k = stopped unicode q cs (member (λ c. is_stopped (step in_string unicode c)) (34 ∷ 39 ∷ []) q o refl)
quote_stops nul q cs o h k = absurd (let m = k in cc)
quote_stops (due n v) q cs o h k = stopped (due n v) q cs (member (λ c. is_stopped (step in_string (due n v) c)) (34 ∷ 39 ∷ []) q o refl)
quote_stops (braced true v) q cs o h k = stopped (braced true v) q cs (member (λ c. is_stopped (step in_string (braced true v) c)) (34 ∷ 39 ∷ []) q o refl)
quote_stops (braced false v) q cs o h k = stopped (braced false v) q cs (member (λ c. is_stopped (step in_string (braced false v) c)) (34 ∷ 39 ∷ []) q o refl)
quote_stops (octal n v) q cs o h k = absurd (let m = k in cc)

feeds-quote : (a : Bool) (q : ℕ) (v : List ℕ) → one_of (34 ∷ 39 ∷ []) q ≡ true → line_feeds_after a (q ∷ v) ≡ q ∷ line_feeds_after false v
feeds-quote a q v o = feeds-is a q v false false (quote-is-no q 13 o refl) (and_right a (q == 10) (quote-is-no q 10 o refl))

quote_left : (q : ℕ) (b : Bool) (x : List ℕ) → one_of (34 ∷ 39 ∷ []) q ≡ true → nothing_left (line_feeds_after b (x ++ q ∷ [])) ≡ false
quote_left q b [] o = ap nothing_left (feeds-quote b q [] o)
quote_left q b (c ∷ x) o = by (c == 13) refl (b && (c == 10)) refl (quote_left q false x o)
  where
    by : (e : Bool) → (c == 13) ≡ e → (d : Bool) → (b && (c == 10)) ≡ d → nothing_left (line_feeds_after false (x ++ q ∷ [])) ≡ false → nothing_left (line_feeds_after b (c ∷ (x ++ q ∷ []))) ≡ false
    by true e d f r = ap nothing_left (feeds-is b c (x ++ q ∷ []) true d e f)
    by false e true f r = ap nothing_left (feeds-is b c (x ++ q ∷ []) false true e f) ∙ r
    by false e false f r = ap nothing_left (feeds-is b c (x ++ q ∷ []) false false e f)

-- the string goes on with a character
goes_on : (q d : ℕ) (e : Bool) (cs : List ℕ) → closes_string q e (d ∷ cs) ≡ true → nothing_left cs ≡ false → closes_string q (not e && (d == 92)) cs ≡ true
goes_on q d e cs h n = by (not e && (d == q)) refl
  where
    by : (b : Bool) → (not e && (d == q)) ≡ b → closes_string q (not e && (d == 92)) cs ≡ true
    by true f = absurd (let g = sym (ap (λ (b : Bool). elim b [ true ↦ nothing_left cs | false ↦ (e || not (d == 10)) && closes_string q (not e && (d == 92)) cs ]) f) ∙ h in cc)
    by false f = both-right (e || not (d == 10)) (closes_string q (not e && (d == 92)) cs) (sym (ap (λ (b : Bool). elim b [ true ↦ nothing_left cs | false ↦ (e || not (d == 10)) && closes_string q (not e && (d == 92)) cs ]) f) ∙ h)

-- what is to be shown of the characters behind
abbrev Cut : ℕ → Stage → Bool → List ℕ → List ℕ → Type 0
Cut q s a x u = closes_string q (is_backslash s) (line_feeds_after a (x ++ q ∷ [])) ≡ true → right_from s (line_feeds_after a x) ≡ false → right_from s (line_feeds_after a (x ++ q ∷ u)) ≡ false

on_step : (q d : ℕ) (s : Stage) (b : Bool) (x u : List ℕ) → one_of (34 ∷ 39 ∷ []) q ≡ true → closes_string q (is_backslash s) (d ∷ line_feeds_after b (x ++ q ∷ [])) ≡ true
    → right_from s (d ∷ line_feeds_after b x) ≡ false → ((t : Stage) → Cut q t b x u) → right_from s (d ∷ line_feeds_after b (x ++ q ∷ u)) ≡ false
on_step q d s b x u o h n r = by (step in_string s d) refl
  where
    by : (z : Option Step) → step in_string s d ≡ z → right_from s (d ∷ line_feeds_after b (x ++ q ∷ u)) ≡ false
    by None e = right-stops s d (line_feeds_after b (x ++ q ∷ u)) e
    by (Some t) e =
        let k : is_backslash t.stage ≡ (not (is_backslash s) && (d == 92)) = sym (ap (is_backslash_after (not (is_backslash s) && (d == 92))) e) ∙ alike s d in
        let g = goes_on q d (is_backslash s) (line_feeds_after b (x ++ q ∷ [])) h (quote_left q b x o) in
        right-on s d (line_feeds_after b (x ++ q ∷ u)) t e ∙ r t.stage (ap (λ (y : Bool). closes_string q y (line_feeds_after b (x ++ q ∷ []))) k ∙ g) (sym (right-on s d (line_feeds_after b x) t e) ∙ n)

cut_cons : (q : ℕ) (s : Stage) (a : Bool) (c : ℕ) (x u : List ℕ) → one_of (34 ∷ 39 ∷ []) q ≡ true → ((t : Stage) (b : Bool) → Cut q t b x u) → Cut q s a (c ∷ x) u
cut_cons q s a c x u o r h n = by (c == 13) refl (a && (c == 10)) refl
  where
    by : (b : Bool) → (c == 13) ≡ b → (d : Bool) → (a && (c == 10)) ≡ d → right_from s (line_feeds_after a (c ∷ (x ++ q ∷ u))) ≡ false
    by true e d f =
        ap (λ (y : List ℕ). right_from s y) (feeds-is a c (x ++ q ∷ u) true d e f)
        ∙ on_step q 10 s true x u o (sym (ap (λ (y : List ℕ). closes_string q (is_backslash s) y) (feeds-is a c (x ++ q ∷ []) true d e f)) ∙ h) (sym (ap (λ (y : List ℕ). right_from s y) (feeds-is a c x true d e f)) ∙ n) (λ t. r t true)
    by false e true f =
        ap (λ (y : List ℕ). right_from s y) (feeds-is a c (x ++ q ∷ u) false true e f)
        ∙ r s false (sym (ap (λ (y : List ℕ). closes_string q (is_backslash s) y) (feeds-is a c (x ++ q ∷ []) false true e f)) ∙ h) (sym (ap (λ (y : List ℕ). right_from s y) (feeds-is a c x false true e f)) ∙ n)
    by false e false f =
        ap (λ (y : List ℕ). right_from s y) (feeds-is a c (x ++ q ∷ u) false false e f)
        ∙ on_step q c s false x u o (sym (ap (λ (y : List ℕ). closes_string q (is_backslash s) y) (feeds-is a c (x ++ q ∷ []) false false e f)) ∙ h) (sym (ap (λ (y : List ℕ). right_from s y) (feeds-is a c x false false e f)) ∙ n) (λ t. r t false)

no_escape : (q : ℕ) (e : Bool) → closes_string q e (q ∷ []) ≡ true → e ≡ false
no_escape q false h = refl
no_escape q true h = sym h

cut_by_quote : (q : ℕ) (s : Stage) (a : Bool) (x u : List ℕ) → one_of (34 ∷ 39 ∷ []) q ≡ true → Cut q s a x u
cut_by_quote q s a [] u o h n = ap (λ (y : List ℕ). right_from s y) (feeds-quote a q u o) ∙ quote_stops s q (line_feeds_after false u) o (no_escape q (is_backslash s) (sym (ap (λ (y : List ℕ). closes_string q (is_backslash s) y) (feeds-quote a q [] o)) ∙ h)) n
cut_by_quote q s a (c ∷ x) u o h n = cut_cons q s a c x u o (λ t b k m. cut_by_quote q t b x u o k m) h n

-- an ill-formed escape stays one, whatever stands behind the closing quote
pub stays_wrong : (q : ℕ) (w after u : List ℕ) → one_of (34 ∷ 39 ∷ []) q ≡ true → Within q w (q ∷ after) → is_right w ≡ false → is_right (w ++ q ∷ u) ≡ false
stays_wrong q w after u o i r = cut_by_quote q outside false w u o (closed_now q w after o i) r

-- of a front of a line that has no end
lacks-front : (e a : Bool) (u v : List ℕ) → lacks_line_end e (line_feeds_after a (u ++ v)) ≡ true → lacks_line_end e (line_feeds_after a u) ≡ true
lacks-front e a [] v h = refl
lacks-front e a (c ∷ u) v h = by (c == 13) refl (a && (c == 10)) refl (λ f b k. lacks-front f b u v k)
  where
    goes : (d : ℕ) (b : Bool) → ((f b : Bool) → lacks_line_end f (line_feeds_after b (u ++ v)) ≡ true → lacks_line_end f (line_feeds_after b u) ≡ true)
        → lacks_line_end e (d ∷ line_feeds_after b (u ++ v)) ≡ true → lacks_line_end e (d ∷ line_feeds_after b u) ≡ true
    goes d b r k =
        both (e || not (d == 10)) (lacks_line_end (not e && (d == 92)) (line_feeds_after b u)) (both-left (e || not (d == 10)) (lacks_line_end (not e && (d == 92)) (line_feeds_after b (u ++ v))) k)
        (r (not e && (d == 92)) b (both-right (e || not (d == 10)) (lacks_line_end (not e && (d == 92)) (line_feeds_after b (u ++ v))) k))

    by : (b : Bool) → (c == 13) ≡ b → (d : Bool) → (a && (c == 10)) ≡ d → ((f b : Bool) → lacks_line_end f (line_feeds_after b (u ++ v)) ≡ true → lacks_line_end f (line_feeds_after b u) ≡ true) → lacks_line_end e (line_feeds_after a (c ∷ u)) ≡ true
    by true i d j r = ap (λ (y : List ℕ). lacks_line_end e y) (feeds-is a c u true d i j) ∙ goes 10 true r (sym (ap (λ (y : List ℕ). lacks_line_end e y) (feeds-is a c (u ++ v) true d i j)) ∙ h)
    by false i true j r = ap (λ (y : List ℕ). lacks_line_end e y) (feeds-is a c u false true i j) ∙ r e false (sym (ap (λ (y : List ℕ). lacks_line_end e y) (feeds-is a c (u ++ v) false true i j)) ∙ h)
    by false i false j r = ap (λ (y : List ℕ). lacks_line_end e y) (feeds-is a c u false false i j) ∙ goes c false r (sym (ap (λ (y : List ℕ). lacks_line_end e y) (feeds-is a c (u ++ v) false false i j)) ∙ h)

-- of the characters before an ill-formed escape
pub open_before : (q : ℕ) (before x rest : List ℕ) → one_of (34 ∷ 39 ∷ []) q ≡ true → Within q (before ++ x) rest → is_open_string (q ∷ before) x ≡ true
open_before q before x rest o i = both (one_of (34 ∷ 39 ∷ []) q) (lacks_line_end false (line_feeds before)) o (lacks-front false false before x (lacks-now q (before ++ x) rest i))

pub unclosed_before : (q : ℕ) (before x rest : List ℕ) → Within q (before ++ x) rest → none_begins is_closed_string (q ∷ before) ≡ true
unclosed_before q before x rest i = none_closed q before (λ u more e. i.unclosed u (more ++ x) (ap (λ (y : List ℕ). y ++ x) e ∙ append_assoc u more x))

pub never_right : (q : ℕ) (before behind after : List ℕ) → one_of (34 ∷ 39 ∷ []) q ≡ true → Within q (before ++ 92 ∷ behind) (q ∷ after) → is_right (before ++ 92 ∷ behind) ≡ false
    → ((v more : List ℕ) → behind ≡ v ++ more → is_right (before ++ 92 ∷ v) ≡ false) → none_longer is_right_inside before (92 ∷ (behind ++ q ∷ after)) ≡ true
never_right q before behind after o i r f = none_longer-from is_right_inside before (92 ∷ (behind ++ q ∷ after)) (λ c x more e.
    let s : c ≡ 92 = cc in
    let t : behind ++ q ∷ after ≡ x ++ more = cc in
    ap (λ (y : ℕ). is_right (before ++ y ∷ x)) s ∙ by x more t)
  where
    by : (x more : List ℕ) → behind ++ q ∷ after ≡ x ++ more → is_right (before ++ 92 ∷ x) ≡ false
    by x more t = elim (front_of behind (q ∷ after) x more t) [
      | inl g ↦ f x g.0 g.1
      | inr g ↦ ap (λ (y : List ℕ). is_right (before ++ 92 ∷ y)) g.1 ∙ past g.0 g.2
    ]
      where
        past : (u : List ℕ) → q ∷ after ≡ u ++ more → is_right (before ++ 92 ∷ (behind ++ u)) ≡ false
        past [] k = ap (λ (y : List ℕ). is_right (before ++ 92 ∷ y)) (append-nil behind) ∙ r
        past (d ∷ u) k =
            let s : d ≡ q = cc in
            ap (λ (y : ℕ). is_right (before ++ 92 ∷ (behind ++ y ∷ u))) s ∙ sym (ap is_right (append_assoc before (92 ∷ behind) (q ∷ u))) ∙ stays_wrong q (before ++ 92 ∷ behind) after u o i r
