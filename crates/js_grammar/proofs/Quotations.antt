-- A string literal as its quotes and what stands between them.
use Rattle.std.proofs.Common.{◌≡◌, ◌<◌, ℕ, suc, ◌+◌, ◌-◌, ◌==◌, Bool, true, false, List, [], ◌∷◌, ◌++◌, refl, sym, ap, ◌∙◌, not, ◌&&◌, ◌||◌, inl, inr, Some, None, take, drop, length, length-append, arith}
use Rattle.std.specs.Prelude.{is_some}
use Rattle.std.proofs.Math.Seq.{take-append_seam}
use Rattle.std.proofs.lemmas.Bool.{eqb-true, and_right, or_cases}
use Rattle.js_base.specs.declared.kind.Kind.TheVariants.{Str}
use Rattle.js_base.specs.part_text.Characters.{one_of}
use Rattle.js_base.specs.part_text.Escapes.{line_feeds, line_feeds_after}
use Rattle.js_base.specs.part_text.Decoding.{string_points}
use Rattle.js_grammar.specs.Strings.{nothing_left, closes_string, string_inside, string_kind}
use Rattle.js_grammar.specs.Lexemes.{a_string, opening}
use Rattle.js_grammar.proofs.LongestLemmas.{both-left, both-right, not-true}
use Rattle.js_grammar.proofs.Finding.{member}
use Rattle.js_grammar.proofs.CoreLemmas.{opens, opens-same}

-- what is left of line ends
pub plain-feeds : (c : ℕ) (v : List ℕ) → (c == 13) ≡ false → line_feeds (c ∷ v) ≡ c ∷ line_feeds v
plain-feeds c v h = ap (λ (b : Bool). elim b [ true ↦ 10 ∷ line_feeds_after true v | false ↦ c ∷ line_feeds_after false v ]) h

pub something_left : (d : ℕ) (v : List ℕ) → nothing_left (line_feeds (d ∷ v)) ≡ false
something_left d v = by (d == 13)
  where
    by : (b : Bool) → nothing_left (elim b [ true ↦ 10 ∷ line_feeds_after true v | false ↦ d ∷ line_feeds_after false v ]) ≡ false
    by true = refl
    by false = refl

pub quote_opens : (q : ℕ) (digit : Bool) → one_of (34 ∷ 39 ∷ []) q ≡ true → opening q digit ≡ a_string
quote_opens q true h = opens-same _ _ (member (λ c. opens (opening c true) a_string) (34 ∷ 39 ∷ []) q h refl)
quote_opens q false h = opens-same _ _ (member (λ c. opens (opening c false) a_string) (34 ∷ 39 ∷ []) q h refl)

-- the quote is the last of the characters
record EndsWith (q : ℕ) (cs : List ℕ) : Type 0 where
  pub before : List ℕ
  pub splits : cs ≡ before ++ q ∷ []

one_more : (q c : ℕ) (cs : List ℕ) → EndsWith q cs → EndsWith q (c ∷ cs)
one_more q c cs e = record { before = c ∷ e.before; splits = ap (λ (v : List ℕ). c ∷ v) e.splits }

nothing_read : (cs : List ℕ) → nothing_left (line_feeds cs) ≡ true → cs ≡ []
nothing_read [] h = refl
nothing_read (c ∷ cs) h = by (c == 13) h
  where
    by : (b : Bool) → nothing_left (elim b [ true ↦ 10 ∷ line_feeds_after true cs | false ↦ c ∷ line_feeds_after false cs ]) ≡ true → c ∷ cs ≡ []
    by true h = cc
    by false h = cc

-- the string goes on with a character that doesn't close it
not_yet : (q c : ℕ) (e : Bool) (cs : List ℕ) → (not e && (c == q)) ≡ false → closes_string q e (c ∷ cs) ≡ true → closes_string q (not e && (c == 92)) cs ≡ true
not_yet q c e cs f h = both-right (e || not (c == 10)) (closes_string q (not e && (c == 92)) cs) (sym (ap (λ (b : Bool). elim b [ true ↦ nothing_left cs | false ↦ (e || not (c == 10)) && closes_string q (not e && (c == 92)) cs ]) f) ∙ h)

closed_here : (q c : ℕ) (e : Bool) (cs : List ℕ) → (not e && (c == q)) ≡ true → closes_string q e (c ∷ cs) ≡ true → nothing_left cs ≡ true
closed_here q c e cs f h = sym (ap (λ (b : Bool). elim b [ true ↦ nothing_left cs | false ↦ (e || not (c == 10)) && closes_string q (not e && (c == 92)) cs ]) f) ∙ h

-- a character that counts as itself
ends_plainly : (q c : ℕ) (e : Bool) (cs : List ℕ) → ((f : Bool) → closes_string q f (line_feeds cs) ≡ true → EndsWith q cs) → closes_string q e (c ∷ line_feeds cs) ≡ true → EndsWith q (c ∷ cs)
ends_plainly q c e cs r h = by (not e && (c == q)) refl
  where
    by : (b : Bool) → (not e && (c == q)) ≡ b → EndsWith q (c ∷ cs)
    by true f =
        let same : c ≡ q = eqb-true c q (both-right (not e) (c == q) f) in
        let none : cs ≡ [] = nothing_read cs (closed_here q c e (line_feeds cs) f h) in
        record { before = []; splits = ap (λ (x : ℕ). x ∷ cs) same ∙ ap (λ (v : List ℕ). q ∷ v) none }
    by false f = one_more q c cs (r (not e && (c == 92)) (not_yet q c e (line_feeds cs) f h))

-- what closes a string ends with its quote
ends_with_quote : (q : ℕ) (e a : Bool) (cs : List ℕ) → one_of (34 ∷ 39 ∷ []) q ≡ true → closes_string q e (line_feeds_after a cs) ≡ true → EndsWith q cs
ends_with_quote q e a [] o h = absurd (let k = h in cc)
ends_with_quote q e a (c ∷ cs) o h = by (c == 13) (a && (c == 10)) (λ f x k. ends_with_quote q f x cs o k) h
  where
    feed : (not e && (10 == q)) ≡ false
    feed = and_right (not e) (10 == q) (not-true (10 == q) (member (λ c. not (10 == c)) (34 ∷ 39 ∷ []) q o refl))

    by : (b d : Bool) → ((f x : Bool) → closes_string q f (line_feeds_after x cs) ≡ true → EndsWith q cs)
        → closes_string q e (elim b [ true ↦ 10 ∷ line_feeds_after true cs | false ↦ elim d [ true ↦ line_feeds_after false cs | false ↦ c ∷ line_feeds_after false cs ] ]) ≡ true → EndsWith q (c ∷ cs)
    by true d r h = one_more q c cs (r (not e && false) true (not_yet q 10 e (line_feeds_after true cs) feed h))
    by false true r h = one_more q c cs (r e false h)
    by false false r h = ends_plainly q c e cs (λ f k. r f false k) h

-- the quotes of a string literal, and what stands between them
pub record Quotation (w : List ℕ) : Type 0 where
  pub quote : ℕ
  pub inside : List ℕ
  pub is_quote : one_of (34 ∷ 39 ∷ []) quote ≡ true
  pub splits : w ≡ quote ∷ (inside ++ quote ∷ [])
  pub same : string_inside w ≡ inside
  pub right : is_some (string_points (string_inside w)) ≡ true

pub inside_of : (q : ℕ) (v : List ℕ) → string_inside (q ∷ (v ++ q ∷ [])) ≡ v
inside_of q v =
    let m : length (v ++ q ∷ []) ≡ length v + 1 = length-append v (q ∷ []) in
    let n : length (q ∷ (v ++ q ∷ [])) - 1 ≡ suc (length v) = omega arith in
    ap (λ (m : ℕ). drop 1 (take m (q ∷ (v ++ q ∷ [])))) n ∙ take-append_seam v (q ∷ [])

is_string : (b : Bool) → elim b [ true ↦ Some Str | false ↦ None ] ≡ Some Str → b ≡ true
is_string true h = refl
is_string false h = absurd (let k = h in cc)

pub quotation : (w : List ℕ) → string_kind w ≡ Some Str → Quotation w
quotation [] h = absurd (let k = h in cc)
quotation (q ∷ cs) h =
    let closes = closes_string q false (line_feeds cs) in
    let right = is_some (string_points (string_inside (q ∷ cs))) in
    let t = is_string (one_of (34 ∷ 39 ∷ []) q && (closes && right)) h in
    let o = both-left (one_of (34 ∷ 39 ∷ []) q) (closes && right) t in
    let r = both-right (one_of (34 ∷ 39 ∷ []) q) (closes && right) t in
    let e = ends_with_quote q false false cs o (both-left closes right r) in
    let s : q ∷ cs ≡ q ∷ (e.before ++ q ∷ []) = ap (λ (v : List ℕ). q ∷ v) e.splits in
    record { quote = q; inside = e.before; is_quote = o; splits = s; same = ap string_inside s ∙ inside_of q e.before; right = both-right closes right r }

-- a quote is ASCII
pub quote_low : (q : ℕ) → one_of (34 ∷ 39 ∷ []) q ≡ true → q < 128
quote_low q h = elim (or_cases (34 == q) ((39 == q) || false) h) [
  | inl e ↦ (let f = eqb-true 34 q e in omega arith)
  | inr e ↦ elim (or_cases (39 == q) false e) [ inl f ↦ (let g = eqb-true 39 q f in omega arith) | inr f ↦ absurd (let k = f in cc) ]
]
