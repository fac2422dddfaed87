-- Readings of what is left of a number, from those of what is left behind a front of it.
use Rattle.std.proofs.Common.{◌≡◌, ◌<◌, ℕ, ◌+◌, ◌==◌, Bool, true, false, List, [], ◌∷◌, ◌++◌, refl, sym, ap, subst, ◌∙◌, not, ◌&&◌, ◌||◌, append_assoc, arith, Option, Some, None}
use Rattle.std.specs.Prelude.{is_some, IsCharBoundary, Result, Ok, Err, MatchResult, IfErr}
use Rattle.std.proofs.lemmas.Str.{len_utf8_bounds}
use Rattle.std.specs.List.{list_all}
use Rattle.std.proofs.lemmas.Bool.{eqb-true}
use Rattle.std.proofs.Math.Bool.{or_assoc}
use Rattle.js_base.specs.declared.kind.Kind.{Kind}
use Rattle.js_base.specs.declared.kind.Kind.TheVariants.{Decimal, Float, PositiveExponential, NegativeExponential, DecimalBigInt}
use Rattle.js_base.specs.part_text.Characters.{one_of, is_decimal}
use Rattle.part_words.specs.js_grammar.Characters.{begins}
use Rattle.part_words.specs.js_grammar.Numbers.{Rest, ends, suffix, digits, signed, exponent, fraction, decimal_rest, integer_rest, has_separator, stops_number}
use Rattle.part_words.specs.js_grammar.LexicalFaults.{behind}
use Rattle.part_words.proofs.js_grammar.LongestLemmas.{both-left, both-right, not-true}
use Rattle.part_words.proofs.js_grammar.Finding.{member, neither-left, neither-right}
use Rattle.part_scan.specs.declared.number.Number.{Number}
use Rattle.part_scan.specs.declared.number.Digits.{Digits}
use Rattle.part_words.specs.Places.{Word}
use Rattle.part_scan.specs.Numbers.{goes_on, Unstopped, IsRest, IsBroken, Reads, AreDigits}
use Rattle.part_words.specs.Places.{in_radix, Finds}
use Rattle.part_words.proofs.Places.{none_passed, then}
use Rattle.part_scan.proofs.Numbers.{any-append, or-false, front-begins, decimal-on, same-head}

-- a front that a number doesn't stop before
pub front_goes_on : (r : Rest) (c : ℕ) (cs : List ℕ) → goes_on c ≡ true → Unstopped (λ v. r (c ∷ v)) cs → Unstopped r (c ∷ cs)
front_goes_on r c cs g u [] more e s n t =
    let a : stops_number (c ∷ cs) ≡ true = subst (λ (x : List ℕ). stops_number x ≡ true) (sym e) t in
    let b : stops_number (c ∷ cs) ≡ false = ap not g in
    cc
front_goes_on r c cs g u (d ∷ w) more e s n t =
    let same : d ≡ c = cc in
    let left : cs ≡ w ++ more = cc in
    u w more left (subst (λ (x : ℕ). is_some (r (x ∷ w)) ≡ true) same s) (λ a x others f. subst (λ (y : ℕ). r (y ∷ w ++ a ∷ x) ≡ None) same (n a x others f)) t

-- a front that is longer than nothing
front_accepted : (r : Rest) (c : ℕ) (cs : List ℕ) → is_some (r (c ∷ [])) ≡ true → Unstopped (λ v. r (c ∷ v)) cs → Unstopped r (c ∷ cs)
front_accepted r c cs g u [] more e s n t = let a : r (c ∷ []) ≡ None = n c [] cs (sym e) in let b : is_some (r (c ∷ [])) ≡ false = ap is_some a in cc
front_accepted r c cs g u (d ∷ w) more e s n t =
    let same : d ≡ c = cc in
    let left : cs ≡ w ++ more = cc in
    u w more left (subst (λ (x : ℕ). is_some (r (x ∷ w)) ≡ true) same s) (λ a x others f. subst (λ (y : ℕ). r (y ∷ w ++ a ∷ x) ≡ None) same (n a x others f)) t

-- a front that is no rest
front_rejected : (r : Rest) (c : ℕ) (cs : List ℕ) → r [] ≡ None → Unstopped (λ v. r (c ∷ v)) cs → Unstopped r (c ∷ cs)
front_rejected r c cs g u [] more e s n t = let b : is_some (r []) ≡ false = ap is_some g in cc
front_rejected r c cs g u (d ∷ w) more e s n t =
    let same : d ≡ c = cc in
    let left : cs ≡ w ++ more = cc in
    u w more left (subst (λ (x : ℕ). is_some (r (x ∷ w)) ≡ true) same s) (λ a x others f. subst (λ (y : ℕ). r (y ∷ w ++ a ∷ x) ≡ None) same (n a x others f)) t

pub fronts_go_on : (r : Rest) (word cs : List ℕ) → list_all goes_on word ≡ true → Unstopped (λ v. r (word ++ v)) cs → Unstopped r (word ++ cs)
fronts_go_on r [] cs a u = u
fronts_go_on r (c ∷ word) cs a u = front_goes_on r c (word ++ cs) (both-left (goes_on c) (list_all goes_on word) a) (fronts_go_on (λ v. r (c ∷ v)) word cs (both-right (goes_on c) (list_all goes_on word) a) u)

pub unstopped_same : (r q : Rest) (cs : List ℕ) → ((v more : List ℕ) → cs ≡ v ++ more → r v ≡ q v) → Unstopped q cs → Unstopped r cs
unstopped_same r q cs f u w more e s n t =
    u w more e (subst (λ (o : Option Kind). is_some o ≡ true) (f w more e) s)
    (λ c x others g. sym (f (w ++ c ∷ x) others (e ∙ ap (λ (v : List ℕ). w ++ v) g ∙ sym (append_assoc w (c ∷ x) others))) ∙ n c x others g) t

-- What is left of r behind the word is q.
abbrev pub Leaves : Rest → List ℕ → Rest → List ℕ → Type 0
Leaves r word q cs = (v more : List ℕ) → cs ≡ v ++ more → r (word ++ v) ≡ q v

abbrev pub Lifts : Rest → List ℕ → List ℕ → Type 0
Lifts r word cs = Unstopped (λ v. r (word ++ v)) cs → Unstopped r (word ++ cs)

rest_behind : {r q : Rest} {before between : Bool} {text : List ℕ} {i j : ℕ} {word : List ℕ} {n : Number} → Word text i j word → Leaves r word q (behind text j) → between ≡ (before || has_separator word) → IsRest q between text j n → IsRest r before text i n
rest_behind {r = r} {before = before} {text = text} {word = word} {n = n} s f b x = record {
  word = word ++ x.word;
  stands = then s x.stands;
  kind = f x.word (behind text n.end) x.stands.splits ∙ x.kind;
  never = λ c v others e.
      ap r (append_assoc word x.word (c ∷ v))
      ∙ f (x.word ++ c ∷ v) others (x.stands.splits ∙ ap (λ (u : List ℕ). x.word ++ u) e ∙ sym (append_assoc x.word (c ∷ v) others))
      ∙ x.never c v others e;
  separated =
      x.separated ∙ ap (λ (a : Bool). a || has_separator x.word) b ∙ or_assoc before (has_separator word) (has_separator x.word)
      ∙ ap (λ (a : Bool). before || a) (sym (any-append (λ a. a == 95) word x.word));
}

broken_behind : {r q : Rest} {text : List ℕ} {i j : ℕ} {word : List ℕ} {place : ℕ} → Word text i j word → Leaves r word q (behind text j) → Lifts r word (behind text j) → IsBroken q text j place → IsBroken r text i place
broken_behind {r = r} {q = q} {text = text} {j = j} {word = word} s f l x = record {
  unstopped = subst (λ (cs : List ℕ). Unstopped r cs) (sym s.splits) (l (unstopped_same (λ v. r (word ++ v)) q (behind text j) f x.unstopped));
  boundary = x.boundary;
  ordered = let a = x.ordered in let b = s.end in omega arith;
}

pub behind_word : {r q : Rest} {before between : Bool} {text : List ℕ} {i j : ℕ} {word : List ℕ} {result : Result Number ℕ} → Word text i j word → Leaves r word q (behind text j) → Lifts r word (behind text j) → between ≡ (before || has_separator word) → Reads q between text j result → Reads r before text i result
behind_word {r = r} {q = q} {before = before} {between = between} {text = text} {i = i} {j = j} {result = result} s f l b x = go result x.is
  where
    go : (a : Result Number ℕ) → MatchResult a (λ n. IsRest q between text j n) (λ place. IsBroken q text j place) → Reads r before text i a
    go (Ok n) x = record { is = rest_behind s f b x }
    go (Err place) x = record { is = broken_behind s f l x }

-- behind one character before which no number stops
pub behind_one : {r q : Rest} {before : Bool} {text : List ℕ} {i c : ℕ} {result : Result Number ℕ} → Word text i (i + 1) (c ∷ []) → ((v : List ℕ) → r (c ∷ v) ≡ q v) → goes_on c ≡ true → (c == 95) ≡ false → Reads q before text (i + 1) result → Reads r before text i result
behind_one {r = r} {before = before} {text = text} {i = i} {c = c} s f g h x =
    behind_word s (λ v more e. f v) (front_goes_on r c (behind text (i + 1)) g) (or-false before ∙ ap (λ (a : Bool). before || (a || false)) (sym h)) x

-- behind one character that may end a number
behind_accepted : {r q : Rest} {before : Bool} {text : List ℕ} {i c : ℕ} {result : Result Number ℕ} → Word text i (i + 1) (c ∷ []) → ((v : List ℕ) → r (c ∷ v) ≡ q v) → is_some (q []) ≡ true → (c == 95) ≡ false → Reads q before text (i + 1) result → Reads r before text i result
behind_accepted {r = r} {before = before} {text = text} {i = i} {c = c} s f g h x =
    behind_word s (λ v more e. f v) (front_accepted r c (behind text (i + 1)) (ap is_some (f []) ∙ g)) (or-false before ∙ ap (λ (a : Bool). before || (a || false)) (sym h)) x

-- behind one character at which no number ends yet
pub behind_rejected : {r q : Rest} {before : Bool} {text : List ℕ} {i c : ℕ} {result : Result Number ℕ} → Word text i (i + 1) (c ∷ []) → ((v : List ℕ) → r (c ∷ v) ≡ q v) → r [] ≡ None → (c == 95) ≡ false → Reads q before text (i + 1) result → Reads r before text i result
behind_rejected {r = r} {before = before} {text = text} {i = i} {c = c} s f g h x =
    behind_word s (λ v more e. f v) (front_rejected r c (behind text (i + 1)) g) (or-false before ∙ ap (λ (a : Bool). before || (a || false)) (sym h)) x

-- the same where the two agree
pub same_here : {r q : Rest} {before : Bool} {text : List ℕ} {i : ℕ} {result : Result Number ℕ} → IsCharBoundary text i → ((v more : List ℕ) → behind text i ≡ v ++ more → r v ≡ q v) → Reads q before text i result → Reads r before text i result
same_here {before = before} {text = text} {i = i} b f x = behind_word (none_passed text i b) f (λ u. u) (or-false before) x

-- the same where the two agree on all that a digit or the like begins
pub same_from_head : {r q : Rest} {before : Bool} {text : List ℕ} {i c : ℕ} {cs : List ℕ} {result : Result Number ℕ} → behind text i ≡ c ∷ cs → goes_on c ≡ true → ((v : List ℕ) → r (c ∷ v) ≡ q (c ∷ v)) → q [] ≡ None → Reads q before text i result → Reads r before text i result
same_from_head {r = r} {q = q} {before = before} {text = text} {i = i} {c = c} {cs = cs} {result = result} e g f z x = by result x.is
  where
    go : {n : Number} (w : List ℕ) → Word text i n.end w → q w ≡ Some n.kind → ((a : ℕ) (v others : List ℕ) → behind text n.end ≡ a ∷ v ++ others → q (w ++ a ∷ v) ≡ None) → n.has_separator ≡ (before || has_separator w) → IsRest r before text i n
    go [] s k m b = absurd cc
    go {n = n} (d ∷ w) s k m b =
        let t : d ∷ w ++ behind text n.end ≡ c ∷ cs = sym s.splits ∙ e in
        let same : c ≡ d = cc in
        let h : (v : List ℕ) → r (d ∷ v) ≡ q (d ∷ v) = λ v. subst (λ (y : ℕ). r (y ∷ v) ≡ q (y ∷ v)) same (f v) in
        record { word = d ∷ w; stands = s; kind = h w ∙ k; never = λ a v others p. h (w ++ a ∷ v) ∙ m a v others p; separated = b }

    by : (a : Result Number ℕ) → MatchResult a (λ n. IsRest q before text i n) (λ place. IsBroken q text i place) → Reads r before text i a
    by (Ok n) x = record { is = go {n = n} x.word x.stands x.kind x.never x.separated }
    by (Err place) x = record {
      is = record {
        unstopped =
            let u : Unstopped q (c ∷ cs) = subst (λ (v : List ℕ). Unstopped q v) e x.unstopped in
            subst (λ (v : List ℕ). Unstopped r v) (sym e) (front_goes_on r c cs g (unstopped_same (λ v. r (c ∷ v)) (λ v. q (c ∷ v)) cs (λ v more p. f v) (λ w more p s n t. u (c ∷ w) more (ap (λ (v : List ℕ). c ∷ v) p) s n t)));
        boundary = x.boundary;
        ordered = x.ordered;
      };
    }

-- nothing more is taken
pub stays : {r : Rest} {before : Bool} {text : List ℕ} {i : ℕ} {k : Kind} → IsCharBoundary text i → r [] ≡ Some k → ((c : ℕ) (x others : List ℕ) → behind text i ≡ c ∷ x ++ others → r (c ∷ x) ≡ None) → Reads r before text i (Ok (record { kind = k; end = i; has_separator = before }))
stays {before = before} {text = text} {i = i} b e n = record { is = record { word = []; stands = none_passed text i b; kind = e; never = n; separated = or-false before } }

head-of : {c : ℕ} {cs : List ℕ} (p : ℕ → Bool) (x others : List ℕ) → begins p cs ≡ false → cs ≡ c ∷ x ++ others → p c ≡ false
head-of p x others h e = subst (λ (v : List ℕ). begins p v ≡ false) e h

pub front-of : {cs : List ℕ} (p : ℕ → Bool) (v more : List ℕ) → begins p cs ≡ false → cs ≡ v ++ more → begins p v ≡ false
front-of p v more h e = front-begins p v more (subst (λ (u : List ℕ). begins p u ≡ false) e h)

pub one_passes : (p : ℕ → Bool) (d c : ℕ) → (c == d) ≡ true → p d ≡ true → p c ≡ true
one_passes p d c h k = subst (λ (x : ℕ). p x ≡ true) (sym (eqb-true c d h)) k

pub one_fails : (a d c : ℕ) → (c == d) ≡ true → (d == a) ≡ false → (c == a) ≡ false
one_fails a d c h k = subst (λ (x : ℕ). (x == a) ≡ false) (sym (eqb-true c d h)) k

-- digits, and what stands behind them
digits_ended : (p : ℕ → Bool) (r : Rest) (v : List ℕ) → begins (λ c. p c || (true && (c == 95))) v ≡ false → digits p r true v ≡ r v
digits_ended p r [] h = refl
digits_ended p r (c ∷ v) h = rw (neither-left (p c) (c == 95) h, neither-right (p c) (c == 95) h, digits) refl

no_digits : (p : ℕ → Bool) (r : Rest) (v : List ℕ) → begins (λ c. p c || (false && (c == 95))) v ≡ false → digits p r false v ≡ None
no_digits p r [] h = refl
no_digits p r (c ∷ v) h = rw (neither-left (p c) false h, digits) refl

pub behind_digits : {radix : ℕ} (r : Rest) {before between : Bool} {text : List ℕ} {i : ℕ} {n : Digits} {result : Result Number ℕ} → AreDigits radix text i n → n.complete ≡ true → between ≡ (before || n.has_separator) → Reads r between text n.end result → Reads (digits (in_radix radix) r false) before text i result
behind_digits {radix = radix} r {before = before} {text = text} {n = n} d k b x =
    behind_word d.stands
    (λ v more e. d.left r v ∙ ap (λ (a : Bool). digits (in_radix radix) r a v) k ∙ digits_ended (in_radix radix) r v (front-begins (λ c. in_radix radix c || (true && (c == 95))) v more
    (subst (λ (cs : List ℕ). begins (λ c. in_radix radix c || (true && (c == 95))) cs ≡ false) e (subst (λ (a : Bool). begins (λ c. in_radix radix c || (a && (c == 95))) (behind text n.end) ≡ false) k d.end))))
    (fronts_go_on (digits (in_radix radix) r false) d.word (behind text n.end) d.on)
    (b ∙ ap (λ (a : Bool). before || a) d.separated) x

pub broken_digits : {radix : ℕ} (r : Rest) {before : Bool} {text : List ℕ} {i : ℕ} {n : Digits} → AreDigits radix text i n → n.complete ≡ false → Reads (digits (in_radix radix) r false) before text i (Err n.end)
broken_digits {radix = radix} r {text = text} {n = n} d k =
    record {
      is = broken_behind {q = λ v. None} d.stands
          (λ v more e. d.left r v ∙ ap (λ (a : Bool). digits (in_radix radix) r a v) k ∙ no_digits (in_radix radix) r v (front-begins (λ c. in_radix radix c || (false && (c == 95))) v more
          (subst (λ (cs : List ℕ). begins (λ c. in_radix radix c || (false && (c == 95))) cs ≡ false) e (subst (λ (a : Bool). begins (λ c. in_radix radix c || (a && (c == 95))) (behind text n.end) ≡ false) k d.end))))
          (fronts_go_on (digits (in_radix radix) r false) d.word (behind text n.end) d.on)
          (record { unstopped = λ w more e s m t. (let a : false ≡ true = s in cc); boundary = d.stands.boundary; ordered = omega arith });
    }

either-begins : (p q : ℕ → Bool) (cs : List ℕ) → begins (λ c. p c || q c) cs ≡ false → begins p cs ≡ false
either-begins p q [] h = refl
either-begins p q (c ∷ cs) h = neither-left (p c) (q c) h

-- where a decimal digit stands, digits go on behind the place
pub digits_pass : {text : List ℕ} {i : ℕ} {n : Digits} → AreDigits 10 text i n → begins is_decimal (behind text i) ≡ true → i < n.end
digits_pass {text = text} {i = i} {n = n} d h = go d.word d.stands
  where
    go : (w : List ℕ) → Word text i n.end w → i < n.end
    go [] s = absurd (
        let a : begins is_decimal (behind text n.end) ≡ true = subst (λ (cs : List ℕ). begins is_decimal cs ≡ true) s.splits h in
        let b : begins is_decimal (behind text n.end) ≡ false = either-begins is_decimal (λ c. n.complete && (c == 95)) (behind text n.end) d.end in
        cc)
    go (c ∷ w) s = let e = s.end in let l = (len_utf8_bounds c).0 in omega arith

pub err_behind : {r : Rest} {before : Bool} {text : List ℕ} {i j : ℕ} {result : Result Number ℕ} → i < j → Reads r before text j result → IfErr result (λ place. i < place)
err_behind {r = r} {before = before} {text = text} {i = i} {j = j} {result = result} l x = go result x.is
  where
    go : (o : Result Number ℕ) → MatchResult o (λ n. IsRest r before text j n) (λ place. IsBroken r text j place) → IfErr o (λ place. i < place)
    go (Ok n) m = tt
    go (Err place) m = let o = m.ordered in omega arith

pub or-left : (a b : Bool) → a ≡ true → a ≡ (a || b)
or-left true b h = refl
or-left false b h = cc

pub or-right : (a b : Bool) → a ≡ false → b ≡ (a || b)
or-right true b h = cc
or-right false b h = refl

-- ends, suffix
pub reads_ends : (k : Kind) {before : Bool} {text : List ℕ} {i : ℕ} → IsCharBoundary text i → Reads (ends k) before text i (Ok (record { kind = k; end = i; has_separator = before }))
reads_ends k b = stays b refl (λ c x others e. refl)

pub reads_big : (k big : Kind) {before : Bool} {text : List ℕ} {i : ℕ} → Finds (λ c. c == 110) text i true → Reads (suffix k big) before text i (Ok (record { kind = big; end = i + 1; has_separator = before }))
reads_big k big f =
    behind_one {q = ends big} f.1 (λ v. (let h = f.2 in rw (h, suffix) refl)) (one_passes goes_on 110 f.0 f.2 refl) (one_fails 95 110 f.0 f.2 refl) (reads_ends big f.1.boundary)

pub reads_no_suffix : (k big : Kind) {before : Bool} {text : List ℕ} {i : ℕ} → IsCharBoundary text i → Finds (λ c. c == 110) text i false → Reads (suffix k big) before text i (Ok (record { kind = k; end = i; has_separator = before }))
reads_no_suffix k big b f = stays b refl (λ c x others e. (let h : (c == 110) ≡ false = head-of (λ a. a == 110) x others f e in rw (h, suffix) refl))

-- signed
pub reads_minus : {before : Bool} {text : List ℕ} {i : ℕ} {result : Result Number ℕ} → Finds (λ c. c == 45) text i true → Reads (digits is_decimal (ends NegativeExponential) false) before text (i + 1) result → Reads signed before text i result
reads_minus f x = behind_rejected f.1 (λ v. (let h = f.2 in rw (h, signed) refl)) refl (one_fails 95 45 f.0 f.2 refl) x

pub reads_plus : {before : Bool} {text : List ℕ} {i : ℕ} {result : Result Number ℕ} → Finds (λ c. c == 45) text i false → Finds (λ c. c == 43) text i true → Reads (digits is_decimal (ends PositiveExponential) false) before text (i + 1) result → Reads signed before text i result
reads_plus n f x = behind_rejected f.1 (λ v. (let h = f.2 in let m : (f.0 == 45) ≡ false = same-head (λ a. a == 45) f.1 n in rw (m, h, signed) refl)) refl (one_fails 95 43 f.0 f.2 refl) x

unsigned : (v : List ℕ) → begins (λ c. c == 45) v ≡ false → begins (λ c. c == 43) v ≡ false → signed v ≡ digits is_decimal (ends PositiveExponential) false v
unsigned [] h k = refl
unsigned (c ∷ v) h k = rw (h, k, signed) refl

pub reads_unsigned : {before : Bool} {text : List ℕ} {i : ℕ} {result : Result Number ℕ} → IsCharBoundary text i → Finds (λ c. c == 45) text i false → Finds (λ c. c == 43) text i false → Reads (digits is_decimal (ends PositiveExponential) false) before text i result → Reads signed before text i result
reads_unsigned b n m x = same_here b (λ v more e. unsigned v (front-of (λ c. c == 45) v more n e) (front-of (λ c. c == 43) v more m e)) x

-- exponent
pub reads_exponent : (k : Kind) {before : Bool} {text : List ℕ} {i : ℕ} {result : Result Number ℕ} → Finds (one_of (69 ∷ 101 ∷ [])) text i true → Reads signed before text (i + 1) result → Reads (exponent k) before text i result
reads_exponent k f x = behind_one f.1 (λ v. (let h = f.2 in rw (h, exponent) refl)) (member goes_on (69 ∷ 101 ∷ []) f.0 f.2 refl) (not-true (f.0 == 95) (member (λ a. not (a == 95)) (69 ∷ 101 ∷ []) f.0 f.2 refl)) x

pub reads_no_exponent : (k : Kind) {before : Bool} {text : List ℕ} {i : ℕ} → IsCharBoundary text i → Finds (one_of (69 ∷ 101 ∷ [])) text i false → Reads (exponent k) before text i (Ok (record { kind = k; end = i; has_separator = before }))
reads_no_exponent k b f = stays b refl (λ c x others e. (let h : one_of (69 ∷ 101 ∷ []) c ≡ false = head-of (one_of (69 ∷ 101 ∷ [])) x others f e in rw (h, exponent) refl))

-- fraction
pub reads_fraction_digits : {before : Bool} {text : List ℕ} {i : ℕ} {result : Result Number ℕ} → Finds (in_radix 10) text i true → Reads (digits is_decimal (exponent Float) false) before text i result → Reads fraction before text i result
reads_fraction_digits f x = same_from_head f.1.splits (decimal-on f.0 f.2) (λ v. (let h : is_decimal f.0 ≡ true = f.2 in rw (h, fraction, digits) refl)) refl x

no_fraction : (v : List ℕ) → begins is_decimal v ≡ false → fraction v ≡ exponent Float v
no_fraction [] h = refl
no_fraction (c ∷ v) h = rw (h, fraction) refl

pub reads_no_fraction_digits : {before : Bool} {text : List ℕ} {i : ℕ} {result : Result Number ℕ} → IsCharBoundary text i → Finds (in_radix 10) text i false → Reads (exponent Float) before text i result → Reads fraction before text i result
reads_no_fraction_digits b f x = same_here b (λ v more e. no_fraction v (front-of is_decimal v more f e)) x

-- decimal_rest, integer_rest
pub reads_dot : {before : Bool} {text : List ℕ} {i : ℕ} {result : Result Number ℕ} → Finds (λ c. c == 46) text i true → Reads fraction before text (i + 1) result → Reads decimal_rest before text i result
reads_dot f x = behind_accepted f.1 (λ v. (let h = f.2 in rw (h, decimal_rest) refl)) refl (one_fails 95 46 f.0 f.2 refl) x

no_dot : (v : List ℕ) → begins (λ c. c == 46) v ≡ false → decimal_rest v ≡ exponent Decimal v
no_dot [] h = refl
no_dot (c ∷ v) h = rw (h, decimal_rest) refl

pub reads_no_dot : {before : Bool} {text : List ℕ} {i : ℕ} {result : Result Number ℕ} → IsCharBoundary text i → Finds (λ c. c == 46) text i false → Reads (exponent Decimal) before text i result → Reads decimal_rest before text i result
reads_no_dot b f x = same_here b (λ v more e. no_dot v (front-of (λ c. c == 46) v more f e)) x

pub reads_big_integer : {before : Bool} {text : List ℕ} {i : ℕ} → Finds (λ c. c == 110) text i true → Reads integer_rest before text i (Ok (record { kind = DecimalBigInt; end = i + 1; has_separator = before }))
reads_big_integer f =
    behind_one {q = ends DecimalBigInt} f.1 (λ v. (let h = f.2 in rw (h, integer_rest) refl)) (one_passes goes_on 110 f.0 f.2 refl) (one_fails 95 110 f.0 f.2 refl) (reads_ends DecimalBigInt f.1.boundary)

no_big : (v : List ℕ) → begins (λ c. c == 110) v ≡ false → integer_rest v ≡ decimal_rest v
no_big [] h = refl
no_big (c ∷ v) h = rw (h, integer_rest) refl

pub reads_no_big : {before : Bool} {text : List ℕ} {i : ℕ} {result : Result Number ℕ} → IsCharBoundary text i → Finds (λ c. c == 110) text i false → Reads decimal_rest before text i result → Reads integer_rest before text i result
reads_no_big b f x = same_here b (λ v more e. no_big v (front-of (λ c. c == 110) v more f e)) x
