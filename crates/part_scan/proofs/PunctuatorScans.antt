-- The punctuators that begin with a dot, a question mark or a slash, and what punctuators tell of lexemes.
use Rattle.std.proofs.Common.{◌≡◌, ℕ, ◌+◌, ◌==◌, Bool, true, false, List, [], ◌∷◌, ◌++◌, refl, sym, ap, subst, ◌∙◌, not, ◌&&◌, arith, Some, None}
use Rattle.std.proofs.lemmas.Bool.{eqb-true}
use Rattle.js_base.specs.declared.kind.Kind.TheVariants.{Dot, Dot3, Question, QuestionDot, Question2, Slash, SlashEq}
use Rattle.js_base.specs.Texts.{punctuators}
use Rattle.js_base.specs.part_text.Characters.{is_decimal}
use Rattle.part_words.specs.js_grammar.Characters.{begins}
use Rattle.part_words.specs.js_grammar.Lexemes.{punctuator_kind}
use Rattle.part_words.specs.js_grammar.LexicalFaults.{behind}
use Rattle.part_words.specs.Places.{Word}
use Rattle.part_words.specs.Places.{Finds, in_radix}
use Rattle.part_scan.specs.Punctuators.{punctuator_of, opens_no_comment, IsPunctuator}
use Rattle.part_words.proofs.Places.{then}
use Rattle.part_scan.proofs.Punctuators.{kind_none}
use Rattle.part_scan.proofs.PunctuatorLexemes.{turned}

-- the character that is found
is-found : {text : List ℕ} {j d : ℕ} → Finds (λ c. c == d) text j true → Word text j (j + 1) (d ∷ [])
is-found {text = text} {j = j} {d = d} f = subst (λ (x : ℕ). Word text j (j + 1) (x ∷ [])) (eqb-true f.0 d f.2) f.1

found_next : {text : List ℕ} {i j n : ℕ} {w : List ℕ} (d : ℕ) → Word text i j w → Finds (λ c. c == d) text j true → j + 1 ≡ n → Word text i n (w ++ d ∷ [])
found_next {text = text} {i = i} {w = w} d s f e = subst (λ (m : ℕ). Word text i m (w ++ d ∷ [])) e (then s (is-found f))

not-found : {c : ℕ} {cs : List ℕ} (x more : List ℕ) (d : ℕ) → begins (λ a. a == d) cs ≡ false → cs ≡ c ∷ x ++ more → (d == c) ≡ false
not-found {c = c} x more d h e = turned c d (subst (λ (v : List ℕ). begins (λ a. a == d) v ≡ false) e h)

-- `...`
pub three_dots : {text : List ℕ} {i : ℕ} → Word text i (i + 1) (46 ∷ []) → Finds (λ c. c == 46) text (i + 1) true → Finds (λ c. c == 46) text (i + 2) true → IsPunctuator text i (record { kind = Dot3; end = i + 3 })
unfolding punctuators
three_dots {text = text} {i = i} s f g = record {
  first = 46;
  others = 46 ∷ 46 ∷ [];
  stands = found_next 46 (found_next {n = i + 2} 46 s f (omega arith)) g (omega arith);
  kind = refl;
  precedes = refl;
  never = λ c x more e. kind_none (46 ∷ 46 ∷ 46 ∷ c ∷ x) more refl;
}

-- `.`, and what goes on with no dot, or with one alone
dot_none : (c : ℕ) (x : List ℕ) → (46 == c) ≡ false → punctuator_of (46 ∷ c ∷ x) ≡ None
unfolding punctuators
dot_none c x h = rw h refl

dots_none : (c : ℕ) (x : List ℕ) → (46 == c) ≡ false → punctuator_of (46 ∷ 46 ∷ c ∷ x) ≡ None
unfolding punctuators
dots_none c x h = rw h refl

two_dots_none : punctuator_of (46 ∷ 46 ∷ []) ≡ None
unfolding punctuators
two_dots_none = refl

dot_is : punctuator_of (46 ∷ []) ≡ Some Dot
unfolding punctuators
dot_is = refl

pub dot_alone : {text : List ℕ} {i : ℕ} → Word text i (i + 1) (46 ∷ []) → Finds (λ c. c == 46) text (i + 1) false → IsPunctuator text i (record { kind = Dot; end = i + 1 })
dot_alone s f = record {
  first = 46;
  others = [];
  stands = s;
  kind = dot_is;
  precedes = refl;
  never = λ c x more e. kind_none (46 ∷ c ∷ x) more (dot_none c x (not-found x more 46 f e));
}

pub dot_before_one : {text : List ℕ} {i : ℕ} → Word text i (i + 1) (46 ∷ []) → Finds (λ c. c == 46) text (i + 1) true → Finds (λ c. c == 46) text (i + 2) false → IsPunctuator text i (record { kind = Dot; end = i + 1 })
dot_before_one {text = text} {i = i} s f g = record {
  first = 46;
  others = [];
  stands = s;
  kind = dot_is;
  precedes = refl;
  never = λ c x more e. kind_none (46 ∷ c ∷ x) more (go c x more (let h = is-found f in sym h.splits ∙ e));
}
  where
    go : (c : ℕ) (x more : List ℕ) → 46 ∷ behind text (i + 1 + 1) ≡ c ∷ x ++ more → punctuator_of (46 ∷ c ∷ x) ≡ None
    go c [] more e = let h : 46 ≡ c = cc in subst (λ (a : ℕ). punctuator_of (46 ∷ a ∷ []) ≡ None) h two_dots_none
    go c (d ∷ x) more e =
        let h : 46 ≡ c = cc in
        let t : behind text (i + 1 + 1) ≡ d ∷ x ++ more = cc in
        let p : i + 2 ≡ i + 1 + 1 = omega arith in
        subst (λ (a : ℕ). punctuator_of (46 ∷ a ∷ d ∷ x) ≡ None) h (dots_none d x (not-found x more 46 g (ap (λ (n : ℕ). behind text n) p ∙ t)))

-- `?.`
question_dot_none : (c : ℕ) (x : List ℕ) → punctuator_of (63 ∷ 46 ∷ c ∷ x) ≡ None
unfolding punctuators
question_dot_none c x = refl

question_dot_is : punctuator_of (63 ∷ 46 ∷ []) ≡ Some QuestionDot
unfolding punctuators
question_dot_is = refl

no-digit : (b : Bool) → b ≡ false → (not (true && b) && true) ≡ true
no-digit b h = rw h refl

pub question_dot : {text : List ℕ} {i : ℕ} → Word text i (i + 1) (63 ∷ []) → Finds (λ c. c == 46) text (i + 1) true → Finds (in_radix 10) text (i + 2) false → IsPunctuator text i (record { kind = QuestionDot; end = i + 2 })
question_dot {text = text} {i = i} s f g = record {
  first = 63;
  others = 46 ∷ [];
  stands = found_next 46 s f (omega arith);
  kind = question_dot_is;
  precedes = no-digit (begins is_decimal (behind text (i + 2))) g;
  never = λ c x more e. kind_none (63 ∷ 46 ∷ c ∷ x) more (question_dot_none c x);
}

-- `?`
question_none : (c : ℕ) (x : List ℕ) → (46 == c) ≡ false → (63 == c) ≡ false → punctuator_of (63 ∷ c ∷ x) ≡ None
unfolding punctuators
question_none c x h k = rw (h, k) refl

question_is : punctuator_of (63 ∷ []) ≡ Some Question
unfolding punctuators
question_is = refl

before_digit : (more : List ℕ) → begins is_decimal more ≡ true → punctuator_kind (63 ∷ 46 ∷ []) more ≡ None
unfolding punctuators
before_digit more h = rw h refl

pub question_alone : {text : List ℕ} {i : ℕ} → Word text i (i + 1) (63 ∷ []) → Finds (λ c. c == 63) text (i + 1) false → Finds (λ c. c == 46) text (i + 1) false → IsPunctuator text i (record { kind = Question; end = i + 1 })
question_alone s f g = record {
  first = 63;
  others = [];
  stands = s;
  kind = question_is;
  precedes = refl;
  never = λ c x more e. kind_none (63 ∷ c ∷ x) more (question_none c x (not-found x more 46 g e) (not-found x more 63 f e));
}

pub question_before_number : {text : List ℕ} {i : ℕ} → Word text i (i + 1) (63 ∷ []) → Finds (λ c. c == 46) text (i + 1) true → Finds (in_radix 10) text (i + 2) true → IsPunctuator text i (record { kind = Question; end = i + 1 })
question_before_number {text = text} {i = i} s f g = record {
  first = 63;
  others = [];
  stands = s;
  kind = question_is;
  precedes = refl;
  never = λ c x more e. go c x more (let h = is-found f in sym h.splits ∙ e);
}
  where
    digit : begins is_decimal (behind text (i + 2)) ≡ true
    digit = subst (λ (v : List ℕ). begins is_decimal v ≡ true) (sym g.1.splits) g.2

    go : (c : ℕ) (x more : List ℕ) → 46 ∷ behind text (i + 1 + 1) ≡ c ∷ x ++ more → punctuator_kind (63 ∷ c ∷ x) more ≡ None
    go c [] more e =
        let h : 46 ≡ c = cc in
        let t : behind text (i + 1 + 1) ≡ more = cc in
        let p : i + 2 ≡ i + 1 + 1 = omega arith in
        subst (λ (a : ℕ). punctuator_kind (63 ∷ a ∷ []) more ≡ None) h (before_digit more (subst (λ (v : List ℕ). begins is_decimal v ≡ true) (ap (λ (n : ℕ). behind text n) p ∙ t) digit))
    go c (d ∷ x) more e =
        let h : 46 ≡ c = cc in
        subst (λ (a : ℕ). punctuator_kind (63 ∷ a ∷ d ∷ x) more ≡ None) h (kind_none (63 ∷ 46 ∷ d ∷ x) more (question_dot_none d x))

pub two_questions : {text : List ℕ} {i : ℕ} → Word text i (i + 1) (63 ∷ []) → Finds (λ c. c == 63) text (i + 1) true → Word text i (i + 2) (63 ∷ 63 ∷ [])
two_questions s f = found_next 63 s f (omega arith)

pub two_questions_is : punctuator_of (63 ∷ 63 ∷ []) ≡ Some Question2
unfolding punctuators
two_questions_is = refl

-- `/=` and `/`
slash_equals_none : (c : ℕ) (x : List ℕ) → punctuator_of (47 ∷ 61 ∷ c ∷ x) ≡ None
unfolding punctuators
slash_equals_none c x = refl

slash_equals_is : punctuator_of (47 ∷ 61 ∷ []) ≡ Some SlashEq
unfolding punctuators
slash_equals_is = refl

pub slash_equals : {text : List ℕ} {i : ℕ} → Word text i (i + 1) (47 ∷ []) → Finds (λ c. c == 61) text (i + 1) true → IsPunctuator text i (record { kind = SlashEq; end = i + 2 })
slash_equals s f = record {
  first = 47;
  others = 61 ∷ [];
  stands = found_next 61 s f (omega arith);
  kind = slash_equals_is;
  precedes = refl;
  never = λ c x more e. kind_none (47 ∷ 61 ∷ c ∷ x) more (slash_equals_none c x);
}

slash_none : (c : ℕ) (x : List ℕ) → (61 == c) ≡ false → punctuator_of (47 ∷ c ∷ x) ≡ None
unfolding punctuators
slash_none c x h = rw h refl

slash_is : punctuator_of (47 ∷ []) ≡ Some Slash
unfolding punctuators
slash_is = refl

pub slash_alone : {text : List ℕ} {i : ℕ} → Word text i (i + 1) (47 ∷ []) → opens_no_comment (behind text i) ≡ true → Finds (λ c. c == 61) text (i + 1) false → IsPunctuator text i (record { kind = Slash; end = i + 1 })
slash_alone {text = text} {i = i} s n f = record {
  first = 47;
  others = [];
  stands = s;
  kind = slash_is;
  precedes = subst (λ (v : List ℕ). opens_no_comment v ≡ true) s.splits n;
  never = λ c x more e. kind_none (47 ∷ c ∷ x) more (slash_none c x (not-found x more 61 f e));
}
