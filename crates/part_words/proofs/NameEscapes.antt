-- Escape sequences of a name, one character after the other.
use Rattle.std.proofs.Common.{◌≡◌, ◌<◌, ◌≤◌, ◌==◌, ℕ, ◌+◌, Bool, true, false, List, [], ◌∷◌, ◌++◌, refl, sym, ap, subst, ◌∙◌, ◌||◌, append_assoc, Option, Some, None, ◌⊎◌, inl, inr, arith}
use Rattle.std.proofs.lemmas.Bool.{cases_lt}
use Rattle.std.proofs.lemmas.Bool.Decides.{nat_tests}
use Rattle.std.proofs.lemmas.List.{append-nil}
use Rattle.std.specs.Char.{len_utf8}
use Rattle.js_base.specs.part_text.CodePointEscapes.{stage_of, fits}
use Rattle.js_base.specs.part_text.declared.code_point_escape.CodePointEscape.{CodePointEscape}
use Rattle.js_base.specs.part_text.declared.code_point_escape.CodePointEscape.TheVariants.{Unicode, Due, Braced}
use Rattle.js_base.specs.part_text.Escapes.{in_name, read_from, outside, backslash, unicode, nul, due, braced, octal, before_all, code_points, Stage, Step, step, finish, go}
use Rattle.js_grammar.specs.Names.{has_backslash}
use Rattle.js_grammar.specs.Characters.{begins}
use Rattle.js_grammar.specs.LexicalFaults.{behind}
use Rattle.js_grammar.proofs.CorePlain.{before-nil}
use Rattle.part_words.specs.declared.name.Escape.{Escape}
use Rattle.part_words.specs.Places.{Word, Peeks, Finds}
use Rattle.part_words.specs.Names.{Spells, NoFrontPasses, is_refused, Unfinished, IsEscape}
use Rattle.part_words.proofs.Places.{then, found}
use Rattle.part_words.proofs.Names.{backslash-append}

-- Behind the characters an escape sequence is at a stage.
pub record Inside (w : List ℕ) (s : Stage) : Type 0 where
  pub reads : (v : List ℕ) → code_points in_name (w ++ v) ≡ read_from in_name s v
  pub unfinished : Unfinished w
  pub cut : finish s ≡ None

pub record Begun (text : List ℕ) (i j : ℕ) (s : Stage) : Type 0 where
  pub word : List ℕ
  pub stands : Word text i j word
  pub inside : Inside word s
  pub fits : fits s ≡ true
  pub escaped : has_backslash word ≡ true
  pub some : i < j

no-finish : (e : CodePointEscape) → finish (stage_of e) ≡ None
no-finish Unicode = refl
no-finish (Due n v) = refl
no-finish (Braced any v) = refl

read-step : (s : Stage) (c : ℕ) (cs : List ℕ) (o : Option Step) → step in_name s c ≡ o → read_from in_name s (c ∷ cs) ≡ elim o [ None ↦ None | Some t ↦ before_all t.gives (read_from in_name t.stage cs) ]
read-step s c cs o h = ap (λ (a : Option Step). elim a [ None ↦ None | Some t ↦ before_all t.gives (read_from in_name t.stage cs) ]) h

-- the characters themselves stand for no code points yet
whole : (w : List ℕ) (s : Stage) → Inside w s → code_points in_name w ≡ None
whole w s a = ap (code_points in_name) (sym (append-nil w)) ∙ a.reads [] ∙ a.cut

-- a front of w and a character, and more behind it, is w or a shorter front of it
shorter : (w x more : List ℕ) (e d : ℕ) → w ++ e ∷ [] ≡ x ++ d ∷ more → (x ≡ w) ⊎ ((more' : List ℕ) × (d' : ℕ) × (w ≡ x ++ d' ∷ more'))
shorter [] [] more e d h = inl refl
shorter [] (a ∷ []) more e d h = absurd (let k : [] ≡ d ∷ more = cc in cc)
shorter [] (a ∷ b ∷ x) more e d h = absurd (let k : [] ≡ b ∷ x ++ d ∷ more = cc in cc)
shorter (b ∷ w) [] more e d h = inr (w, b, refl)
shorter (b ∷ w) (a ∷ x) more e d h =
    let t : w ++ e ∷ [] ≡ x ++ d ∷ more = cc in
    let s : b ≡ a = cc in
    elim (shorter w x more e d t) [
      | inl q ↦ inl (let r : x ≡ w = q in cc)
      | inr q ↦ inr (q.0, q.1, (let r : w ≡ x ++ q.1 ∷ q.0 = q.2 in cc))
    ]

pub unfinished-more : (w : List ℕ) (s : Stage) (e : ℕ) → Inside w s → Unfinished (w ++ e ∷ [])
unfinished-more w s e a c x d more h = by (shorter w (c ∷ x) more e d h)
  where
    by : (c ∷ x ≡ w) ⊎ ((more' : List ℕ) × (d' : ℕ) × (w ≡ c ∷ x ++ d' ∷ more')) → code_points in_name (c ∷ x) ≡ None
    by (inl q) = ap (code_points in_name) q ∙ whole w s a
    by (inr q) = a.unfinished c x q.1 q.0 q.2

-- the escape sequence goes on
pub inside-more : (w : List ℕ) (s t : Stage) (e : ℕ) → Inside w s → step in_name s e ≡ go t [] → finish t ≡ None → Inside (w ++ e ∷ []) t
inside-more w s t e a h n = record {
  reads = λ v. ap (code_points in_name) (append_assoc w (e ∷ []) v) ∙ a.reads (e ∷ v) ∙ read-step s e v (go t []) h ∙ before-nil (read_from in_name t v);
  unfinished = unfinished-more w s e a;
  cut = n;
}

-- it ends
pub spells-more : (w : List ℕ) (s : Stage) (e p : ℕ) → Inside w s → step in_name s e ≡ go outside (p ∷ []) → Spells (w ++ e ∷ []) (p ∷ [])
spells-more w s e p a h v = ap (code_points in_name) (append_assoc w (e ∷ []) v) ∙ a.reads (e ∷ v) ∙ read-step s e v (go outside (p ∷ [])) h

-- of two fronts of one list, the second is shorter, or goes on behind the first
fronts : (w rest x more : List ℕ) → w ++ rest ≡ x ++ more → ((d : ℕ) × (y : List ℕ) × (w ≡ x ++ d ∷ y)) ⊎ ((y : List ℕ) × (x ≡ w ++ y) × (rest ≡ y ++ more))
fronts [] rest x more e = inr (x, refl, e)
fronts (c ∷ w) rest [] more e = inl (c, w, refl)
fronts (c ∷ w) rest (d ∷ x) more e =
    let h : c ≡ d = cc in
    let t : w ++ rest ≡ x ++ more = cc in
    elim (fronts w rest x more t) [
      | inl q ↦ inl (q.0, q.1, (let r : w ≡ x ++ q.0 ∷ q.1 = q.2 in cc))
      | inr q ↦ inr (q.0, (let r : x ≡ w ++ q.0 = q.1 in cc), q.2)
    ]

-- no code points stand where the characters behind w fail
pub refuses-inside : (test : ℕ → Bool) (w rest : List ℕ) (s : Stage) → Inside w s
    → ((y more : List ℕ) → rest ≡ y ++ more → read_from in_name s y ≡ None) → NoFrontPasses test (w ++ rest)
refuses-inside test w rest s a f c x more e = ap (is_refused test) (by (fronts w rest (c ∷ x) more e))
  where
    by : ((d : ℕ) × (y : List ℕ) × (w ≡ c ∷ x ++ d ∷ y)) ⊎ ((y : List ℕ) × (c ∷ x ≡ w ++ y) × (rest ≡ y ++ more)) → code_points in_name (c ∷ x) ≡ None
    by (inl q) = a.unfinished c x q.0 q.1 q.2
    by (inr q) = ap (code_points in_name) q.1 ∙ a.reads q.0 ∙ f q.0 more q.2

fails-none : (s : Stage) (rest y more : List ℕ) → finish s ≡ None → rest ≡ [] → rest ≡ y ++ more → read_from in_name s y ≡ None
fails-none s rest [] more f n e = f
fails-none s rest (c ∷ y) more f n e = absurd (let h : [] ≡ c ∷ y ++ more = sym n ∙ e in cc)

fails-at : (s : Stage) (d : ℕ) (rest y more : List ℕ) → finish s ≡ None → step in_name s d ≡ None → d ∷ rest ≡ y ++ more → read_from in_name s y ≡ None
fails-at s d rest [] more f n e = f
fails-at s d rest (c ∷ y) more f n e =
    let same : d ≡ c = cc in
    read-step s c y None (subst (λ (a : ℕ). step in_name s a ≡ None) same n)

-- an escape sequence of which the code point is refused
pub refuses-escape : (test : ℕ → Bool) (w rest : List ℕ) (p : ℕ) → Spells w (p ∷ []) → Unfinished w → test p ≡ false → NoFrontPasses test (w ++ rest)
refuses-escape test w rest p a u n c x more e = by (fronts w rest (c ∷ x) more e)
  where
    some : (o : Option (List ℕ)) → is_refused test (before_all (p ∷ []) o) ≡ true
    some None = refl
    some (Some zs) = rw n refl

    by : ((d : ℕ) × (y : List ℕ) × (w ≡ c ∷ x ++ d ∷ y)) ⊎ ((y : List ℕ) × (c ∷ x ≡ w ++ y) × (rest ≡ y ++ more)) → is_refused test (code_points in_name (c ∷ x)) ≡ true
    by (inl q) = ap (is_refused test) (u c x q.0 q.1 q.2)
    by (inr q) = ap (λ (v : List ℕ). is_refused test (code_points in_name v)) q.1 ∙ ap (is_refused test) (a q.0) ∙ some (code_points in_name q.0)

-- a character above ASCII is none of an escape sequence
high-fails : (s : Stage) (c : ℕ) → finish s ≡ None → 128 ≤ c → step in_name s c ≡ None
high-fails outside c f h = absurd (let z = f in cc)
high-fails backslash c f h = grind (arith, nat_tests)
high-fails unicode c f h = grind (arith, nat_tests)
high-fails nul c f h = absurd (let z = f in cc)
high-fails (due n v) c f h = grind (arith, nat_tests)
high-fails (braced any v) c f h = grind (arith, nat_tests)
high-fails (octal n v) c f h = absurd (let z = f in cc)

low : (s : Stage) (c : ℕ) (t : Step) → finish s ≡ None → step in_name s c ≡ Some t → c < 128
low s c t f e = elim (cases_lt c 128) [
  | inl l ↦ l
  | inr h ↦ absurd (let n = high-fails s c f h in cc)
]

-- of places of a text
begun-first : (text : List ℕ) (i : ℕ) → Word text i (i + 1) (92 ∷ []) → Begun text i (i + 1) backslash
begun-first text i s = record {
  word = 92 ∷ [];
  stands = s;
  inside = record { reads = λ v. before-nil (read_from in_name backslash v); unfinished = λ c x d more e. absurd (last x d more (let h : [] ≡ x ++ d ∷ more = cc in h)); cut = refl };
  fits = refl;
  escaped = refl;
  some = omega arith;
}
  where
    last : (x : List ℕ) (d : ℕ) (more : List ℕ) → [] ≡ x ++ d ∷ more → ⊥
    last [] d more e = cc
    last (y ∷ x) d more e = cc

begun-on : {text : List ℕ} {i j b : ℕ} {s t : Stage} → Begun text i j s → Word text j (j + 1) (b ∷ []) → step in_name s b ≡ go t [] → finish t ≡ None → fits t ≡ true → Begun text i (j + 1) t
begun-on {b = b} {s = s} {t = t} a w h n f = record {
  word = a.word ++ b ∷ [];
  stands = then a.stands w;
  inside = inside-more a.word s t b a.inside h n;
  fits = f;
  escaped = backslash-append a.word (b ∷ []) ∙ ap (λ (x : Bool). x || has_backslash (b ∷ [])) a.escaped;
  some = let l = a.some in omega arith;
}

-- behind a backslash and `u`
pub begun-unicode : {text : List ℕ} {i : ℕ} → Word text i (i + 1) (92 ∷ []) → Finds (λ c. c == 117) text (i + 1) true → Begun text i (i + 2) unicode
begun-unicode {text = text} {i = i} s f =
    subst (λ (n : ℕ). Begun text i n unicode) (let z : (i + 1) + 1 ≡ i + 2 = omega arith in z) (begun-on (begun-first text i s) (found 117 f) refl refl refl)

word_here : {text : List ℕ} {j b : ℕ} (s : Stage) (t : Step) → finish s ≡ None → Peeks text j b → step in_name s b ≡ Some t → Word text j (j + 1) (b ∷ [])
word_here {b = b} s t f p e = p.ascii (low s b t f e)

pub begun-more : {text : List ℕ} {i j b : ℕ} {s : Stage} (e : CodePointEscape) → Begun text i j s → Peeks text j b → step in_name s b ≡ go (stage_of e) [] → fits (stage_of e) ≡ true → Begun text i (j + 1) (stage_of e)
begun-more {s = s} e a p h f = begun-on a (word_here s (record { stage = stage_of e; gives = [] }) a.inside.cut p h) h (no-finish e) f

pub escape-ends : {text : List ℕ} {i j b p : ℕ} {s : Stage} → Begun text i j s → Peeks text j b → step in_name s b ≡ go outside (p ∷ []) → IsEscape text i (record { code_point = p; end = j + 1 })
escape-ends {b = b} {p = p} {s = s} a k h = record {
  word = a.word ++ b ∷ [];
  stands = then a.stands (word_here s (record { stage = outside; gives = p ∷ [] }) a.inside.cut k h);
  spells = spells-more a.word s b p a.inside h;
  unfinished = unfinished-more a.word s b a.inside;
  escaped = backslash-append a.word (b ∷ []) ∙ ap (λ (x : Bool). x || has_backslash (b ∷ [])) a.escaped;
  some = let l = a.some in omega arith;
}

-- whatever a name asks of a code point, no escape sequence stands there
abbrev NoEscape : List ℕ → ℕ → Type 0
NoEscape text i = (test : ℕ → Bool) → NoFrontPasses test (behind text i)

pub escape-cut : {text : List ℕ} {i j : ℕ} {s : Stage} → Begun text i j s → behind text j ≡ [] → NoEscape text i
escape-cut {text = text} {j = j} {s = s} a e test = subst (λ (v : List ℕ). NoFrontPasses test v) (sym a.stands.splits) (refuses-inside test a.word (behind text j) s a.inside (λ y more q. fails-none s (behind text j) y more a.inside.cut e q))

fails-with : {text : List ℕ} {i j c : ℕ} {s : Stage} (rest : List ℕ) → Begun text i j s → behind text j ≡ c ∷ rest → step in_name s c ≡ None → NoEscape text i
fails-with {text = text} {j = j} {c = c} {s = s} rest a b h test = subst (λ (v : List ℕ). NoFrontPasses test v) (sym a.stands.splits) (refuses-inside test a.word (behind text j) s a.inside (λ y more q. fails-at s c rest y more a.inside.cut h (sym b ∙ q)))

pub escape-fails : {text : List ℕ} {i j b : ℕ} {s : Stage} → Begun text i j s → Peeks text j b → step in_name s b ≡ None → NoEscape text i
escape-fails {text = text} {j = j} {b = b} {s = s} a p h = elim (cases_lt b 128) [
  | inl l ↦ fails-with (behind text (j + 1)) a (p.ascii l).splits h
  | inr g ↦ (let t = p.high g in fails-with (behind text (j + len_utf8 t.character)) a t.word.splits (high-fails s t.character a.inside.cut t.high))
]

-- behind a backslash no `u` stands
pub escape-unbegun : {text : List ℕ} {i : ℕ} → Word text i (i + 1) (92 ∷ []) → Finds (λ c. c == 117) text (i + 1) false → NoEscape text i
escape-unbegun {text = text} {i = i} s f = by (behind text (i + 1)) refl
  where
    by : (v : List ℕ) → behind text (i + 1) ≡ v → NoEscape text i
    by [] e = escape-cut (begun-first text i s) e
    by (c ∷ rest) e = let n : (c == 117) ≡ false = sym (ap (begins (λ d. d == 117)) e) ∙ f in fails-with rest (begun-first text i s) e (grind (arith, nat_tests))

pub escape-refused : {text : List ℕ} {i : ℕ} {e : Escape} (test : ℕ → Bool) → IsEscape text i e → test e.code_point ≡ false → NoFrontPasses test (behind text i)
escape-refused {text = text} {e = e} test a n = subst (λ (v : List ℕ). NoFrontPasses test v) (sym a.stands.splits) (refuses-escape test a.word (behind text e.end) e.code_point a.spells a.unfinished n)
