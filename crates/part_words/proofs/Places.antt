-- Words between places of a text, and the characters that bytes tell.
use Rattle.std.proofs.Common.{◌≡◌, ◌≤◌, ◌<◌, ℕ, ◌+◌, List, [], ◌∷◌, ◌++◌, refl, sym, ap, subst, ◌∙◌, length, drop, arith, length-drop, Option, Some, None, ◌⊎◌, inl, inr, append_assoc, take, nat_lt, false, true, ◌==◌}
use Rattle.std.specs.Prelude.{chars, encode_utf8, encode_utf8_all, IsUtf8, IsCharBoundary, slice_index, slice_get}
use Rattle.std.specs.Char.{len_utf8}
use Rattle.std.proofs.lemmas.Str.{IsUtf8-drop, IsCharBoundary-past_char, drop_past_char, chars_past_char, chars-nil, encode_ascii, len_utf8_ascii, encodes-chars, byte_from_char}
use Rattle.std.specs.List.{list_all}
use Rattle.std.proofs.lemmas.List.{drop_more, take_more, take_all, get_or-drop}
use Rattle.js_grammar.specs.CoreTexts.{starts}
use Rattle.js_grammar.proofs.Runs.{is_ascii_list, ascii_width}
use Rattle.std.proofs.lemmas.Bool.{cases_lt, eqb-true}
use Rattle.js_grammar.specs.Characters.{width}
use Rattle.js_grammar.specs.LexicalFaults.{behind}
use Rattle.part_words.specs.Places.{Word, High, Peeks, PeeksAt, ReadsAt, Finds}

pub width-append : (u v : List ℕ) → width (u ++ v) ≡ width u + width v
width-append [] v = omega arith
width-append (c ∷ u) v = let e = width-append u v in omega arith

-- nothing stands between a place and itself
pub none_passed : (text : List ℕ) (i : ℕ) → IsCharBoundary text i → Word text i i []
none_passed text i b = record { boundary = b; splits = refl; end = omega arith }

-- what stands up to a place, and on from there
pub then : {text : List ℕ} {i j k : ℕ} {w v : List ℕ} → Word text i j w → Word text j k v → Word text i k (w ++ v)
then {text = text} {k = k} {w = w} {v = v} a b = record {
  boundary = b.boundary;
  splits = a.splits ∙ ap (λ (x : List ℕ). w ++ x) b.splits ∙ sym (append_assoc w v (behind text k));
  end = let e = a.end in let f = b.end in let g = width-append w v in omega arith;
}

-- the character that the bytes at a place spell
pub one_character : (text : List ℕ) (i c : ℕ) (rest : List ℕ) → IsUtf8 text → IsCharBoundary text i → drop i text ≡ encode_utf8 c ++ rest → Word text i (i + len_utf8 c) (c ∷ [])
one_character text i c rest u b e =
    let v : IsUtf8 (drop i text) = IsUtf8-drop text i u b in
    record {
      boundary = IsCharBoundary-past_char text rest i c b.0 v e;
      splits = chars_past_char (drop i text) rest c v e ∙ ap (λ (x : List ℕ). c ∷ chars x) (sym (drop_past_char text rest i c e));
      end = omega arith;
    }

nothing_left : (text : List ℕ) (i : ℕ) → length text ≤ i → drop i text ≡ []
nothing_left text i h = empty (drop i text) (let e = length-drop i text in omega arith)
  where
    empty : (xs : List ℕ) → length xs ≡ 0 → xs ≡ []
    empty [] e = refl
    empty (x ∷ xs) e = absurd (omega arith)

pub at_end : (text : List ℕ) (i : ℕ) → length text ≤ i → behind text i ≡ []
at_end text i h = ap chars (nothing_left text i h) ∙ chars-nil

pub ascii_word : (text : List ℕ) (i : ℕ) → IsUtf8 text → IsCharBoundary text i → i < length text → slice_index text i < 128 → Word text i (i + 1) (slice_index text i ∷ [])
ascii_word text i u b w h =
    let e : drop i text ≡ encode_utf8 (slice_index text i) ++ drop (i + 1) text = drop_more text i 0 w ∙ ap (λ (x : List ℕ). x ++ drop (i + 1) text) (sym (encode_ascii (slice_index text i) h)) in
    subst (λ (n : ℕ). Word text i (i + n) (slice_index text i ∷ [])) (len_utf8_ascii (slice_index text i) h) (one_character text i (slice_index text i) (drop (i + 1) text) u b e)

-- the first character of bytes
first_of : (text : List ℕ) (i : ℕ) (cs : List ℕ) → IsUtf8 text → IsCharBoundary text i → i < length text → encode_utf8_all cs ≡ drop i text → (c : ℕ) × (rest : List ℕ) × (drop i text ≡ encode_utf8 c ++ rest)
first_of text i [] u b w e = absurd (let l : length (drop i text) ≡ 0 = sym (ap length e) in let m = length-drop i text in omega arith)
first_of text i (c ∷ cs) u b w e = (c, encode_utf8_all cs, sym e)

high_word : (text : List ℕ) (i : ℕ) → IsUtf8 text → IsCharBoundary text i → i < length text → 128 ≤ slice_index text i → High text i
high_word text i u b w h =
    let f = first_of text i (chars (drop i text)) u b w (encodes-chars (drop i text) (IsUtf8-drop text i u b)) in
    record { character = f.0; high = is_high f.0 f.1 f.2 (cases_lt f.0 128); word = one_character text i f.0 f.1 u b f.2 }
  where
    is_high : (c : ℕ) (rest : List ℕ) → drop i text ≡ encode_utf8 c ++ rest → (c < 128) ⊎ (128 ≤ c) → 128 ≤ c
    is_high c rest e (inr g) = g
    is_high c rest e (inl l) = absurd (let a : slice_index (drop i text) 0 ≡ c = byte_from_char (drop i text) rest c e l in let d : slice_index (drop i text) 0 ≡ slice_index text (i + 0) = get_or-drop i text 0 0 in let z : i + 0 ≡ i = omega arith in let y : slice_index text (i + 0) ≡ slice_index text i = ap (λ (n : ℕ). slice_index text n) z in omega arith)

pub peeks : (text : List ℕ) (i : ℕ) → IsUtf8 text → IsCharBoundary text i → i < length text → Peeks text i (slice_index text i)
peeks text i u b w = record { within = w; ascii = ascii_word text i u b w; high = high_word text i u b w }

pub reads : (text : List ℕ) (i : ℕ) (r : Option ℕ) → IsUtf8 text → IsCharBoundary text i → r ≡ slice_get (behind text i) 0 → ReadsAt text i r
reads text i r u b e = by (behind text i) refl r e
  where
    by : (cs : List ℕ) → behind text i ≡ cs → (r : Option ℕ) → r ≡ slice_get cs 0 → ReadsAt text i r
    by [] q None e = q
    by [] q (Some c) e = absurd (let k = e in cc)
    by (c ∷ cs) q None e = absurd (let k = e in cc)
    by (c ∷ cs) q (Some d) e =
        let same : d ≡ c = let k = e in cc in
        let v : IsUtf8 (drop i text) = IsUtf8-drop text i u b in
        let s : drop i text ≡ encode_utf8 c ++ encode_utf8_all cs = sym (encodes-chars (drop i text) v) ∙ ap encode_utf8_all q in
        subst (λ (x : ℕ). Word text i (i + len_utf8 x) (x ∷ [])) (sym same) (one_character text i c (encode_utf8_all cs) u b s)

-- the character that was asked for stands there
pub found : {text : List ℕ} {i : ℕ} (b : ℕ) → Finds (λ c. c == b) text i true → Word text i (i + 1) (b ∷ [])
found {text = text} {i = i} b f = subst (λ (c : ℕ). Word text i (i + 1) (c ∷ [])) (eqb-true f.0 b f.2) f.1

-- ---- to go on with some ASCII characters

starts_same : (x : ℕ) (xs cs : List ℕ) → starts (x ∷ xs) (x ∷ cs) ≡ starts xs cs
starts_same x xs cs = rw (Rattle.std.proofs.lemmas.Bool.eq-eqb x x refl) refl

pub goes_step : (text xs : List ℕ) (at end k b : ℕ) → list_all (λ c. nat_lt c 128) xs ≡ true → k < length xs → b ≡ slice_index xs k → Peeks text end b → Word text at end (take k xs) → starts xs (behind text at) ≡ starts (drop k xs) (behind text end)
    → Word text at (end + 1) (take (k + 1) xs) × (starts xs (behind text at) ≡ starts (drop (k + 1) xs) (behind text (end + 1)))
goes_step text xs at end k b h l e p w s =
    let x = slice_index xs k in
    let below = is_ascii_list xs h k in
    let one : Word text end (end + 1) (x ∷ []) = subst (λ (v : ℕ). Word text end (end + 1) (v ∷ [])) e (p.ascii (omega arith)) in (
      subst (λ (v : List ℕ). Word text at (end + 1) v) (sym (take_more xs k 0 l)) (then w one),
      s ∙ ap (λ (v : List ℕ). starts v (behind text end)) (drop_more xs k 0 l) ∙ ap (λ (v : List ℕ). starts (x ∷ drop (k + 1) xs) v) one.splits ∙ starts_same x (drop (k + 1) xs) (behind text (end + 1)),
    )

differs : (x c : ℕ) → (x ≡ c → ⊥) → (xs cs : List ℕ) → starts (x ∷ xs) (c ∷ cs) ≡ false
differs x c n xs cs = rw (Rattle.std.proofs.lemmas.Bool.ne_eqb x c n) refl

-- another byte stands there, or none
pub goes_stop : (text xs : List ℕ) (at end k : ℕ) (r : Option ℕ) → list_all (λ c. nat_lt c 128) xs ≡ true → k < length xs → PeeksAt text end r → (r ≡ Some (slice_index xs k) → ⊥) → starts xs (behind text at) ≡ starts (drop k xs) (behind text end) → starts xs (behind text at) ≡ false
goes_stop text xs at end k r h l p n s = s ∙ ap (λ (v : List ℕ). starts v (behind text end)) (drop_more xs k 0 l) ∙ by r p n
  where
    x : ℕ
    x = slice_index xs k

    high : (b : ℕ) → Peeks text end b → (b < 128) ⊎ (128 ≤ b) → (b ≡ x → ⊥) → starts (x ∷ drop (k + 1) xs) (behind text end) ≡ false
    high b p (inl below) n = let w = p.ascii below in ap (λ (v : List ℕ). starts (x ∷ drop (k + 1) xs) v) w.splits ∙ differs x b (λ e. n (sym e)) (drop (k + 1) xs) (behind text (end + 1))
    high b p (inr above) n =
        let g = p.high above in
        let below = is_ascii_list xs h k in
        ap (λ (v : List ℕ). starts (x ∷ drop (k + 1) xs) v) g.word.splits ∙ differs x g.character (λ e. let a = g.high in omega arith) (drop (k + 1) xs) (behind text (end + len_utf8 g.character))

    by : (r : Option ℕ) → PeeksAt text end r → (r ≡ Some x → ⊥) → starts (x ∷ drop (k + 1) xs) (behind text end) ≡ false
    by None p n = ap (λ (v : List ℕ). starts (x ∷ drop (k + 1) xs) v) p
    by (Some b) p n = high b p (cases_lt b 128) (λ e. n (ap Some e))

pub goes_all : (text xs : List ℕ) (at end k : ℕ) → list_all (λ c. nat_lt c 128) xs ≡ true → length xs ≤ k → Word text at end (take k xs) → Word text at (at + length xs) xs
goes_all text xs at end k h l w =
    let v : Word text at end xs = subst (λ (x : List ℕ). Word text at end x) (take_all k xs l) w in
    let e : end ≡ at + length xs = (let a = v.end in let b = ascii_width xs h in omega arith) in
    subst (λ (n : ℕ). Word text at n xs) e v
