-- Where the word `default` stands behind `export`.
use Rattle.std.proofs.Common.{◌≡◌, ℕ, ◌+◌, ◌≤◌, Bool, true, false, List, [], ◌∷◌, Some, length, refl, ap, sym, ◌∙◌, arith, length-append}
use Rattle.std.specs.Prelude.{chars, encode_utf8, IsUtf8}
use Rattle.std.specs.Char.{len_utf8}
use Rattle.std.specs.declared.str.CharIndices.{CharIndices}
use Rattle.std.specs.Str.Iter.{char_indices_rest, char_indices_offset, char_indices_steps}
use Rattle.std.proofs.lemmas.Bool.{false≢true}
use Rattle.std.proofs.lemmas.Str.{chars_past_char, IsUtf8-past_char, chars-nil, length-encode}
use Rattle.std.proofs.lemmas.List.{nil_from_length}
use Rattle.js_grammar.specs.Modules as def
use Rattle.js_grammar.specs.Modules.{default_from, outside, slash, in_line, in_block, behind_star}
use Rattle.js_record.specs.declared.default_word.Between.{Between}
use Rattle.js_record.specs.Between.{between, next_of, begins}

word_here : (b : def.Between) (at c : ℕ) (cs : List ℕ) → begins b c ≡ true → default_from b at (c ∷ cs) ≡ at
word_here outside at c cs e = ap (λ (x : Bool). elim x [ true ↦ at | false ↦ default_from (next_of outside c) (at + len_utf8 c) cs ]) e
word_here slash at c cs e = absurd (false≢true e)
word_here in_line at c cs e = absurd (false≢true e)
word_here in_block at c cs e = absurd (false≢true e)
word_here behind_star at c cs e = absurd (false≢true e)

word_behind : (b : def.Between) (at c : ℕ) (cs : List ℕ) → begins b c ≡ false → default_from b at (c ∷ cs) ≡ default_from (next_of b c) (at + len_utf8 c) cs
word_behind outside at c cs e = ap (λ (x : Bool). elim x [ true ↦ at | false ↦ default_from (next_of outside c) (at + len_utf8 c) cs ]) e
word_behind slash at c cs e = refl
word_behind in_line at c cs e = refl
word_behind in_block at c cs e = refl
word_behind behind_star at c cs e = refl

-- the characters up to the iterator's place are passed
pub record Along (text : List ℕ) (s : CharIndices) (b : Between) : Type 0 where
  pub utf8 : IsUtf8 (char_indices_rest s)
  pub whole : char_indices_offset s + length (char_indices_rest s) ≡ length text
  pub is : (at : ℕ) → default_from outside at (chars text) ≡ default_from (between b) (at + char_indices_offset s) (chars (char_indices_rest s))

module _ (text : List ℕ) (s t : CharIndices) (b : Between) (place c : ℕ) (l : Along text s b) (h : char_indices_steps s (Some (place, c)) t) where
  next_is : chars (char_indices_rest s) ≡ c ∷ chars (char_indices_rest t)
  next_is = chars_past_char (char_indices_rest s) (char_indices_rest t) c l.utf8 h.1

  pub along_next : (b' : Between) → begins (between b) c ≡ false → between b' ≡ next_of (between b) c → Along text t b'
  along_next b' n e = record {
    utf8 = IsUtf8-past_char (char_indices_rest s) (char_indices_rest t) c l.utf8 h.1;
    whole = (let w = l.whole in let x = ap length h.1 in let y = length-append (encode_utf8 c) (char_indices_rest t) in let z = h.2 in omega arith);
    is = λ at.
        l.is at
        ∙ ap (default_from (between b) (at + char_indices_offset s)) next_is
        ∙ word_behind (between b) (at + char_indices_offset s) c (chars (char_indices_rest t)) n
        ∙ (let z = h.2 in let k = length-encode c in let m : (at + char_indices_offset s) + len_utf8 c ≡ at + char_indices_offset t = omega arith in
        ap (λ (n : ℕ). default_from (next_of (between b) c) n (chars (char_indices_rest t))) m)
        ∙ ap (λ (k : def.Between). default_from k (at + char_indices_offset t) (chars (char_indices_rest t))) (sym e);
  }

  pub along_here : begins (between b) c ≡ true → (at : ℕ) → default_from outside at (chars text) ≡ at + place
  along_here y at = l.is at ∙ ap (default_from (between b) (at + char_indices_offset s)) next_is ∙ word_here (between b) (at + char_indices_offset s) c (chars (char_indices_rest t)) y ∙ ap (λ (n : ℕ). at + n) (sym h.0)

  pub place_within : place ≤ length text
  place_within = let w = l.whole in let z = h.0 in omega arith

pub along_end : (text : List ℕ) (s : CharIndices) (b : Between) (l : Along text s b) → length (char_indices_rest s) ≡ 0 → (at : ℕ) → default_from outside at (chars text) ≡ at + length text
along_end text s b l e at =
    let n : char_indices_rest s ≡ [] = nil_from_length (char_indices_rest s) e in
    l.is at ∙ ap (λ (v : List ℕ). default_from (between b) (at + char_indices_offset s) (chars v)) n ∙ ap (default_from (between b) (at + char_indices_offset s)) chars-nil ∙ ended (between b) (at + char_indices_offset s) ∙ (let w = l.whole in omega arith)
  where
    ended : (b : def.Between) (n : ℕ) → default_from b n [] ≡ n
    ended b n = refl
