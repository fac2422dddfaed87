-- Places in a text: the characters that stand behind one.
use Rattle.std.proofs.Common.{◌≡◌, ◌≤◌, ℕ, ◌+◌, ◌-◌, true, List, [], ◌∷◌, ◌++◌, refl, sym, ap, ◌∙◌, length, drop, arith, length-append, length-drop}
use Rattle.std.specs.Prelude.{chars, encode_utf8_all, IsUtf8}
use Rattle.std.specs.Str.{all_scalars}
use Rattle.std.specs.Char.{len_utf8}
use Rattle.std.proofs.lemmas.Str.{chars-encodes, encodes-append, length-encode, encodes-chars, scalars-chars}
use Rattle.std.proofs.Math.Seq.{drop-append_seam}
use Rattle.js_grammar.specs.Characters.{width}
use Rattle.js_grammar.proofs.LongestLemmas.{both-right}

pub width-is : (cs : List ℕ) → width cs ≡ length (encode_utf8_all cs)
width-is [] = refl
width-is (c ∷ cs) =
    let a : len_utf8 c ≡ length (Rattle.std.specs.Prelude.encode_utf8 c) = sym (length-encode c) in
    let b = width-is cs in
    let d : length (Rattle.std.specs.Prelude.encode_utf8 c ++ encode_utf8_all cs) ≡ length (Rattle.std.specs.Prelude.encode_utf8 c) + length (encode_utf8_all cs) = length-append (Rattle.std.specs.Prelude.encode_utf8 c) (encode_utf8_all cs) in
    omega arith

drop-add : (a b : ℕ) (xs : List ℕ) → drop (a + b) xs ≡ drop b (drop a xs)
drop-add a b xs = sym (Rattle.std.proofs.Math.Seq.drop-drop b a xs)

-- behind the place s the text goes on with these characters
pub record At (text : List ℕ) (s : ℕ) (cs : List ℕ) : Type 0 where
  pub within : s ≤ length text
  pub bytes : drop s text ≡ encode_utf8_all cs
  pub scalars : all_scalars cs ≡ true

pub at-chars : {text : List ℕ} {s : ℕ} {cs : List ℕ} → At text s cs → chars (drop s text) ≡ cs
at-chars {cs = cs} h = ap chars h.bytes ∙ chars-encodes cs h.scalars

pub at-start : (text : List ℕ) → IsUtf8 text → At text 0 (chars text)
at-start text u = record { within = omega arith; bytes = sym (encodes-chars text u); scalars = scalars-chars text u }

scalars-behind : (u v : List ℕ) → all_scalars (u ++ v) ≡ true → all_scalars v ≡ true
scalars-behind [] v h = h
scalars-behind (c ∷ u) v h = scalars-behind u v (both-right _ (all_scalars (u ++ v)) h)

pub at-behind : {text : List ℕ} {s : ℕ} (u v : List ℕ) → At text s (u ++ v) → At text (s + width u) v
at-behind {text = text} {s = s} u v h =
    let e : drop s text ≡ encode_utf8_all u ++ encode_utf8_all v = h.bytes ∙ encodes-append u v in
    let w = width-is u in
    let l : length (drop s text) ≡ length text - s = length-drop s text in
    let m : length (drop s text) ≡ length (encode_utf8_all u) + length (encode_utf8_all v) = ap length e ∙ length-append (encode_utf8_all u) (encode_utf8_all v) in
    let k = h.within in
    record {
      within = omega arith;
      bytes = drop-add s (width u) text ∙ ap (λ (x : List ℕ). drop (width u) x) e ∙ ap (λ (n : ℕ). drop n (encode_utf8_all u ++ encode_utf8_all v)) w ∙ drop-append_seam (encode_utf8_all u) (encode_utf8_all v);
      scalars = scalars-behind u v h.scalars;
    }
