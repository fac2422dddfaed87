-- The bytes of a string literal: its quotes and what stands between them.
use Rattle.std.proofs.Common.{◌≡◌, ◌<◌, ◌≤◌, ℕ, suc, ◌+◌, ◌-◌, ◌==◌, true, List, [], ◌∷◌, ◌++◌, refl, sym, ap, ◌∙◌, ◌&&◌, ◌||◌, Some, take, drop, length, get_or, length-append, arith}
use Rattle.std.specs.Prelude.{chars, encode_utf8_all, IsUtf8, IsCharBoundary, slice_range, IsSome}
use Rattle.std.proofs.Math.Utf8.{scalars, scalar}
use Rattle.std.proofs.lemmas.List.{get_or_at, take_at}
use Rattle.std.proofs.lemmas.Str.{encode_ascii, encodes-chars, encodes-append, scalars-chars, chars_from_encodes, IsCharBoundary-after_ascii, IsCharBoundary-before_ascii}
use Rattle.js_base.specs.declared.kind.Kind.TheVariants.{Str}
use Rattle.js_base.specs.part_text.Decoding.{string_points}
use Rattle.js_grammar.specs.Strings.{string_inside, string_kind}
use Rattle.js_grammar.proofs.LongestLemmas.{both-left, both-right, both}
use Rattle.js_grammar.proofs.Quotations.{quotation, quote_low}

-- the bytes of a string literal: those of the quotes and those between them
pub record Literal (bytes : List ℕ) : Type 0 where
  pub quotes : 2 ≤ length bytes
  pub starts_whole : IsCharBoundary bytes 1
  pub ends_whole : IsCharBoundary bytes (length bytes - 1)
  pub inside : (part : List ℕ) → part ≡ slice_range bytes 1 (length bytes - 1) → chars part ≡ string_inside (chars bytes)
  pub right : IsSome (string_points (string_inside (chars bytes)))

scalars-front : (w v : List ℕ) → scalars (w ++ v) ≡ true → scalars w ≡ true
scalars-front [] v h = refl
scalars-front (c ∷ w) v h = both (scalar c) (scalars w) (both-left (scalar c) (scalars (w ++ v)) h) (scalars-front w v (both-right (scalar c) (scalars (w ++ v)) h))

pub literal : (bytes : List ℕ) → IsUtf8 bytes → string_kind (chars bytes) ≡ Some Str → Literal bytes
literal bytes u h =
    let s = quotation (chars bytes) h in
    let q = s.quote in
    let v = s.inside in
    let low = quote_low q s.is_quote in
    let b = encode_utf8_all v in
    let all : bytes ≡ q ∷ (b ++ q ∷ []) = sym (encodes-chars bytes u) ∙ ap encode_utf8_all s.splits ∙ ap (λ (x : List ℕ). x ++ encode_utf8_all (v ++ q ∷ [])) (encode_ascii q low) ∙ ap (λ (x : List ℕ). q ∷ x) (encodes-append v (q ∷ []) ∙ ap (λ (x : List ℕ). b ++ x) (ap (λ (x : List ℕ). x ++ []) (encode_ascii q low))) in
    let m : length bytes ≡ suc (length b + 1) = ap length all ∙ ap suc (length-append b (q ∷ [])) in
    let first : get_or bytes 0 0 ≡ q = ap (λ (x : List ℕ). get_or x 0 0) all in
    let last : get_or bytes (length bytes - 1) 0 ≡ q = ap (λ (x : List ℕ). get_or x (length bytes - 1) 0) all ∙ get_or_at (q ∷ b) q [] 0 (length bytes - 1) (omega arith) in
    let n : (length bytes - 1) - 1 ≡ length b = omega arith in
    let part_is : slice_range bytes 1 (length bytes - 1) ≡ b = ap (λ (x : ℕ). take x (drop 1 bytes)) n ∙ ap (λ (x : List ℕ). take (length b) (drop 1 x)) all ∙ take_at b (q ∷ []) (length b) refl in
    let fine : scalars v ≡ true = scalars-front v (q ∷ []) (both-right (scalar q) (scalars (v ++ q ∷ [])) (sym (ap scalars s.splits) ∙ scalars-chars bytes u)) in
    record {
      quotes = omega arith;
      starts_whole = IsCharBoundary-after_ascii bytes 0 u (omega arith) (omega arith);
      ends_whole = IsCharBoundary-before_ascii bytes (length bytes - 1) (omega arith) (omega arith);
      inside = λ part p. sym (chars_from_encodes v part (v, (fine, sym (p ∙ part_is))) (sym (p ∙ part_is))) ∙ sym s.same;
      right = s.right;
    }
