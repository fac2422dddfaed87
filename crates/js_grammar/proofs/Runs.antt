-- Characters of ASCII, and tests that no character passes.
use Rattle.std.proofs.Common.{◌≡◌, ◌<◌, ℕ, zero, suc, Bool, true, false, List, [], ◌∷◌, refl, length, arith}
use Rattle.std.specs.Prelude.{slice_index, IsAscii}
use Rattle.std.specs.List.{list_all, list_any}
use Rattle.std.proofs.lemmas.Str.{len_utf8_ascii}
use Rattle.js_grammar.specs.Characters.{width}
use Rattle.js_grammar.proofs.LongestLemmas.{both-left, both-right}
use Rattle.js_grammar.proofs.CoreFirst.{lt-true}

abbrev pub ascii_byte : ℕ → Bool
ascii_byte c = Rattle.std.specs.Prelude.nat_lt c 128

pub is_ascii_list : (xs : List ℕ) → list_all ascii_byte xs ≡ true → IsAscii xs
is_ascii_list [] h i = lt_zero i
  where
    lt_zero : (i : ℕ) → slice_index [] i < 128
    lt_zero zero = omega arith
    lt_zero (suc i) = omega arith
is_ascii_list (x ∷ xs) h zero = lt-true x 128 (both-left (ascii_byte x) (list_all ascii_byte xs) h)
is_ascii_list (x ∷ xs) h (suc i) = is_ascii_list xs (both-right (ascii_byte x) (list_all ascii_byte xs) h) i

pub ascii_width : (xs : List ℕ) → list_all ascii_byte xs ≡ true → width xs ≡ length xs
ascii_width [] h = refl
ascii_width (x ∷ xs) h =
    let a = len_utf8_ascii x (lt-true x 128 (both-left (ascii_byte x) (list_all ascii_byte xs) h)) in
    let b = ascii_width xs (both-right (ascii_byte x) (list_all ascii_byte xs) h) in
    omega arith

pub none-any : (p t : ℕ → Bool) (xs : List ℕ) → ((c : ℕ) → t c ≡ true → p c ≡ false) → list_all t xs ≡ true → list_any p xs ≡ false
none-any p t [] f h = refl
none-any p t (x ∷ xs) f h = rw (f x (both-left (t x) (list_all t xs) h)) (none-any p t xs f (both-right (t x) (list_all t xs) h))
