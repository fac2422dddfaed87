-- Classes of characters that escapes speak of (ECMA-262, 12.3, 12.9.3), each character the number of its code point.
use Rattle.std.specs.Prelude.{ℕ, Bool, ◌&&◌, ◌||◌, List, [], ◌∷◌, nat_lt, nat_le, ◌==◌}
use Rattle.std.specs.Char.{is_digit}
use Rattle.std.specs.List.{list_any}

abbrev pub one_of : List ℕ → ℕ → Bool
one_of ds c = list_any (λ d. d == c) ds

-- LineTerminator (12.3): <LF>, <CR>, <LS>, <PS>
abbrev pub is_line_terminator : ℕ → Bool
is_line_terminator = one_of (10 ∷ 13 ∷ 0x2028 ∷ 0x2029 ∷ [])

-- DecimalDigit, OctalDigit, BinaryDigit, HexDigit (12.9.3)
abbrev pub is_decimal : ℕ → Bool
is_decimal c = is_digit c 10

abbrev pub is_octal : ℕ → Bool
is_octal c = is_digit c 8

abbrev pub is_binary : ℕ → Bool
is_binary c = is_digit c 2

abbrev pub is_hex : ℕ → Bool
is_hex c = is_digit c 16

-- a Unicode scalar value: a code point that is no surrogate
abbrev pub is_scalar : ℕ → Bool
is_scalar c = nat_lt c 0xD800 || (nat_le 0xE000 c && nat_le c 0x10_FFFF)
