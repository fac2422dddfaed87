-- Numbers (ECMA-262, 12.9.3), outside strict mode.
use Rattle.std.specs.Prelude.{ℕ, Bool, true, false, not, ◌||◌, List, [], ◌∷◌, ◌==◌, nat_le, Option, Some, None, codes}
use Rattle.std.specs.List.{list_any}
use Rattle.std.specs.Str.{byte}
use Rattle.js_base.specs.declared.kind.Kind.{Kind}
use Rattle.js_base.specs.declared.kind.Kind.TheVariants.{Decimal, Float, Binary, Octal, Hex, PositiveExponential, NegativeExponential, DecimalBigInt, BinaryBigInt, OctalBigInt, HexBigInt}
use Rattle.js_base.specs.Kinds.{one_of_kinds}
use Rattle.js_base.specs.part_text.Characters.{one_of, is_decimal, is_octal, is_binary, is_hex}
use Rattle.js_grammar.specs.Characters.{is_identifier_start, begins}

-- what characters are, as what is left of a number
abbrev pub Rest : Type 0
Rest = List ℕ → Option Kind

abbrev pub ends : Kind → Rest
ends k [] = Some k
ends k (c ∷ cs) = None

-- BigIntLiteralSuffix, or nothing
abbrev pub suffix : Kind → Kind → Rest
suffix k big [] = Some k
suffix k big (c ∷ cs) = elim (c == byte "n") [ true ↦ ends big cs | false ↦ None ]

-- DecimalDigits[+Sep] and its like, and the rest: digits, and between two of them one `_` at most. `digit`: one stands directly before.
abbrev pub digits : (ℕ → Bool) → Rest → Bool → Rest
digits d rest digit [] = elim digit [ true ↦ rest [] | false ↦ None ]
digits d rest digit (c ∷ cs) =
    elim (d c) [
      | true ↦ digits d rest true cs
      | false ↦
          elim digit [ true ↦ elim (c == byte "_") [ true ↦ digits d rest false cs | false ↦ rest (c ∷ cs) ] | false ↦ None ]
    ]

-- SignedInteger
abbrev pub signed : Rest
signed [] = None
signed (c ∷ cs) =
    elim (c == byte "-") [
      | true ↦ digits is_decimal (ends NegativeExponential) false cs
      | false ↦
          elim (c == byte "+") [ true ↦ digits is_decimal (ends PositiveExponential) false cs | false ↦ digits is_decimal (ends PositiveExponential) false (c ∷ cs) ]
    ]

-- ExponentPart, or nothing
abbrev pub exponent : Kind → Rest
exponent k [] = Some k
exponent k (c ∷ cs) = elim (one_of (codes "Ee") c) [ true ↦ signed cs | false ↦ None ]

-- behind the dot of DecimalIntegerLiteral `.`: DecimalDigits or none, ExponentPart or none
abbrev pub fraction : Rest
fraction [] = Some Float
fraction (c ∷ cs) = elim (is_decimal c) [ true ↦ digits is_decimal (exponent Float) true cs | false ↦ exponent Float (c ∷ cs) ]

-- behind a DecimalIntegerLiteral
abbrev pub decimal_rest : Rest
decimal_rest [] = Some Decimal
decimal_rest (c ∷ cs) = elim (c == byte ".") [ true ↦ fraction cs | false ↦ exponent Decimal (c ∷ cs) ]

-- the same, where it doesn't begin with `0` and a digit, so that `n` may follow
abbrev pub integer_rest : Rest
integer_rest [] = Some Decimal
integer_rest (c ∷ cs) = elim (c == byte "n") [ true ↦ ends DecimalBigInt cs | false ↦ decimal_rest (c ∷ cs) ]

-- LegacyOctalIntegerLiteral, and NonOctalDecimalIntegerLiteral with its rest: no `_` between their digits. `above`: an 8 or 9 stands before.
abbrev pub legacy : Bool → Rest
legacy above [] = elim above [ true ↦ Some Decimal | false ↦ Some Octal ]
legacy above (c ∷ cs) =
    elim (is_decimal c) [
      | true ↦ legacy (above || nat_le (byte "8") c) cs
      | false ↦
          elim above [ true ↦ decimal_rest (c ∷ cs) | false ↦ None ]
    ]

-- behind a `0` that begins a number
abbrev pub zero_rest : Rest
zero_rest [] = Some Decimal
zero_rest (c ∷ cs) =
    elim (is_decimal c) [
      | true ↦ legacy (nat_le (byte "8") c) cs
      | false ↦
          elim (one_of (codes "Xx") c) [
            | true ↦ digits is_hex (suffix Hex HexBigInt) false cs
            | false ↦
                elim (one_of (codes "Oo") c) [
                  | true ↦ digits is_octal (suffix Octal OctalBigInt) false cs
                  | false ↦
                      elim (one_of (codes "Bb") c) [ true ↦ digits is_binary (suffix Binary BinaryBigInt) false cs | false ↦ integer_rest (c ∷ cs) ]
                ]
          ]
    ]

-- NumericLiteral: its kind, if the characters are one
abbrev pub number_kind : Rest
number_kind [] = None
number_kind (c ∷ cs) =
    elim (c == byte ".") [
      | true ↦ digits is_decimal (exponent Float) false cs
      | false ↦
          elim (c == byte "0") [
            | true ↦ zero_rest cs
            | false ↦
                elim (is_decimal c) [ true ↦ digits is_decimal integer_rest true cs | false ↦ None ]
          ]
    ]

abbrev pub is_number : Kind → Bool
is_number = one_of_kinds (Decimal ∷ Float ∷ Binary ∷ Octal ∷ Hex ∷ PositiveExponential ∷ NegativeExponential ∷ DecimalBigInt ∷ BinaryBigInt ∷ OctalBigInt ∷ HexBigInt ∷ [])

-- no digit, no beginning of a name and no backslash stands directly behind a number
abbrev pub stops_number : List ℕ → Bool
stops_number rest = not (begins (λ c. is_decimal c || (is_identifier_start c || (c == byte "\\"))) rest)

-- NumericLiteralSeparator: the mark "has a separator", of the characters of a number
abbrev pub has_separator : List ℕ → Bool
has_separator = list_any (λ c. c == byte "_")
