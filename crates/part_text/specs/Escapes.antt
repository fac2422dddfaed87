-- Escapes, and the code points that the inside of a name, a string or a template part stands for (ECMA-262, 12.7, 12.9.4, 12.9.6).
use Rattle.std.specs.Prelude.{ℕ, ◌+◌, ◌-◌, ◌*◌, Bool, true, false, ◌&&◌, List, [], ◌∷◌, ◌++◌, ◌==◌, nat_le, nat_lt, Option, Some, None, option_map, unwrap_or, flat_map}
use Rattle.std.specs.List.{find}
use Rattle.std.specs.Str.{byte}
use Rattle.std.specs.Char.{digit_value}
use Rattle.std.specs.Char.Escape.{encode_utf16}
use Rattle.part_text.specs.Characters.{is_line_terminator, is_hex, is_octal, is_decimal}

-- A LineTerminatorSequence (12.3) of CR and LF is one, and CR counts as LF. `carriage`: a CR stands directly before.
abbrev pub line_feeds_after : Bool → List ℕ → List ℕ
line_feeds_after carriage [] = []
line_feeds_after carriage (c ∷ cs) =
    elim (c == byte "\r") [
      | true ↦ byte "\n" ∷ line_feeds_after true cs
      | false ↦
          elim (carriage && (c == byte "\n")) [ true ↦ line_feeds_after false cs | false ↦ c ∷ line_feeds_after false cs ]
    ]

abbrev pub line_feeds : List ℕ → List ℕ
line_feeds = line_feeds_after false

-- in a name `\u` alone begins an escape; in a string an octal digit does too, as outside strict mode (12.9.4); in a template `\0` does where no digit follows (12.9.6)
pub data Where : Type 0 where
  in_name in_string in_template : Where

-- what stands directly before a character
pub data Stage : Type 0 where
  -- no part of an escape
  outside : Stage
  -- a backslash; a backslash and `u`; in a template, a backslash and `0`
  backslash unicode nul : Stage
  -- an escape of which so many hexadecimal digits are due, and the value of those before
  due : ℕ → ℕ → Stage
  -- `\u{`, whether a digit stands behind it, and the value of the digits
  braced : Bool → ℕ → Stage
  -- a backslash and an octal digit or two, how many more may follow, and the value of those before
  octal : ℕ → ℕ → Stage

-- a stage, and the code points that are complete
pub record Step : Type 0 where
  pub stage : Stage
  pub gives : List ℕ

abbrev pub go : Stage → List ℕ → Option Step
go s out = Some (record { stage = s; gives = out })

abbrev pub plainly : ℕ → Option Step
plainly c = elim (c == byte "\\") [ true ↦ go backslash [] | false ↦ go outside (c ∷ []) ]

-- SingleEscapeCharacter, and what it stands for: `b` `t` `n` `v` `f` `r`
abbrev pub single_escapes : List (ℕ × ℕ)
single_escapes = (byte "b", byte "\u{8}") ∷ (byte "t", byte "\t") ∷ (byte "n", byte "\n") ∷ (byte "v", byte "\u{b}") ∷ (byte "f", byte "\u{c}") ∷ (byte "r", byte "\r") ∷ []

-- any other character stands for itself
abbrev pub single_escape : ℕ → ℕ
single_escape c = unwrap_or (option_map (λ e. e.1) (find (λ e. e.0 == c) single_escapes)) c

-- `\x` and two digits, `\u`; a backslash before a line terminator gives nothing
abbrev pub begun_single : ℕ → Option Step
begun_single c = go outside (single_escape c ∷ [])

abbrev pub begun_line : ℕ → Option Step
begun_line c = elim (is_line_terminator c) [ true ↦ go outside [] | false ↦ begun_single c ]

abbrev pub begun_hex : ℕ → Option Step
begun_hex c = elim (c == byte "x") [ true ↦ go (due 2 0) [] | false ↦ begun_line c ]

abbrev pub begun_unicode : ℕ → Option Step
begun_unicode c = elim (c == byte "u") [ true ↦ go unicode [] | false ↦ begun_hex c ]

-- the character behind a backslash
abbrev pub begun : Where → ℕ → Option Step
begun in_name c = elim (c == byte "u") [ true ↦ go unicode [] | false ↦ None ]
begun in_string c = elim (is_octal c) [ true ↦ go (octal (elim (nat_lt c (byte "4")) [ true ↦ 2 | false ↦ 1 ]) (digit_value c)) [] | false ↦ begun_unicode c ]
begun in_template c = elim (is_decimal c) [ true ↦ elim (c == byte "0") [ true ↦ go nul [] | false ↦ None ] | false ↦ begun_unicode c ]

-- the stage and the code points after one character more, or none where no escape goes on so
abbrev pub step : Where → Stage → ℕ → Option Step
step w outside c = plainly c
step w backslash c = begun w c
step w unicode c =
    elim (c == byte "{") [
      | true ↦ go (braced false 0) []
      | false ↦
          elim (is_hex c) [ true ↦ go (due 3 (digit_value c)) [] | false ↦ None ]
    ]
step w nul c =
    elim (is_decimal c) [
      | true ↦ None
      | false ↦
          elim (c == byte "\\") [ true ↦ go backslash (0 ∷ []) | false ↦ go outside (0 ∷ c ∷ []) ]
    ]
step w (due n v) c = elim (is_hex c) [ true ↦ elim (nat_le n 1) [ true ↦ go outside ((v * 16 + digit_value c) ∷ []) | false ↦ go (due (n - 1) (v * 16 + digit_value c)) [] ] | false ↦ None ]
step w (braced any v) c =
    elim (is_hex c && nat_le (v * 16 + digit_value c) 0x10_FFFF) [
      | true ↦ go (braced true (v * 16 + digit_value c)) []
      | false ↦
          elim (any && (c == byte "}")) [ true ↦ go outside (v ∷ []) | false ↦ None ]
    ]
step w (octal n v) c =
    elim (is_octal c && nat_lt 0 n) [
      | true ↦ go (octal (n - 1) (v * 8 + digit_value c)) []
      | false ↦
          elim (c == byte "\\") [ true ↦ go backslash (v ∷ []) | false ↦ go outside (v ∷ c ∷ []) ]
    ]

-- the code points that the end of the inside completes, or none where it cuts an escape off
abbrev pub finish : Stage → Option (List ℕ)
finish outside = Some []
finish backslash = None
finish unicode = None
finish nul = Some (0 ∷ [])
finish (due n v) = None
finish (braced any v) = None
finish (octal n v) = Some (v ∷ [])

abbrev pub before_all : List ℕ → Option (List ℕ) → Option (List ℕ)
before_all out None = None
before_all out (Some cs) = Some (out ++ cs)

-- the code points that characters stand for from a stage on, or none where an escape among them is ill-formed
abbrev pub read_from : Where → Stage → List ℕ → Option (List ℕ)
read_from w s [] = finish s
read_from w s (c ∷ cs) = elim (step w s c) [ None ↦ None | Some t ↦ before_all t.gives (read_from w t.stage cs) ]

abbrev pub code_points : Where → List ℕ → Option (List ℕ)
code_points w cs = read_from w outside cs

-- UTF16EncodeCodePoint (11.1.1), of each
abbrev pub code_units : List ℕ → List ℕ
code_units cs = flat_map encode_utf16 cs
