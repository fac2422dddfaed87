-- The first ill-formed escape in the inside of a string literal (ECMA-262, 12.9.4), and what is known once some characters are read.
use Rattle.std.specs.Prelude.{ℕ, ◌≡◌, ◌==◌, Bool, true, false, ◌||◌, List, [], ◌∷◌, ◌++◌, Option, Some, None, is_some, length, encode_utf8_all}
use Rattle.part_text.specs.declared.escape.InvalidEscape.{InvalidEscape}
use Rattle.part_text.specs.declared.escape.Reading.{Reading}
use Rattle.part_text.specs.Escapes.{in_string, Stage, outside, backslash, unicode, nul, due, braced, octal, read_from, finish, line_feeds_after}
use Rattle.part_text.specs.Decoding.{string_points}
use Rattle.part_text.specs.DecodingSteps.{state_of}

-- how many bytes the characters take
abbrev pub bytes_of : List ℕ → ℕ
bytes_of cs = length (encode_utf8_all cs)

-- whether each escape in the inside of a string is well-formed
abbrev pub is_right : List ℕ → Bool
is_right inside = is_some (string_points inside)

-- some characters behind these make an inside in which each escape is well-formed
abbrev pub MayGoOn : List ℕ → Type 0
MayGoOn w = (v : List ℕ) × (is_right (w ++ v) ≡ true)

-- What stands before a backslash is right, and is no more so with the backslash and what stands behind it, however much of it. The span ends before the first character with which nothing can make it right.
pub record IsInvalidEscape (inside : List ℕ) (escape : InvalidEscape) : Type 0 where
  pub before : List ℕ
  pub beginning : List ℕ
  pub rest : List ℕ
  pub splits : inside ≡ before ++ 92 ∷ (beginning ++ rest)
  pub right : is_right before ≡ true
  pub never : (v more : List ℕ) → beginning ++ rest ≡ v ++ more → is_right (before ++ 92 ∷ v) ≡ false
  pub may_go_on : MayGoOn (before ++ 92 ∷ beginning)
  pub stops : (c : ℕ) (more v : List ℕ) → rest ≡ c ∷ more → is_right (before ++ 92 ∷ (beginning ++ c ∷ v)) ≡ false
  pub start : escape.start ≡ bytes_of before
  pub end : escape.end ≡ bytes_of (before ++ 92 ∷ beginning)

-- none where each escape is well-formed, else the first that isn't
abbrev pub TellsEscape : List ℕ → Option InvalidEscape → Type 0
TellsEscape inside None = is_right inside ≡ true
TellsEscape inside (Some escape) = IsInvalidEscape inside escape

-- the characters w end within an escape whose backslash stands at a place
pub record WithinEscape (w : List ℕ) (place : ℕ) : Type 0 where
  pub before : List ℕ
  pub beginning : List ℕ
  pub splits : w ≡ before ++ 92 ∷ beginning
  pub right : is_right before ≡ true
  pub never : (v more : List ℕ) → beginning ≡ v ++ more → is_right (before ++ 92 ∷ v) ≡ false
  pub may_go_on : MayGoOn w
  pub start : place ≡ bytes_of before

-- a string has no escape of its own for NUL, and behind `\u{` alone no value
abbrev pub is_of_string : Stage → Bool
is_of_string outside = true
is_of_string backslash = true
is_of_string unicode = true
is_of_string nul = false
is_of_string (due n v) = true
is_of_string (braced any v) = any || (v == 0)
is_of_string (octal n v) = true

-- After the characters w the stage is known, whether a CR stands last, and the place of the backslash of an escape within which they end.
pub record Reads (w : List ℕ) (stage : Stage) (carriage : Bool) (place : ℕ) : Type 0 where
  pub goes_on : (v : List ℕ) → is_right (w ++ v) ≡ is_some (read_from in_string stage (line_feeds_after carriage v))
  pub of_string : is_of_string stage ≡ true
  pub within : is_some (finish stage) ≡ false → WithinEscape w place

abbrev pub IsRead : List ℕ → Reading → Type 0
IsRead w r = Reads w (state_of r.state) r.after_carriage r.backslash

-- a character more is read, or with it no escape goes on
abbrev pub ReadsOn : List ℕ → Reading → ℕ → Option Reading → Type 0
ReadsOn w r c None = WithinEscape w r.backslash × ((rest : List ℕ) → is_right (w ++ c ∷ rest) ≡ false)
ReadsOn w r c (Some next) = IsRead (w ++ c ∷ []) next

-- the character d counts as c, and others behind it count as ever, after a CR or not
pub record CountsAs (carriage : Bool) (d c : ℕ) (is_carriage : Bool) : Type 0 where
  pub backslash : c ≡ 92 → d ≡ 92
  pub feeds : (v : List ℕ) → line_feeds_after carriage (d ∷ v) ≡ c ∷ line_feeds_after is_carriage v

-- so too where another character stands that counts as c
abbrev pub ReadsAs : Reading → ℕ → ℕ → Bool → Option Reading → Type 0
ReadsAs r place c is_carriage next = (w : List ℕ) (d : ℕ) → place ≡ bytes_of w → IsRead w r → CountsAs r.after_carriage d c is_carriage → ReadsOn w r d next
