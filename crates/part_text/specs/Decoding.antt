-- What the inside of a string literal, the inside of a template part and a name stand for (ECMA-262, 12.7, 12.9.4, 12.9.6), outside strict mode.
use Rattle.std.specs.Prelude.{ℕ, Bool, true, false, List, Option, Some, None, option_map}
use Rattle.std.specs.List.{list_all, flat_map}
use Rattle.std.specs.Char.{encode_utf8}
use Rattle.part_text.specs.Characters.{is_scalar}
use Rattle.part_text.specs.Escapes.{in_string, in_template, in_name, line_feeds, code_points, code_units}

-- the code points that the inside of a string stands for (12.9.4.2), or none where an escape is ill-formed
abbrev pub string_points : List ℕ → Option (List ℕ)
string_points inside = code_points in_string (line_feeds inside)

-- the code units that the inside of a string stands for: its SV
abbrev pub string_units : List ℕ → Option (List ℕ)
string_units inside = option_map code_units (string_points inside)

-- the raw text of a part, of its inside (12.9.6.2)
abbrev pub raw_text : List ℕ → List ℕ
raw_text = line_feeds

-- the code units that a part stands for, of its inside, or none where an escape is ill-formed
abbrev pub cooked : List ℕ → Option (List ℕ)
cooked inside = option_map code_units (code_points in_template (raw_text inside))

-- the code points that a name stands for: IdentifierCodePoints (12.7.1.2), or none where an escape is ill-formed
abbrev pub name_points : List ℕ → Option (List ℕ)
name_points = code_points in_name

-- the bytes where the test holds, else none
abbrev pub only_if : Bool → List ℕ → Option (List ℕ)
only_if true bs = Some bs
only_if false bs = None

-- the UTF-8 of code points, or none where one is a surrogate
abbrev pub utf8_of : Option (List ℕ) → Option (List ℕ)
utf8_of None = None
utf8_of (Some cs) = only_if (list_all is_scalar cs) (flat_map encode_utf8 cs)

-- the UTF-8 of the characters that a name stands for, or none where an escape is ill-formed or names a surrogate
abbrev pub name_text : List ℕ → Option (List ℕ)
name_text name = utf8_of (name_points name)
