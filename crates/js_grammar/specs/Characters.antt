-- Characters of a source text (ECMA-262, 11.1, 12.2, 12.3, 12.7), each the number of its code point.
use Rattle.std.specs.Prelude.{ℕ, ◌+◌, Bool, true, false, ◌||◌, List, [], ◌∷◌, nat_lt, codes}
use Rattle.std.specs.Char.{is_ascii_alphabetic, is_ascii_alphanumeric, len_utf8}
use Rattle.std.specs.List.{list_any}
use Rattle.std.specs.Str.{byte}
use Rattle.js_base.specs.part_text.Characters.{one_of, is_line_terminator}
use Rattle.unicode.specs.Binary.{is_id_start, is_id_continue}
use Rattle.ucd_category.specs.GeneralCategory.{general_category, general_category_eq}
use Rattle.ucd_category.specs.declared.GeneralCategory.TheVariants.{SpaceSeparator}

-- how many bytes the characters take
abbrev pub width : List ℕ → ℕ
width [] = 0
width (c ∷ cs) = len_utf8 c + width cs

-- WhiteSpace (12.2): <TAB>, <VT>, <FF>, <SP>, <ZWNBSP>, and beyond ASCII the category Zs. Among ASCII it has the space alone.
abbrev pub is_white_space : ℕ → Bool
is_white_space c = one_of (byte "\t" ∷ byte "\u{b}" ∷ byte "\u{c}" ∷ byte " " ∷ 0xFEFF ∷ []) c || elim (nat_lt c 128) [ true ↦ false | false ↦ general_category_eq (general_category c) SpaceSeparator ]

abbrev pub has_line_terminator : List ℕ → Bool
has_line_terminator = list_any is_line_terminator

-- IdentifierStartChar (12.7): ID_Start, `$`, `_`. Among ASCII, ID_Start has the letters alone.
abbrev pub is_identifier_start : ℕ → Bool
is_identifier_start c = one_of (codes "$_") c || elim (nat_lt c 128) [ true ↦ is_ascii_alphabetic c | false ↦ is_id_start c ]

-- IdentifierPartChar (12.7): ID_Continue, `$`, <ZWNJ>, <ZWJ>. Among ASCII, ID_Continue has letters, digits and `_` alone.
abbrev pub is_identifier_part : ℕ → Bool
is_identifier_part c = one_of (byte "$" ∷ byte "_" ∷ 0x200C ∷ 0x200D ∷ []) c || elim (nat_lt c 128) [ true ↦ is_ascii_alphanumeric c | false ↦ is_id_continue c ]

-- the first character passes
abbrev pub begins : (ℕ → Bool) → List ℕ → Bool
begins p [] = false
begins p (c ∷ cs) = p c
