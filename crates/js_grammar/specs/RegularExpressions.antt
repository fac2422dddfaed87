-- Regular expressions (ECMA-262, 12.9.5; the flags, 13.2.7.2).
use Rattle.std.specs.Prelude.{ℕ, Bool, true, false, not, ◌&&◌, ◌||◌, List, [], ◌∷◌, ◌==◌, codes, Option, Some, None}
use Rattle.std.specs.List.{list_all}
use Rattle.std.specs.Str.{byte}
use Rattle.js_base.specs.declared.kind.Kind.{Kind}
use Rattle.js_base.specs.declared.kind.Kind.TheVariants.{RegExp}
use Rattle.js_base.specs.part_text.Characters.{one_of, is_line_terminator}
use Rattle.js_grammar.specs.Characters.{is_identifier_part}

-- Behind the opening slash: what stands behind the slash that ends the pattern. That is the first one neither directly behind a backslash nor in brackets.
-- `brackets`: the characters stand in brackets; `escaped`: a backslash that is none itself stands directly before.
abbrev pub behind_pattern : Bool → Bool → List ℕ → Option (List ℕ)
behind_pattern brackets escaped [] = None
behind_pattern brackets escaped (c ∷ cs) =
    elim (is_line_terminator c) [
      | true ↦ None
      | false ↦
          elim (not escaped && (not brackets && (c == byte "/"))) [ true ↦ Some cs | false ↦ behind_pattern (elim escaped [ true ↦ brackets | false ↦ (brackets && not (c == byte "]")) || (c == byte "[") ]) (not escaped && (c == byte "\\")) cs ]
    ]

-- the flags, of all characters from the opening slash on; none where they begin a comment or no slash ends the pattern
abbrev pub flags : List ℕ → Option (List ℕ)
flags [] = None
flags (a ∷ []) = None
flags (a ∷ c ∷ cs) = elim ((a == byte "/") && not (one_of (codes "*/") c)) [ true ↦ behind_pattern false false (c ∷ cs) | false ↦ None ]

-- RegularExpressionLiteral, with any name characters as flags
abbrev pub flagged : Option (List ℕ) → Option Kind
flagged None = None
flagged (Some fs) = elim (list_all is_identifier_part fs) [ true ↦ Some RegExp | false ↦ None ]

abbrev pub regular_expression_kind : List ℕ → Option Kind
regular_expression_kind w = flagged (flags w)

-- each flag is one of `d g i m s u v y`, and stands once
abbrev pub are_flags : List ℕ → Bool
are_flags [] = true
are_flags (f ∷ fs) = (one_of (codes "dgimsuvy") f && not (one_of fs f)) && are_flags fs

abbrev pub flags_pass : Option (List ℕ) → Bool
flags_pass None = false
flags_pass (Some fs) = are_flags fs
