-- String literals (ECMA-262, 12.9.4), outside strict mode.
use Rattle.std.specs.Prelude.{ℕ, Bool, true, false, not, ◌&&◌, ◌||◌, List, [], ◌∷◌, ◌==◌, Option, Some, None, is_some, take, drop, length, ◌-◌, codes}
use Rattle.std.specs.List.{list_all}
use Rattle.std.specs.Str.{byte}
use Rattle.js_base.specs.declared.kind.Kind.{Kind}
use Rattle.js_base.specs.declared.kind.Kind.TheVariants.{Str}
use Rattle.js_base.specs.part_text.Characters.{one_of}
use Rattle.js_base.specs.part_text.Escapes.{line_feeds}
use Rattle.js_base.specs.part_text.Decoding.{string_points}

abbrev pub nothing_left : List ℕ → Bool
nothing_left = list_all (λ c. false)

-- Behind the opening quote: the first equal quote ends the characters, and no LF stands before it; but one directly behind a backslash counts for neither. `escaped`: a backslash that is none itself stands directly before.
abbrev pub closes_string : ℕ → Bool → List ℕ → Bool
closes_string q escaped [] = false
closes_string q escaped (c ∷ cs) = elim (not escaped && (c == q)) [ true ↦ nothing_left cs | false ↦ (escaped || not (c == byte "\n")) && closes_string q (not escaped && (c == byte "\\")) cs ]

-- what stands between the quotes
abbrev pub string_inside : List ℕ → List ℕ
string_inside w = drop 1 (take (length w - 1) w)

-- StringLiteral: closed, and each of its escapes is well-formed
abbrev pub string_kind : List ℕ → Option Kind
string_kind [] = None
string_kind (q ∷ cs) = elim (one_of (codes "\"'") q && (closes_string q false (line_feeds cs) && is_some (string_points (string_inside (q ∷ cs))))) [ true ↦ Some Str | false ↦ None ]
