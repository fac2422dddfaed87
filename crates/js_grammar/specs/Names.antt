-- Names and keywords (ECMA-262, 12.7).
use Rattle.std.specs.Prelude.{ℕ, Bool, true, false, ◌&&◌, List, [], ◌∷◌, ◌==◌, Option, Some, None}
use Rattle.std.specs.List.{list_all, list_any}
use Rattle.std.specs.Str.{byte}
use Rattle.js_base.specs.declared.kind.Kind.{Kind}
use Rattle.js_base.specs.declared.kind.Kind.TheVariants.{PrivateIdentifier}
use Rattle.js_base.specs.Keywords.{keyword_of}
use Rattle.js_grammar.specs.Characters.{is_identifier_start, is_identifier_part}
use Rattle.js_base.specs.part_text.Escapes.{in_name, code_points}

-- IdentifierStart and IdentifierParts, of code points
abbrev pub is_plain_name : List ℕ → Bool
is_plain_name [] = false
is_plain_name (c ∷ cs) = is_identifier_start c && list_all is_identifier_part cs

-- The word that characters spell, if they are an IdentifierName: each of its code points may stand where it stands, as an escape too (12.7.1.1).
abbrev pub named : Option (List ℕ) → Option (List ℕ)
named None = None
named (Some cs) = elim (is_plain_name cs) [ true ↦ Some cs | false ↦ None ]

abbrev pub name_of : List ℕ → Option (List ℕ)
name_of w = named (code_points in_name w)

abbrev pub has_backslash : List ℕ → Bool
has_backslash = list_any (λ c. c == byte "\\")

-- the kind that characters have as a name: that of the word that they spell, its own in the keyword table
abbrev pub word_of : Option (List ℕ) → Option Kind
word_of None = None
word_of (Some cs) = Some (keyword_of cs)

abbrev pub name_kind : List ℕ → Option Kind
name_kind w = word_of (name_of w)

-- PrivateIdentifier: `#` and a name
abbrev pub private_of : Option (List ℕ) → Option Kind
private_of None = None
private_of (Some cs) = Some PrivateIdentifier

abbrev pub private_kind : List ℕ → Option Kind
private_kind [] = None
private_kind (c ∷ cs) = elim (c == byte "#") [ true ↦ private_of (name_of cs) | false ↦ None ]
