-- What the text of a node stands for. A node is read with the text that it was made for: its span lies in that text and splits no character.
use Rattle.std.specs.Prelude.{◌≡◌, ℕ, ◌-◌, ◌==◌, not, List, [], ◌∷◌, length, take, filter, if◌then◌else◌, Option, Some, None, unwrap_or, chars, encode_utf8_all, slice_range}
use Rattle.std.specs.Char.Utf16.{has_unpaired_surrogate, utf16_lossy_chars}
use Rattle.js_base.specs.part_text.Characters.{one_of}
use Rattle.js_base.specs.part_text.Decoding.{string_units, raw_text}
use Rattle.js_base.specs.declared.kind.Kind.TheVariants.{Str}
use Rattle.js_grammar.specs.NodeNames.{without_sign}
use Rattle.js_grammar.specs.Strings.{string_kind, string_inside}
use Rattle.js_tree.specs.declared.kind.NodeKind.{NodeKind}
use Rattle.js_tree.specs.declared.kind.NodeKind.TheVariants as node
use Rattle.js_tree.specs.Nodes.{Node}

-- the bytes of a text at a node's span
abbrev pub text_of : Node → List ℕ → List ℕ
text_of n source = slice_range source n.span.start n.span.end

-- the name of a node: the one that it keeps, else its text, a `#` aside
abbrev pub name_of : Node → List ℕ → List ℕ
name_of n source = unwrap_or n.name (without_sign (text_of n source))

-- the node's text is a string literal (12.9.4)
abbrev pub IsString : Node → List ℕ → Type 0
IsString n source = string_kind (chars (text_of n source)) ≡ Some Str

-- the code units that a string literal stands for (12.9.4.2)
abbrev pub units_of : Node → List ℕ → Option (List ℕ)
units_of n source = string_units (string_inside (chars (text_of n source)))

-- the text of a template part with CR LF and CR as LF (12.9.6.2), as UTF-8
abbrev pub raw_bytes : Node → List ℕ → List ℕ
raw_bytes n source = encode_utf8_all (raw_text (chars (text_of n source)))

-- a number without `0b`, `0o` or `0x` (12.9.3)
abbrev pub without_prefix : List ℕ → List ℕ
without_prefix [] = []
without_prefix (a ∷ []) = a ∷ []
without_prefix (a ∷ (b ∷ cs)) = if one_of (66 ∷ 98 ∷ 79 ∷ 111 ∷ 88 ∷ 120 ∷ []) b then cs else a ∷ (b ∷ cs)

-- the digits of a big integer: without prefix, separators and the `n` behind them
abbrev pub digits_of : List ℕ → List ℕ
digits_of cs = filter (λ c. not (c == 95)) (take (length (without_prefix cs) - 1) (without_prefix cs))

abbrev pub digit_bytes : Node → List ℕ → List ℕ
digit_bytes n source = encode_utf8_all (digits_of (chars (text_of n source)))

-- the text that code units spell, as UTF-8; none where a surrogate stands alone (11.1.4)
abbrev pub spelled : List ℕ → Option (List ℕ)
spelled units = if has_unpaired_surrogate units then None else Some (encode_utf8_all (utf16_lossy_chars units))

abbrev pub spelled_units : Option (List ℕ) → Option (List ℕ)
spelled_units None = None
spelled_units (Some units) = spelled units

-- the name of a key, as UTF-8: of a name, of a private name without its `#`, or of a string literal without a lone surrogate; none of any other node
abbrev pub key_of : NodeKind → Node → List ℕ → Option (List ℕ)
key_of node.IdentifierName n source = Some (name_of n source)
key_of node.PrivateIdentifier n source = Some (name_of n source)
key_of node.StringLiteral n source = spelled_units (units_of n source)
key_of k n source = None

abbrev pub prop_name_of : Node → List ℕ → Option (List ℕ)
prop_name_of n source = key_of n.kind n source

-- a key that is a string literal has the text of one
abbrev pub IsKey : NodeKind → Node → List ℕ → Type 0
IsKey node.StringLiteral n source = IsString n source
IsKey k n source = Unit {0}
