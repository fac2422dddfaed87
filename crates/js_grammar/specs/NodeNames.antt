-- What names and strings of a tree stand for, of the text that it was read from.
use Rattle.std.specs.Prelude.{ℕ, ◌≡◌, ◌==◌, List, [], ◌∷◌, Option, Some, None, IsSome, if◌then◌else◌, chars, encode_utf8_all, slice_range, unwrap_or}
use Rattle.std.specs.Char.Utf16.{has_unpaired_surrogate, utf16_lossy_chars}
use Rattle.js_base.specs.part_text.Decoding.{string_units, name_text}
use Rattle.js_base.specs.declared.kind.Kind.TheVariants.{Str}
use Rattle.js_base.specs.declared.span.Span.{Span}
use Rattle.js_base.specs.Spans.{LiesIn}
use Rattle.js_grammar.specs.Strings.{string_inside, string_kind}
use Rattle.js_grammar.specs.Trees.{NodeKind, string_literal, identifier_reference, binding_identifier, label_identifier, identifier_name, private_identifier, Label, Slots, end, hole, tree}

-- the characters at a node's span
abbrev pub characters_at : List ℕ → Label → List ℕ
characters_at text l = chars (slice_range text l.span.from l.span.to)

-- code units as UTF-8, or none where a lone surrogate is among them (11.1.4)
abbrev pub utf8_of_units : Option (List ℕ) → Option (List ℕ)
utf8_of_units None = None
utf8_of_units (Some us) = if has_unpaired_surrogate us then None else Some (encode_utf8_all (utf16_lossy_chars us))

-- the value of a string literal (12.9.4.2), as UTF-8
abbrev pub string_at : List ℕ → Label → Option (List ℕ)
string_at text l = utf8_of_units (string_units (string_inside (characters_at text l)))

-- the same of a node; none where it is no string literal
abbrev pub string_by : NodeKind → List ℕ → Label → Option (List ℕ)
string_by string_literal text l = string_at text l
string_by _ text l = None

-- the bytes without the `#` before a private name (12.7)
abbrev pub without_sign : List ℕ → List ℕ
without_sign [] = []
without_sign (b ∷ bs) = if b == 35 then bs else b ∷ bs

-- the StringValue of a name (12.7.1), a `#` aside
abbrev pub word_at : List ℕ → Label → Option (List ℕ)
word_at text l = name_text (chars (without_sign (slice_range text l.span.from l.span.to)))

-- what a node stands for as a name: the StringValue of a name, or the value of a string literal (16.2.1); no other node is one
abbrev pub name_by : NodeKind → List ℕ → Label → Option (List ℕ)
name_by identifier_reference text l = word_at text l
name_by binding_identifier text l = word_at text l
name_by label_identifier text l = word_at text l
name_by identifier_name text l = word_at text l
name_by private_identifier text l = word_at text l
name_by string_literal text l = string_at text l
name_by _ text l = None

abbrev pub name_at : List ℕ → Label → List ℕ
name_at text l = unwrap_or (name_by l.kind text l) []

-- The slice of the text at a node is one that the node can be read from: it lies in the text and splits no character, a name there has no ill-formed escape, and a string literal is one.
abbrev pub IsReadAs : NodeKind → List ℕ → Label → Type 0
IsReadAs identifier_reference text l = IsSome (word_at text l)
IsReadAs binding_identifier text l = IsSome (word_at text l)
IsReadAs label_identifier text l = IsSome (word_at text l)
IsReadAs identifier_name text l = IsSome (word_at text l)
IsReadAs private_identifier text l = IsSome (word_at text l)
IsReadAs string_literal text l = string_kind (characters_at text l) ≡ Some Str
IsReadAs _ text l = Unit {0}

abbrev pub span_of : Label → Span
span_of l = record { start = l.span.from; end = l.span.to }

abbrev pub IsReadFrom : List ℕ → Label → Type 0
IsReadFrom text l = LiesIn (span_of l) text × IsReadAs l.kind text l

-- every node of the slots is
abbrev pub AreReadFrom : List ℕ → Slots → Type 0
AreReadFrom text end = Unit {0}
AreReadFrom text (hole us) = AreReadFrom text us
AreReadFrom text (tree l cs us) = IsReadFrom text l × AreReadFrom text cs × AreReadFrom text us
