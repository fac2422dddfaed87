-- Sets of kinds.
use Rattle.std.specs.Prelude.{List, [], ◌∷◌, ◌++◌}
use Rattle.js_base.specs.Kinds.{Kind, Ident, Null, True, False, Str, RegExp, Decimal, Float, Binary, Octal, Hex, PositiveExponential, NegativeExponential, DecimalBigInt, BinaryBigInt, OctalBigInt, HexBigInt}
use Rattle.js_base.specs.Texts.{contextual_words, reserved_words}

-- numbers (ECMA-262, 12.9.3)
abbrev pub number_kinds : List Kind
number_kinds = Decimal ∷ Float ∷ Binary ∷ Octal ∷ Hex ∷ PositiveExponential ∷ NegativeExponential ∷ DecimalBigInt ∷ BinaryBigInt ∷ OctalBigInt ∷ HexBigInt ∷ []

-- literals (12.9)
abbrev pub literal_kinds : List Kind
literal_kinds = number_kinds ++ Str ∷ RegExp ∷ Null ∷ True ∷ False ∷ []

-- what may be a BindingIdentifier in some place (13.1)
abbrev pub binding_identifier_kinds : List Kind
binding_identifier_kinds = Ident ∷ contextual_words

-- what is an IdentifierName (12.7)
abbrev pub identifier_name_kinds : List Kind
identifier_name_kinds = Ident ∷ reserved_words ++ contextual_words
