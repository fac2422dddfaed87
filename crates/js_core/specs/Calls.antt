-- What the calls for others read (ECMA-262, 13.6 to 13.13).
use Rattle.js_base.specs.declared.precedence.Precedence.{Precedence}
use Rattle.js_base.specs.declared.precedence.Precedence.TheVariants as least
use Rattle.js_grammar.specs.Productions.{Flags, Symbol, at, Short, Or, And, BitOr, BitXor, BitAnd, Equality, Relational, Shift, Additive, Multiply, Exponent}

-- the level whose operators bind tighter than these
abbrev pub above : Precedence → Flags → Symbol
above least.Comma f = at Short f
above least.NullishCoalescing f = at Or f
above least.LogicalOr f = at And f
above least.LogicalAnd f = at BitOr f
above least.BitwiseOr f = at BitXor f
above least.BitwiseXor f = at BitAnd f
above least.BitwiseAnd f = at Equality f
above least.Equals f = at Relational f
above least.Compare f = at Shift f
above least.Shift f = at Additive f
above least.Add f = at Multiply f
above least.Multiply f = at Exponent f
above least.Exponentiation f = at Exponent f
