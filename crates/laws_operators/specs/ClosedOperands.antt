-- An operand of one lexeme, with a sign behind it that no expression goes on with (ECMA-262, 13.15).
use Rattle.std.specs.Prelude.{ℕ, ◌≡◌, ◌<◌, Bool, true, false, List, [], ◌∷◌, Option, Some, None, length, slice_index}
use Rattle.js_base.specs.declared.kind.Kind.{Kind}
use Rattle.js_base.specs.declared.kind.Kind.TheVariants.{Comma, Decimal, Ident, RBrack, RParen, Semicolon, Str}
use Rattle.js_base.specs.part_text.Characters.{one_of}
use Rattle.js_base.specs.Kinds.{one_of_kinds}
use Rattle.laws_shared.specs.js_tree.declared.id.NodeId.{NodeId}
use Rattle.laws_shared.specs.js_tree.declared.kind.NodeKind.TheVariants as node
use Rattle.laws_shared.specs.js_tree.declared.op.Op.TheVariants as op
use Rattle.laws_shared.specs.js_tree.declared.op.NumberBase.TheVariants as base
use Rattle.laws_shared.specs.js_cursor.Parsers.{Parser}
use Rattle.laws_shared.specs.Moves.{TakesLeaf}

-- no expression goes on with these
abbrev pub closing_signs : List Kind
closing_signs = Comma ∷ RParen ∷ Semicolon ∷ RBrack ∷ []

-- their bytes
abbrev pub closing_bytes : List ℕ
closing_bytes = 44 ∷ 41 ∷ 59 ∷ 93 ∷ []

-- such a byte stands at the place
abbrev pub ClosesAt : List ℕ → ℕ → Bool → Type 0
ClosesAt text s true = (s < length text) × (one_of closing_bytes (slice_index text s) ≡ true)
ClosesAt text s false = Unit {0}

-- A name, a string or a decimal number stood here, and a node was made of it.
pub data LexemeTaken (p q : Parser) (id : NodeId) : Type 0 where
  a_name : p.token.kind ≡ Ident → TakesLeaf node.IdentifierReference op.None p q id → LexemeTaken p q id
  a_string : p.token.kind ≡ Str → TakesLeaf node.StringLiteral op.None p q id → LexemeTaken p q id
  a_number : p.token.kind ≡ Decimal → TakesLeaf node.NumericLiteral (op.Number base.Decimal) p q id → LexemeTaken p q id

-- such a node; or none, and the parser is where it was
abbrev pub TakesLexeme : Parser → Parser → Option NodeId → Type 0
TakesLexeme p q (Some id) = LexemeTaken p q id
TakesLexeme p q None = q ≡ p

-- the same, with a closing sign behind it
abbrev pub TakesClosed : Parser → Parser → Option NodeId → Type 0
TakesClosed p q (Some id) = LexemeTaken p q id × (one_of_kinds closing_signs q.token.kind ≡ true)
TakesClosed p q None = q ≡ p
