-- The names by which the contracts of this crate speak: each definition stands where its line says.
pub use Rattle.js_base.specs.Contexts.{has_flag, in_flag, reads_await}
pub use Rattle.js_base.specs.Kinds.{one_of_kinds, same_kind}
pub use Rattle.js_base.specs.declared.kind.Kind.TheVariants.{Colon, Comma, Eq, PrivateIdentifier, Question2, Star}
pub use Rattle.js_base.specs.part_text.Characters.{one_of}
pub use Rattle.js_grammar.specs.Grammar.{Lexeme}
pub use Rattle.js_grammar.specs.Insertion.{assign_operators}
pub use Rattle.js_grammar.specs.Levels.{level_at}
pub use Rattle.js_grammar.specs.Marks.{Mark}
pub use Rattle.js_grammar.specs.Productions.{Assignment, Exponent, Expression, Short, Unary, Update, at, delegate_flag, prefix_flag}
pub use Rattle.js_grammar.specs.Trees.{Label, Slots, logical_expression, of}
pub use Rattle.laws_operators.specs.Arrows.{IsRefusedHead}
pub use Rattle.laws_operators.specs.ClosedOperands.{ClosesAt, TakesClosed, TakesLexeme, closing_bytes}
pub use Rattle.laws_operators.specs.Coalescing.{ChecksMixed, mixed_at}
pub use Rattle.laws_operators.specs.Exponents.{AwaitsHere, ChecksBase, begins_by_unary, unary_base}
pub use Rattle.laws_operators.specs.HeadOperands.{IsNoTarget, StaysOperand, TellsOperand}
pub use Rattle.laws_operators.specs.PrivateOperands.{TakesPrivate, private_in_label, tells_private}
pub use Rattle.laws_operators.specs.Rests.{Asked, AssignsLiteral, OnlyOperandHere, ReadsConditional, update_kinds}
pub use Rattle.laws_operators.specs.Yields.{BeginsYield, ReadsYield, other_arguments, yields_argument}
pub use Rattle.parse_shared.specs.js_cursor.Moves.{GivesUp, OnlyMemory}
pub use Rattle.parse_shared.specs.js_cursor.Places.{IsAt, goal}
pub use Rattle.parse_shared.specs.js_tree.Holding.{Holds}
pub use Rattle.parse_shared.specs.js_tree.Labels.{logical_kind}
pub use Rattle.parse_shared.specs.laws_shared.Answers.{Answers}
pub use Rattle.parse_shared.specs.laws_shared.Lexemes.{Lex}
pub use Rattle.parse_shared.specs.laws_shared.Moves.{MadeHere, Passes, operation_label, plain_label}
pub use Rattle.parse_shared.specs.laws_shared.Nesting.{CanNest, room}
pub use Rattle.parse_shared.specs.laws_shared.Operators.{power_of, unary_kinds}
pub use Rattle.parse_shared.specs.laws_shared.States.{Standing}
pub use Rattle.parse_shared.specs.laws_shared.Told.{unrelated_at}
pub use Rattle.parse_targets.specs.Taken.{LiteralRead, not_simple_at}
pub use Rattle.parse_targets.specs.Targets.{Stood}
