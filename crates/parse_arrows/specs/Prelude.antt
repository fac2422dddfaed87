-- The names by which the contracts of this crate speak: each definition stands where its line says.
pub use Rattle.js_base.specs.KindSets.{binding_identifier_kinds}
pub use Rattle.js_base.specs.Kinds.{one_of_kinds}
pub use Rattle.js_base.specs.declared.kind.Kind.TheVariants.{Arrow, LParen}
pub use Rattle.js_grammar.specs.Productions.{at}
pub use Rattle.js_grammar.specs.Trees.{arrow_function_expression}
pub use Rattle.laws_operators.specs.Arrows.{ArgumentsTold, ArrowBehind, AsyncHeadBegins, AttemptsHead, ChecksLine, EntersHead, FindsAsyncHead, HeadBehindAsync, HeadStands, IsHeadOf, LooksForHead, NamesHead, NoHeadHere, NoOperandHere, OperandExcluded, ReadsArrowBody, ReadsBody, ReadsHead, SearchesHead, SearchesPlainHead, Single, SlashFound, TriesHead, TriesParameters, Unmoved, arrow_label}
pub use Rattle.laws_operators.specs.Closings.{ArrowTold, ClosesLast, FindsClosing, LexemePassed, NoneCloses, NotesMore, NotesOne, StandOpen, WholeBehind}
pub use Rattle.laws_operators.specs.HeadOperands.{IsNoTarget}
pub use Rattle.laws_operators.specs.Lists.{AsyncListBegins, SearchesList, TriesArrow}
pub use Rattle.laws_operators.specs.Lookaheads.{LooksAhead, begins_operand}
pub use Rattle.parse_shared.specs.js_cursor.Moves.{OnlyMemory}
pub use Rattle.parse_shared.specs.js_cursor.Notes.{closing_known, is_place}
pub use Rattle.parse_shared.specs.js_tree.Labels.{kind_of}
pub use Rattle.parse_shared.specs.js_tree.Nodes.{node_at}
pub use Rattle.parse_shared.specs.laws_shared.Moves.{MadeHere}
pub use Rattle.parse_shared.specs.laws_shared.Nesting.{CanNest, room}
pub use Rattle.parse_shared.specs.laws_shared.Stands.{NameHere, StandsHere}
pub use Rattle.parse_shared.specs.laws_shared.States.{Standing}
