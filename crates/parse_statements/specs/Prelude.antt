-- The names by which the contracts of this crate speak: each definition stands where its line says.
pub use Rattle.js_base.specs.Contexts.{has_flag, in_flag}
pub use Rattle.js_base.specs.Kinds.{one_of_kinds}
pub use Rattle.js_base.specs.declared.kind.Kind.TheVariants.{Break, Catch, Colon, Const, Continue, Debugger, Finally, LCurly, LParen, Return, Semicolon, Str, Switch, Throw, Try}
pub use Rattle.js_grammar.specs.Marks.{EdgeOf, Mark}
pub use Rattle.js_grammar.specs.Productions.{Catch as ACatch, Block, Body, ListItem, Sub, at, sym}
pub use Rattle.parse_control.specs.laws_statements.Blocks.{NoBracesHere, TakesBraces}
pub use Rattle.parse_control.specs.laws_statements.ForeignOperators.{FindsForeign}
pub use Rattle.parse_control.specs.laws_statements.FunctionStatements.{ChecksPlain, fault_of_body, told_of_body}
pub use Rattle.parse_control.specs.laws_statements.LetStatements.{TakesUndeclared}
pub use Rattle.parse_control.specs.laws_statements.StatementLists.{AllRefused, AllTaken, DirectivesTaken, OpeningRefused, OpeningTaken, ends_at, ends_in_brace, ends_list, has_directives, item_of}
pub use Rattle.parse_control.specs.laws_statements.SwitchStatements.{AllClauses, ClauseBegins, ClausesRefused, DueOr, MayNote, NextRefused, NextTaken, NoCaseBlockHere, Notes, ReadsClause, Stood, TakesCaseBlock, TakesTest, second_default}
pub use Rattle.parse_control.specs.laws_statements.TryStatements.{NoClauses, TakesClauses, TakesPart, finally_of, neither, parameter_of}
pub use Rattle.parse_control.specs.laws_statements.WordStatements.{ChecksOperand, ChecksReturn, JumpsHere, TakesArgument, TakesLabel, fault_of_return, late_operand, stray_return}
pub use Rattle.parse_control.specs.laws_statements.declared.forms.StatementList.TheVariants.{Clause}
pub use Rattle.parse_primary.specs.laws_primary.Decorators.{ClassHere}
pub use Rattle.parse_primary.specs.laws_primary.Functions.{BeginsFunction, NoFunctionHere}
pub use Rattle.parse_shared.specs.js_cursor.Moves.{GivesUp}
pub use Rattle.parse_shared.specs.js_cursor.Places.{IsAt, goal}
pub use Rattle.parse_shared.specs.js_tree.Nodes.{node_at}
pub use Rattle.parse_shared.specs.js_tree.declared.kind.NodeKind.TheVariants.{Directive, ExpressionStatement, StringLiteral}
pub use Rattle.parse_shared.specs.laws_shared.Answers.{Answers}
pub use Rattle.parse_shared.specs.laws_shared.Classes.{EndsParse}
pub use Rattle.parse_shared.specs.laws_shared.Lexemes.{keyword_kind}
pub use Rattle.parse_shared.specs.laws_shared.Moves.{MadeHere, plain_label}
pub use Rattle.parse_shared.specs.laws_shared.Nesting.{CanNest, room}
pub use Rattle.parse_shared.specs.laws_shared.NodeTexts.{SpellsName, is_textual}
pub use Rattle.parse_shared.specs.laws_shared.Stands.{StandsHere}
pub use Rattle.parse_shared.specs.laws_shared.Statements.{IsLabel, LabelsStatement, TakesAnywhere, TakesStatement, statement_kinds}
pub use Rattle.parse_shared.specs.laws_shared.States.{Standing}
