-- The names by which the contracts of this crate speak: each definition stands where its line says.
pub use Rattle.js_base.specs.Contexts.{has_flag, in_flag}
pub use Rattle.js_base.specs.declared.diagnostic.DiagnosticKind.{DiagnosticKind}
pub use Rattle.js_base.specs.declared.diagnostic.DiagnosticKind.TheVariants.{ForLoopAsyncOf, ForLoopLetReservedWord}
pub use Rattle.js_base.specs.declared.kind.Kind.TheVariants.{Do, For, If, Semicolon, Var, While, With}
pub use Rattle.js_grammar.specs.Marks.{Mark}
pub use Rattle.js_grammar.specs.Productions.{ListItem, Sub, at, await_flag, flag}
pub use Rattle.laws_statements.specs.CompoundStatements.{HeadsHere, TakesAlternate, TakesParens}
pub use Rattle.laws_statements.specs.DeclarationStatements.{ReadsDeclaration}
pub use Rattle.laws_statements.specs.ForHeads.{AtEnd, EndsPart, TakesFirst, TakesHead, TakesParensHead, TakesPart, TakesRest}
pub use Rattle.laws_statements.specs.ForParts.{BeginsHead, ChecksAsync, ChecksLet, FaultOf, FindsHead, HeadExpressionRead, HeadFault, IsAsyncAlone, NoneBegins, TakesHeadTarget, TakesPartWithoutIn, TellsHead, is_var, may_stand}
pub use Rattle.laws_statements.specs.ForWords.{ChecksAwait, ChecksEnding, PassesAwait, await_at, for_label, is_of, may_end_by, no_of_from}
pub use Rattle.laws_statements.specs.LetStatements.{BeginsLexical, FindsLexical, LetBegins, TellsLexical, behind_let}
pub use Rattle.parse_declarations.specs.HeadDeclarators.{ThroughHere}
pub use Rattle.parse_shared.specs.js_cursor.Moves.{OnlyMemory}
pub use Rattle.parse_shared.specs.js_cursor.Places.{IsAt, goal}
pub use Rattle.parse_shared.specs.js_tree.Labels.{declaration_kind, number_of}
pub use Rattle.parse_shared.specs.laws_shared.Moves.{MadeHere}
pub use Rattle.parse_shared.specs.laws_shared.Nesting.{CanNest, room}
pub use Rattle.parse_shared.specs.laws_shared.NodeTexts.{is_textual}
pub use Rattle.parse_shared.specs.laws_shared.Stands.{StandsHere}
pub use Rattle.parse_shared.specs.laws_shared.Statements.{TakesAnywhere, TakesStatement}
pub use Rattle.parse_shared.specs.laws_shared.States.{Standing}
pub use Rattle.parse_shared.specs.laws_shared.Told.{unrelated_at}
pub use Rattle.parse_targets.specs.Taken.{EndsTarget}
