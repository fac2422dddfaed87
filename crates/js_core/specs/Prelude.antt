-- The names by which the contracts of this crate speak: each definition stands where its line says.
pub use Rattle.js_base.specs.Contexts.{has_flag, in_flag}
pub use Rattle.js_base.specs.Places.{is_single}
pub use Rattle.js_base.specs.declared.kind.Kind.TheVariants.{HashbangComment}
pub use Rattle.js_grammar.specs.Productions.{Assignment, Binding, Body, ClassBody, Exponent, Expression, ImportDecl, LeftHandSide, Params, at}
pub use Rattle.parse_operators.specs.laws_operators.Lists.{TriesArrow}
pub use Rattle.parse_classes.specs.laws_classes.laws_primary.PropertyNames.{NamesProperty}
pub use Rattle.parse_shared.specs.js_cursor.Starts.{Starts}
pub use Rattle.parse_shared.specs.js_tree.Labels.{number_of}
pub use Rattle.parse_shared.specs.js_tree.declared.kind.NodeKind.TheVariants.{Hashbang}
pub use Rattle.parse_shared.specs.laws_shared.Answers.{Answers}
pub use Rattle.parse_shared.specs.laws_shared.Methods.{ReadsWhole, parameters_of}
pub use Rattle.parse_shared.specs.laws_shared.Moves.{MadeHere, plain_label}
pub use Rattle.parse_shared.specs.laws_shared.Nesting.{CanNest, AnswersFor, Reads, Ready, room}
pub use Rattle.parse_shared.specs.laws_shared.Statements.{TakesStatement, placed}
pub use Rattle.parse_shared.specs.laws_shared.States.{Standing}
pub use Rattle.parse_classes.specs.laws_statements.StatementLists.{AllRefused, AllTaken}
pub use Rattle.parse_classes.specs.laws_statements.declared.forms.StatementList.TheVariants.{Text}
