-- The names by which the contracts of this crate speak: each definition stands where its line says.
pub use Rattle.js_grammar.specs.Marks.{Mark}
pub use Rattle.js_grammar.specs.Productions.{ArrayTarget, ObjectTarget, Primary, Property, SimpleTarget, Target, TargetElement, TargetProperty, at}
pub use Rattle.js_grammar.specs.Trees.{Label, Slots, assignment_target_with_default, end, tree}
pub use Rattle.parse_shared.specs.js_cursor.Moves.{GivesUp, KeepsDiagnostic}
pub use Rattle.parse_shared.specs.js_cursor.Places.{IsAt, goal}
pub use Rattle.parse_shared.specs.js_tree.Holding.{Holds}
pub use Rattle.parse_shared.specs.js_tree.Labels.{kind_of, label_of, op_of}
pub use Rattle.parse_shared.specs.js_tree.Nodes.{node_at}
pub use Rattle.parse_shared.specs.laws_shared.Classes.{EndsParse}
pub use Rattle.parse_shared.specs.laws_shared.Moves.{plain_label}
pub use Rattle.parse_shared.specs.laws_shared.NodeTexts.{is_textual}
pub use Rattle.parse_shared.specs.laws_shared.States.{Standing}
pub use Rattle.parse_shared.specs.laws_shared.Told.{unrelated_at}
