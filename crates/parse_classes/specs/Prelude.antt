-- The names by which the contracts of this crate speak: each definition stands where its line says.
pub use Rattle.js_base.specs.KindSets.{identifier_name_kinds}
pub use Rattle.js_base.specs.Kinds.{one_of_kinds}
pub use Rattle.js_base.specs.declared.kind.Kind.TheVariants.{At, Eq, LParen, Star, Static, Str}
pub use Rattle.js_grammar.specs.Productions.{Assignment, ClassBody, at, field_of}
pub use Rattle.laws_classes.specs.ClassBodies.{AllElements, NoElements}
pub use Rattle.laws_classes.specs.Elements.{ReadsElement, behind_kinds, element_flags}
pub use Rattle.laws_classes.specs.Fields.{EndsFieldOr, ReadsField, field_label, node_of_field}
pub use Rattle.laws_classes.specs.Modifiers.{PassedLast, is_modifier}
pub use Rattle.laws_classes.specs.Methods.{ReadsMethod, form_of_method, method_label}
pub use Rattle.laws_classes.specs.Names.{NamesElement}
pub use Rattle.laws_classes.specs.StaticBlocks.{InStaticBlock, ReadsStaticBlock}
pub use Rattle.laws_classes.specs.laws_primary.js_tree.Labels.{kind_of, number_of}
pub use Rattle.laws_classes.specs.laws_primary.laws_shared.Answers.{Answers}
pub use Rattle.laws_classes.specs.laws_primary.laws_shared.Contexts.{EntersMethod}
pub use Rattle.laws_classes.specs.laws_primary.laws_shared.Moves.{MadeHere}
pub use Rattle.laws_classes.specs.laws_primary.laws_shared.Nesting.{CanNest, room}
pub use Rattle.laws_classes.specs.laws_primary.laws_shared.NodeTexts.{SpellsName, is_textual}
pub use Rattle.laws_classes.specs.laws_primary.laws_shared.States.{Standing}
pub use Rattle.laws_classes.specs.Members.{ReadsAccessorField, ReadsAccessorMethod, ReadsBehindWord, ReadsMember, ReadsWordMethod, accessor_of, begins_accessor, begins_async, kind_of_string, kind_of_word, name_kinds, other_name_kinds, special_firsts}
pub use Rattle.js_base.specs.Spans.{LiesIn}
pub use Rattle.laws_classes.specs.laws_primary.js_tree.Nodes.{node_at}
pub use Rattle.laws_classes.specs.laws_primary.js_tree.declared.kind.NodeKind.TheVariants.{StaticBlock}
pub use Rattle.laws_classes.specs.laws_primary.js_tree.Sources.{IsString, units_of}
pub use Rattle.laws_classes.specs.SpecialMethods.{ReadsAsyncMethod, ReadsNamedMethod}
pub use Rattle.parse_statements.specs.laws_statements.StatementLists.{ends_list}
pub use Rattle.parse_statements.specs.laws_statements.declared.forms.StatementList.TheVariants.{Block}
