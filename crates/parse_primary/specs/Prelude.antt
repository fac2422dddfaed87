-- The names by which the contracts of this crate speak: each definition stands where its line says.
pub use Rattle.js_base.specs.Contexts.{await_flag, has_flag, yield_flag}
pub use Rattle.js_base.specs.KindSets.{identifier_name_kinds}
pub use Rattle.js_base.specs.Kinds.{one_of_kinds}
pub use Rattle.js_base.specs.declared.kind.Kind.TheVariants.{Class, Colon, Comma, Dot3, Eq, Implements, LBrack, LCurly, LParen, PrivateIdentifier, RBrack, RCurly, RParen, Star, Str}
pub use Rattle.js_grammar.specs.Productions.{IdentifierName, Primary, Property, async_flag, at, computed_flag, flag, generator_flag, method_flag, shorthand_flag}
pub use Rattle.laws_primary.specs.Arrays.{Elements, NoElements, TakesElement}
pub use Rattle.laws_primary.specs.Classes.{NamesClass, TakesHeritage, class_label, class_name, node_of_class}
pub use Rattle.laws_primary.specs.Functions.{BeginsFunction, FunctionBehind, FunctionHere, NamesFunction, TakesName, TakesParts}
pub use Rattle.laws_primary.specs.Numbers.{node_of_number, op_of_number}
pub use Rattle.laws_primary.specs.Objects.{NoProperties, Properties, ReadsAccessor, ReadsAsyncMethod, ReadsBehindName, ReadsMethod, ReadsShorthand, ReadsValue, TakesProperty, begins_async, ends_name_kinds, flags_of_form, form_of, function_label, kind_of_form, method_left, property_label}
pub use Rattle.laws_primary.specs.PropertyNames.{NamesComputed, NamesPlainly, NamesProperty}
pub use Rattle.laws_primary.specs.Spreads.{ReadsSpread}
pub use Rattle.laws_primary.specs.Templates.{BeginsPart, ReadsTagged, StandingPart, TagsTemplate, TakesPart, TakesTemplate, TellsTemplate, element_label, heads, inside_end, inside_fits, last_parts}
pub use Rattle.laws_primary.specs.js_cursor.Moves.{GivesUp, KeepsDiagnostic, OnlyMemory, Opened}
pub use Rattle.laws_primary.specs.js_tree.Labels.{kind_of, number_of}
pub use Rattle.laws_primary.specs.js_tree.Nodes.{node_at}
pub use Rattle.laws_primary.specs.js_tree.declared.op.PropertyKind.TheVariants.{Init}
pub use Rattle.laws_primary.specs.laws_shared.Answers.{Answers}
pub use Rattle.laws_primary.specs.laws_shared.Arguments.{Arguments, FindsDue, NoArguments, TakesItem, spread_at}
pub use Rattle.laws_primary.specs.laws_shared.Classes.{EndsParse}
pub use Rattle.laws_primary.specs.laws_shared.Lexemes.{may_name}
pub use Rattle.laws_primary.specs.laws_shared.Lists.{ReadsItem}
pub use Rattle.laws_primary.specs.laws_shared.Methods.{ReadsWhole}
pub use Rattle.laws_primary.specs.laws_shared.Moves.{IsWholeHere, MadeHere, Passes, TakesLeaf, plain_label}
pub use Rattle.laws_primary.specs.laws_shared.Nesting.{CanNest, room}
pub use Rattle.laws_primary.specs.laws_shared.NodeTexts.{SpellsName, is_name_node, is_textual}
pub use Rattle.laws_primary.specs.laws_shared.Stands.{StandsHere}
pub use Rattle.laws_primary.specs.laws_shared.States.{Standing}
