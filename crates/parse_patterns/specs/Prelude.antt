-- The names by which the contracts of this crate speak: each definition stands where its line says.
pub use Rattle.js_base.specs.Kinds.{one_of_kinds}
pub use Rattle.js_base.specs.declared.kind.Kind.TheVariants.{Colon, Comma, Dot3, Eq, LBrack, LCurly, LParen, RBrack, RCurly, RParen, Undetermined}
pub use Rattle.js_grammar.specs.Marks.{Mark}
pub use Rattle.js_grammar.specs.Productions.{BElement, Binding, BindingRest, Param, Params, PatternProperty, Rest, at, computed_flag, flag, shorthand_flag}
pub use Rattle.laws_patterns.specs.Accessors.{IsTold, KindBehind, ReadsFurther, TellsParameters}
pub use Rattle.laws_patterns.specs.Bindings.{EndsRest, FinishesRest, InitialisesRest, RestBegins, closers, elements_left, initialiser_kind}
pub use Rattle.laws_patterns.specs.Lists.{ListReadOn}
pub use Rattle.laws_patterns.specs.ObjectPatterns.{AddsInitialiser, BindsName, GivesUpThere, ReadsNamedRest, ReadsShorthand, ReadsValue, properties_left, property_label}
pub use Rattle.laws_patterns.specs.Parameters.{parameters_left}
pub use Rattle.parse_shared.specs.js_cursor.Moves.{OnlyMemory, Opened}
pub use Rattle.parse_shared.specs.js_cursor.Places.{goal}
pub use Rattle.parse_shared.specs.js_tree.Labels.{kind_of, number_of}
pub use Rattle.parse_shared.specs.js_tree.Nodes.{node_at}
pub use Rattle.parse_shared.specs.laws_shared.Answers.{Answers}
pub use Rattle.parse_shared.specs.laws_shared.Classes.{EndsParse}
pub use Rattle.parse_shared.specs.laws_shared.Lists.{ListRead, ListStops, ReadsItem, ReadsOneMore}
pub use Rattle.parse_shared.specs.laws_shared.Methods.{ReadsWhole, parameters_of}
pub use Rattle.parse_shared.specs.laws_shared.Moves.{MadeHere}
pub use Rattle.parse_shared.specs.laws_shared.Nesting.{CanNest, room}
pub use Rattle.parse_shared.specs.laws_shared.NodeTexts.{SpellsName}
pub use Rattle.parse_shared.specs.laws_shared.Stands.{NameHere, StandsHere}
pub use Rattle.parse_shared.specs.laws_shared.States.{Standing}
pub use Rattle.parse_shared.specs.laws_shared.declared.nested.MethodForm.TheVariants.{Getter, Setter}
