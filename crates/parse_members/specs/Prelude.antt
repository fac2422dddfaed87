-- The names by which the contracts of this crate speak: each definition stands where its line says.
pub use Rattle.js_base.specs.KindSets.{number_kinds}
pub use Rattle.js_base.specs.Kinds.{one_of_kinds}
pub use Rattle.js_base.specs.declared.kind.Kind.TheVariants.{At, Dot, Dot3, Import, LBrack, LParen, Percent, QuestionDot, RParen, Str, Super, Target}
pub use Rattle.js_grammar.specs.Marks.{Mark}
pub use Rattle.js_grammar.specs.Productions.{Assignment, Decorator, LeftHandSide, Primary, at, optional_flag, plus_in}
pub use Rattle.parse_primary.specs.laws_primary.Classes.{class_name, node_of_class}
pub use Rattle.parse_primary.specs.laws_primary.Decorators.{AllDecorators, ClassHere, StopsDecorators, spanning}
pub use Rattle.parse_primary.specs.laws_primary.DecoratorMembers.{ReadsDecorated, ReadsNames, ReadsParentheses}
pub use Rattle.parse_primary.specs.laws_primary.Imports.{BehindWord, ChecksMeta, ClosesImport, EndsImport, MakesImport, ReadsOptions, TakesMeta, behind_new_at, outside_module_at}
pub use Rattle.parse_primary.specs.laws_primary.Marked.{Marks, MarksNode}
pub use Rattle.parse_primary.specs.laws_primary.Members.{CallsMember, ChainsCallee, GoesOnCall, GoesOnMember, Heads, LinkHere, MakesWithArguments, MakesWithIndex, MakesWithName, ReadsCallee, ReadsLink, TellsChain, flagged_label, is_super_word, member_name_kinds, no_link_behind}
pub use Rattle.parse_primary.specs.laws_primary.NewTargets.{BehindDot, BehindNew, ChecksTarget, TakesTarget, outside_at}
pub use Rattle.parse_primary.specs.laws_primary.Supers.{ChecksCallee, ChecksMember, ChecksSuper, GoesOnSuper, TakesSuper, alone_at, callee_from, is_private_node, private_from}
pub use Rattle.parse_primary.specs.laws_primary.Templates.{GoesOn, ReadsChainLink}
pub use Rattle.parse_shared.specs.js_cursor.Moves.{GivesUp, KeepsDiagnostic}
pub use Rattle.parse_shared.specs.js_cursor.Places.{IsAt, goal}
pub use Rattle.parse_shared.specs.js_tree.Labels.{kind_of, number_of}
pub use Rattle.parse_shared.specs.js_tree.Nodes.{label, node_at}
pub use Rattle.parse_shared.specs.laws_shared.Answers.{Answers}
pub use Rattle.parse_shared.specs.laws_shared.Classes.{EndsParse}
pub use Rattle.parse_shared.specs.laws_shared.Lexemes.{slashes}
pub use Rattle.parse_shared.specs.laws_shared.Moves.{MadeHere}
pub use Rattle.parse_shared.specs.laws_shared.Nesting.{CanNest, room}
pub use Rattle.parse_shared.specs.laws_shared.NodeTexts.{is_textual}
pub use Rattle.parse_shared.specs.laws_shared.Stands.{NameHere, StandsHere}
pub use Rattle.parse_shared.specs.laws_shared.States.{Standing}
