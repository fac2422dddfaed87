-- The names by which the contracts of this crate speak: each definition stands where its line says.
pub use Rattle.js_base.specs.Contexts.{await_flag, has_flag, in_flag, yield_flag}
pub use Rattle.js_base.specs.Kinds.{one_of_kinds}
pub use Rattle.js_base.specs.declared.kind.Kind.TheVariants.{Colon, Str}
pub use Rattle.js_base.specs.part_text.Decoding.{name_text}
pub use Rattle.js_grammar.specs.Marks.{Mark}
pub use Rattle.js_grammar.specs.Productions.{Assignment, Body, Expression, Params, at, body_of, params_of, plus_in}
pub use Rattle.js_grammar.specs.Strings.{string_kind}
pub use Rattle.laws_shared.specs.Answers.{Answers, Stops}
pub use Rattle.laws_shared.specs.Classes.{EndsParse}
pub use Rattle.laws_shared.specs.Contexts.{EntersAsyncHead, EntersMethod, SetsAwait, arrow_body, braced_body}
pub use Rattle.laws_shared.specs.Lexemes.{escaped_word, keyword_kind, may_name, unread_kinds}
pub use Rattle.laws_shared.specs.Methods.{ReadsWhole, parameters_of}
pub use Rattle.laws_shared.specs.Moves.{IsCompleted, IsWholeHere, MadeHere, Moves, OperatorHere, plain_label}
pub use Rattle.laws_shared.specs.Nesting.{CanNest, room}
pub use Rattle.laws_shared.specs.NodeTexts.{IsKept, IsKeptPrivate, SpellsName, SpellsPrivate, behind_sign, is_name_node, is_textual, spelled_at}
pub use Rattle.laws_shared.specs.Operators.{power_of}
pub use Rattle.laws_shared.specs.Stands.{EndsOperand, NameHere, NameUnder, ReadsHere, StandsHere}
pub use Rattle.laws_shared.specs.Statements.{EndsStatement, NoEnd, link_kinds}
pub use Rattle.laws_shared.specs.States.{Standing}
pub use Rattle.laws_shared.specs.Told.{unrelated_at}
pub use Rattle.laws_shared.specs.js_cursor.Moves.{GivesUp, MayTell, OnlyMemory}
pub use Rattle.laws_shared.specs.js_cursor.Places.{IsAt, goal}
pub use Rattle.laws_shared.specs.js_tree.Labels.{number_of}
