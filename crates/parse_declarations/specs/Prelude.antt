-- The names by which the contracts of this crate speak: each definition stands where its line says.
pub use Rattle.js_grammar.specs.Marks.{Mark}
pub use Rattle.parse_shared.specs.js_cursor.Places.{IsAt, goal}
pub use Rattle.parse_shared.specs.laws_shared.Nesting.{CanNest, room}
pub use Rattle.parse_shared.specs.laws_shared.States.{Standing}
