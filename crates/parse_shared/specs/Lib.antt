pub mod Prelude
pub use Rattle.laws_shared.specs.js_cursor as js_cursor
pub use Rattle.laws_shared.specs.js_lex as js_lex
pub use Rattle.laws_shared.specs.js_tree as js_tree
pub use Rattle.laws_shared.specs as laws_shared
pub use Rattle.laws_shared.specs.part_words as part_words
