pub mod Answers
pub mod Arguments
pub mod ArrayLiterals
pub mod Contexts
pub mod Heads
pub mod Lexemes
pub mod Lists
pub mod Methods
pub mod Moves
pub mod Nesting
pub mod NodeTexts
pub mod Operators
pub mod Paths
pub mod Stands
pub mod Statements
pub mod States
pub mod Told
pub mod Classes
pub use Rattle.js_cursor.specs as js_cursor
pub use Rattle.js_cursor.specs.js_lex as js_lex
pub use Rattle.js_cursor.specs.js_tree as js_tree
pub use Rattle.js_cursor.specs.part_scan as part_scan
pub use Rattle.js_cursor.specs.part_words as part_words
