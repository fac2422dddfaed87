pub mod Histories
pub mod Recorded
pub mod Notes
pub mod Parsers
pub mod Tokens
pub mod Places
pub mod Markers
pub mod Stages
pub mod Moves
pub mod Starts
pub mod Checkpoints
pub use Rattle.js_lex.specs as js_lex
pub use Rattle.js_tree.specs as js_tree
pub use Rattle.js_lex.specs.part_scan as part_scan
pub use Rattle.js_lex.specs.part_words as part_words
