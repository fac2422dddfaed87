pub mod FlagScans
pub mod Broken
pub mod MemberNodes
pub mod AttributeKeys
pub mod Parsed
pub mod Recorded
pub mod NodeSpans
pub mod CoreAnswers
pub mod Leftover
pub mod FaultsTold
pub mod Language
pub mod SameSource
pub use Rattle.js_core.specs as js_core
pub use Rattle.js_cursor.specs.js_lex as js_lex
pub use Rattle.js_tree.specs as js_tree
