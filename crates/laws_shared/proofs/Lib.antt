pub mod Ahead
pub mod Beginning
pub mod Bracketed
pub mod Characters
pub mod Commas
pub mod Contexts
pub mod Dead
pub mod Deeper
pub mod Edges
pub mod Escapes
pub mod Expected
pub mod FreeOfIn
pub mod Giving
pub mod Here
pub mod Kept
pub mod KeptTokens
pub mod MadeNodes
pub mod Moving
pub mod NameKinds
pub mod NamedFirsts
pub mod NodeTexts
pub mod Nesting
pub mod Parts
pub mod Paths
pub mod Phrases
pub mod PlainSigns
pub mod ReadKinds
pub mod Signs
pub mod Slashes
pub mod Stretches
pub mod Tight
pub mod Told
pub mod Verdicts
pub mod Classes
pub mod Semicolons
pub use Rattle.js_cursor.proofs as js_cursor
pub use Rattle.js_cursor.proofs.js_lex as js_lex
pub use Rattle.js_cursor.proofs.js_tree as js_tree
pub use Rattle.js_cursor.proofs.part_scan as part_scan
pub use Rattle.js_cursor.proofs.part_words as part_words
