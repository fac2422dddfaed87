pub mod Recording
pub mod Noting
pub mod Moving
pub mod Stages
pub mod Keeping
pub mod KindTests
pub mod Standing
pub mod Rereading
pub mod Starting
pub mod Firsts
pub mod Returning
pub mod StillKept
pub mod Later
pub mod Changing
pub mod Plains
pub mod Partnering
pub use Rattle.js_lex.proofs as js_lex
pub use Rattle.js_tree.proofs as js_tree
pub use Rattle.js_lex.proofs.part_scan as part_scan
pub use Rattle.js_lex.proofs.part_words as part_words
