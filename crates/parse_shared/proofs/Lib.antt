pub mod GivingUp
pub use Rattle.laws_shared.proofs.js_cursor as js_cursor
pub use Rattle.laws_shared.proofs.js_lex as js_lex
pub use Rattle.laws_shared.proofs.js_tree as js_tree
pub use Rattle.laws_shared.proofs as laws_shared
pub use Rattle.laws_shared.proofs.part_words as part_words
