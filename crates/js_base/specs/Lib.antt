pub mod Kinds
pub mod Texts
pub mod Keywords
pub mod KindSets
pub mod Operators
pub mod Precedences
pub mod Contexts
pub mod Places
pub mod Sources
pub mod Spans
pub mod Diagnostics
pub use Rattle.part_memory.specs as part_memory
pub use Rattle.part_text.specs as part_text
