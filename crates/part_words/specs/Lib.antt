pub mod Places
pub mod Faults
pub mod Scans
pub mod Names
pub mod NextCharacters
pub mod ByteClasses
pub mod Words
pub use Rattle.js_grammar.specs as js_grammar
