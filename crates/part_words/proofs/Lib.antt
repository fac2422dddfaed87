pub mod Places
pub mod Parts
pub mod Plain
pub mod Names
pub mod NameEscapes
pub mod NameKinds
pub mod NameSurrogates
pub mod NameWords
pub mod NameScans
pub mod Fronts
pub mod Flags
pub mod KindsOfLexemes
pub mod ByteClasses
pub mod Words
pub use Rattle.js_grammar.proofs as js_grammar
