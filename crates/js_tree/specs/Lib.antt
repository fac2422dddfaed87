pub mod Labels
pub mod Nodes
pub mod Holding
pub mod Bits
pub mod Counting
pub mod Walking
pub mod Parts
pub mod Binding
pub mod Sources
pub mod Names
pub mod Rooms
pub mod Rows
pub mod Covering
pub use Rattle.js_grammar.specs as js_grammar
