pub mod Accessors
pub mod Bindings
pub mod Lists
pub mod ObjectPatterns
pub mod Parameters
pub use Rattle.laws_primary.specs as laws_primary
