pub mod Prelude
pub use Rattle.laws_operators.specs as laws_operators
