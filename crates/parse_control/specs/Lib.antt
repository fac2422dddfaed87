pub mod Prelude
pub use Rattle.laws_statements.specs as laws_statements
