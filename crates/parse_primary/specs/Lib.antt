pub mod Prelude
pub use Rattle.laws_primary.specs as laws_primary
