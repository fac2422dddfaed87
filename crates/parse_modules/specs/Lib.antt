pub mod Prelude
pub use Rattle.laws_modules.specs as laws_modules
