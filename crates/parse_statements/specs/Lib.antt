pub mod Prelude
pub use Rattle.parse_control.specs.laws_statements as laws_statements
