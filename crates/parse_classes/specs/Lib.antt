pub mod Prelude
pub use Rattle.laws_classes.specs as laws_classes
pub use Rattle.parse_statements.specs.laws_statements as laws_statements
