pub mod Prelude
pub mod Declarations
pub mod HeadDeclarators
pub use Rattle.laws_patterns.specs.laws_primary as laws_primary
