pub mod DeclaratorLists
pub mod Declarators
pub mod HeadDeclarators
pub mod SpansMarked
pub use Rattle.laws_patterns.proofs as laws_patterns
pub use Rattle.laws_patterns.proofs.laws_primary as laws_primary
