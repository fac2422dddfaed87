pub use Rattle.laws_classes.proofs as laws_classes
pub use Rattle.parse_statements.proofs.laws_statements as laws_statements
