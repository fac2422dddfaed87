pub use Rattle.laws_statements.proofs as laws_statements
