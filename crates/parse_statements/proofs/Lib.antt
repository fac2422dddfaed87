pub use Rattle.parse_control.proofs.laws_statements as laws_statements
