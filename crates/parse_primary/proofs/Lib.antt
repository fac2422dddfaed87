pub use Rattle.laws_primary.proofs as laws_primary
