pub use Rattle.laws_modules.proofs as laws_modules
