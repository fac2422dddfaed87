mod NoParameters
pub mod Fronts
pub mod Hashbangs
pub mod Lists
pub mod Walks
pub mod Readings
pub use Rattle.parse_shared.proofs.laws_shared as laws_shared
pub use Rattle.parse_classes.proofs.laws_classes as laws_classes
pub use Rattle.parse_targets.proofs as parse_targets
