pub mod Arrows
pub mod ClosedOperands
pub mod Closings
pub mod Coalescing
pub mod Exponents
pub mod HeadOperands
pub mod Lists
pub mod Lookaheads
pub mod PrivateOperands
pub mod Rests
pub mod Yields
pub use Rattle.parse_targets.specs as parse_targets
