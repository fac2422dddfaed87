pub mod ClassBodies
pub mod Elements
pub mod Fields
pub mod Names
pub mod SpecialMethods
pub mod Members
pub mod Methods
pub mod Modifiers
pub mod StaticBlocks
pub use Rattle.laws_primary.specs as laws_primary
