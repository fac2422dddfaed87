pub mod Prelude
pub mod Taken
pub mod Targets
pub mod Others
pub mod Covered
