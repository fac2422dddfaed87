pub mod Firsts
pub mod Places
pub mod Exports
pub mod Distinct
pub mod NodeKinds
pub mod Shown
pub mod Checked
pub mod Walked
pub mod Between
pub use Rattle.part_visits.specs as part_visits
