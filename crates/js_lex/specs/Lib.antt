pub mod Comments
pub mod Kept
pub mod TriviaPassed
pub mod States
pub mod Reading
pub mod Settling
pub mod Openings
pub mod Hashbangs
pub use Rattle.part_scan.specs as part_scan
pub use Rattle.part_words.specs as part_words
