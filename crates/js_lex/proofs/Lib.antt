pub mod Keeping
pub mod TriviaLemmas
pub mod Passing
pub mod Giving
pub mod Openings
pub mod Again
pub mod Expressions
pub mod Firsts
pub mod Hashbangs
pub mod Decodings
pub mod FlagFaults
pub mod Marks
pub mod ReadAgain
pub mod Given
pub mod NamesGiven
pub mod Settled
pub mod Lying
pub mod Ordered
pub mod Marked
pub use Rattle.part_scan.proofs as part_scan
pub use Rattle.part_words.proofs as part_words
