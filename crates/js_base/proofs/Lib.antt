pub mod KindLemmas
pub mod KindSetLemmas
pub mod KeywordLemmas
pub mod ContextLemmas
pub mod PrecedenceLemmas
pub use Rattle.part_text.proofs as part_text
