pub mod RecordLemmas
pub mod FirstLemmas
pub mod ExportLemmas
pub mod DistinctLemmas
pub mod CheckedLemmas
pub mod LineLemmas
pub mod KindLemmas
pub mod ShownLemmas
pub mod TreeLemmas
pub mod WalkLemmas
pub mod Finding
pub mod DefaultWords
mod RecordExamples
