pub mod BitLemmas
pub mod TableLemmas
pub mod RowLemmas
pub mod HoldingLemmas
pub mod SignLemmas
pub mod Quotations
pub mod LineLemmas
mod LabelLemmas
pub mod SpellingLemmas
pub mod StackLemmas
pub mod WeightLemmas
pub mod BindingLemmas
pub mod WalkLemmas
pub mod CountLemmas
pub mod CoverLemmas
pub mod Coverings
pub use Rattle.js_grammar.proofs as js_grammar
