pub mod SurrogateLemmas
pub mod DecodingLemmas
pub mod EscapeLemmas
