pub mod BehindRests
pub mod Bindings
pub mod Lists
pub mod ObjectLists
pub mod ObjectPatterns
pub mod ObjectRests
pub mod ParameterLists
pub mod PatternLists
pub mod RestInitialisers
pub mod MethodParameters
pub mod Peeks
pub mod Accessors
pub mod FurtherParameters
pub use Rattle.laws_primary.proofs as laws_primary
