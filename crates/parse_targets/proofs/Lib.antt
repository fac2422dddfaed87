pub mod ArrayElements
pub mod ArrayTargets
pub mod ArraysBeforeSigns
pub mod ArraysConverted
pub mod Assigned
pub mod ConvertedNodes
pub mod CoveredNodes
pub mod Covers
pub mod Edges
pub mod HeadTargets
pub mod LiteralsAsTargets
pub mod PlacesTold
pub mod Properties
pub mod PropertyNodes
pub mod Refused
pub mod ReusedNodes
pub mod Spots
pub mod Targets
pub mod TargetsAsLiterals
pub mod TargetsTaken
mod Laws
mod Answers
mod TargetLaws
mod ElementLaws
pub mod WasRead
