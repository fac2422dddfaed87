mod LinkLemmas
mod PathLemmas
mod FoundLemmas
mod PlaceLemmas
mod NameLemmas
mod UnreachedLemmas
mod WalkLemmas
