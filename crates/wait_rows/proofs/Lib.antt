pub mod FoundFacts
pub mod HandFacts
pub mod ListsFacts
pub mod MakingFacts
