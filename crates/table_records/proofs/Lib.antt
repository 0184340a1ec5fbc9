pub mod PlainFacts
pub mod StageFacts
pub mod PlaceFacts
pub mod OpeningFacts
pub mod RootFacts
