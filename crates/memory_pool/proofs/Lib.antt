pub mod NewestFacts
pub mod Sounding
pub mod Searching
pub mod GoingRound
pub mod Holding
