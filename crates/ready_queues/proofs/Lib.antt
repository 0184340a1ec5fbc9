pub mod AccountFacts
pub mod EntryFacts
pub mod HeldFacts
pub mod OrderFacts
pub mod SightFacts
