pub mod LeftFacts
pub mod LeadFacts
