pub mod Relinking
pub mod JoinFacts
