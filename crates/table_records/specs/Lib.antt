pub mod Plain
pub mod Makers
pub mod Stages
pub mod Records
pub mod Openings
