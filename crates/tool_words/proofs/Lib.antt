pub mod Parsed
pub mod Ranges
pub mod Rows
pub mod Runs
