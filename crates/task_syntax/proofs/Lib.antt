pub mod Bools
pub mod Differ
