pub mod Hands
pub mod Roots
