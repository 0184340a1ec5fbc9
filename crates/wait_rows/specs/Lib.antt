pub mod Hands
pub mod Making
