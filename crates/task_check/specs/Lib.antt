pub mod Asks
pub mod Causes
pub mod Faults
pub mod Known
pub mod Ways
pub mod Parts
pub mod Laws
