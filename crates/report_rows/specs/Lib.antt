pub mod Cuts
pub mod Finishes
pub mod Given
