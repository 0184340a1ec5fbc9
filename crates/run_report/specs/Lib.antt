pub mod Lines
pub mod Report
pub mod CanReport
pub mod CheckLines
pub mod Writing
pub mod Laws
