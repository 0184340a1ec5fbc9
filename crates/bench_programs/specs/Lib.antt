pub mod Family
pub mod Programs
pub mod Parts
pub mod Laws
