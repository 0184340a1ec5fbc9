pub mod Counted
pub mod FirstBits
pub mod Lowest
