pub mod EngineView
pub mod Asking
pub mod Ending
pub mod Going
pub mod Roots
