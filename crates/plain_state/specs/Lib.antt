pub mod Store
pub mod Engine
pub mod Sees
pub mod Moves
pub mod EndView
pub mod Laws
pub mod Known
