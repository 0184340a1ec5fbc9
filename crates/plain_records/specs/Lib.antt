pub mod Slots
pub mod Ready
pub mod StoreView
pub mod Allocated
pub mod Taken
