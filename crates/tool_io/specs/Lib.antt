pub mod Count
pub mod Fault
pub mod Fetch
pub mod Seen
pub mod Sink
pub mod MemoryShelf
pub mod MemorySink
