pub mod Fault
pub mod Text
pub mod Scan
pub mod Cursor
