pub mod Words
pub mod Lines
pub mod Text
pub mod Numbering
pub mod Same
pub mod Canonical
pub mod Laws
