pub mod Names
pub mod Columns
pub mod Places
pub mod Form
pub mod Facts
pub mod Valid
