pub mod Scope
pub mod Keyword
pub mod Line
pub mod Spelling
pub mod Table
pub mod Reading
pub mod Grammar
pub mod Groups
