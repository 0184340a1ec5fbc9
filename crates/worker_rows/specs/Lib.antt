pub mod Left
pub mod Lead
