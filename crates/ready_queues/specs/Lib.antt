pub mod Account
pub mod Entries
pub mod Held
pub mod HeldLaws
pub mod Moments
pub mod Order
pub mod SightLaws
pub mod Sights
