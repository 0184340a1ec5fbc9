mod Examples
pub mod TotalFacts
pub mod BelowFacts
pub mod CountFacts
pub mod NumberFacts
pub mod StampFacts
pub mod LeadFacts
pub mod JournalFacts
pub mod AcceptFacts
pub mod BeginFacts
pub mod FinishFacts
pub mod CountedStamps
pub mod JournalCode
mod PackedFacts
pub mod TurnFacts
pub mod EndFacts
pub mod HeldFacts
pub mod ItemFacts
pub mod FaithfulFacts
pub mod AskedFacts
pub mod RoomFacts
