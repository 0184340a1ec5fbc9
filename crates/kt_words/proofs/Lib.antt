pub mod Powers
pub mod ClassFacts
pub mod GeometryFacts
pub mod SuperWordFacts
pub mod StateWordFacts
pub mod HeadWordFacts
