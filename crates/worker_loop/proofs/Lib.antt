mod HandFacts
mod CallFacts
mod ChainFacts
mod CountFacts
mod AnswerFacts
mod PlacedFacts
mod ActFacts
mod TurnFacts
