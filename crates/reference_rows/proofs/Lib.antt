mod HandFacts
mod MakingFacts
mod Covering
mod RootFacts
mod RecordFacts
