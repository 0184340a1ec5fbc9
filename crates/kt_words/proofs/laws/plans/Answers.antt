use Rattle.kt_words.proofs.GeometryFacts.{numbers_make_plan}
use Rattle.kt_words.proofs.laws.plans.Goals as goal

pub returns : goal.returns
returns c = numbers_make_plan
