use Rattle.kt_words.proofs.ClassFacts.{class_is_least}
use Rattle.kt_words.proofs.laws.classes.Goals as goal

pub returns-clause-least : goal.returns-clause-least
returns-clause-least c = class_is_least
