use Rattle.std.proofs.Common.{arith}
use Rattle.kt_words.proofs.ClassFacts.{least_is_two, least_is_three}
use Rattle.kt_words.proofs.class.class_for.Goals as goal

pub returns-in-17-to-32-clause-least : goal.returns-in-17-to-32-clause-least
returns-in-17-to-32-clause-least c _ = least_is_two c.args.words (omega arith) (omega arith)

pub returns-in_default-clause-least : goal.returns-in_default-clause-least
returns-in_default-clause-least c = least_is_three c.args.words (omega arith)
