use Rattle.kt_words.proofs.HeadWordFacts.{length_rises, length_falls, first_changes}
use Rattle.kt_words.proofs.laws.head_words_change.Goals as goal

pub returns-clause-more : goal.returns-clause-more
returns-clause-more c = length_rises

pub returns-clause-less : goal.returns-clause-less
returns-clause-less c = length_falls

pub returns-clause-first : goal.returns-clause-first
returns-clause-first c = first_changes
