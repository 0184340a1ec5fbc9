use Rattle.kt_words.proofs.StateWordFacts.{phase_changes, priority_changes, tag_changes, number_changes}
use Rattle.kt_words.proofs.laws.state_words_change.Goals as goal

pub returns-clause-phase : goal.returns-clause-phase
returns-clause-phase c = phase_changes

pub returns-clause-priority : goal.returns-clause-priority
returns-clause-priority c = priority_changes

pub returns-clause-tag : goal.returns-clause-tag
returns-clause-tag c = tag_changes

pub returns-clause-number : goal.returns-clause-number
returns-clause-number c = number_changes
