use Rattle.kt_words.proofs.StateWordFacts.{state_word_says_its_numbers, state_word_is_its_numbers, state_word_says_its_value, state_word_has_one_value, phase_has_one_code, tag_has_one_code}
use Rattle.kt_words.proofs.laws.state_words.Goals as goal

pub returns-clause-says : goal.returns-clause-says
returns-clause-says c = state_word_says_its_numbers

pub returns-clause-is : goal.returns-clause-is
returns-clause-is c = state_word_is_its_numbers

pub returns-clause-value : goal.returns-clause-value
returns-clause-value c = state_word_says_its_value

pub returns-clause-one_value : goal.returns-clause-one_value
returns-clause-one_value c = state_word_has_one_value

pub returns-clause-phases : goal.returns-clause-phases
returns-clause-phases c = phase_has_one_code

pub returns-clause-tags : goal.returns-clause-tags
returns-clause-tags c = tag_has_one_code
