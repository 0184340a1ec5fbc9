use Rattle.kt_words.proofs.SuperWordFacts.{super_word_says_its_numbers, super_word_is_its_numbers, super_word_says_its_value, super_word_has_one_value, super_word_fits}
use Rattle.kt_words.proofs.laws.super_words.Goals as goal

pub returns-clause-says : goal.returns-clause-says
returns-clause-says c = super_word_says_its_numbers

pub returns-clause-is : goal.returns-clause-is
returns-clause-is c = super_word_is_its_numbers

pub returns-clause-value : goal.returns-clause-value
returns-clause-value c = super_word_says_its_value

pub returns-clause-one_value : goal.returns-clause-one_value
returns-clause-one_value c = super_word_has_one_value

pub returns-clause-fits : goal.returns-clause-fits
returns-clause-fits c = super_word_fits
