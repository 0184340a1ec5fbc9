use Rattle.kt_words.proofs.HeadWordFacts.{head_word_says_its_numbers, head_word_is_its_numbers, head_word_says_its_value, head_word_has_one_value, link_has_one_code, listed_is_not_closed}
use Rattle.kt_words.proofs.laws.head_words.Goals as goal

pub returns-clause-says : goal.returns-clause-says
returns-clause-says c = head_word_says_its_numbers

pub returns-clause-is : goal.returns-clause-is
returns-clause-is c = head_word_is_its_numbers

pub returns-clause-value : goal.returns-clause-value
returns-clause-value c = head_word_says_its_value

pub returns-clause-one_value : goal.returns-clause-one_value
returns-clause-one_value c = head_word_has_one_value

pub returns-clause-links : goal.returns-clause-links
returns-clause-links c = link_has_one_code

pub returns-clause-open : goal.returns-clause-open
returns-clause-open c = listed_is_not_closed
