use Rattle.kt_words.proofs.SuperWordFacts.{count_rises, count_falls, ever_rises, class_changes, word_reserves, word_reserves_same, ever_is_counted}
use Rattle.kt_words.proofs.laws.super_words_change.Goals as goal

pub returns-clause-more : goal.returns-clause-more
returns-clause-more c = count_rises

pub returns-clause-less : goal.returns-clause-less
returns-clause-less c = count_falls

pub returns-clause-ever : goal.returns-clause-ever
returns-clause-ever c = ever_rises

pub returns-clause-class : goal.returns-clause-class
returns-clause-class c = class_changes

pub returns-clause-reserved : goal.returns-clause-reserved
returns-clause-reserved c = word_reserves

pub returns-clause-reserved_same : goal.returns-clause-reserved_same
returns-clause-reserved_same c = word_reserves_same

pub returns-clause-counted : goal.returns-clause-counted
returns-clause-counted c = ever_is_counted
