use Rattle.record_core.proofs.EndFacts.{no_cut_value, no_cut_hidden, no_other_predecessor}
use Rattle.record_core.proofs.FaithfulFacts.{no_value_behind, no_respawn, no_exchange, each_of_a_root, first_is_own, none_unasked, none_of_nothing, none_too_large}
use Rattle.record_core.proofs.AskedFacts.{no_words, behind_a_task, none_later, as_the_line, one_of_a_line, behind_as_asked, again_as_asked, null_as_asked, limit_as_asked, members_before, nulls_counted}
use Rattle.record_core.proofs.end_laws.faithful_ends.Goals as goal

pub returns-clause-value : goal.returns-clause-value
returns-clause-value c = no_cut_value

pub returns-clause-cut : goal.returns-clause-cut
returns-clause-cut c = no_cut_hidden

pub returns-clause-predecessor : goal.returns-clause-predecessor
returns-clause-predecessor c = no_other_predecessor

pub returns-clause-behind : goal.returns-clause-behind
returns-clause-behind c = no_value_behind

pub returns-clause-respawn : goal.returns-clause-respawn
returns-clause-respawn c = no_respawn

pub returns-clause-own : goal.returns-clause-own
returns-clause-own c = no_exchange

pub returns-clause-root : goal.returns-clause-root
returns-clause-root c = each_of_a_root

pub returns-clause-first : goal.returns-clause-first
returns-clause-first c = first_is_own

pub returns-clause-class : goal.returns-clause-class
returns-clause-class c = none_unasked

pub returns-clause-count : goal.returns-clause-count
returns-clause-count c = none_too_large

pub returns-clause-nothing : goal.returns-clause-nothing
returns-clause-nothing c = none_of_nothing

pub returns-clause-words : goal.returns-clause-words
returns-clause-words c = no_words

pub returns-clause-waits : goal.returns-clause-waits
returns-clause-waits c = behind_a_task

pub returns-clause-later : goal.returns-clause-later
returns-clause-later c = none_later

pub returns-clause-spawn : goal.returns-clause-spawn
returns-clause-spawn c = as_the_line

pub returns-clause-line : goal.returns-clause-line
returns-clause-line c = one_of_a_line

pub returns-clause-follows : goal.returns-clause-follows
returns-clause-follows c = behind_as_asked

pub returns-clause-again : goal.returns-clause-again
returns-clause-again c = again_as_asked

pub returns-clause-refused : goal.returns-clause-refused
returns-clause-refused c = null_as_asked

pub returns-clause-spent : goal.returns-clause-spent
returns-clause-spent c = limit_as_asked

pub returns-clause-gathered : goal.returns-clause-gathered
returns-clause-gathered c = members_before

pub returns-clause-nulls : goal.returns-clause-nulls
returns-clause-nulls c = nulls_counted
