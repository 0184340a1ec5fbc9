-- The look-up of single names.
use Rattle.task_reader.proofs.KnownLemmas.{term_known-is}
use Rattle.task_reader.proofs.Known.{known-true}
use Rattle.task_reader.proofs.AheadLemmas.{label_names-is, state_names-is, is_among-append, steps_to-is, steps_to-le}

pub ruleset terms = (term_known-is, known-true)

pub ruleset ahead_lemmas = (label_names-is, state_names-is, is_among-append)

pub ruleset label_place_lemmas = (steps_to-is, steps_to-le)
