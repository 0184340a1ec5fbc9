use Rattle.plain_state.proofs.KnownRecords.{names_are_known, running_is_known, roots_are_known}
use Rattle.plain_state.proofs.KnownRecords.{ended_roots_are_known, ended_roots_are_many, evidence_is_whole}
use Rattle.plain_state.proofs.known_laws.known_records.Goals as goal

pub returns-clause-names : goal.returns-clause-names
returns-clause-names c = names_are_known

pub returns-clause-running : goal.returns-clause-running
returns-clause-running c = running_is_known

pub returns-clause-asked : goal.returns-clause-asked
returns-clause-asked c = roots_are_known

pub returns-clause-ended : goal.returns-clause-ended
returns-clause-ended c = ended_roots_are_known

pub returns-clause-many : goal.returns-clause-many
returns-clause-many c = ended_roots_are_many

pub returns-clause-evidence : goal.returns-clause-evidence
returns-clause-evidence c = evidence_is_whole
