use Rattle.record_core.proofs.JournalFacts.{empty-is_journal}
use Rattle.record_core.proofs.AcceptFacts.{accept-keeps}
use Rattle.record_core.proofs.BeginFacts.{begin-keeps}
use Rattle.record_core.proofs.FinishFacts.{finish-keeps}
use Rattle.record_core.proofs.journal_laws.journal_keeps.Goals as goal

pub returns-clause-empty : goal.returns-clause-empty
returns-clause-empty c = empty-is_journal

pub returns-clause-accept : goal.returns-clause-accept
returns-clause-accept c = accept-keeps

pub returns-clause-begin : goal.returns-clause-begin
returns-clause-begin c = begin-keeps

pub returns-clause-finish : goal.returns-clause-finish
returns-clause-finish c = finish-keeps
