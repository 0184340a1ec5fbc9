use Rattle.record_core.proofs.AcceptFacts.{accept-tells}
use Rattle.record_core.proofs.BeginFacts.{begun_tells}
use Rattle.record_core.proofs.FinishFacts.{finished_tells}
use Rattle.record_core.proofs.journal_laws.journal_grows.Goals as goal

pub returns-clause-accept : goal.returns-clause-accept
returns-clause-accept c = accept-tells

pub returns-clause-begin : goal.returns-clause-begin
returns-clause-begin c = begun_tells

pub returns-clause-finish : goal.returns-clause-finish
returns-clause-finish c = finished_tells
