use Rattle.record_core.proofs.CountedStamps.{all_written}
use Rattle.record_core.proofs.journal_laws.journal_is_whole.Goals as goal

pub returns : goal.returns
returns c = all_written
