use Rattle.frame_code.proofs.WayLaws.{entries-way, futures-way}
use Rattle.frame_code.proofs.laws.frames_have_ways.Goals as goal

pub returns-clause-entries : goal.returns-clause-entries
returns-clause-entries c = entries-way

pub returns-clause-futures : goal.returns-clause-futures
returns-clause-futures c = futures-way
