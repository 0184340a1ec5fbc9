use Rattle.frame_code.proofs.ActMeanings.{goes-rest, stop-acts}
use Rattle.frame_code.proofs.HeldActs.{acts-held}
use Rattle.frame_code.proofs.laws.stops_are_acts.Goals as goal

pub returns-clause-goes : goal.returns-clause-goes
returns-clause-goes c = goes-rest

pub returns-clause-stops : goal.returns-clause-stops
returns-clause-stops c = stop-acts

pub returns-clause-held : goal.returns-clause-held
returns-clause-held c = acts-held
