use Rattle.plain_state.proofs.StartLaws.{starts_run, starts_cut, next_starts, none_left}
use Rattle.plain_state.proofs.TaskEnds.{ends_step}
use Rattle.plain_state.proofs.EndSeenLaw.{end_is_seen}
use Rattle.plain_state.proofs.TurnsEndLaw.{turns_end}
use Rattle.plain_state.proofs.turn_laws.turns.Goals as goal

pub returns-clause-start : goal.returns-clause-start
returns-clause-start c = starts_run

pub returns-clause-cut : goal.returns-clause-cut
returns-clause-cut c = starts_cut

pub returns-clause-ready : goal.returns-clause-ready
returns-clause-ready c = next_starts

pub returns-clause-over : goal.returns-clause-over
returns-clause-over c = none_left

pub returns-clause-ends : goal.returns-clause-ends
returns-clause-ends c = ends_step

pub returns-clause-seen : goal.returns-clause-seen
returns-clause-seen c = end_is_seen

pub returns-clause-fewer : goal.returns-clause-fewer
returns-clause-fewer c = turns_end
