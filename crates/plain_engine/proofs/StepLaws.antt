-- The laws of a run that the engine's calls rest on.
use Rattle.plain_state.specs.Laws.{StartRuns, StartIsCut, NextMayStart, EndIsStep}
use Rattle.plain_state.proofs.StartLaws.{starts_run, starts_cut, next_starts}
use Rattle.plain_state.proofs.TaskEnds.{ends_step}
pub use Rattle.plain_state.proofs.StartLaws.{none_left}
pub use Rattle.plain_state.proofs.OwnLaws.{running_frames, advance_is_steps, copy_is_step, drop_is_step}
pub use Rattle.plain_state.proofs.ReadLaw.{read_is_step}
pub use Rattle.plain_state.proofs.SpawnLaws.{spawn_is_step, spawn_at_the_limit, null_is_step}
pub use Rattle.plain_state.proofs.RetryLaw.{retry_is_step}
pub use Rattle.plain_state.proofs.RespawnLaw.{respawn_is_step}
pub use Rattle.plain_state.proofs.FirstMoment.{none_asked, all_asked}
pub use Rattle.plain_state.proofs.RootAsked.{root_is_asked, root_may_be_asked}
pub use Rattle.plain_state.proofs.EndSeenLaw.{end_is_seen}
pub use Rattle.plain_state.proofs.TurnsEndLaw.{turns_end}
pub use Rattle.plain_state.proofs.LinesLeft.{lines_go}
pub use Rattle.plain_state.proofs.KnownRecords.{names_are_known, running_is_known, roots_are_known}
pub use Rattle.plain_state.proofs.KnownRecords.{ended_roots_are_known, ended_roots_are_many, evidence_is_whole}

pub start_runs : StartRuns
start_runs = starts_run

pub start_is_cut : StartIsCut
start_is_cut = starts_cut

pub next_may_start : NextMayStart
next_may_start = next_starts

pub end_is_step : EndIsStep
end_is_step = ends_step
