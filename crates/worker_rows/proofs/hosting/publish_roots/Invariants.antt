use Rattle.std.specs.Prelude.{◌≡◌}
use Rattle.step_table.specs.Passes.{view, IsSame}
use Rattle.schedule_core.specs.FrameWords.{OnlySees}
use Rattle.worker_rows.proofs.hosting.publish_roots.Given as goal

abbrev pub invariant-roots : goal.invariant-roots
invariant-roots g l =
    IsSame l.fn.worker.pass l.worker.pass × g.Q.ReadyStore.is_pass l.scheduler.ready l.worker.qpass × (g.Q.ReadyStore.may_split l.fn.worker.qpass → g.Q.ReadyStore.may_split l.worker.qpass)
    × (l.worker.worked ≡ l.fn.worker.worked) × OnlySees (view l.fn.worker.pass) (view l.worker.pass)
