use Rattle.std.specs.Prelude.{◌≡◌, ◌+◌, All, vec_len}
use Rattle.table_core.specs.Views.{IsIdle}
use Rattle.step_table.specs.Passes.{view, IsOf}
use Rattle.worker_rows.specs.Lead.{KeepsAll}
use Rattle.worker_rows.proofs.running.split_workers.Given as goal

abbrev pub invariant-workers : goal.invariant-workers
invariant-workers g l =
    IsOf l.scheduler.shared l.first.pass × g.Q.ReadyStore.is_pass l.scheduler.ready l.first.qpass × g.Q.ReadyStore.may_split l.first.qpass × (l.first.pass.splits + l.number ≡ l.fn.worker.pass.splits)
    × KeepsAll (view l.fn.worker.pass) (view l.first.pass) × (vec_len l.workers ≡ l.number) × All (λ w. IsOf l.scheduler.shared w.pass) l.workers.items × All (λ w. g.Q.ReadyStore.is_pass l.scheduler.ready w.qpass) l.workers.items
    × All (λ w. IsIdle (view w.pass)) l.workers.items
