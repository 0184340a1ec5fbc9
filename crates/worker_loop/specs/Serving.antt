-- What the parts of a worker's loop need and leave.
use Rattle.std.specs.Prelude.{◌≡◌, ℕ, Bool, true, false, Option, Some, None, [], ◌∷◌}
use Rattle.record_core.specs.declared.rows.CutTag.TheVariants as cut
use Rattle.frame_code.specs.Words.{body_of}
use Rattle.table_core.specs.declared.setup.Setup.{Setup}
use Rattle.schedule_rule.specs.HeldNames.{StandsPutting}
use Rattle.step_table.specs.Passes.{view}
use Rattle.step_table.specs.declared.pass.Pass.{Pass}
use Rattle.schedule_core.specs.Completing.{WasRefused}
use Rattle.schedule_core.specs.declared.answers.Outcome.TheVariants.{RefusedLimit}
use Rattle.schedule_core.specs.declared.answers.Respawned.{Respawned}
use Rattle.schedule_core.specs.declared.answers.Respawned.TheVariants as respawned
use Rattle.schedule_core.specs.Respawning.{AsksOnNull}
use Rattle.schedule_core.specs.declared.answers.Spawned.{Spawned}
use Rattle.schedule_core.specs.declared.answers.Spawned.TheVariants as spawned
use Rattle.schedule_core.specs.declared.running.Running.{Running}
use Rattle.worker_loop.specs.Working.{Runs, IsFree, Stands, SawNoneLive}
use Rattle.worker_loop.specs.declared.serving.Served.{Served}
use Rattle.worker_loop.specs.declared.serving.Served.TheVariants as served
use Rattle.worker_loop.specs.declared.turn.Turn.{Turn}
use Rattle.worker_loop.specs.declared.turn.Turn.TheVariants as turn
use Rattle.worker_loop.specs.declared.worker.Worked.{Worked}
use Rattle.worker_loop.specs.declared.worker.Worked.TheVariants as worked

-- the next activation is placed, and the pass is idle; or the limit is met, and the task comes back
abbrev pub Places : Setup → Respawned → Pass → Type 0
Places g respawned.Waits p = IsFree p
Places g (respawned.Ready entry) p = IsFree p
Places g (respawned.Over back) p = Runs g back [] p × WasRefused RefusedLimit back (view p)

-- The task that a running one asked for is made: the pass has a reference to it, and the running task stands where its variable is to
-- name it. Or the running task was refused.
abbrev pub Answers : Setup → Running → ℕ → Bool → Spawned → Pass → Type 0
Answers g x to retry (spawned.Future future entry) p = Runs g x (future.unit ∷ []) p × StandsPutting g.checked to (body_of g.checked x.frame.items) × (x.refused ≡ None)
Answers g x to retry spawned.Null p = Runs g x [] p × (x.refused ≡ Some cut.Null) × (retry ≡ true → AsksOnNull g.checked g.columns (body_of g.checked x.frame.items))
Answers g x to retry spawned.Over p = Runs g x [] p × WasRefused RefusedLimit x (view p)

-- the task goes on and is not refused anything; or its activation has ended, and the pass is idle; or it is still the pass's
abbrev pub Serves : Setup → Running → Served → Pass → Type 0
Serves g x (served.Goes back) p = Runs g back [] p × (back.started ≡ x.started) × (back.refused ≡ None)
Serves g x served.Ended p = IsFree p
Serves g x served.Stopped p = Stands x.started.number (view p)

-- its activation has ended, and the pass is idle; or it is still the pass's
abbrev pub EndsServed : Setup → Running → Bool → Pass → Type 0
EndsServed g x true p = IsFree p
EndsServed g x false p = Stands x.started.number (view p)

-- the worker goes on idle; or it is done, and saw that no record lives; or this activation is still the pass's
abbrev pub Turns : Turn → Pass → Type 0
Turns turn.Went p = IsFree p
Turns turn.Over p = IsFree p × SawNoneLive p
Turns (turn.Stopped number) p = Stands number (view p)

abbrev pub Works : Worked → Pass → Type 0
Works worked.Done p = IsFree p × SawNoneLive p
Works (worked.Stopped number) p = Stands number (view p)

-- the worker has worked, and its pass was left so
abbrev pub HasWorked : Option Worked → Pass → Type 0
HasWorked told p = (x : Worked) × (told ≡ Some x) × Works x p
