-- What is known of the task that runs.
use Rattle.std.proofs.Common.{◌≡◌, ℕ, ◌≤◌, None, List, length}
use Rattle.record_core.specs.Numbers.{HasTask}
use Rattle.record_core.specs.Journal.{finish_of}
use Rattle.run_model.specs.State.{Body, Run}
use Rattle.run_model.specs.Move.{RunsAt}
use Rattle.run_model.proofs.NumbersInvariant.{NumbersHeld, IsLive}
use Rattle.run_model.proofs.LiveFacts.{body_task, task_within, running_live}

module _ (r : Run) (hand : List ℕ) (now : NumbersHeld r hand) (t m : ℕ) (body : Body) (runs : RunsAt r t m body) where
  -- it is a task, and unfinished
  pub running_task : HasTask r.journal.rows t
  running_task = (body_task r.journal.rows r.journal.tasks r.outcomes r.bodies r.running now.live t body runs.has).0

  -- the task that runs has not finished
  pub running_open : finish_of r.journal.tasks t ≡ None
  running_open = (body_task r.journal.rows r.journal.tasks r.outcomes r.bodies r.running now.live t body runs.has).1

  -- the task that runs has one of the numbers
  pub running_within : (1 ≤ t) × (t ≤ length r.journal.rows)
  running_within = task_within r.journal.rows t running_task

  -- its live number is the one that runs
  pub running_number : IsLive r t m runs.row
  running_number = running_live r.journal.rows r.journal.tasks r.outcomes r.bodies r.running now.live t m runs.row runs.running runs.there runs.of_task
