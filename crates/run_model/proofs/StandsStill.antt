-- A run that is over stands still.
use Rattle.std.proofs.Common.{◌≡◌, ◌∙◌, ℕ, zero, suc, None, refl, sym, ap}
use Rattle.task_syntax.specs.declared.program.Program.{Program}
use Rattle.task_syntax.specs.declared.columns.Columns.{Columns}
use Rattle.run_model.specs.State.{Run, next_queued}
use Rattle.run_model.specs.Step.{step, steps, step_with, starts_next}

-- nothing runs, and nothing is ready
pub record IsQuiet (r : Run) : Type 0 where
  pub idle : r.running ≡ None
  pub empty : next_queued r.ready ≡ None

module _ (p : Program) (c : Columns) (units : ℕ) where
  -- a step of a quiet run changes nothing
  pub quiet_step : (r : Run) → IsQuiet r → step p c units r ≡ r
  quiet_step r quiet = ap (step_with p c units r) quiet.idle ∙ ap (starts_next r) quiet.empty

  -- and so do many
  pub quiet_steps : (n : ℕ) (r : Run) → IsQuiet r → steps p c units n r ≡ r
  quiet_steps zero r quiet = refl
  quiet_steps (suc n) r quiet = ap (steps p c units n) (quiet_step r quiet) ∙ quiet_steps n r quiet

  -- two quiet runs that are reached from one are the same
  pub quiet_runs_meet : (n m : ℕ) (r : Run) → IsQuiet (steps p c units n r) → IsQuiet (steps p c units m r) → steps p c units n r ≡ steps p c units m r
  quiet_runs_meet zero m r one other = sym (quiet_steps m r one)
  quiet_runs_meet (suc n) zero r one other = quiet_steps (suc n) r other
  quiet_runs_meet (suc n) (suc m) r one other = quiet_runs_meet n m (step p c units r) one other
