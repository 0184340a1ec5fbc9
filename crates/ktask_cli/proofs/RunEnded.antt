-- The end of a run that was ordered.
use Rattle.std.proofs.Common.{◌≡◌, subst}
use Rattle.task_syntax.specs.Form.{IsWellFormed}
use Rattle.task_syntax.specs.declared.columns.Columns.{Columns}
use Rattle.task_syntax.specs.declared.program.Program.{Program}
use Rattle.record_core.specs.EndCounts.{EndCounts}
use Rattle.record_core.specs.EndFaithful.{EndFaithful}
use Rattle.record_core.specs.EndSeen.{EndSeen, RunPlan}
use Rattle.record_core.specs.EndSound.{EndSound, EndComplete}
use Rattle.run_model.specs.End.{EndsAs}
use Rattle.run_report.specs.CanReport.{CanReport}
use Rattle.run_report.proofs.SoundEnds.{sound_ends_can_be_reported}
use Rattle.ktask_cli.specs.Order.{Order, IsRunOf}

-- what an engine ensures of its end
pub record Ended (p : Program) (c : Columns) (plan : RunPlan) (e : EndSeen) : Type 0 where
  pub formed : IsWellFormed p
  pub sound : EndSound p c plan e
  pub faithful : EndFaithful p e
  pub answers : EndsAs p c plan e
  pub complete : EndComplete p c plan e
  pub counts : EndCounts p c e

-- the end is that of an order for the same program, columns and plan
pub run_ended : (o : Order) (p : Program) (c : Columns) (plan : RunPlan) (e : EndSeen) → p ≡ o.program → c ≡ o.columns → plan ≡ o.plan → Ended p c plan e → IsRunOf o e
run_ended o p c plan e same_program same_columns same_plan ended =
    let first : Ended o.program c plan e = subst (λ q. Ended q c plan e) same_program ended in
    let next : Ended o.program o.columns plan e = subst (λ d. Ended o.program d plan e) same_columns first in
    let all : Ended o.program o.columns o.plan e = subst (λ r. Ended o.program o.columns r e) same_plan next in
    record { formed = all.formed; sound = all.sound; faithful = all.faithful; answers = all.answers; complete = all.complete; counts = all.counts }

-- it can be reported
pub can_be_reported : (o : Order) (e : EndSeen) → IsRunOf o e → CanReport o.program e
can_be_reported o e run = sound_ends_can_be_reported o.program o.columns o.plan e run.sound
