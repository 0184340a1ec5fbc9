-- When a run is over, and what it answers then.
use Rattle.std.specs.Prelude.{◌≡◌, ℕ, cond, nat_eq, Option, Some, None, List, [], ◌∷◌, map}
use Rattle.task_syntax.specs.declared.program.Program.{Program}
use Rattle.task_syntax.specs.declared.columns.Columns.{Columns}
use Rattle.kt_words.specs.declared.super_word.SuperWord.{SuperWord}
use Rattle.pool_core.specs.Blocks.{BlockState}
use Rattle.record_core.specs.Numbers.{found}
use Rattle.record_core.specs.Sums.{total}
use Rattle.record_core.specs.EndSeen.{EndSeen, RunPlan}
use Rattle.record_core.specs.declared.rows.RootEnd.{RootEnd}
use Rattle.record_core.specs.declared.rows.RootEnd.TheVariants.{Value, Cut}
use Rattle.record_core.specs.declared.rows.CutTag.TheVariants.{Null}
use Rattle.record_core.specs.declared.rows.CutFrom.TheVariants as from
use Rattle.run_model.specs.State.{Outcome, Gave, WasCut, RootWord, Named, Refused, Skipped, Evidence, Run, next_queued}
use Rattle.run_model.specs.Placing.{used}
use Rattle.run_model.specs.Step.{steps, asked, own_tasks}

-- the state after so many steps
abbrev pub state_at : Program → Columns → RunPlan → ℕ → Run
state_at p c plan taken = steps p c plan.units taken (asked p plan)

-- the run of the program is over in this state: it is reached in some number of steps, nothing runs, and nothing is ready
pub record OneThreadRun (p : Program) (c : Columns) (plan : RunPlan) (end : Run) : Type 0 where
  pub taken : ℕ
  pub reached : steps p c plan.units taken (asked p plan) ≡ end
  pub idle : end.running ≡ None
  pub quiet : next_queued end.ready ≡ None

-- how a root ended, whose task is t; a task without an outcome cannot be there at the end, and counts as cut
abbrev pub end_at : ℕ → Option Outcome → RootEnd
end_at t None = Cut Null (from.Task t)
end_at t (Some (Gave v)) = Value v
end_at t (Some (WasCut tag)) = Cut tag (from.Task t)

abbrev pub root_end : Run → RootWord → RootEnd
root_end r (Named t) = end_at t (found r.outcomes t)
root_end r (Refused tag) = Cut tag from.Host
root_end r (Skipped at tag) = Cut tag (from.Root at)

-- how many of the blocks have this class
abbrev pub held_of : ℕ → List BlockState → ℕ
held_of class blocks = total (λ (b : BlockState). cond (nat_eq b.class class) 1 0) blocks

abbrev pub class_kept : Option Evidence → Option ℕ
class_kept None = None
class_kept (Some e) = Some e.class

abbrev pub words_kept : Option Evidence → List SuperWord
words_kept None = []
words_kept (Some e) = e.words

-- all that an ended run answers, of a run that is over in this state
abbrev pub end_seen : RunPlan → Run → EndSeen
end_seen plan r = record {
  superblocks = plan.superblocks;
  units = plan.units;
  roots = map (root_end r) r.roots;
  own = own_tasks r;
  rows = r.journal.rows;
  tasks = r.journal.tasks;
  nulls = r.nulls;
  held = map (λ class. held_of class (used r)) (0 ∷ 1 ∷ 2 ∷ 3 ∷ []);
  evidence_class = class_kept r.evidence;
  evidence = words_kept r.evidence;
}

-- the run of the program is over, and answers this
abbrev pub EndsAs : Program → Columns → RunPlan → EndSeen → Type 0
EndsAs p c plan e = (end : Run) × OneThreadRun p c plan end × (e ≡ end_seen plan end)
