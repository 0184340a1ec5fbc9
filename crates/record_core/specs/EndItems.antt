-- What a sound end has, item by item.
use Rattle.std.specs.Prelude.{◌≡◌, ℕ, ◌+◌, ◌≤◌, Some, None, IsSome, length, slice_get}
use Rattle.task_syntax.specs.Places.{Each, EachAt}
use Rattle.task_syntax.specs.declared.value.Value.{Value as ValueOf}
use Rattle.task_syntax.specs.declared.program.Program.{Program}
use Rattle.task_syntax.specs.declared.columns.Columns.{Columns}
use Rattle.task_meaning.specs.Meant.{future_at}
use Rattle.task_meaning.specs.Roots.{RootGives}
use Rattle.record_core.specs.Numbers.{HasTask}
use Rattle.record_core.specs.Journal.{AreStampedOnce, AreInOrder, AreOfTasks, CausesLead, Leads, task_count, finish_of, cause_of}
use Rattle.record_core.specs.EndSeen.{EndSeen, RunPlan}
use Rattle.record_core.specs.EndSound.{AreOwn, IsCutAsNamed, HasNoRetry, HasEvidence, null_ends, own_of_class}
use Rattle.record_core.specs.declared.rows.ActivationRow.{ActivationRow}
use Rattle.record_core.specs.declared.rows.Cause.TheVariants as cause
use Rattle.record_core.specs.declared.rows.RootEnd.TheVariants.{Value, Cut}
use Rattle.record_core.specs.declared.rows.CutTag.{CutTag}
use Rattle.record_core.specs.declared.rows.CutTag.TheVariants.{Limit}
use Rattle.record_core.specs.declared.rows.CutFrom.TheVariants.{Host, Task}

-- every activation started and every task finished, with the numbers up to how many these are as stamps, each once
pub record AllAreStamped (e : EndSeen) : Type 0 where
  pub beside : length e.tasks ≡ length e.rows
  pub of_tasks : AreOfTasks e.rows
  pub started : Each e.rows (λ (row : ActivationRow). IsSome row.start)
  pub finished : (t : ℕ) → HasTask e.rows t → IsSome (finish_of e.tasks t)
  pub stamped : AreStampedOnce e.rows e.tasks (length e.rows + task_count e.rows)

-- activations start after their predecessors, and a task's in order before its finish
abbrev pub StampsAreInOrder : EndSeen → Type 0
StampsAreInOrder e = AreInOrder e.rows e.tasks

-- each value that a root shows is the meaning's
abbrev pub ValuesAreMeant : Program → Columns → EndSeen → Type 0
ValuesAreMeant p c e = (at : ℕ) (v : ValueOf) → slice_get e.roots at ≡ Some (Value v) → RootGives p c at v

-- each cut of a root and of a task has its cause
pub record CutsHaveCauses (p : Program) (e : EndSeen) : Type 0 where
  pub of_tasks : (at t : ℕ) (tag : CutTag) → slice_get e.roots at ≡ Some (Cut tag (Task t)) → (future_at e.own at ≡ Some t) × Leads e.tasks tag t
  pub named : EachAt e.roots (IsCutAsNamed p e.roots)
  pub causes : CausesLead e.rows e.tasks
  pub caused : (t : ℕ) → finish_of e.tasks t ≡ None → cause_of e.tasks t ≡ cause.Clear

-- only roots hold blocks, each one of the class of its kind
pub record OnlyRootsHold (p : Program) (e : EndSeen) : Type 0 where
  pub classes : length e.held ≡ 4
  pub held : (class : ℕ) → class ≤ 3 → slice_get e.held class ≡ Some (own_of_class p class p.roots e.own)

-- null answers are counted and have evidence
pub record NullsAreShown (p : Program) (limit : ℕ) (e : EndSeen) : Type 0 where
  pub nulls : null_ends e ≤ e.nulls
  pub once : HasNoRetry p → null_ends e ≡ e.nulls
  pub evidence : 1 ≤ e.nulls → HasEvidence e limit

-- the plan was kept, and the limit cut something only where it was met
pub record KeepsPlan (p : Program) (plan : RunPlan) (e : EndSeen) : Type 0 where
  pub superblocks : e.superblocks ≡ plan.superblocks
  pub units : e.units ≡ plan.units
  pub as_many : length e.roots ≡ length p.roots
  pub within : length e.rows ≤ plan.limit
  pub limited : (t : ℕ) → cause_of e.tasks t ≡ cause.Limit → length e.rows ≡ plan.limit
  pub limited_root : (at : ℕ) → slice_get e.roots at ≡ Some (Cut Limit Host) → length e.rows ≡ plan.limit

-- all items together, with the own tasks of roots of which they speak
pub record EndItems (p : Program) (c : Columns) (plan : RunPlan) (e : EndSeen) : Type 0 where
  pub own : AreOwn e
  pub stamped : AllAreStamped e
  pub ordered : StampsAreInOrder e
  pub values : ValuesAreMeant p c e
  pub cuts : CutsHaveCauses p e
  pub held : OnlyRootsHold p e
  pub nulls : NullsAreShown p plan.limit e
  pub kept : KeepsPlan p plan e
