-- What an ended run counts where nothing was refused, whatever the size of the pool and the limit are.
use Rattle.std.specs.Prelude.{◌≡◌, ◌≢◌, ℕ, Some, slice_get}
use Rattle.task_syntax.specs.declared.program.Program.{Program}
use Rattle.task_syntax.specs.declared.columns.Columns.{Columns}
use Rattle.task_meaning.specs.Meant.{Counts}
use Rattle.task_meaning.specs.Roots.{RootsCount}
use Rattle.record_core.specs.Journal.{cause_of}
use Rattle.record_core.specs.EndSeen.{EndSeen}
use Rattle.record_core.specs.EndSound.{IsComplete}
use Rattle.record_core.specs.declared.rows.Cause.TheVariants as cause
use Rattle.record_core.specs.declared.rows.RootEnd.TheVariants.{Cut}
use Rattle.record_core.specs.declared.rows.CutTag.TheVariants.{Limit}
use Rattle.record_core.specs.declared.rows.CutFrom.TheVariants.{Host}

-- at the end no null answer was counted, and no task and no root was refused at the limit
pub record NothingRefused (e : EndSeen) : Type 0 where
  pub no_null : e.nulls ≡ 0
  pub no_task : (t : ℕ) → cause_of e.tasks t ≢ cause.Limit
  pub no_root : (at : ℕ) → slice_get e.roots at ≢ Some (Cut Limit Host)

-- where nothing was refused and the program's meaning has counts, the end is complete: work was neither left out nor added
abbrev pub EndCounts : Program → Columns → EndSeen → Type 0
EndCounts p c e = (k : Counts) → RootsCount p c k → NothingRefused e → IsComplete e k
