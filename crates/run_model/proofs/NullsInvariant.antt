-- What a run keeps of null answers: each ended a task or a root, or was asked again, and the first left its evidence.
use Rattle.std.specs.Prelude.{◌≡◌, ◌↔◌, ℕ, ◌+◌, Option, None, List}
use Rattle.task_syntax.specs.declared.program.Program.{Program}
use Rattle.record_core.specs.Sums.{total}
use Rattle.record_core.specs.EndSound.{HasNoRetry, null_task}
use Rattle.record_core.specs.declared.rows.TaskRow.{TaskRow}
use Rattle.record_core.specs.declared.rows.CutTag.TheVariants.{Null}
use Rattle.run_model.specs.State.{RootWord, Refused, Evidence, Run}

abbrev pub null_word : RootWord → ℕ
null_word (Refused Null) = 1
null_word _ = 0

pub record Nulls (p : Program) (tasks : List TaskRow) (roots : List RootWord) (nulls : ℕ) (evidence : Option Evidence) : Type 0 where
  pub retried : ℕ
  pub counted : total null_task tasks + total null_word roots + retried ≡ nulls
  pub none : HasNoRetry p → retried ≡ 0
  pub kept : (nulls ≡ 0) ↔ (evidence ≡ None)

abbrev pub NullsStand : Program → Run → Type 0
NullsStand p r = Nulls p r.journal.tasks r.roots r.nulls r.evidence
