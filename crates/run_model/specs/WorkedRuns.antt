-- What is told of a worked run.
use Rattle.std.specs.Prelude.{◌≡◌, ℕ, List, Option, Some, map, length}
use Rattle.task_syntax.specs.declared.program.Program.{Program}
use Rattle.task_syntax.specs.declared.columns.Columns.{Columns}
use Rattle.kt_words.specs.declared.super_word.SuperWord.{SuperWord}
use Rattle.record_core.specs.EndSeen.{EndSeen, RunPlan}
use Rattle.record_core.specs.Journal.{task_count}
use Rattle.record_core.specs.declared.rows.ActivationRow.{ActivationRow}
use Rattle.record_core.specs.declared.rows.TaskRow.{TaskRow}
use Rattle.record_core.specs.declared.rows.Cause.{Cause}
use Rattle.record_core.specs.declared.rows.RootEnd.{RootEnd}
use Rattle.run_model.specs.End.{EndsAs}

-- how the roots ended; the activations, tasks and null answers; the blocks held of each class; and of the first null
-- answer its class and the class and count of each superblock
pub record Summary : Type 0 where
  pub roots : List RootEnd
  pub activations : ℕ
  pub tasks : ℕ
  pub nulls : ℕ
  pub held : List ℕ
  pub evidence_class : Option ℕ
  pub evidence : List (ℕ × ℕ)

abbrev pub summary : List RootEnd → ℕ → ℕ → ℕ → List ℕ → Option ℕ → List (ℕ × ℕ) → Summary
summary roots activations tasks nulls held class evidence = record {
  roots = roots;
  activations = activations;
  tasks = tasks;
  nulls = nulls;
  held = held;
  evidence_class = class;
  evidence = evidence;
}

abbrev pub class_and_count : SuperWord → ℕ × ℕ
class_and_count word = (word.class, word.count)

abbrev pub summary_of : EndSeen → Summary
summary_of e = summary e.roots (length e.rows) (task_count e.rows) e.nulls e.held e.evidence_class (map class_and_count e.evidence)

-- the run of the program is over with this summary
abbrev pub EndsSo : Program → Columns → RunPlan → Summary → Type 0
EndsSo p c plan told = (e : EndSeen) × EndsAs p c plan e × (summary_of e ≡ told)

-- and with these rows of its activations and tasks
abbrev pub IsTracedSo : Program → Columns → RunPlan → Summary → List ActivationRow → List TaskRow → Type 0
IsTracedSo p c plan told rows tasks = (e : EndSeen) × EndsAs p c plan e × (summary_of e ≡ told) × (e.rows ≡ rows) × (e.tasks ≡ tasks)

abbrev pub plan : ℕ → ℕ → ℕ → RunPlan
plan superblocks units limit = record { superblocks = superblocks; units = units; limit = limit }

-- an activation of this task started behind this one with this stamp
abbrev pub starts : ℕ → Option ℕ → ℕ → ActivationRow
starts task after stamp = record { task = task; after = after; start = Some stamp }

-- a task finished with this stamp, for this cause
abbrev pub finishes : ℕ → Cause → TaskRow
finishes stamp cause = record { finish = Some stamp; cause = cause }
