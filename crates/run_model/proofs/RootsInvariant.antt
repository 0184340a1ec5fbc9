-- What a run of a well-formed program keeps of its roots: what became of each that was asked for.
use Rattle.std.specs.Prelude.{◌≡◌, ℕ, ◌≤◌, Option, Some, None, length, slice_get}
use Rattle.task_syntax.specs.declared.program.Root.{Root as RootLine}
use Rattle.task_syntax.specs.declared.program.Program.{Program}
use Rattle.task_meaning.specs.RootLaws.{AreRootTasks}
use Rattle.record_core.specs.RootEnds.{roots_named}
use Rattle.record_core.specs.declared.rows.CutTag.{CutTag}
use Rattle.run_model.specs.State.{RootWord, Named, Refused, Skipped, Run}
use Rattle.run_model.specs.Step.{own_tasks, first_taskless}

-- the root because of which it was skipped, and its cut
abbrev pub skipped_from : RootWord → Option (ℕ × CutTag)
skipped_from (Named t) = None
skipped_from (Refused tag) = None
skipped_from (Skipped at tag) = Some (at, tag)

pub record RootsStand (p : Program) (r : Run) : Type 0 where
  pub few : length r.roots ≤ length p.roots
  -- a root was skipped exactly where it names one without a task: because of the first such
  pub skipped : (at : ℕ) (root : RootLine) (word : RootWord) → slice_get p.roots at ≡ Some root → slice_get r.roots at ≡ Some word
      → first_taskless r.roots (roots_named root) ≡ skipped_from word
  -- the task of a root was accepted as the call of the root
  pub tasks : AreRootTasks p r.calls (own_tasks r)
