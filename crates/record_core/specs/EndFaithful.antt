-- What an ended run keeps beside being sound: its rows agree with its roots, no cut is hidden, and each task has its root.
use Rattle.std.specs.Prelude.{◌≡◌, ◌↔◌, ℕ, ◌<◌, ◌≤◌, true, Option, Some, None, List, [], slice_get}
use Rattle.task_syntax.specs.Places.{Each, EachAt}
use Rattle.task_syntax.specs.declared.program.Root.{Root as RootLine}
use Rattle.task_syntax.specs.declared.program.Program.{Program}
use Rattle.task_meaning.specs.Meant.{future_at}
use Rattle.task_meaning.specs.RootLaws.{root_waits}
use Rattle.task_meaning.specs.Worths.{Accepted}
use Rattle.kt_words.specs.Capacity.{capacity}
use Rattle.kt_words.specs.declared.super_word.SuperWord.{SuperWord}
use Rattle.record_core.specs.Numbers.{by_number}
use Rattle.record_core.specs.Journal.{is_cut, cause_of}
use Rattle.record_core.specs.EndSeen.{EndSeen}
use Rattle.record_core.specs.EndSound.{IsValueEnd}
use Rattle.record_core.specs.EndCalls.{Makers, TellRun}
use Rattle.record_core.specs.declared.rows.ActivationRow.{ActivationRow}
use Rattle.record_core.specs.declared.rows.TaskRow.{TaskRow}
use Rattle.record_core.specs.declared.rows.Cause.TheVariants.{Clear, By}

-- there is a task, and it was not cut
abbrev pub IsUncut : List TaskRow → Option ℕ → Type 0
IsUncut tasks None = ⊥
IsUncut tasks (Some t) = cause_of tasks t ≡ Clear

-- no activation of this task has a greater number
abbrev pub IsLastOf : List ActivationRow → ℕ → ℕ → Type 0
IsLastOf rows t n = (m : ℕ) (other : ActivationRow) → by_number rows m ≡ Some other → other.task ≡ t → m ≤ n

-- cuts are told as they were
pub record HidesNoCut (e : EndSeen) : Type 0 where
  -- A root shows a value exactly where its own task was not cut.
  pub clear : EachAt e.roots (λ at end. IsValueEnd end ↔ IsUncut e.tasks (future_at e.own at))
  -- A task of which an activation is behind a cut task was cut by that one, and that activation was its last.
  pub through : (n u : ℕ) (row : ActivationRow) → by_number e.rows n ≡ Some row → row.after ≡ Some u
      → is_cut (cause_of e.tasks u) ≡ true → cause_of e.tasks row.task ≡ By u
  pub last : (n u : ℕ) (row : ActivationRow) → by_number e.rows n ≡ Some row → row.after ≡ Some u
      → is_cut (cause_of e.tasks u) ≡ true → IsLastOf e.rows row.task n

-- the own tasks of roots are as the roots were asked for
pub record AreAsAsked (p : Program) (e : EndSeen) : Type 0 where
  -- The first activation of a root's own task is behind what the root's line is behind.
  pub behind : (at t : ℕ) (root : RootLine) (row : ActivationRow) → slice_get p.roots at ≡ Some root
      → future_at e.own at ≡ Some t → by_number e.rows t ≡ Some row → row.after ≡ root_waits e.own root.behind
  -- Roots were asked for in their order.
  pub rise : (i j t u : ℕ) → i < j → future_at e.own i ≡ Some t → future_at e.own j ≡ Some u → t < u

-- the superblock has room for as many blocks as are out, and gave them
pub record HeldBlocks (units : ℕ) (word : SuperWord) : Type 0 where
  pub fits : word.count ≤ capacity units word.class
  pub given : word.count ≤ word.ever

pub record EndFaithful (p : Program) (e : EndSeen) : Type 0 where
  pub cuts : HidesNoCut e
  pub own : AreAsAsked p e
  -- There are calls and makers that tell the run: each accepted task is of a root, and the evidence is of a refused block.
  pub told : (calls : List Accepted) × (makers : Makers) × TellRun p e calls makers
  -- It is there exactly where an answer was null, and its counts fit the superblocks.
  pub shown : (e.nulls ≡ 0) ↔ (e.evidence_class ≡ None)
  pub bare : e.nulls ≡ 0 → e.evidence ≡ []
  pub counts : Each e.evidence (HeldBlocks e.units)
