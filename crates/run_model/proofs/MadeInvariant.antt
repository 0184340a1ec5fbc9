-- What a run keeps of who made its tasks: roots have theirs in order, every other was made by an activation that was not
-- cut; a cut activation is its task's last; and the evidence is of a block that was refused.
use Rattle.std.specs.Prelude.{◌≡◌, ℕ, ◌<◌, ◌⊎◌, true, Option, Some, None, IsSome, List, length, slice_get}
use Rattle.task_syntax.specs.declared.instr.Instr.{Instr}
use Rattle.task_syntax.specs.declared.program.Root.{Root as RootLine}
use Rattle.task_syntax.specs.declared.program.Program.{Program}
use Rattle.task_meaning.specs.Frame.{FrameOf}
use Rattle.task_meaning.specs.Worths.{Accepted, Respawn}
use Rattle.frame_code.specs.Words.{OfKind}
use Rattle.record_core.specs.Numbers.{by_number, found, HasTask}
use Rattle.record_core.specs.Journal.{JournalState, is_cut, start_of, finish_of, cause_of}
use Rattle.record_core.specs.EndSound.{kind_class, IsNoRetry}
use Rattle.record_core.specs.EndAsks.{HasInstr, class_wanted}
use Rattle.record_core.specs.EndCalls.{MayMake}
use Rattle.record_core.specs.EndFaithful.{IsLastOf}
use Rattle.record_core.specs.declared.rows.ActivationRow.{ActivationRow}
use Rattle.record_core.specs.declared.rows.TaskRow.{TaskRow}
use Rattle.record_core.specs.declared.rows.Cause.TheVariants as cause
use Rattle.record_core.specs.declared.rows.CutTag.TheVariants.{Null}
use Rattle.run_model.specs.State.{Body, RootWord, Named, Refused, Evidence, Run}

-- a root has this task
abbrev pub IsNamed : List RootWord → ℕ → Type 0
IsNamed roots t = (at : ℕ) × (slice_get roots at ≡ Some (Named t))

-- the task is no root's, and activation n, which was not cut, may have made it in frame q
pub record IsMadeNow (p : Program) (j : JournalState) (calls : List Accepted) (roots : List RootWord) (t n : ℕ) (q : FrameOf ℕ) : Type 0 where
  pub not_named : IsNamed roots t → ⊥
  pub maker : MayMake p j.rows calls t n q
  pub uncut : (u : ℕ) → maker.row.after ≡ Some u → IsSome (finish_of j.tasks u) × (cause_of j.tasks u ≡ cause.Clear)

-- a block of this class was refused
pub data IsRefused (p : Program) (calls : List Accepted) (roots : List RootWord) (tasks : List TaskRow) (class : ℕ) : Type 0 where
  of_root : (at : ℕ) (root : RootLine) → slice_get p.roots at ≡ Some root → slice_get roots at ≡ Some (Refused Null) → kind_class p root.kind ≡ class → IsRefused p calls roots tasks class
  of_task : (t : ℕ) (instr : Instr) → HasInstr p calls t instr → class_wanted p instr ≡ Some class → cause_of tasks t ≡ cause.Null → IsRefused p calls roots tasks class
  again : (t : ℕ) (instr : Instr) → HasInstr p calls t instr → class_wanted p instr ≡ Some class → (IsNoRetry instr → ⊥)
      → ((m : ℕ) × (by_number calls m ≡ Some (Respawn t None))) ⊎ (cause_of tasks t ≡ cause.Limit) → IsRefused p calls roots tasks class

-- the tasks of roots rise with their roots, and a cut activation is its task's last
pub record Order (j : JournalState) (roots : List RootWord) : Type 0 where
  pub rise : (i k t u : ℕ) → i < k → slice_get roots i ≡ Some (Named t) → slice_get roots k ≡ Some (Named u) → t < u
  pub last : (n u : ℕ) (row : ActivationRow) → by_number j.rows n ≡ Some row → IsSome row.start → row.after ≡ Some u → is_cut (cause_of j.tasks u) ≡ true → IsLastOf j.rows row.task n

abbrev pub OrderStands : Run → Type 0
OrderStands r = Order r.journal r.roots

-- who asked for a number, and in which frame
pub record Asker : Type 0 where
  pub number : ℕ
  pub frame : FrameOf ℕ

-- one frame is behind another in the same state
abbrev pub IsAhead : FrameOf ℕ → FrameOf ℕ → Type 0
IsAhead q next = (q.state ≡ next.state) × (q.at < next.at)

-- Who asked for each number: an activation asks line by line, none before it has started, and the one that runs has gone on.
pub record Askers (story : List (Option Asker)) (rows : List ActivationRow) (bodies : List (Option Body)) (running : Option ℕ) : Type 0 where
  pub beside : length story ≡ length rows
  pub rise : (t u : ℕ) (a b : Asker) → found story t ≡ Some a → found story u ≡ Some b → a.number ≡ b.number → t < u → IsAhead a.frame b.frame
  pub begun : (t : ℕ) (a : Asker) → found story t ≡ Some a → IsSome (start_of rows a.number)
  pub now : (n t : ℕ) (row : ActivationRow) (q : FrameOf ℕ) (a : Asker) → running ≡ Some n → by_number rows n ≡ Some row → found bodies row.task ≡ Some (OfKind q)
      → found story t ≡ Some a → a.number ≡ n → IsAhead a.frame q

-- the task was made by whoever asked for it
abbrev pub IsMadeAs : Program → JournalState → List Accepted → List RootWord → List (Option Asker) → ℕ → Type 0
IsMadeAs p j calls roots story t = (a : Asker) × (found story t ≡ Some a) × IsMadeNow p j calls roots t a.number a.frame

-- each task has its root or its maker, and the evidence is of a refused block
pub record Made (p : Program) (j : JournalState) (calls : List Accepted) (roots : List RootWord) (evidence : Option Evidence) (bodies : List (Option Body)) (running : Option ℕ) : Type 0 where
  pub story : List (Option Asker)
  pub askers : Askers story j.rows bodies running
  pub made : (t : ℕ) → HasTask j.rows t → IsNamed roots t ⊎ IsMadeAs p j calls roots story t
  pub refused : (e : Evidence) → evidence ≡ Some e → IsRefused p calls roots j.tasks e.class

abbrev pub MadeStands : Program → Run → Type 0
MadeStands p r = Made p r.journal r.calls r.roots r.evidence r.bodies r.running
