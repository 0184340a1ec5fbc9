-- A run of a task over the words of its frame, as the calls inside this crate say it.
use Rattle.std.specs.Prelude.{◌≡◌, ℕ, false, List, slice_index, slice_set}
use Rattle.task_syntax.specs.declared.program.Program.{Program}
use Rattle.task_syntax.specs.declared.columns.Columns.{Columns}
use Rattle.frame_code.specs.Control.{control_word, control_kind, control_state, control_at, is_aggregate}
use Rattle.frame_code.specs.Words.{frame_at}
use Rattle.frame_code.specs.Frames.{IsFrame}
use Rattle.frame_code.specs.Stops.{GoesTo, StopsAt}
use Rattle.frame_code.specs.declared.act.Act.{Act}
use Rattle.frame_code.specs.declared.words.Control.{Control}

-- what a control word says
abbrev pub unpacked : ℕ → Control
unpacked word = record { kind = control_kind word; state = control_state word; at = control_at word }

-- in the second words the frame stands at this line of this state, and nothing else changed
abbrev pub IsMovedTo : ℕ → ℕ → List ℕ → List ℕ → Type 0
IsMovedTo state at old new = new ≡ slice_set old 0 (control_word (control_kind (slice_index old 0)) state at)

-- the task ran from the frame of the first words to that of the second ones, where it stopped
pub record IsRun (p : Program) (c : Columns) (old : List ℕ) (asked : Act) (new : List ℕ) : Type 0 where
  pub frame : IsFrame p new
  pub is_task : is_aggregate (slice_index new 0) ≡ false
  pub goes : GoesTo p c (frame_at p (slice_index old)) (frame_at p (slice_index new))
  pub stops : StopsAt p c (frame_at p (slice_index new)) asked
