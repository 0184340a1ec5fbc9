-- Which references are enough for the frames that run, when these change.
use Rattle.std.specs.Prelude.{◌≡◌, ℕ, ◌≤◌, Some, List, ◌∷◌, slice_index}
use Rattle.record_core.specs.Counting.{Has, passing, times, dropped}
use Rattle.task_syntax.specs.declared.instr.Instr.{Instr}
use Rattle.task_syntax.specs.declared.instr.Instr.TheVariants.{Spawn, All}
use Rattle.task_syntax.specs.declared.program.Program.{Program}
use Rattle.frame_code.specs.Moves.{passed_on}
use Rattle.frame_code.specs.Setting.{with_future}
use Rattle.frame_code.specs.Stops.{StandsAt}
use Rattle.frame_code.specs.Words.{BodyOf, OfKind, OfMembers, frame_at, body_at}
use Rattle.frame_code.specs.Ways.{HasWay}
use Rattle.table_core.specs.Holdings.{Run}
use Rattle.table_core.specs.WaitViews.{is_run_at}
use Rattle.schedule_rule.specs.Frames.{IsFormed, BagSound}
use Rattle.schedule_rule.specs.LifeViews.{IsMovedFrame}
use Rattle.schedule_rule.specs.PlacingViews.{with_act_past}

-- the instruction asks for a task and puts it into this variable
abbrev pub AsksInto : ℕ → Instr → Type 0
AsksInto x (Spawn to kind arguments behind priority retry) = to ≡ x
AsksInto x (All to members priority retry) = to ≡ x
AsksInto x _ = ⊥

-- the frame stands at such an instruction
abbrev pub StandsAsking : Program → ℕ → BodyOf ℕ → Type 0
StandsAsking p x (OfKind q) = StandsAt p (λ line. AsksInto x line.instr) q
StandsAsking p x (OfMembers units next) = ⊥

-- The words `past` are those of a frame that stood with the words `words` where it asked for a task, at the next line: the variable
-- for the task names the unit u.
pub record IsActPast (p : Program) (words past : List ℕ) (u : ℕ) : Type 0 where
  pub variable : ℕ
  pub asks : StandsAsking p variable (body_at p (slice_index words))
  pub is : body_at p (slice_index past) ≡ with_future variable (Some u) (passed_on (body_at p (slice_index words)))

-- more references are enough where fewer were
abbrev pub MoreCover : Type 0
MoreCover = (p : Program) (runs : List Run) (futures more : List ℕ) → ((u : ℕ) → times u futures ≤ times u more) → BagSound p (record { futures = futures; runs = runs })
    → BagSound p (record { futures = more; runs = runs })

-- the same references are enough without one of the runs
abbrev pub FewerRunsCover : Type 0
FewerRunsCover = (p : Program) (futures : List ℕ) (runs : List Run) (u : ℕ) → BagSound p (record { futures = futures; runs = runs }) → BagSound p (record { futures = futures; runs = dropped (is_run_at u) runs })

-- past an act by which a run asked for a task, one reference more is enough, to that task's record
abbrev pub ActsCover : Type 0
ActsCover = (p : Program) (futures : List ℕ) (runs : List Run) (r : Run) → Has r runs → passing (is_run_at r.unit) runs ≤ 1 → (past : List ℕ) (u : ℕ) → IsActPast p r.words past u
    → BagSound p (record { futures = futures; runs = runs }) → BagSound p (record { futures = u ∷ futures; runs = with_act_past r.unit past runs })

-- such an act moves the frame, where there was a way to it
abbrev pub ActsMove : Type 0
ActsMove = (p : Program) (words past : List ℕ) (u : ℕ) → IsActPast p words past u → HasWay p (frame_at p (slice_index words)) → IsFormed p (slice_index past) → IsMovedFrame p words past
