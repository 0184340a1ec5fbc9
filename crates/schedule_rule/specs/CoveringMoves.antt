-- Which references are enough for a frame that runs when it moves on: over lines, past a read, a copy or a drop.
use Rattle.std.specs.Prelude.{◌≡◌, ◌≢◌, ℕ, ◌+◌, ◌≤◌, Some, List, ◌∷◌, slice_index}
use Rattle.record_core.specs.Counting.{Has, passing, times, dropped}
use Rattle.task_syntax.specs.Valid.{Held}
use Rattle.task_syntax.specs.declared.columns.Columns.{Columns}
use Rattle.task_syntax.specs.declared.instr.Instr.TheVariants.{Get, Copy, Drop}
use Rattle.task_syntax.specs.declared.program.Program.{Program}
use Rattle.task_syntax.specs.declared.program.State.{State}
use Rattle.task_meaning.specs.Frame.{FrameOf, state_at}
use Rattle.task_meaning.specs.Meant.{future_at}
use Rattle.frame_code.specs.Stops.{StandsAt, GoesTo}
use Rattle.frame_code.specs.Ways.{HasWay}
use Rattle.frame_code.specs.Words.{OfKind, body_at}
use Rattle.table_core.specs.Holdings.{Run}
use Rattle.table_core.specs.RecordViews.{is_at}
use Rattle.table_core.specs.WaitViews.{is_run_at}
use Rattle.schedule_rule.specs.DrawViews.{changed}
use Rattle.schedule_rule.specs.Frames.{BagSound}
use Rattle.schedule_rule.specs.LifeViews.{with_words}

-- the frame `next` stands at the next line, and names what q names, but for the variable x
pub record IsNextBut (x : ℕ) (q next : FrameOf ℕ) : Type 0 where
  pub kind : next.kind ≡ q.kind
  pub state : next.state ≡ q.state
  pub at : next.at ≡ q.at + 1
  pub futures : (y : ℕ) → y ≢ x → future_at next.futures y ≡ future_at q.futures y

-- x is held where the frame stands
abbrev pub IsHeldAt : Program → FrameOf ℕ → ℕ → Type 0
IsHeldAt p q x = (state : State) → state_at p q.kind q.state ≡ Some state → Held state q.at x

-- the runs are these, and the frame of r, whose frame is q, moves to `next`: these references are enough then, if those were
abbrev pub MoveCovers : Program → (futures left : List ℕ) → List Run → Run → (q next : FrameOf ℕ) → Type 0
MoveCovers p futures left runs r q next = Has r runs → passing (is_run_at r.unit) runs ≤ 1 → body_at p (slice_index r.words) ≡ OfKind q → (words : List ℕ) → body_at p (slice_index words) ≡ OfKind next
    → BagSound p (record { futures = futures; runs = runs }) → BagSound p (record { futures = left; runs = changed (is_run_at r.unit) (with_words words) runs })

-- a frame that goes on over lines where it does not stop needs the same references
abbrev pub LinesCover : Type 0
LinesCover = (p : Program) (c : Columns) (futures : List ℕ) (runs : List Run) (r : Run) (q last : FrameOf ℕ) → GoesTo p c q last → MoveCovers p futures futures runs r q last

-- so does one that has read a number
abbrev pub ReadsCover : Type 0
ReadsCover = (p : Program) (futures : List ℕ) (runs : List Run) (r : Run) (q next : FrameOf ℕ) (to x : ℕ) → StandsAt p (λ line. line.instr ≡ Get to x) q → IsNextBut to q next → next.futures ≡ q.futures
    → MoveCovers p futures futures runs r q next

-- past a copy one reference more is enough
abbrev pub CopiesCover : Type 0
CopiesCover = (p : Program) (futures : List ℕ) (runs : List Run) (r : Run) (q next : FrameOf ℕ) (to source u : ℕ) → StandsAt p (λ line. line.instr ≡ Copy to source) q → IsNextBut to q next
    → future_at next.futures to ≡ Some u → MoveCovers p futures (u ∷ futures) runs r q next

-- past the drop of what is held, which names the unit u, one reference less is enough
abbrev pub DropsCover : Type 0
DropsCover = (p : Program) (futures : List ℕ) (runs : List Run) (r : Run) (q next : FrameOf ℕ) (x u : ℕ) → StandsAt p (λ line. line.instr ≡ Drop x) q → IsNextBut x q next → HasWay p q → IsHeldAt p q x
    → future_at q.futures x ≡ Some u → 1 ≤ times u futures → MoveCovers p futures (dropped (is_at u) futures) runs r q next
