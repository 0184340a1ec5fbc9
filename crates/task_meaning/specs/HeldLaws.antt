-- In a valid program the held futures alone matter: what a task meets later it holds where it stands.
use Rattle.std.specs.Prelude.{◌≡◌, ℕ, Option, Some, List, length, IsTrue}
use Rattle.task_syntax.specs.Form.{IsWellFormed}
use Rattle.task_syntax.specs.Facts.{has}
use Rattle.task_syntax.specs.Valid.{Held, IsValid}
use Rattle.task_syntax.specs.declared.program.State.{State}
use Rattle.task_syntax.specs.declared.program.Program.{Program}
use Rattle.task_syntax.specs.declared.columns.Columns.{Columns}
use Rattle.task_meaning.specs.Meant.{future_at}
use Rattle.task_meaning.specs.Frame.{FrameOf, Place, state_at, kept}
use Rattle.task_meaning.specs.Meaning.{rest}
use Rattle.task_meaning.specs.Worths.{Accepted, rest_of}

-- the future variable is held where the frame stands, by all ways to it
abbrev pub IsHeldAt : {A : Type 0} → Program → FrameOf A → ℕ → Type 0
IsHeldAt p q x = (state : State) × (state_at p q.kind q.state ≡ Some state) × Held state q.at x

-- two frames stand at one place, with the same numbers, and agree in the futures that are held there
pub record AgreeInHeld {A : Type 0} (p : Program) (q other : FrameOf A) : Type 0 where
  pub kind : q.kind ≡ other.kind
  pub state : q.state ≡ other.state
  pub at : q.at ≡ other.at
  pub numbers : q.numbers ≡ other.numbers
  pub as_long : length q.futures ≡ length other.futures
  pub held : (x : ℕ) → IsHeldAt p q x → future_at q.futures x ≡ future_at other.futures x

-- two such places mean the same, value and counts
abbrev pub HeldFuturesAloneMatter : Type 0
HeldFuturesAloneMatter = (p : Program) (c : Columns) (n : ℕ) (q other : Place) → IsWellFormed p → IsValid p → AgreeInHeld p q other
    → rest p c n q ≡ rest p c n other

-- the same follows from two such frames of tasks
abbrev pub HeldTasksAloneMatter : Type 0
HeldTasksAloneMatter = (p : Program) (c : Columns) (n : ℕ) (accepted : List Accepted) (waits : Option ℕ) (q other : FrameOf ℕ)
    → IsWellFormed p → IsValid p → AgreeInHeld p q other → rest_of p c n accepted waits q ≡ rest_of p c n accepted waits other

-- a frame may give up what is not held
abbrev pub UnheldMayGo : Type 0
UnheldMayGo = (p : Program) (c : Columns) (n : ℕ) (accepted : List Accepted) (waits : Option ℕ) (q : FrameOf ℕ) (variables : List ℕ)
    → IsWellFormed p → IsValid p → ((x : ℕ) → IsHeldAt p q x → IsTrue (has x variables))
    → rest_of p c n accepted waits (record q { futures = kept variables q.futures }) ≡ rest_of p c n accepted waits q
