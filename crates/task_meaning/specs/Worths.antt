-- The worth of each task of a run, and the rest of a frame. Both are functions of fuel.
-- A task has the number of its first activation, and activations are numbered from 1 in the order in which they are accepted.
use Rattle.std.specs.Prelude.{ℕ, Option, None, List, [], ◌∷◌, ◌++◌}
use Rattle.task_syntax.specs.declared.value.Value.{Value}
use Rattle.task_syntax.specs.declared.value.Value.TheVariants.{Number}
use Rattle.task_syntax.specs.declared.program.Program.{Program}
use Rattle.task_syntax.specs.declared.columns.Columns.{Columns}
use Rattle.task_meaning.specs.Meant.{Meant, gives, future_at, behind, behind_all}
use Rattle.task_meaning.specs.Frame.{Place, CallOf, FrameOf, frame_with, call_with}
use Rattle.task_meaning.specs.Meaning.{mean, rest}

-- What an accepted number stands for: a call of a kind, with the tasks of its future arguments and the task that it is behind;
-- an aggregate of tasks; or a further activation of a task, behind another.
pub data Accepted : Type 0 where
  OfCall : CallOf ℕ → Option ℕ → Accepted
  OfAll : List ℕ → Accepted
  Respawn : ℕ → Option ℕ → Accepted

-- the worth of what is accepted, where the tasks before it have these worths; a respawn begins no task
abbrev pub worth_of : Program → Columns → ℕ → List (Option Value) → Accepted → Option Value
worth_of p c n earlier (OfCall call waits) = (behind waits earlier (mean p c n (call_with (future_at earlier) call))).value
worth_of p c n earlier (OfAll members) = (behind_all members earlier (gives (Number 0))).value
worth_of p c n earlier (Respawn task waits) = None

abbrev pub worths_from : Program → Columns → ℕ → List (Option Value) → List Accepted → List (Option Value)
worths_from p c n earlier [] = earlier
worths_from p c n earlier (a ∷ more) = worths_from p c n (earlier ++ worth_of p c n earlier a ∷ []) more

-- the worths of the tasks by number; at 0 there is none
abbrev pub worths : Program → Columns → ℕ → List Accepted → List (Option Value)
worths p c n accepted = worths_from p c n (None ∷ []) accepted

-- the place of a frame whose futures are tasks of these worths
abbrev pub place_in : List (Option Value) → FrameOf ℕ → Place
place_in worth frame = frame_with (future_at worth) frame

-- what follows from a frame whose activation is behind a task
abbrev pub rest_of : Program → Columns → ℕ → List Accepted → Option ℕ → FrameOf ℕ → Meant
rest_of p c n accepted waits frame = behind waits (worths p c n accepted) (rest p c n (place_in (worths p c n accepted) frame))
