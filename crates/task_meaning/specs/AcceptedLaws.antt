-- The laws of frames whose call stands anywhere among the accepted ones, and of a frame that is asked again.
use Rattle.std.specs.Prelude.{◌≡◌, ℕ, suc, ◌≤◌, ◌↔◌, Option, Some, None, List, map, length, slice_get}
use Rattle.task_syntax.specs.Places.{Each}
use Rattle.task_syntax.specs.Form.{IsWellFormed}
use Rattle.task_syntax.specs.declared.value.Value.{Value}
use Rattle.task_syntax.specs.declared.value.Value.TheVariants.{Number}
use Rattle.task_syntax.specs.declared.program.Program.{Program}
use Rattle.task_syntax.specs.declared.columns.Columns.{Columns}
use Rattle.task_meaning.specs.Meant.{Counts, total, future_at}
use Rattle.task_meaning.specs.Frame.{FrameOf, CallOf, entry, enter, set_future}
use Rattle.task_meaning.specs.Worths.{Accepted, OfCall, OfAll}
use Rattle.task_meaning.specs.Acts.{Calls, Gathers, Respawns, ActsAt}
use Rattle.task_meaning.specs.WorthLaws.{NamesUpTo}
use Rattle.task_meaning.specs.FrameLaws.{WorthGives, RestGives, HasWorth, NamesTask, task_waited}
use Rattle.task_meaning.specs.FrameCounts.{RestCounts}

-- a call that names earlier tasks alone was accepted at this position
pub record IsCallAt (accepted : List Accepted) (position : ℕ) (call : CallOf ℕ) (waits : Option ℕ) : Type 0 where
  pub there : slice_get accepted position ≡ Some (OfCall call waits)
  pub futures : Each call.futures (NamesUpTo position)
  pub waits_for : NamesUpTo position waits

-- an aggregate of earlier tasks was accepted at this position
pub record IsAggregateAt (accepted : List Accepted) (position : ℕ) (members : List ℕ) : Type 0 where
  pub there : slice_get accepted position ≡ Some (OfAll members)
  pub members_earlier : Each members (λ t. t ≤ position)

-- after a spawn: the variable names the task of the call, wherever the call was accepted
abbrev pub AcceptedSpawnsKeepRest : Type 0
AcceptedSpawnsKeepRest =
    (p : Program) (c : Columns) (accepted : List Accepted) (position : ℕ) (waits : Option ℕ) (q : FrameOf ℕ) (to : ℕ) (call : CallOf ℕ) (x : Option ℕ) (v : Value)
    → IsWellFormed p → ActsAt p c q (Calls to call x) → NamesTask q x → IsCallAt accepted position call (task_waited q x)
    → RestGives p c accepted waits q v ↔ RestGives p c accepted waits (set_future q to (Some (suc position))) v

-- after an aggregate of the tasks that the members name
abbrev pub AcceptedAggregatesKeepRest : Type 0
AcceptedAggregatesKeepRest =
    (p : Program) (c : Columns) (accepted : List Accepted) (position : ℕ) (waits : Option ℕ) (q : FrameOf ℕ) (to : ℕ) (members tasks : List ℕ) (v : Value)
    → IsWellFormed p → ActsAt p c q (Gathers to members) → map (future_at q.futures) members ≡ map Some tasks → IsAggregateAt accepted position tasks
    → RestGives p c accepted waits q v ↔ RestGives p c accepted waits (set_future q to (Some (suc position))) v

-- after a respawn of a task whose activation has what it waited for: whatever was accepted
abbrev pub AcceptedRespawnsKeepRest : Type 0
AcceptedRespawnsKeepRest = (p : Program) (c : Columns) (accepted : List Accepted) (waits : Option ℕ) (q : FrameOf ℕ) (target : ℕ) (x : Option ℕ) (v : Value)
    → IsWellFormed p → ActsAt p c q (Respawns target x) → NamesTask q x → HasWorth p c accepted waits
    → RestGives p c accepted waits q v ↔ RestGives p c accepted (task_waited q x) (enter p q target) v

-- at a spawn: one task and one activation, what is counted from the first frame of the call, and from the next frame
abbrev pub AcceptedSpawnsAddCounts : Type 0
AcceptedSpawnsAddCounts =
    (p : Program) (c : Columns) (accepted : List Accepted) (position : ℕ) (waits : Option ℕ) (q : FrameOf ℕ) (to : ℕ) (call : CallOf ℕ) (x : Option ℕ) (k : Counts)
    → IsWellFormed p → ActsAt p c q (Calls to call x) → NamesTask q x → IsCallAt accepted position call (task_waited q x)
    → RestCounts p c accepted waits q k
    ↔ ((i : Counts) × (j : Counts) × RestCounts p c accepted (task_waited q x) (entry p call) i
    × RestCounts p c accepted waits (set_future q to (Some (suc position))) j
    × (k ≡ total (record { tasks = 1; activations = 1 }) (total i j)))

-- at an aggregate of tasks with worths: one task, an activation for each member, and what is counted from the next frame
abbrev pub AcceptedAggregatesAddCounts : Type 0
AcceptedAggregatesAddCounts =
    (p : Program) (c : Columns) (accepted : List Accepted) (position : ℕ) (waits : Option ℕ) (q : FrameOf ℕ) (to : ℕ) (members tasks : List ℕ) (k : Counts)
    → IsWellFormed p → ActsAt p c q (Gathers to members) → map (future_at q.futures) members ≡ map Some tasks → IsAggregateAt accepted position tasks
    → RestCounts p c accepted waits q k
    ↔ ((j : Counts) × WorthGives p c accepted (suc position) (Number 0)
    × RestCounts p c accepted waits (set_future q to (Some (suc position))) j
    × (k ≡ total (record { tasks = 1; activations = length tasks }) j))

-- at a respawn: one activation, and what is counted from the next frame
abbrev pub AcceptedRespawnsAddCounts : Type 0
AcceptedRespawnsAddCounts = (p : Program) (c : Columns) (accepted : List Accepted) (waits : Option ℕ) (q : FrameOf ℕ) (target : ℕ) (x : Option ℕ) (k : Counts)
    → IsWellFormed p → ActsAt p c q (Respawns target x) → NamesTask q x → HasWorth p c accepted waits
    → RestCounts p c accepted waits q k
    ↔ ((j : Counts) × RestCounts p c accepted (task_waited q x) (enter p q target) j × (k ≡ total (record { tasks = 0; activations = 1 }) j))

-- what follows from a frame behind no task is what follows from it behind a task with a worth
abbrev pub RetriesKeepRest : Type 0
RetriesKeepRest = (p : Program) (c : Columns) (accepted : List Accepted) (waits : Option ℕ) (q : FrameOf ℕ) (v : Value) → HasWorth p c accepted waits
    → RestGives p c accepted None q v ↔ RestGives p c accepted waits q v

abbrev pub RetriesKeepCounts : Type 0
RetriesKeepCounts = (p : Program) (c : Columns) (accepted : List Accepted) (waits : Option ℕ) (q : FrameOf ℕ) (k : Counts) → HasWorth p c accepted waits
    → RestCounts p c accepted None q k ↔ RestCounts p c accepted waits q k
