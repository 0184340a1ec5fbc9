-- The laws of what is still counted from the frames of tasks while calls are accepted.
use Rattle.std.specs.Prelude.{◌≡◌, ℕ, suc, ◌↔◌, Option, Some, List, [], ◌∷◌, ◌++◌, map, length}
use Rattle.task_syntax.specs.Form.{IsWellFormed}
use Rattle.task_syntax.specs.declared.value.Value.{Value}
use Rattle.task_syntax.specs.declared.value.Value.TheVariants.{Number}
use Rattle.task_syntax.specs.declared.program.Program.{Program}
use Rattle.task_syntax.specs.declared.columns.Columns.{Columns}
use Rattle.task_meaning.specs.Meant.{Counts, total, future_at}
use Rattle.task_meaning.specs.Frame.{FrameOf, CallOf, entry, enter, set_number, set_future}
use Rattle.task_meaning.specs.Worths.{Accepted, OfCall, OfAll, Respawn, rest_of}
use Rattle.task_meaning.specs.Acts.{Calls, Gathers, Reads, Respawns, Finishes, ActsAt}
use Rattle.task_meaning.specs.Runs.{IsTrap}
use Rattle.task_meaning.specs.Leads.{no_counts}
use Rattle.task_meaning.specs.FrameLaws.{WorthGives, HasWorth, NamesTask, task_waited, NamesAccepted}

-- some fuel gives the counts of what follows from a frame
abbrev pub RestCounts : Program → Columns → List Accepted → Option ℕ → FrameOf ℕ → Counts → Type 0
RestCounts p c accepted waits q k = (n : ℕ) × ((rest_of p c n accepted waits q).counts ≡ Some k)

-- at a spawn: one task and one activation, what is counted from the first frame of the call, and from the frame behind
abbrev pub SpawnsAddCounts : Type 0
SpawnsAddCounts = (p : Program) (c : Columns) (accepted : List Accepted) (waits : Option ℕ) (q : FrameOf ℕ) (to : ℕ) (call : CallOf ℕ) (x : Option ℕ) (k : Counts)
    → IsWellFormed p → NamesAccepted accepted waits q → ActsAt p c q (Calls to call x) → NamesTask q x
    → RestCounts p c accepted waits q k
    ↔ ((i : Counts) × (j : Counts)
    × RestCounts p c (accepted ++ OfCall call (task_waited q x) ∷ []) (task_waited q x) (entry p call) i
    × RestCounts p c (accepted ++ OfCall call (task_waited q x) ∷ []) waits (set_future q to (Some (suc (length accepted)))) j
    × (k ≡ total (record { tasks = 1; activations = 1 }) (total i j)))

-- at an aggregate of tasks with worths: one task, an activation for each member, and what is counted from the frame behind
abbrev pub AggregatesAddCounts : Type 0
AggregatesAddCounts = (p : Program) (c : Columns) (accepted : List Accepted) (waits : Option ℕ) (q : FrameOf ℕ) (to : ℕ) (members tasks : List ℕ) (k : Counts)
    → IsWellFormed p → NamesAccepted accepted waits q → ActsAt p c q (Gathers to members) → map (future_at q.futures) members ≡ map Some tasks
    → RestCounts p c accepted waits q k
    ↔ ((j : Counts) × WorthGives p c (accepted ++ OfAll tasks ∷ []) (suc (length accepted)) (Number 0)
    × RestCounts p c (accepted ++ OfAll tasks ∷ []) waits (set_future q to (Some (suc (length accepted)))) j
    × (k ≡ total (record { tasks = 1; activations = length tasks }) j))

-- at a read of a task that is worth a number
abbrev pub ReadsKeepCounts : Type 0
ReadsKeepCounts = (p : Program) (c : Columns) (accepted : List Accepted) (waits : Option ℕ) (q : FrameOf ℕ) (to x t n : ℕ) (k : Counts)
    → IsWellFormed p → ActsAt p c q (Reads to x) → future_at q.futures x ≡ Some t → WorthGives p c accepted t (Number n)
    → RestCounts p c accepted waits q k ↔ RestCounts p c accepted waits (set_number q to n) k

-- at a respawn: one activation, and what is counted from the frame behind
abbrev pub RespawnsAddCounts : Type 0
RespawnsAddCounts = (p : Program) (c : Columns) (accepted : List Accepted) (waits : Option ℕ) (q : FrameOf ℕ) (target task : ℕ) (x : Option ℕ) (k : Counts)
    → IsWellFormed p → NamesAccepted accepted waits q → ActsAt p c q (Respawns target x) → NamesTask q x → HasWorth p c accepted waits
    → RestCounts p c accepted waits q k
    ↔ ((j : Counts) × RestCounts p c (accepted ++ Respawn task (task_waited q x) ∷ []) (task_waited q x) (enter p q target) j
    × (k ≡ total (record { tasks = 0; activations = 1 }) j))

-- where a task ends, no more is counted
abbrev pub EndsCountNoMore : Type 0
EndsCountNoMore = (p : Program) (c : Columns) (accepted : List Accepted) (waits : Option ℕ) (q : FrameOf ℕ) (w : Value) (k : Counts)
    → IsWellFormed p → ActsAt p c q (Finishes w) → HasWorth p c accepted waits → RestCounts p c accepted waits q k ↔ (no_counts ≡ k)

abbrev pub TrapsCountNoMore : Type 0
TrapsCountNoMore = (p : Program) (c : Columns) (accepted : List Accepted) (waits : Option ℕ) (q : FrameOf ℕ) (to x t : ℕ) (w : Value) (k : Counts)
    → IsWellFormed p → ActsAt p c q (Reads to x) → future_at q.futures x ≡ Some t → WorthGives p c accepted t w → IsTrap w → HasWorth p c accepted waits
    → RestCounts p c accepted waits q k ↔ (no_counts ≡ k)
