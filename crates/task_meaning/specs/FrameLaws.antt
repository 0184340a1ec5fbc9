-- The laws of what follows from the frames of tasks while calls are accepted, where no fuel is named.
use Rattle.std.specs.Prelude.{◌≡◌, ℕ, suc, ◌↔◌, Option, Some, None, List, [], ◌∷◌, ◌++◌, map, length}
use Rattle.task_syntax.specs.Places.{Each}
use Rattle.task_syntax.specs.Form.{IsWellFormed}
use Rattle.task_syntax.specs.declared.value.Value.{Value}
use Rattle.task_syntax.specs.declared.value.Value.TheVariants.{Number}
use Rattle.task_syntax.specs.declared.program.Program.{Program}
use Rattle.task_syntax.specs.declared.columns.Columns.{Columns}
use Rattle.task_meaning.specs.Meant.{future_at}
use Rattle.task_meaning.specs.Frame.{FrameOf, CallOf, enter, set_number, set_future}
use Rattle.task_meaning.specs.Worths.{Accepted, OfCall, OfAll, Respawn, worths, rest_of}
use Rattle.task_meaning.specs.Acts.{Calls, Gathers, Reads, Respawns, Finishes, ActsAt}
use Rattle.task_meaning.specs.Runs.{IsTrap}
use Rattle.task_meaning.specs.WorthLaws.{NamesUpTo}

-- some fuel gives the worth of a task, and the value of what follows from a frame
abbrev pub WorthGives : Program → Columns → List Accepted → ℕ → Value → Type 0
WorthGives p c accepted t v = (n : ℕ) × (future_at (worths p c n accepted) t ≡ Some v)

abbrev pub RestGives : Program → Columns → List Accepted → Option ℕ → FrameOf ℕ → Value → Type 0
RestGives p c accepted waits q v = (n : ℕ) × ((rest_of p c n accepted waits q).value ≡ Some v)

-- the task that is waited for, if any is, has a worth
abbrev pub HasWorth : Program → Columns → List Accepted → Option ℕ → Type 0
HasWorth p c accepted None = Unit {0}
HasWorth p c accepted (Some t) = (v : Value) × WorthGives p c accepted t v

-- the variable that is waited for, if any is, names a task
abbrev pub NamesTask : FrameOf ℕ → Option ℕ → Type 0
NamesTask q None = Unit {0}
NamesTask q (Some x) = (t : ℕ) × (future_at q.futures x ≡ Some t)

-- the task that it names
abbrev pub task_waited : FrameOf ℕ → Option ℕ → Option ℕ
task_waited q None = None
task_waited q (Some x) = future_at q.futures x

-- the frame, and the task that its activation waits for, name accepted tasks alone
abbrev pub NamesAccepted : List Accepted → Option ℕ → FrameOf ℕ → Type 0
NamesAccepted accepted waits q = Each q.futures (NamesUpTo (length accepted)) × NamesUpTo (length accepted) waits

-- behind a spawn: the variable names the task that was accepted
abbrev pub SpawnsKeepRest : Type 0
SpawnsKeepRest = (p : Program) (c : Columns) (accepted : List Accepted) (waits : Option ℕ) (q : FrameOf ℕ) (to : ℕ) (call : CallOf ℕ) (x : Option ℕ) (v : Value)
    → IsWellFormed p → NamesAccepted accepted waits q → ActsAt p c q (Calls to call x) → NamesTask q x
    → RestGives p c accepted waits q v
    ↔ RestGives p c (accepted ++ OfCall call (task_waited q x) ∷ []) waits (set_future q to (Some (suc (length accepted)))) v

-- behind an aggregate of the tasks that the members name
abbrev pub AggregatesKeepRest : Type 0
AggregatesKeepRest = (p : Program) (c : Columns) (accepted : List Accepted) (waits : Option ℕ) (q : FrameOf ℕ) (to : ℕ) (members tasks : List ℕ) (v : Value)
    → IsWellFormed p → NamesAccepted accepted waits q → ActsAt p c q (Gathers to members) → map (future_at q.futures) members ≡ map Some tasks
    → RestGives p c accepted waits q v
    ↔ RestGives p c (accepted ++ OfAll tasks ∷ []) waits (set_future q to (Some (suc (length accepted)))) v

-- behind a read of a task that is worth a number
abbrev pub ReadsKeepRest : Type 0
ReadsKeepRest = (p : Program) (c : Columns) (accepted : List Accepted) (waits : Option ℕ) (q : FrameOf ℕ) (to x t k : ℕ) (v : Value)
    → IsWellFormed p → ActsAt p c q (Reads to x) → future_at q.futures x ≡ Some t → WorthGives p c accepted t (Number k)
    → RestGives p c accepted waits q v ↔ RestGives p c accepted waits (set_number q to k) v

-- behind a respawn of a task whose activation has what it waited for
abbrev pub RespawnsKeepRest : Type 0
RespawnsKeepRest = (p : Program) (c : Columns) (accepted : List Accepted) (waits : Option ℕ) (q : FrameOf ℕ) (target task : ℕ) (x : Option ℕ) (v : Value)
    → IsWellFormed p → NamesAccepted accepted waits q → ActsAt p c q (Respawns target x) → NamesTask q x → HasWorth p c accepted waits
    → RestGives p c accepted waits q v
    ↔ RestGives p c (accepted ++ Respawn task (task_waited q x) ∷ []) (task_waited q x) (enter p q target) v

-- where a task ends by its own act, or by a trap that it reads
abbrev pub EndsGiveRest : Type 0
EndsGiveRest = (p : Program) (c : Columns) (accepted : List Accepted) (waits : Option ℕ) (q : FrameOf ℕ) (w v : Value)
    → IsWellFormed p → ActsAt p c q (Finishes w) → HasWorth p c accepted waits → RestGives p c accepted waits q v ↔ (w ≡ v)

abbrev pub TrapsGiveRest : Type 0
TrapsGiveRest = (p : Program) (c : Columns) (accepted : List Accepted) (waits : Option ℕ) (q : FrameOf ℕ) (to x t : ℕ) (w v : Value)
    → IsWellFormed p → ActsAt p c q (Reads to x) → future_at q.futures x ≡ Some t → WorthGives p c accepted t w → IsTrap w → HasWorth p c accepted waits
    → RestGives p c accepted waits q v ↔ (w ≡ v)
