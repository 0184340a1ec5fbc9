-- How a task goes on where what it waits for and reads has values.
use Rattle.std.specs.Prelude.{◌≡◌, ℕ, Option, Some, List, [], ◌∷◌, ◌++◌, map, length}
use Rattle.task_syntax.specs.Places.{Each}
use Rattle.task_syntax.specs.declared.value.Value.{Value}
use Rattle.task_syntax.specs.declared.value.Value.TheVariants.{Number}
use Rattle.task_syntax.specs.declared.program.Root.{Root as RootLine}
use Rattle.task_syntax.specs.declared.program.Program.{Program}
use Rattle.task_syntax.specs.declared.columns.Columns.{Columns}
use Rattle.task_meaning.specs.Meant.{Counts, total, future_at}
use Rattle.task_meaning.specs.Frame.{Place, enter, set_number, set_future}
use Rattle.task_meaning.specs.Meaning.{CallGives, CallCounts}
use Rattle.task_meaning.specs.Roots.{root_call}
use Rattle.task_meaning.specs.Acts.{Steps, Gathers, Reads, Respawns, Finishes, ActsAt}
use Rattle.task_meaning.specs.Runs.{HasValue, IsReady, IsTrap}

abbrev pub no_counts : Counts
no_counts = record { tasks = 0; activations = 0 }

-- one act that is no call: from a place to the next place of the task, and what it counts
pub data Leads (p : Program) (c : Columns) : Place → Counts → Place → Type 0 where
  steps : {q : Place} (next : Place) → ActsAt p c q (Steps next) → Leads p c q no_counts next
  gathers : {q : Place} (to : ℕ) (members : List ℕ) → ActsAt p c q (Gathers to members) → Each members (HasValue q.futures)
      → Leads p c q (record { tasks = 1; activations = length members }) (set_future q to (Some (Number 0)))
  reads : {q : Place} (to x n : ℕ) → ActsAt p c q (Reads to x) → future_at q.futures x ≡ Some (Number n) → Leads p c q no_counts (set_number q to n)
  respawns : {q : Place} (target : ℕ) (waits : Option ℕ) → ActsAt p c q (Respawns target waits) → IsReady q.futures waits
      → Leads p c q (record { tasks = 0; activations = 1 }) (enter p q target)

-- the task ends here with the value: by its own act, or by a trap that it reads
pub data EndsAt (p : Program) (c : Columns) : Place → Value → Type 0 where
  finishes : {q : Place} {v : Value} → ActsAt p c q (Finishes v) → EndsAt p c q v
  traps : {q : Place} {v : Value} (to x : ℕ) → ActsAt p c q (Reads to x) → future_at q.futures x ≡ Some v → IsTrap v → EndsAt p c q v

-- the roots are called one by one, behind earlier ones of these values, and each has a value; so much is counted
abbrev pub RootsCost : Program → Columns → List Value → List RootLine → Counts → Type 0
RootsCost p c earlier [] k = no_counts ≡ k
RootsCost p c earlier (root ∷ roots) k =
    (v : Value) × (i : Counts) × (j : Counts) × IsReady (map Some earlier) root.behind
    × CallGives p c (root_call (map Some earlier) root) v × CallCounts p c (root_call (map Some earlier) root) i
    × RootsCost p c (earlier ++ v ∷ []) roots j × (k ≡ total i j)
