-- The laws of the meaning act by act, where no fuel is named: what one that goes through a task on a stack of calls cites.
use Rattle.std.specs.Prelude.{◌≡◌, ℕ, ◌↔◌, Option, Some, List, [], map, length, slice_get}
use Rattle.task_syntax.specs.Form.{IsWellFormed}
use Rattle.task_syntax.specs.declared.value.Value.{Value}
use Rattle.task_syntax.specs.declared.program.Root.{Root as RootLine}
use Rattle.task_syntax.specs.declared.program.Program.{Program}
use Rattle.task_syntax.specs.declared.columns.Columns.{Columns}
use Rattle.task_meaning.specs.Meant.{Counts, total}
use Rattle.task_meaning.specs.Frame.{Place, Call, set_future}
use Rattle.task_meaning.specs.Meaning.{Gives, GivesCounts, CallGives, CallCounts}
use Rattle.task_meaning.specs.Roots.{root_call, RootGives, RootsCount}
use Rattle.task_meaning.specs.Acts.{Calls, ActsAt}
use Rattle.task_meaning.specs.Runs.{IsReady}
use Rattle.task_meaning.specs.Leads.{Leads, EndsAt, no_counts, RootsCost}

-- a place and a call give at most one value and one pair of counts
abbrev pub OneValue : Type 0
OneValue = (p : Program) (c : Columns) (q : Place) (v w : Value) → Gives p c q v → Gives p c q w → v ≡ w

abbrev pub OneCounts : Type 0
OneCounts = (p : Program) (c : Columns) (q : Place) (i j : Counts) → GivesCounts p c q i → GivesCounts p c q j → i ≡ j

abbrev pub OneCallValue : Type 0
OneCallValue = (p : Program) (c : Columns) (call : Call) (v w : Value) → CallGives p c call v → CallGives p c call w → v ≡ w

abbrev pub OneCallCounts : Type 0
OneCallCounts = (p : Program) (c : Columns) (call : Call) (i j : Counts) → CallCounts p c call i → CallCounts p c call j → i ≡ j

-- where a task goes on, the next place gives what this one gives, and this one counts what the act counts as well
abbrev pub LeadsKeepValue : Type 0
LeadsKeepValue = (p : Program) (c : Columns) (q next : Place) (extra : Counts) (v : Value) → IsWellFormed p → Leads p c q extra next
    → Gives p c q v ↔ Gives p c next v

abbrev pub LeadsAddCounts : Type 0
LeadsAddCounts = (p : Program) (c : Columns) (q next : Place) (extra k : Counts) → IsWellFormed p → Leads p c q extra next
    → GivesCounts p c q k ↔ ((j : Counts) × GivesCounts p c next j × (k ≡ total extra j))

-- behind a call with a value the task goes on with that value, and it counts what the call counts as well
abbrev pub CallsKeepValue : Type 0
CallsKeepValue = (p : Program) (c : Columns) (q : Place) (to : ℕ) (call : Call) (waits : Option ℕ) (w v : Value) → IsWellFormed p
    → ActsAt p c q (Calls to call waits) → IsReady q.futures waits → CallGives p c call w
    → Gives p c q v ↔ Gives p c (set_future q to (Some w)) v

abbrev pub CallsAddCounts : Type 0
CallsAddCounts = (p : Program) (c : Columns) (q : Place) (to : ℕ) (call : Call) (waits : Option ℕ) (k : Counts) → IsWellFormed p
    → ActsAt p c q (Calls to call waits)
    → GivesCounts p c q k ↔ ((w : Value) × (i : Counts) × (j : Counts) × IsReady q.futures waits × CallGives p c call w × CallCounts p c call i
    × GivesCounts p c (set_future q to (Some w)) j × (k ≡ total i j))

-- where a task ends, this is its value, and no more is counted
abbrev pub EndsGive : Type 0
EndsGive = (p : Program) (c : Columns) (q : Place) (w v : Value) → IsWellFormed p → EndsAt p c q w → Gives p c q v ↔ (w ≡ v)

abbrev pub EndsCount : Type 0
EndsCount = (p : Program) (c : Columns) (q : Place) (w : Value) (k : Counts) → IsWellFormed p → EndsAt p c q w → GivesCounts p c q k ↔ (no_counts ≡ k)

-- a root has the value that its call gives with the values of the roots before it
abbrev pub RootsAreCalls : Type 0
RootsAreCalls = (p : Program) (c : Columns) (earlier : List Value) (root : RootLine) (v : Value)
    → slice_get p.roots (length earlier) ≡ Some root
    → ((at : ℕ) (u : Value) → slice_get earlier at ≡ Some u → RootGives p c at u)
    → IsReady (map Some earlier) root.behind
    → CallGives p c (root_call (map Some earlier) root) v ↔ RootGives p c (length earlier) v

-- the counts of all roots are those of their calls, made one by one
abbrev pub RootsAddUp : Type 0
RootsAddUp = (p : Program) (c : Columns) (k : Counts) → RootsCount p c k ↔ RootsCost p c [] p.roots k
