-- The counts of the roots, one root more at a time.
use Rattle.std.specs.Prelude.{◌≡◌, ℕ, suc, ◌≤◌, ◌↔◌, Option, Some, None, List, length, drop, slice_get}
use Rattle.task_syntax.specs.Form.{IsWellFormed}
use Rattle.task_syntax.specs.declared.program.Root.{Root as RootLine}
use Rattle.task_syntax.specs.declared.program.Program.{Program}
use Rattle.task_syntax.specs.declared.columns.Columns.{Columns}
use Rattle.task_meaning.specs.Meant.{Counts, Meant, total, future_at}
use Rattle.task_meaning.specs.Frame.{entry}
use Rattle.task_meaning.specs.Roots.{root_call, mean_roots, all_counts, RootsCount}
use Rattle.task_meaning.specs.Worths.{Accepted}
use Rattle.task_meaning.specs.Leads.{no_counts}
use Rattle.task_meaning.specs.FrameCounts.{RestCounts}
use Rattle.task_meaning.specs.RootLaws.{root_waits, AreRootTasks}

abbrev pub counts_in : Option Meant → Option Counts
counts_in None = None
counts_in (Some m) = m.counts

-- the counts of the root at a position, and of all roots from a position on
abbrev pub root_counts : Program → Columns → ℕ → ℕ → Option Counts
root_counts p c n position = counts_in (slice_get (mean_roots p c n) position)

abbrev pub later_counts : Program → Columns → ℕ → ℕ → Option Counts
later_counts p c n position = all_counts (drop position (mean_roots p c n))

-- some fuel gives these counts
abbrev pub RootCounts : Program → Columns → ℕ → Counts → Type 0
RootCounts p c position k = (n : ℕ) × (root_counts p c n position ≡ Some k)

abbrev pub RootsLeft : Program → Columns → ℕ → Counts → Type 0
RootsLeft p c position k = (n : ℕ) × (later_counts p c n position ≡ Some k)

-- at first all roots are left
abbrev pub AllRootsLeft : Type 0
AllRootsLeft = (p : Program) (c : Columns) (k : Counts) → RootsCount p c k ↔ RootsLeft p c 0 k

-- the roots from a position on count what the root there counts and what those after it count
abbrev pub OneRootMore : Type 0
OneRootMore = (p : Program) (c : Columns) (position : ℕ) (root : RootLine) (k : Counts) → slice_get p.roots position ≡ Some root
    → RootsLeft p c position k ↔ ((i : Counts) × (j : Counts) × RootCounts p c position i × RootsLeft p c (suc position) j × (k ≡ total i j))

-- after the last root none is left
abbrev pub NoRootLeft : Type 0
NoRootLeft = (p : Program) (c : Columns) (position : ℕ) (k : Counts) → length p.roots ≤ position → RootsLeft p c position k ↔ (no_counts ≡ k)

-- a root with a task counts that task, its first activation, and what is counted from its first frame
abbrev pub RootTasksCountTheirFrame : Type 0
RootTasksCountTheirFrame =
    (p : Program) (c : Columns) (accepted : List Accepted) (own : List (Option ℕ)) (position : ℕ) (root : RootLine) (t : ℕ) (k : Counts)
    → IsWellFormed p → AreRootTasks p accepted own → slice_get p.roots position ≡ Some root → future_at own position ≡ Some t
    → RootCounts p c position k
    ↔ ((i : Counts) × RestCounts p c accepted (root_waits own root.behind) (entry p (root_call own root)) i
    × (k ≡ total (record { tasks = 1; activations = 1 }) i))
