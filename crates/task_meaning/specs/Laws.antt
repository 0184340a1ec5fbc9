-- The laws of the meaning.
use Rattle.std.specs.Prelude.{◌≡◌, ℕ, suc, ◌≤◌, ◌↔◌, Some, None, List, slice_get}
use Rattle.task_syntax.specs.Form.{IsWellFormed}
use Rattle.task_syntax.specs.declared.value.Value.{Value}
use Rattle.task_syntax.specs.declared.instr.Line.{Line}
use Rattle.task_syntax.specs.declared.program.Program.{Program}
use Rattle.task_syntax.specs.declared.columns.Columns.{Columns}
use Rattle.task_meaning.specs.Meant.{Counts, Meant, nothing, given}
use Rattle.task_meaning.specs.Frame.{Place, Call, code_at, entry}
use Rattle.task_meaning.specs.Meaning.{rest, mean}
use Rattle.task_meaning.specs.Roots.{root_value, roots_counts}
use Rattle.task_meaning.specs.Acts.{act_of, JumpsAhead, followed}
use Rattle.task_meaning.specs.Runs.{Event, called, counts_of, Runs}

-- the second has the value and the counts of the first, where that has them
abbrev pub IsKeptBy : Meant → Meant → Type 0
IsKeptBy m more = ((v : Value) → m.value ≡ Some v → more.value ≡ Some v) × ((k : Counts) → m.counts ≡ Some k → more.counts ≡ Some k)

-- more fuel gives the same value and the same counts, from a place, of a call, and of the roots
abbrev pub MoreFuelKeepsRest : Type 0
MoreFuelKeepsRest = (p : Program) (c : Columns) (n m : ℕ) (q : Place) → n ≤ m → IsKeptBy (rest p c n q) (rest p c m q)

abbrev pub MoreFuelKeepsMean : Type 0
MoreFuelKeepsMean = (p : Program) (c : Columns) (n m : ℕ) (call : Call) → n ≤ m → IsKeptBy (mean p c n call) (mean p c m call)

abbrev pub MoreFuelKeepsRoots : Type 0
MoreFuelKeepsRoots = (p : Program) (c : Columns) (n m : ℕ) → n ≤ m
    → ((at : ℕ) (v : Value) → root_value p c n at ≡ Some v → root_value p c m at ≡ Some v)
    × ((k : Counts) → roots_counts p c n ≡ Some k → roots_counts p c m ≡ Some k)

-- the counts of a call are given only where its value is
abbrev pub CountsNeedValue : Type 0
CountsNeedValue = (p : Program) (c : Columns) (n : ℕ) (call : Call) (k : Counts) → (mean p c n call).counts ≡ Some k
    → (v : Value) × ((mean p c n call).value ≡ Some v)

-- the rest from a place is what follows its act; where there is no line, nothing is given
abbrev pub ActByAct : Type 0
ActByAct = (p : Program) (c : Columns) (n : ℕ) (q : Place) (line : Line) → slice_get (code_at p q.kind q.state) q.at ≡ Some line
    → JumpsAhead q.at line.instr → rest p c (suc n) q ≡ followed p c n (act_of c line.instr q) q

abbrev pub NoLineNoMeaning : Type 0
NoLineNoMeaning = (p : Program) (c : Columns) (n : ℕ) (q : Place) → slice_get (code_at p q.kind q.state) q.at ≡ None → rest p c n q ≡ nothing

-- Counts add up: some fuel gives a value and counts exactly where there is a run to the value in which so many tasks begin
-- and so many activations start.
abbrev pub CountsAddUp : Type 0
CountsAddUp = (p : Program) (c : Columns) (q : Place) (v : Value) (k : Counts) → IsWellFormed p
    → ((n : ℕ) × (rest p c n q ≡ given v k)) ↔ ((events : List Event) × Runs p c q v events × (counts_of events ≡ k))

abbrev pub CallCountsAddUp : Type 0
CallCountsAddUp = (p : Program) (c : Columns) (call : Call) (v : Value) (k : Counts) → IsWellFormed p
    → ((n : ℕ) × (mean p c n call ≡ given v k)) ↔ ((events : List Event) × Runs p c (entry p call) v events × (counts_of (called events) ≡ k))
