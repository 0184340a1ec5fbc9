-- The laws of the run on one thread.
use Rattle.std.specs.Prelude.{◌≡◌, ℕ, ◌+◌, ◌*◌, ◌<◌, ◌≤◌, Some, None, List, [], ◌∷◌, ◌++◌, IsSome, MatchOption, length, slice_get}
use Rattle.task_syntax.specs.Places.{Each, EachAt}
use Rattle.task_syntax.specs.Form.{IsWellFormed}
use Rattle.task_syntax.specs.Valid.{IsValid}
use Rattle.task_syntax.specs.declared.program.Root.{Root as RootLine}
use Rattle.task_syntax.specs.declared.program.Program.{Program}
use Rattle.task_syntax.specs.declared.columns.Columns.{Columns}
use Rattle.kt_words.specs.Ranges.{IsGeometry}
use Rattle.pool_core.specs.Blocks.{BlockState, HasUnit}
use Rattle.pool_core.specs.Pool.{PoolState, Gives, HasNoRoom, IsSound}
use Rattle.task_meaning.specs.Meant.{Counts, future_at}
use Rattle.task_meaning.specs.Roots.{RootsCount}
use Rattle.frame_code.specs.Words.{OfKind, OfMembers}
use Rattle.record_core.specs.Numbers.{by_number, found, HasTask}
use Rattle.record_core.specs.Journal.{AreOfTasks, AreStampedOnce, AreInOrder, CausesLead, Leads, task_count, finish_of, cause_of}
use Rattle.record_core.specs.JournalLaws.{GrowsFrom}
use Rattle.record_core.specs.EndSeen.{EndSeen, RunPlan}
use Rattle.record_core.specs.EndSound.{EndSound, EndComplete, IsComplete, HasNoRetry, HasEvidence, AreOwn, IsCutAsNamed, null_ends, own_of_class}
use Rattle.record_core.specs.EndCalls.{IsOwn}
use Rattle.record_core.specs.EndCounts.{EndCounts, NothingRefused}
use Rattle.record_core.specs.EndFaithful.{EndFaithful, HidesNoCut, AreAsAsked}
use Rattle.record_core.specs.declared.rows.ActivationRow.{ActivationRow}
use Rattle.record_core.specs.declared.rows.Cause.TheVariants as cause
use Rattle.record_core.specs.declared.rows.RootEnd.TheVariants.{Cut}
use Rattle.record_core.specs.declared.rows.CutTag.{CutTag}
use Rattle.record_core.specs.declared.rows.CutTag.TheVariants.{Limit}
use Rattle.record_core.specs.declared.rows.CutFrom.TheVariants.{Host, Task}
use Rattle.run_model.specs.State.{Body, Named, Run}
use Rattle.run_model.specs.Placing.{placed, pool_of}
use Rattle.run_model.specs.Step.{step, steps, asks_roots, at_first}
use Rattle.run_model.specs.End.{OneThreadRun, state_at, end_seen}

-- two ends of the run of one program are the same
abbrev pub OneEnd : Type 0
OneEnd = (p : Program) (c : Columns) (plan : RunPlan) (one other : Run) → OneThreadRun p c plan one → OneThreadRun p c plan other → one ≡ other

-- a sound pool gives the block that is placed; where none is placed, it has no room
abbrev pub PlacesAsPoolsGive : Type 0
PlacesAsPoolsGive = (pool : PoolState) (class : ℕ) → class ≤ 3 → IsSound pool
    → MatchOption (placed pool class) (HasNoRoom pool class) (λ (block : BlockState). (new : PoolState) × Gives pool class block new)

-- Each accepted activation starts once, after its predecessor finished: a row, a stamp and a cause that stand stay through
-- any further steps; whoever has started did so after the finish of the task that it is behind; and where the run is over
-- all have started, and all tasks have finished.
pub record StartsOnce : Type 0 where
  pub stays : (p : Program) (c : Columns) (plan : RunPlan) (taken more : ℕ) → GrowsFrom (state_at p c plan taken).journal (steps p c plan.units more (state_at p c plan taken)).journal
  pub behind : (p : Program) (c : Columns) (plan : RunPlan) (taken n u s : ℕ) (row : ActivationRow) → by_number (state_at p c plan taken).journal.rows n ≡ Some row → row.after ≡ Some u → row.start ≡ Some s
      → (f : ℕ) × (finish_of (state_at p c plan taken).journal.tasks u ≡ Some f) × (f < s)
  pub all_start : (p : Program) (c : Columns) (plan : RunPlan) (end : Run) → OneThreadRun p c plan end → Each end.journal.rows (λ (row : ActivationRow). IsSome row.start)
  pub all_finish : (p : Program) (c : Columns) (plan : RunPlan) (end : Run) → OneThreadRun p c plan end → (t : ℕ) → HasTask end.journal.rows t → IsSome (finish_of end.journal.tasks t)

-- what the end of any run answers of its rows, cuts and null answers
pub record IsInOrder (p : Program) (plan : RunPlan) (e : EndSeen) : Type 0 where
  pub beside : length e.tasks ≡ length e.rows
  pub of_tasks : AreOfTasks e.rows
  pub started : Each e.rows (λ (row : ActivationRow). IsSome row.start)
  pub finished : (t : ℕ) → HasTask e.rows t → IsSome (finish_of e.tasks t)
  pub stamped : AreStampedOnce e.rows e.tasks (length e.rows + task_count e.rows)
  pub ordered : AreInOrder e.rows e.tasks
  pub own : AreOwn e
  -- a root that is cut from a task is cut from its own, whose causes lead to a refusal of this kind
  pub cuts : (at t : ℕ) (tag : CutTag) → slice_get e.roots at ≡ Some (Cut tag (Task t)) → (future_at e.own at ≡ Some t) × Leads e.tasks tag t
  pub causes : CausesLead e.rows e.tasks
  pub caused : (t : ℕ) → finish_of e.tasks t ≡ None → cause_of e.tasks t ≡ cause.Clear
  pub nulls : null_ends e ≤ e.nulls
  pub nulls_once : HasNoRetry p → null_ends e ≡ e.nulls
  pub as_many : length e.roots ≡ length p.roots
  pub within : length e.rows ≤ plan.limit
  pub limited : (t : ℕ) → cause_of e.tasks t ≡ cause.Limit → length e.rows ≡ plan.limit
  pub limited_root : (at : ℕ) → slice_get e.roots at ≡ Some (Cut Limit Host) → length e.rows ≡ plan.limit

-- whatever the program and the plan are, the end of a run is in order
abbrev pub EndsAreInOrder : Type 0
EndsAreInOrder = (p : Program) (c : Columns) (plan : RunPlan) (end : Run) → OneThreadRun p c plan end → IsInOrder p plan (end_seen plan end)

-- it hides no cut
abbrev pub EndsHideNoCut : Type 0
EndsHideNoCut = (p : Program) (c : Columns) (plan : RunPlan) (end : Run) → OneThreadRun p c plan end → HidesNoCut (end_seen plan end)

-- of a well-formed program, its roots have the tasks that they were asked for, and it skips a root exactly where it names one
-- without a task
abbrev pub EndsAreAsAsked : Type 0
EndsAreAsAsked = (p : Program) (c : Columns) (plan : RunPlan) (end : Run) → IsWellFormed p → OneThreadRun p c plan end → AreAsAsked p (end_seen plan end)

abbrev pub EndsSkipAsNamed : Type 0
EndsSkipAsNamed = (p : Program) (c : Columns) (plan : RunPlan) (end : Run) → IsWellFormed p → OneThreadRun p c plan end → EachAt (end_seen plan end).roots (IsCutAsNamed p (end_seen plan end).roots)

-- of a valid program, it is faithful: beside all of this each task is of a root, and the evidence is that of a refused block
abbrev pub EndsAreFaithful : Type 0
EndsAreFaithful = (p : Program) (c : Columns) (plan : RunPlan) (end : Run) → IsWellFormed p → IsValid p → IsGeometry plan.superblocks plan.units → OneThreadRun p c plan end → EndFaithful p (end_seen plan end)

-- whatever the program is, roots are asked for first: their own tasks have smaller numbers than all other tasks
abbrev pub EndsAskRootsFirst : Type 0
EndsAskRootsFirst = (p : Program) (c : Columns) (plan : RunPlan) (end : Run) → OneThreadRun p c plan end → (t m : ℕ) → IsOwn (end_seen plan end).own t → HasTask (end_seen plan end).rows m
    → (IsOwn (end_seen plan end).own m → ⊥) → t < m

-- at each moment the pool of the blocks in use is sound
abbrev pub PoolsAreSound : Type 0
PoolsAreSound = (p : Program) (c : Columns) (plan : RunPlan) (taken : ℕ) → IsGeometry plan.superblocks plan.units → IsSound (pool_of plan.units (state_at p c plan taken))

-- a body names a task: by a future of its frame, or among its members
abbrev pub BodyRefers : Body → ℕ → Type 0
BodyRefers (OfKind q) u = (x : ℕ) × (future_at q.futures x ≡ Some u)
BodyRefers (OfMembers members next) u = (at : ℕ) × (slice_get members at ≡ Some u)

-- something refers to a task: it is unfinished, or a root has it, or the body of an unfinished task names it
pub data IsReferred (r : Run) (u : ℕ) : Type 0 where
  unfinished : HasTask r.journal.rows u → finish_of r.journal.tasks u ≡ None → IsReferred r u
  of_root : (at : ℕ) → slice_get r.roots at ≡ Some (Named u) → IsReferred r u
  named : (t : ℕ) (body : Body) → found r.bodies t ≡ Some body → BodyRefers body u → IsReferred r u

-- the run once these roots were asked for, and nothing has started
abbrev pub roots_asked : Program → RunPlan → List RootLine → Run
roots_asked p plan roots = asks_roots p plan.units (at_first plan) roots

-- No two tasks to which something refers have blocks that share a unit; and neither a step nor asking for a root gives a block
-- that shares one with the block of a task to which something referred before.
pub record BlocksAreApart : Type 0 where
  pub held : (p : Program) (c : Columns) (plan : RunPlan) (taken u w unit : ℕ) (one other : BlockState) → IsGeometry plan.superblocks plan.units → IsReferred (state_at p c plan taken) u → IsReferred (state_at p c plan taken) w
      → found (state_at p c plan taken).blocks u ≡ Some one → found (state_at p c plan taken).blocks w ≡ Some other → HasUnit one unit → HasUnit other unit → u ≡ w
  pub given : (p : Program) (c : Columns) (plan : RunPlan) (taken u n unit : ℕ) (one other : BlockState) → IsGeometry plan.superblocks plan.units → IsReferred (state_at p c plan taken) u
      → found (state_at p c plan taken).blocks u ≡ Some one → found (state_at p c plan taken).blocks n ≡ None → found (step p c plan.units (state_at p c plan taken)).blocks n ≡ Some other
      → HasUnit one unit → HasUnit other unit → ⊥
  pub asked : (p : Program) (plan : RunPlan) (before more : List RootLine) (root : RootLine) (u n unit : ℕ) (one other : BlockState) → IsGeometry plan.superblocks plan.units → p.roots ≡ before ++ root ∷ more → IsReferred (roots_asked p plan before) u
      → found (roots_asked p plan before).blocks u ≡ Some one → found (roots_asked p plan before).blocks n ≡ None → found (roots_asked p plan (before ++ root ∷ [])).blocks n ≡ Some other
      → HasUnit one unit → HasUnit other unit → ⊥

-- a run of a valid program is over after at most 66 steps for each activation of its plan
abbrev pub RunsEnd : Type 0
RunsEnd = (p : Program) (c : Columns) (plan : RunPlan) → IsWellFormed p → IsValid p → (end : Run) × (run : OneThreadRun p c plan end) × (run.taken ≤ 66 * plan.limit)

-- at the end the only blocks held are those of roots, by the classes of their kinds
abbrev pub EndsHoldRoots : Type 0
EndsHoldRoots = (p : Program) (c : Columns) (plan : RunPlan) (end : Run) (class : ℕ) → IsWellFormed p → IsGeometry plan.superblocks plan.units → OneThreadRun p c plan end → class ≤ 3
    → slice_get (end_seen plan end).held class ≡ Some (own_of_class p class p.roots (end_seen plan end).own)

-- a null answer left its evidence
abbrev pub EndsHaveEvidence : Type 0
EndsHaveEvidence = (p : Program) (c : Columns) (plan : RunPlan) (end : Run) → IsWellFormed p → IsGeometry plan.superblocks plan.units → OneThreadRun p c plan end → 1 ≤ end.nulls → HasEvidence (end_seen plan end) plan.limit

-- the end of a run of a valid program is sound: all of this, and each value that a root shows is the meaning's
abbrev pub EndsAreSound : Type 0
EndsAreSound = (p : Program) (c : Columns) (plan : RunPlan) (end : Run) → IsWellFormed p → IsValid p → IsGeometry plan.superblocks plan.units → OneThreadRun p c plan end → EndSound p c plan (end_seen plan end)

-- it is complete where the meaning has counts, these are within the limit, and the pool suffices
abbrev pub EndsAreComplete : Type 0
EndsAreComplete = (p : Program) (c : Columns) (plan : RunPlan) (end : Run) → IsWellFormed p → IsValid p → IsGeometry plan.superblocks plan.units → OneThreadRun p c plan end → EndComplete p c plan (end_seen plan end)

-- where nothing was refused, each root has a value, and the run accepted exactly what the meaning counts, whatever the size of
-- the pool and the limit are
abbrev pub CountsWhereNothingIsRefused : Type 0
CountsWhereNothingIsRefused = (p : Program) (c : Columns) (plan : RunPlan) (end : Run) (k : Counts) → IsWellFormed p → IsValid p → OneThreadRun p c plan end → RootsCount p c k
    → NothingRefused (end_seen plan end) → IsComplete (end_seen plan end) k

-- so the end of a run of a valid program leaves no work out and adds none
abbrev pub EndsCount : Type 0
EndsCount = (p : Program) (c : Columns) (plan : RunPlan) (end : Run) → IsWellFormed p → IsValid p → OneThreadRun p c plan end → EndCounts p c (end_seen plan end)
