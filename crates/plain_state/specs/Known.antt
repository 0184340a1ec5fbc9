-- What an engine knows of the tasks that it names: each has a record, and was accepted.
use Rattle.std.specs.Prelude.{◌≡◌, ℕ, Option, Some, None, IsSome, List, length, slice_get}
use Rattle.task_syntax.specs.Places.{Each}
use Rattle.task_syntax.specs.declared.program.Program.{Program}
use Rattle.task_syntax.specs.declared.columns.Columns.{Columns}
use Rattle.frame_code.specs.Words.{body_of}
use Rattle.frame_code.specs.Names.{names_of}
use Rattle.record_core.specs.Numbers.{HasTask}
use Rattle.record_core.specs.EndSeen.{RunPlan}
use Rattle.run_model.specs.State.{Run}
use Rattle.plain_state.specs.declared.record.RootState.TheVariants as root
use Rattle.plain_state.specs.Engine.{EngineState}
use Rattle.plain_state.specs.Sees.{Rests, Runs}
use Rattle.plain_state.specs.Laws.{MayRun, Asked, KnownAt}

-- a record stands at the unit, if there is one, and its task was accepted
abbrev pub IsKnown : EngineState → Option ℕ → Type 0
IsKnown e None = Unit {0}
IsKnown e (Some unit) = KnownAt e unit (λ known. HasTask e.journal.rows known.task)

-- the units that the running task names are known
abbrev pub NamesAreKnown : Type 0
NamesAreKnown = (p : Program) (c : Columns) (plan : RunPlan) (e : EngineState) (r : Run) (unit : ℕ) (words : List ℕ) → MayRun p plan
    → Runs p c plan e unit words r → Each (names_of (body_of p words)) (λ u. IsKnown e (Some u))

-- and its own
abbrev pub RunningIsKnown : Type 0
RunningIsKnown = (p : Program) (c : Columns) (plan : RunPlan) (e : EngineState) (r : Run) (unit : ℕ) (words : List ℕ) → MayRun p plan
    → Runs p c plan e unit words r → IsKnown e (Some unit)

-- and those of the roots that were asked for
abbrev pub RootsAreKnown : Type 0
RootsAreKnown = (p : Program) (plan : RunPlan) (e : EngineState) (done at unit : ℕ) → MayRun p plan → Asked p plan e done
    → slice_get e.roots at ≡ Some (root.Named unit) → IsKnown e (Some unit)

-- and those of all roots, wherever nothing runs
abbrev pub EndedRootsAreKnown : Type 0
EndedRootsAreKnown = (p : Program) (c : Columns) (plan : RunPlan) (e : EngineState) (r : Run) (at unit : ℕ) → MayRun p plan → Rests p c plan e r
    → slice_get e.roots at ≡ Some (root.Named unit) → IsKnown e (Some unit)

-- each root line has become something
abbrev pub EndedRootsAreMany : Type 0
EndedRootsAreMany = (p : Program) (c : Columns) (plan : RunPlan) (e : EngineState) (r : Run) → MayRun p plan → Rests p c plan e r
    → length e.roots ≡ length p.roots

-- the first null answer has left a word for each superblock
abbrev pub EvidenceIsWhole : Type 0
EvidenceIsWhole = (p : Program) (c : Columns) (plan : RunPlan) (e : EngineState) (r : Run) → MayRun p plan → Rests p c plan e r
    → IsSome e.evidence_class → length e.evidence ≡ plan.superblocks
