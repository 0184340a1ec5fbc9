-- The frames that a task comes to: at their line a way of the checker's rules arrives.
use Rattle.std.specs.Prelude.{◌≡◌, ℕ, ◌<◌, Option, Some, length}
use Rattle.task_syntax.specs.Form.{IsWellFormed}
use Rattle.task_syntax.specs.Facts.{Facts}
use Rattle.task_syntax.specs.Valid.{Way}
use Rattle.task_syntax.specs.declared.program.State.{State}
use Rattle.task_syntax.specs.declared.program.Program.{Program}
use Rattle.task_meaning.specs.Frame.{FrameOf, CallOf, state_at, entry, set_future}
use Rattle.frame_code.specs.Words.{BodyOf, OfKind, OfMembers}
use Rattle.frame_code.specs.Moves.{MayPass}

-- the frame stands at a line of a state to which there is a way; without one, all futures would count as held there
abbrev pub HasWay : {A : Type 0} → Program → FrameOf A → Type 0
HasWay p q = (state : State) × (facts : Facts) × (state_at p q.kind q.state ≡ Some state) × Way state q.at facts

abbrev pub BodyHasWay : {A : Type 0} → Program → BodyOf A → Type 0
BodyHasWay p (OfKind q) = HasWay p q
BodyHasWay p (OfMembers members next) = Unit {0}

-- where the first body has a way, the second has one
abbrev pub BodyKeepsWay : {A : Type 0} → Program → BodyOf A → BodyOf A → Type 0
BodyKeepsWay p body next = BodyHasWay p body → BodyHasWay p next

-- the first frame of a call has a way
abbrev pub EntriesHaveWays : Type 0
EntriesHaveWays = (p : Program) (call : CallOf ℕ) → IsWellFormed p → call.kind < length p.kinds → HasWay p (entry p call)

-- past a spawn, an aggregate, a copy or a drop, with its future set, a frame has a way still
abbrev pub FuturesKeepWays : Type 0
FuturesKeepWays = (p : Program) (q : FrameOf ℕ) (x : ℕ) (future : Option ℕ) → MayPass p (OfKind q) → HasWay p q → HasWay p (set_future q x future)
