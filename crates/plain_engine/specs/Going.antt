-- What the running task asks for is carried out, and what a turn does.
use Rattle.std.specs.Prelude.{◌≡◌, ℕ, suc, ◌<◌, Bool, true, false, Option, Some, None, List, IfSome, length, slice_get}
use Rattle.task_syntax.specs.declared.program.Program.{Program}
use Rattle.task_syntax.specs.declared.columns.Columns.{Columns}
use Rattle.task_syntax.specs.declared.program.Sort.TheVariants.{Future}
use Rattle.task_syntax.specs.declared.value.Value.{Value}
use Rattle.task_syntax.specs.declared.value.Priority.{Priority}
use Rattle.frame_code.specs.Words.{BodyOf, OfKind, OfMembers, body_of}
use Rattle.frame_code.specs.Setting.{BodyHasSort, HasSort, unit_in}
use Rattle.frame_code.specs.Calls.{Allows}
use Rattle.frame_code.specs.Meant.{AreHeld}
use Rattle.frame_code.specs.declared.act.Act.{Act}
use Rattle.record_core.specs.EndSeen.{RunPlan}
use Rattle.record_core.specs.Journal.{MayBegin, with_begun}
use Rattle.run_model.specs.State.{Queues, Run, next_queued}
use Rattle.run_model.specs.Step.{steps}
use Rattle.plain_state.specs.declared.record.Outcome.TheVariants.{Gave}
use Rattle.plain_state.specs.declared.record.Record.{Record}
use Rattle.plain_state.specs.Engine.{EngineState, with_store}
use Rattle.plain_state.specs.Sees.{Runs, Rests}
use Rattle.plain_state.specs.Laws.{MayRun, AsksFor, RunsOn, RestsThen, Wanted, Wants, lines_left, starts_left, respawn_priority}
use Rattle.plain_engine.specs.Ending.{Moment}

-- at this moment the task at the unit runs, its frame has these words, and it stops and asks for this
pub record AsksAt (p : Program) (e : EngineState) (unit : ℕ) (words : List ℕ) (asked : Act) (m : Moment) : Type 0 where
  pub may : MayRun p m.plan
  pub runs : Runs p m.columns m.plan e unit words m.run
  pub asks : AsksFor p m.columns (body_of p words) asked

-- it asks for this, and may pass the line once it got it
pub record MayCarryOut (p : Program) (e : EngineState) (unit : ℕ) (words : List ℕ) (asked : Act) : Type 0 where
  pub moment : Moment
  pub at : AsksAt p e unit words asked moment
  pub held : AreHeld p asked (body_of p words)
  pub next : Allows p asked words

-- it runs on with these words, or its activation has ended
abbrev pub FollowsAt : Program → ℕ → Bool → EngineState → List ℕ → Moment → Type 0
FollowsAt p unit true new next m = RunsOn p m.columns m.plan new unit next m.run
FollowsAt p unit false new next m = RestsThen p m.columns m.plan new m.run

-- at each moment at which it asks for this, these are steps of the run
abbrev pub CarriesOut : Program → EngineState → ℕ → List ℕ → Act → Bool → EngineState → List ℕ → Type 0
CarriesOut p old unit words asked goes new next = (m : Moment) → AsksAt p old unit words asked m → FollowsAt p unit goes new next m

-- where it goes on, fewer lines are left
abbrev pub TakesLine : Program → Bool → List ℕ → List ℕ → Type 0
TakesLine p true old new = lines_left p (body_of p new) < lines_left p (body_of p old)
TakesLine p false old new = Unit {0}

-- the task at the unit runs
pub record RunsAt (p : Program) (c : Columns) (e : EngineState) (unit : ℕ) (words : List ℕ) (plan : RunPlan) (r : Run) : Type 0 where
  pub may : MayRun p plan
  pub runs : Runs p c plan e unit words r

abbrev pub IsRunning : Program → Columns → EngineState → ℕ → List ℕ → Type 0
IsRunning p c e unit words = (plan : RunPlan) × (r : Run) × RunsAt p c e unit words plan r

-- its activation ends
abbrev pub RunsToItsEnd : Program → Columns → EngineState → ℕ → List ℕ → EngineState → Type 0
RunsToItsEnd p c old unit words new = (plan : RunPlan) (r : Run) → RunsAt p c old unit words plan r → RestsThen p c plan new r

-- nothing runs
pub record IdlesAt (p : Program) (c : Columns) (e : EngineState) (plan : RunPlan) (r : Run) : Type 0 where
  pub may : MayRun p plan
  pub rests : Rests p c plan e r

abbrev pub IsIdle : Program → Columns → EngineState → Type 0
IsIdle p c e = (plan : RunPlan) × (r : Run) × IdlesAt p c e plan r

-- none may start
abbrev pub IsOver : EngineState → Type 0
IsOver e = next_queued e.store.ready ≡ None

-- the first of the highest queue that has one is taken, or there is none and nothing changes
abbrev pub TakesNext : EngineState → Option ℕ → EngineState → Type 0
TakesNext old None new = IsOver old × (new ≡ old)
TakesNext old (Some unit) new =
    (left : Queues) × (next_queued old.store.ready ≡ Some (unit, left)) × (new ≡ with_store old (record old.store { ready = left }))

-- the last activation of the task at a unit may begin
abbrev pub MayStart : EngineState → ℕ → Type 0
MayStart e unit = (known : Record) × (slice_get e.store.records unit ≡ Some known) × MayBegin e.journal known.number

-- the activation of this number has begun
abbrev pub started : ℕ → EngineState → EngineState
started number e = record e { journal = with_begun e.journal number }

-- an activation starts and runs to its end, in at least one step; or none may start, and nothing changes
abbrev pub TurnsAt : Program → Columns → Bool → EngineState → EngineState → RunPlan → Run → Type 0
TurnsAt p c true old new plan r = (taken : ℕ) × Rests p c plan new (steps p c plan.units (suc taken) r)
TurnsAt p c false old new plan r = IsOver old × (new ≡ old)

abbrev pub Turns : Program → Columns → EngineState → Bool → EngineState → Type 0
Turns p c old turned new = (plan : RunPlan) (r : Run) → IdlesAt p c old plan r → TurnsAt p c turned old new plan r

-- a turn takes one of the starts that are left
abbrev pub TakesStart : Bool → EngineState → EngineState → Type 0
TakesStart true old new = starts_left new < starts_left old
TakesStart false old new = Unit {0}

-- nothing runs, and none may start
pub record IsAtEnd (p : Program) (c : Columns) (e : EngineState) (plan : RunPlan) : Type 0 where
  pub run : Run
  pub rests : Rests p c plan e run
  pub over : IsOver e

abbrev pub ComesToEnd : Program → Columns → EngineState → EngineState → Type 0
ComesToEnd p c old new = (plan : RunPlan) (r : Run) → IdlesAt p c old plan r → IsAtEnd p c new plan

-- parts of what is carried out

-- a task at some unit asks for this
abbrev pub MayCarryOutAny : Program → EngineState → List ℕ → Act → Type 0
MayCarryOutAny p e words asked = (unit : ℕ) × MayCarryOut p e unit words asked

-- and runs on
abbrev pub CarriesOutAny : Program → EngineState → List ℕ → Act → EngineState → List ℕ → Type 0
CarriesOutAny p old words asked new next = (unit : ℕ) → CarriesOut p old unit words asked true new next

-- the variable names a task that gave this value
pub record HasValue (p : Program) (e : EngineState) (words : List ℕ) (x : ℕ) (v : Value) : Type 0 where
  pub other : ℕ
  pub known : Record
  pub names : unit_in p words x ≡ Some other
  pub there : slice_get e.store.records other ≡ Some known
  pub gave : known.outcome ≡ Some (Gave v)

-- such a value can be read there
pub record MayReadValue (p : Program) (e : EngineState) (words : List ℕ) (x : ℕ) : Type 0 where
  pub variable : HasSort p Future x words
  pub value : Value
  pub has : HasValue p e words x value

-- this is the value
abbrev pub IsValueRead : Program → EngineState → List ℕ → ℕ → Value → Type 0
IsValueRead p e words x v = HasValue p e words x v

-- a variable of a task's frame is a future; of an aggregate there is such a member
abbrev pub BodyMayBeBehind : Program → BodyOf ℕ → Option ℕ → Type 0
BodyMayBeBehind p (OfKind q) x = IfSome x (λ at. BodyHasSort p Future at (OfKind q))
BodyMayBeBehind p (OfMembers members next) x = IfSome x (λ at. at < length members)

abbrev pub MayBeBehindNext : Program → List ℕ → Option ℕ → Type 0
MayBeBehindNext p words x = BodyMayBeBehind p (body_of p words) x

-- an aggregate keeps its priority
abbrev pub PriorityIs : Program → EngineState → ℕ → List ℕ → Priority → Priority → Type 0
PriorityIs p e unit words asked priority =
    (known : Record) → slice_get e.store.records unit ≡ Some known → priority ≡ respawn_priority (body_of p words) known asked

-- at this moment the task at the unit runs, and asks for a new task
pub record AsksNewAt (p : Program) (e : EngineState) (unit : ℕ) (words : List ℕ) (w : Wanted) (m : Moment) : Type 0 where
  pub may : MayRun p m.plan
  pub runs : Runs p m.columns m.plan e unit words m.run
  pub wants : Wants p m.columns (body_of p words) w

-- what is wanted, where the first frame has these words
abbrev pub wanted : Program → ℕ → Option ℕ → Priority → Bool → ℕ → List ℕ → Wanted
wanted p class after priority retry to first =
    record { class = class; after = after; priority = priority; retry = retry; to = to; first = body_of p first }

abbrev pub MayAskNew : Program → EngineState → ℕ → List ℕ → Wanted → Type 0
MayAskNew p e unit words w = (m : Moment) × AsksNewAt p e unit words w m

-- at each moment at which it asks for this, these are steps of the run
abbrev pub SpawnsNew : Program → EngineState → ℕ → List ℕ → Wanted → Bool → EngineState → List ℕ → Type 0
SpawnsNew p old unit words w goes new next = (m : Moment) → AsksNewAt p old unit words w m → FollowsAt p unit goes new next m
