-- What an engine does at each move is what a step of the run does.
use Rattle.std.specs.Prelude.{◌≡◌, ℕ, suc, ◌+◌, ◌*◌, ◌-◌, ◌<◌, ◌≤◌, ◌^◌, Bool, true, false, Option, Some, None, List, [], ◌∷◌, length, take, map, slice_get}
use Rattle.std.specs.Option.{option_map, option_or}
use Rattle.task_syntax.specs.Form.{IsWellFormed}
use Rattle.task_syntax.specs.Valid.{IsValid}
use Rattle.task_syntax.specs.declared.value.Value.{Value}
use Rattle.task_syntax.specs.declared.value.Value.TheVariants.{Number, Trapped}
use Rattle.task_syntax.specs.declared.value.Priority.{Priority}
use Rattle.task_syntax.specs.declared.value.Priority.TheVariants.{Low}
use Rattle.task_syntax.specs.declared.instr.Argument.{Argument}
use Rattle.task_syntax.specs.declared.program.Root.{Root as RootLine}
use Rattle.task_syntax.specs.declared.program.Program.{Program}
use Rattle.task_syntax.specs.declared.columns.Columns.{Columns}
use Rattle.task_meaning.specs.Frame.{FrameOf, code_at, entry, enter, spawned as spawned_call}
use Rattle.task_meaning.specs.Meant.{future_at}
use Rattle.task_meaning.specs.Acts.{Calls, ActsAt}
use Rattle.task_meaning.specs.Roots.{root_call}
use Rattle.task_meaning.specs.RootLaws.{root_waits}
use Rattle.kt_words.specs.Ranges.{IsGeometry}
use Rattle.pool_core.specs.Blocks.{BlockState}
use Rattle.pool_core.specs.Pool.{PoolState, Gives, HasNoRoom}
use Rattle.frame_code.specs.Words.{BodyOf, OfKind, OfMembers, body_of}
use Rattle.frame_code.specs.Frames.{IsFrame}
use Rattle.frame_code.specs.Names.{names_of}
use Rattle.frame_code.specs.Stops.{StopsAt, BodyAdvances, numbers_passed, variables_passed}
use Rattle.frame_code.specs.Members.{member_act}
use Rattle.frame_code.specs.Moves.{BodyIsGiven, passed_on}
use Rattle.frame_code.specs.Setting.{with_future, unit_of as unit_in}
use Rattle.frame_code.specs.declared.act.Act.{Act}
use Rattle.frame_code.specs.declared.act.Act.TheVariants as act
use Rattle.frame_code.specs.declared.act.SpawnRequest.{SpawnRequest}
use Rattle.frame_code.specs.declared.act.AllRequest.{AllRequest}
use Rattle.frame_code.specs.declared.act.RespawnRequest.{RespawnRequest}
use Rattle.record_core.specs.Numbers.{by_number}
use Rattle.record_core.specs.Journal.{MayBegin}
use Rattle.record_core.specs.Sums.{total}
use Rattle.record_core.specs.EndSeen.{RunPlan}
use Rattle.record_core.specs.EndSound.{kind_class, members_class}
use Rattle.record_core.specs.RootEnds.{roots_named}
use Rattle.record_core.specs.declared.rows.ActivationRow.{ActivationRow}
use Rattle.record_core.specs.declared.rows.Cause.{Cause}
use Rattle.record_core.specs.declared.rows.Cause.TheVariants as cause
use Rattle.record_core.specs.declared.rows.CutTag.{CutTag}
use Rattle.record_core.specs.declared.rows.CutTag.TheVariants.{Null, Limit}
use Rattle.run_model.specs.State.{Queues, Run, next_queued}
use Rattle.run_model.specs.Step.{step, steps, asks_roots, at_first}
use Rattle.run_model.specs.End.{OneThreadRun, end_seen}
use Rattle.plain_state.specs.declared.record.Outcome.{Outcome}
use Rattle.plain_state.specs.declared.record.Outcome.TheVariants.{Gave, WasCut}
use Rattle.plain_state.specs.declared.record.Record.{Record}
use Rattle.plain_state.specs.declared.record.Behind.{Behind}
use Rattle.plain_state.specs.declared.record.RootState.{RootState}
use Rattle.plain_state.specs.declared.record.RootState.TheVariants as root
use Rattle.plain_state.specs.Store.{held, frame_at, without_block, MayHold}
use Rattle.plain_state.specs.Engine.{EngineState, unused_engine, with_store, with_pool, with_root, null_counted}
use Rattle.plain_state.specs.Sees.{Sees, Rests, Runs, times}
use Rattle.plain_state.specs.EndView.{end_of_run}
use Rattle.plain_state.specs.Moves.{behind_at, let_go_if, spawned, renewed_task, finished, begun, MayLetGoIf, MaySpawn, MayRenew, MayFinish}

-- a program and a plan that an engine is given
pub record MayRun (p : Program) (plan : RunPlan) : Type 0 where
  pub formed : IsWellFormed p
  pub valid : IsValid p
  pub geometry : IsGeometry plan.superblocks plan.units
  pub some : 1 ≤ plan.limit
  pub few : plan.limit ≤ 4000000

-- a record of some task stands at the unit, and P holds of it
abbrev pub KnownAt : EngineState → ℕ → (Record → Type 0) → Type 0
KnownAt e unit P = (known : Record) × (slice_get e.store.records unit ≡ Some known) × P known

-- the running task goes on with these words of its frame, after some steps of the run
abbrev pub RunsOn : Program → Columns → RunPlan → EngineState → ℕ → List ℕ → Run → Type 0
RunsOn p c plan e unit words r = (taken : ℕ) × Runs p c plan e unit words (steps p c plan.units taken r)

-- its activation ends, after some steps
abbrev pub RestsThen : Program → Columns → RunPlan → EngineState → Run → Type 0
RestsThen p c plan e r = (taken : ℕ) × Rests p c plan e (steps p c plan.units taken r)

-- the start of an activation

-- the next one that may start, at its unit
pub record IsNext (e : EngineState) (unit : ℕ) (left : Queues) (known : Record) : Type 0 where
  pub next : next_queued e.store.ready ≡ Some (unit, left)
  pub there : slice_get e.store.records unit ≡ Some known

-- It begins, and the engine takes its frame out of the record.
abbrev pub StartRuns : Type 0
StartRuns = (p : Program) (c : Columns) (plan : RunPlan) (e : EngineState) (r : Run) (unit : ℕ) (left : Queues) (known : Record) → MayRun p plan
    → Rests p c plan e r → IsNext e unit left known → known.cut ≡ None
    → Runs p c plan (begun left known.number e) unit (frame_at e.store unit) (step p c plan.units r)

-- what the ending of a task is: these are the units of its waiters, each call may be made, and nothing runs afterwards
pub record Finishes (p : Program) (c : Columns) (plan : RunPlan) (e : EngineState) (unit : ℕ) (words : List ℕ) (outcome : Outcome) (why : Cause) (r : Run) : Type 0 where
  pub task : ℕ
  pub waiters : List ℕ
  pub known : Record
  pub there : slice_get e.store.records unit ≡ Some known
  pub of_task : known.task ≡ task
  pub may : MayFinish unit task waiters (names_of (body_of p words)) outcome why e
  pub rests : Rests p c plan (finished unit task waiters (names_of (body_of p words)) outcome why e) r

-- One that is behind a cut task begins, and is cut at once because of that task.
abbrev pub StartIsCut : Type 0
StartIsCut = (p : Program) (c : Columns) (plan : RunPlan) (e : EngineState) (r : Run) (unit : ℕ) (left : Queues) (known : Record) (tag : CutTag) → MayRun p plan
    → Rests p c plan e r → IsNext e unit left known → known.cut ≡ Some tag
    → (after : ℕ) × (row : ActivationRow) × (by_number e.journal.rows known.number ≡ Some row) × (row.after ≡ Some after)
    × Finishes p c plan (begun left known.number e) unit (frame_at e.store unit) (WasCut tag) (cause.By after) (step p c plan.units r)

-- whichever starts, it may be begun, and its frame can be read
pub record StartIsReady (p : Program) (e : EngineState) (unit : ℕ) (known : Record) : Type 0 where
  pub may : MayBegin e.journal known.number
  pub frame : IsFrame p (frame_at e.store unit)
  pub fits : unit * 8 + known.length ≤ length e.store.records * 8
  pub length_is : length (frame_at e.store unit) ≡ known.length
  pub few : known.length ≤ 64

abbrev pub NextMayStart : Type 0
NextMayStart = (p : Program) (c : Columns) (plan : RunPlan) (e : EngineState) (r : Run) (unit : ℕ) (left : Queues) → MayRun p plan → Rests p c plan e r
    → next_queued e.store.ready ≡ Some (unit, left) → (known : Record) × (slice_get e.store.records unit ≡ Some known) × StartIsReady p e unit known

-- with none that may start, the run is over
abbrev pub NoneLeftIsTheEnd : Type 0
NoneLeftIsTheEnd = (p : Program) (c : Columns) (plan : RunPlan) (e : EngineState) (r : Run) → Rests p c plan e r → next_queued e.store.ready ≡ None → OneThreadRun p c plan r

-- what a running task does by itself

-- its frame's words, whatever they are, are a frame of its kind at a line to which a way leads
abbrev pub RunningFrames : Type 0
RunningFrames = (p : Program) (c : Columns) (plan : RunPlan) (e : EngineState) (r : Run) (unit : ℕ) (words : List ℕ) → MayRun p plan → Runs p c plan e unit words r → IsFrame p words

-- it goes on to the line where it stops
abbrev pub AdvanceIsSteps : Type 0
AdvanceIsSteps = (p : Program) (c : Columns) (plan : RunPlan) (e : EngineState) (r : Run) (unit : ℕ) (words next : List ℕ) (asked : Act) → MayRun p plan
    → Runs p c plan e unit words r → IsFrame p next → BodyAdvances p c (body_of p words) asked (body_of p next) → RunsOn p c plan e unit next r

-- the frame stands where it stops and asks for this: as `advance` leaves it
abbrev pub AsksFor : Program → Columns → BodyOf ℕ → Act → Type 0
AsksFor p c (OfKind q) asked = StopsAt p c q asked
AsksFor p c (OfMembers members next) asked = member_act (slice_get members next) next ≡ asked

-- a copy: the variable names a task, which is held once more, and the other gives up what it named
abbrev pub CopyIsStep : Type 0
CopyIsStep = (p : Program) (c : Columns) (plan : RunPlan) (e : EngineState) (r : Run) (unit : ℕ) (words next : List ℕ) (to source : ℕ) → MayRun p plan
    → Runs p c plan e unit words r → AsksFor p c (body_of p words) (act.Copy to source)
    → (other : ℕ) × (unit_in (body_of p words) source ≡ Some other) × (other + 1 < 2 ^ 32) × MayHold other e.store
    × MayLetGoIf (unit_in (body_of p words) to) (held other e.store)
    × (IsFrame p next → body_of p next ≡ passed_on (with_future to (Some other) (body_of p words))
    → Runs p c plan (with_store e (let_go_if (unit_in (body_of p words) to) (held other e.store))) unit next (step p c plan.units r))

-- a drop
abbrev pub DropIsStep : Type 0
DropIsStep = (p : Program) (c : Columns) (plan : RunPlan) (e : EngineState) (r : Run) (unit : ℕ) (words next : List ℕ) (x : ℕ) → MayRun p plan
    → Runs p c plan e unit words r → AsksFor p c (body_of p words) (act.Drop x)
    → MayLetGoIf (unit_in (body_of p words) x) e.store
    × (IsFrame p next → body_of p next ≡ passed_on (with_future x None (body_of p words))
    → Runs p c plan (with_store e (let_go_if (unit_in (body_of p words) x) e.store)) unit next (step p c plan.units r))

-- a read: the task that is named gave a value; a number goes into the frame, a trap ends the task
abbrev pub ReadIsStep : Type 0
ReadIsStep = (p : Program) (c : Columns) (plan : RunPlan) (e : EngineState) (r : Run) (unit : ℕ) (words : List ℕ) (x : ℕ) → MayRun p plan
    → Runs p c plan e unit words r → AsksFor p c (body_of p words) (act.NeedsValue x)
    → (other : ℕ) × (v : Value) × (unit_in (body_of p words) x ≡ Some other) × (other < 2 ^ 32) × KnownAt e other (λ known. known.outcome ≡ Some (Gave v))
    × ((n : ℕ) (next : List ℕ) → v ≡ Number n → IsFrame p next → BodyIsGiven p (body_of p words) n (body_of p next) → Runs p c plan e unit next (step p c plan.units r))
    × ((trap : _) → v ≡ Trapped trap → Finishes p c plan e unit words (Gave (Trapped trap)) cause.Clear (step p c plan.units r))

-- an end by a line of its own, or of an aggregate after its last member
abbrev pub EndIsStep : Type 0
EndIsStep = (p : Program) (c : Columns) (plan : RunPlan) (e : EngineState) (r : Run) (unit : ℕ) (words : List ℕ) → MayRun p plan → Runs p c plan e unit words r
    → ((n : ℕ) → AsksFor p c (body_of p words) (act.Done n) → Finishes p c plan e unit words (Gave (Number n)) cause.Clear (step p c plan.units r))
    × ((trap : _) → AsksFor p c (body_of p words) (act.Trap trap) → Finishes p c plan e unit words (Gave (Trapped trap)) cause.Clear (step p c plan.units r))

-- asking for a task

-- What is asked for: the class of its block, the unit that it is behind, its priority, whether it tries again, the variable
-- that is to name it, and its first body, with units for tasks.
pub record Wanted : Type 0 where
  pub class : ℕ
  pub after : Option ℕ
  pub priority : Priority
  pub retry : Bool
  pub to : ℕ
  pub first : BodyOf ℕ

abbrev pub unit_in_if : BodyOf ℕ → Option ℕ → Option ℕ
unit_in_if body None = None
unit_in_if body (Some x) = unit_in body x

-- by a spawn, with these arguments
pub record SpawnWants (p : Program) (q : FrameOf ℕ) (request : SpawnRequest) (arguments : List Argument) (w : Wanted) : Type 0 where
  pub class : w.class ≡ kind_class p request.kind
  pub after : w.after ≡ unit_in_if (OfKind q) request.behind
  pub priority : w.priority ≡ request.priority
  pub retry : w.retry ≡ request.retry
  pub to : w.to ≡ request.to
  pub first : w.first ≡ OfKind (entry p (spawned_call q request.kind arguments))

-- by an aggregate of these members
pub record AllWants (members : List ℕ) (request : AllRequest) (w : Wanted) : Type 0 where
  pub class : w.class ≡ members_class (length members)
  pub after : w.after ≡ slice_get members 0
  pub priority : w.priority ≡ request.priority
  pub retry : w.retry ≡ request.retry
  pub to : w.to ≡ request.to
  pub first : w.first ≡ OfMembers members 1

-- the running task asks for this
pub data Wants (p : Program) (c : Columns) : BodyOf ℕ → Wanted → Type 0 where
  by_spawn : (q : FrameOf ℕ) (request : SpawnRequest) (arguments : List Argument) (w : Wanted) → StopsAt p c q (act.Spawn request)
      → numbers_passed q.numbers arguments ≡ request.numbers → variables_passed arguments ≡ request.futures
      → ActsAt p c q (Calls request.to (spawned_call q request.kind arguments) request.behind)
      → SpawnWants p q request arguments w → Wants p c (OfKind q) w
  by_all : (q : FrameOf ℕ) (request : AllRequest) (members : List ℕ) (w : Wanted) → StopsAt p c q (act.All request)
      → map (λ unit. Some unit) members ≡ map (future_at q.futures) request.members → AllWants members request w → Wants p c (OfKind q) w

-- With a block and a number: each call may be made, and the task runs on.
pub record Spawns (p : Program) (c : Columns) (plan : RunPlan) (e : EngineState) (unit : ℕ) (words : List ℕ) (w : Wanted) (block : BlockState) (pool : PoolState) (first : List ℕ) (r : Run) : Type 0 where
  pub may : MaySpawn block pool w.priority (behind_at e.store w.after) (names_of w.first) first (unit_in (body_of p words) w.to) e
  pub goes : (next : List ℕ) → IsFrame p next → body_of p next ≡ passed_on (with_future w.to (Some block.unit) (body_of p words))
      → Runs p c plan (spawned block pool w.priority (behind_at e.store w.after) (names_of w.first) first (unit_in (body_of p words) w.to) e) unit next (step p c plan.units r)

abbrev pub SpawnIsStep : Type 0
SpawnIsStep = (p : Program) (c : Columns) (plan : RunPlan) (e : EngineState) (r : Run) (unit : ℕ) (words : List ℕ) (w : Wanted) (block : BlockState) (pool : PoolState) (first : List ℕ) → MayRun p plan
    → Runs p c plan e unit words r → Wants p c (body_of p words) w → Gives e.store.pool w.class block pool → length e.journal.rows < e.journal.limit
    → IsFrame p first → body_of p first ≡ w.first → Spawns p c plan e unit words w block pool first r

-- with a block but no number the block is back, and the task is cut
abbrev pub SpawnAtTheLimit : Type 0
SpawnAtTheLimit = (p : Program) (c : Columns) (plan : RunPlan) (e : EngineState) (r : Run) (unit : ℕ) (words : List ℕ) (w : Wanted) (block : BlockState) (pool : PoolState) → MayRun p plan
    → Runs p c plan e unit words r → Wants p c (body_of p words) w → Gives e.store.pool w.class block pool → e.journal.limit ≤ length e.journal.rows
    → Finishes p c plan (with_pool e (without_block pool block)) unit words (WasCut Limit) cause.Limit (step p c plan.units r)

-- without a block the null answer is counted, and the task is cut
abbrev pub NullIsStep : Type 0
NullIsStep = (p : Program) (c : Columns) (plan : RunPlan) (e : EngineState) (r : Run) (unit : ℕ) (words : List ℕ) (w : Wanted) → MayRun p plan
    → Runs p c plan e unit words r → Wants p c (body_of p words) w → HasNoRoom e.store.pool w.class
    → (e.nulls + 1 < 2 ^ 64)
    × (w.retry ≡ false → Finishes p c plan (null_counted w.class e) unit words (WasCut Null) cause.Null (step p c plan.units r))

-- a further activation

-- each call may be made, and nothing runs afterwards
pub record RenewsTask (p : Program) (c : Columns) (plan : RunPlan) (e : EngineState) (unit : ℕ) (priority : Priority) (behind : Behind) (given_up next : List ℕ) (r : Run) : Type 0 where
  pub task : ℕ
  pub known : Record
  pub there : slice_get e.store.records unit ≡ Some known
  pub of_task : known.task ≡ task
  pub may : MayRenew unit task priority behind given_up next e
  pub rests : Rests p c plan (renewed_task unit task priority behind given_up next e) r

-- with `retry` it tries again, if a number is left
abbrev pub RetryIsStep : Type 0
RetryIsStep = (p : Program) (c : Columns) (plan : RunPlan) (e : EngineState) (r : Run) (unit : ℕ) (words : List ℕ) (w : Wanted) → MayRun p plan
    → Runs p c plan e unit words r → Wants p c (body_of p words) w → HasNoRoom e.store.pool w.class → w.retry ≡ true
    → (length e.journal.rows < e.journal.limit → RenewsTask p c plan (null_counted w.class e) unit Low (behind_at e.store None) [] words (step p c plan.units r))
    × (e.journal.limit ≤ length e.journal.rows → Finishes p c plan (null_counted w.class e) unit words (WasCut Limit) cause.Limit (step p c plan.units r))

-- the body after a respawn
abbrev pub entered_held : Program → ℕ → BodyOf ℕ → BodyOf ℕ
entered_held p target (OfKind q) = OfKind (enter p q target)
entered_held p target (OfMembers members next) = OfMembers members (next + 1)

-- the unit of what it is behind
abbrev pub respawn_unit : BodyOf ℕ → Option ℕ → Option ℕ
respawn_unit (OfKind q) x = unit_in_if (OfKind q) x
respawn_unit (OfMembers members next) None = None
respawn_unit (OfMembers members next) (Some at) = slice_get members at

-- an aggregate keeps its priority
abbrev pub respawn_priority : BodyOf ℕ → Record → Priority → Priority
respawn_priority (OfKind q) known asked = asked
respawn_priority (OfMembers members next) known asked = known.priority

abbrev pub RespawnIsStep : Type 0
RespawnIsStep = (p : Program) (c : Columns) (plan : RunPlan) (e : EngineState) (r : Run) (unit : ℕ) (words next given_up : List ℕ) (request : RespawnRequest) (known : Record) → MayRun p plan
    → Runs p c plan e unit words r → AsksFor p c (body_of p words) (act.Again request) → slice_get e.store.records unit ≡ Some known
    → (length e.journal.rows < e.journal.limit → IsFrame p next → body_of p next ≡ entered_held p request.target (body_of p words)
    → ((u : ℕ) → times u given_up + times u (names_of (body_of p next)) ≡ times u (names_of (body_of p words)))
    → RenewsTask p c plan e unit (respawn_priority (body_of p words) known request.priority) (behind_at e.store (respawn_unit (body_of p words) request.behind)) given_up next (step p c plan.units r))
    × (e.journal.limit ≤ length e.journal.rows → Finishes p c plan e unit words (WasCut Limit) cause.Limit (step p c plan.units r))

-- roots

-- so many roots were asked for, and nothing runs
pub record Asked (p : Program) (plan : RunPlan) (e : EngineState) (done : ℕ) : Type 0 where
  pub run : Run
  pub asked : asks_roots p plan.units (at_first plan) (take done p.roots) ≡ run
  pub within : done ≤ length p.roots
  pub idle : run.running ≡ None
  pub sees : Sees p plan.units [] None e run

abbrev pub NoneAsked : Type 0
NoneAsked = (p : Program) (plan : RunPlan) → MayRun p plan → Asked p plan (unused_engine plan) 0

abbrev pub AllAsked : Type 0
AllAsked = (p : Program) (c : Columns) (plan : RunPlan) (e : EngineState) → Asked p plan e (length p.roots) → (r : Run) × Rests p c plan e r

-- an earlier root without a task is named first by this root
abbrev pub cut_without_task : RootState → Option CutTag
cut_without_task (root.Named unit) = None
cut_without_task (root.Refused tag) = Some tag
cut_without_task (root.Skipped at tag) = Some tag

abbrev pub taskless_in : ℕ → Option RootState → Option (ℕ × CutTag)
taskless_in at None = None
taskless_in at (Some state) = option_map (λ tag. (at, tag)) (cut_without_task state)

abbrev pub taskless : List RootState → ℕ → Option (ℕ × CutTag)
taskless states at = taskless_in at (slice_get states at)

abbrev pub first_without_task : List RootState → List ℕ → Option (ℕ × CutTag)
first_without_task states [] = None
first_without_task states (at ∷ more) = option_or (taskless states at) (first_without_task states more)

abbrev pub unit_in_root : RootState → Option ℕ
unit_in_root (root.Named unit) = Some unit
unit_in_root (root.Refused tag) = None
unit_in_root (root.Skipped at tag) = None

-- the unit of the task of each root, where it has one
abbrev pub root_units : List RootState → List (Option ℕ)
root_units states = map unit_in_root states

-- what a root wants
abbrev pub root_first : Program → List RootState → RootLine → BodyOf ℕ
root_first p states line = OfKind (entry p (root_call (root_units states) line))

abbrev pub root_after : List RootState → RootLine → Option ℕ
root_after states line = root_waits (root_units states) line.behind

-- what comes of asking for the next root
pub data AsksRoot (p : Program) (plan : RunPlan) (e : EngineState) (line : RootLine) : EngineState → Type 0 where
  skips : (at : ℕ) (tag : CutTag) → first_without_task e.roots (roots_named line) ≡ Some (at, tag) → AsksRoot p plan e line (with_root e (root.Skipped at tag))
  has_null : first_without_task e.roots (roots_named line) ≡ None → HasNoRoom e.store.pool (kind_class p line.kind)
      → AsksRoot p plan e line (with_root (null_counted (kind_class p line.kind) e) (root.Refused Null))
  has_limit : (block : BlockState) (pool : PoolState) → first_without_task e.roots (roots_named line) ≡ None → Gives e.store.pool (kind_class p line.kind) block pool
      → e.journal.limit ≤ length e.journal.rows → AsksRoot p plan e line (with_root (with_pool e (without_block pool block)) (root.Refused Limit))
  has_task : (block : BlockState) (pool : PoolState) (first : List ℕ) → first_without_task e.roots (roots_named line) ≡ None → Gives e.store.pool (kind_class p line.kind) block pool
      → length e.journal.rows < e.journal.limit → IsFrame p first → body_of p first ≡ root_first p e.roots line
      → AsksRoot p plan e line (with_root
      (spawned block pool line.priority (behind_at e.store (root_after e.roots line)) (names_of (root_first p e.roots line)) first None e) (root.Named block.unit))

abbrev pub RootIsAsked : Type 0
RootIsAsked = (p : Program) (plan : RunPlan) (e new : EngineState) (done : ℕ) (line : RootLine) → MayRun p plan → Asked p plan e done → slice_get p.roots done ≡ Some line
    → AsksRoot p plan e line new → Asked p plan new (done + 1)

-- what asking for a root with a task needs
abbrev pub RootMayBeAsked : Type 0
RootMayBeAsked = (p : Program) (plan : RunPlan) (e : EngineState) (done : ℕ) (line : RootLine) → MayRun p plan → Asked p plan e done → slice_get p.roots done ≡ Some line
    → (e.nulls + 1 < 2 ^ 64) × (length e.roots ≡ done)
    × ((block : BlockState) (pool : PoolState) (first : List ℕ) → first_without_task e.roots (roots_named line) ≡ None → Gives e.store.pool (kind_class p line.kind) block pool
    → length e.journal.rows < e.journal.limit → IsFrame p first → body_of p first ≡ root_first p e.roots line
    → MaySpawn block pool line.priority (behind_at e.store (root_after e.roots line)) (names_of (root_first p e.roots line)) first None e)

-- the end

-- an engine with nothing that may start answers what the end of the run answers
abbrev pub EndIsSeen : Type 0
EndIsSeen = (p : Program) (c : Columns) (plan : RunPlan) (e : EngineState) (r : Run) → MayRun p plan → Rests p c plan e r → next_queued e.store.ready ≡ None
    → end_of_run plan e ≡ end_seen plan r

-- how much is left to do

-- how many activations may still start: those that were accepted, and those that may be
abbrev pub starts_left : EngineState → ℕ
starts_left e = total (λ (row : ActivationRow). elim row.start [ None ↦ 1 | Some s ↦ 0 ]) e.journal.rows + (e.journal.limit - length e.journal.rows)

-- a turn takes one of them
abbrev pub TurnsEnd : Type 0
TurnsEnd = (p : Program) (c : Columns) (plan : RunPlan) (e new : EngineState) (r : Run) (taken unit : ℕ) (left : Queues) → MayRun p plan → Rests p c plan e r
    → next_queued e.store.ready ≡ Some (unit, left) → Rests p c plan new (steps p c plan.units (suc taken) r) → starts_left new < starts_left e

-- how many lines of its state are left to a frame
abbrev pub lines_left : Program → BodyOf ℕ → ℕ
lines_left p (OfKind q) = length (code_at p q.kind q.state) - q.at
lines_left p (OfMembers members next) = 0

-- to go on to the line where it stops takes no line back, and to pass that line takes one
pub record LinesGo : Type 0 where
  pub advance : (p : Program) (c : Columns) (body next : BodyOf ℕ) (asked : Act) → IsWellFormed p → BodyAdvances p c body asked next → lines_left p next ≤ lines_left p body
  pub passes : (p : Program) (c : Columns) (q : FrameOf ℕ) (asked : Act) (x : ℕ) (future : Option ℕ) → StopsAt p c q asked
      → lines_left p (passed_on (with_future x future (OfKind q))) < lines_left p (OfKind q)
  pub given : (p : Program) (body next : BodyOf ℕ) (n : ℕ) → BodyIsGiven p body n next → lines_left p next < lines_left p body
