-- The moves of a run: what a step, and asking for a root, may do, and why a step may do nothing.
use Rattle.std.specs.Prelude.{◌≡◌, ◌≢◌, ℕ, ◌+◌, ◌⊎◌, Bool, true, false, Option, Some, None, List, slice_get}
use Rattle.task_syntax.specs.declared.value.Value.{Value}
use Rattle.task_syntax.specs.declared.value.Trap.{Trap}
use Rattle.task_syntax.specs.declared.value.Value.TheVariants.{Number, Trapped}
use Rattle.task_syntax.specs.declared.value.Priority.{Priority}
use Rattle.task_syntax.specs.declared.value.Priority.TheVariants.{Low}
use Rattle.task_syntax.specs.declared.instr.Line.{Line}
use Rattle.task_syntax.specs.declared.program.Root.{Root as RootLine}
use Rattle.task_syntax.specs.declared.program.Program.{Program}
use Rattle.task_syntax.specs.declared.columns.Columns.{Columns}
use Rattle.task_meaning.specs.Meant.{future_at}
use Rattle.task_meaning.specs.Frame.{FrameOf, CallOf, code_at, enter, set_number, set_future}
use Rattle.task_meaning.specs.Acts.{Steps, Calls, Gathers, Reads, Respawns, Finishes, act_of, ActsAt}
use Rattle.task_meaning.specs.FrameLaws.{task_waited}
use Rattle.task_meaning.specs.Worths.{Respawn}
use Rattle.pool_core.specs.Blocks.{BlockState}
use Rattle.frame_code.specs.Words.{OfKind, OfMembers}
use Rattle.record_core.specs.Numbers.{by_number, found}
use Rattle.record_core.specs.Journal.{next_number, with_begun}
use Rattle.record_core.specs.EndSound.{kind_class}
use Rattle.record_core.specs.RootEnds.{roots_named}
use Rattle.record_core.specs.declared.rows.ActivationRow.{ActivationRow}
use Rattle.record_core.specs.declared.rows.Cause.TheVariants as cause
use Rattle.record_core.specs.declared.rows.CutTag.{CutTag}
use Rattle.record_core.specs.declared.rows.CutTag.TheVariants.{Null, Limit}
use Rattle.run_model.specs.State.{Body, Gave, WasCut, Named, Refused, Skipped, Super, Evidence, Queues, Run, next_queued}
use Rattle.run_model.specs.Placing.{pool_of, placed}
use Rattle.run_model.specs.Step.{Request, outcome_of, priority_of, arrives, completes, gives, is_refused, has_number, draws, with_body, places, accepts, counts_null, call_request, all_request, tasks_named, asked_priority, asks_again, first_taskless, with_root, root_request, step, asks_root}

-- what is noted beside a refusal or a renewal: the superblocks, the null answers and the evidence
pub record Notes : Type 0 where
  pub supers : List Super
  pub nulls : ℕ
  pub evidence : Option Evidence

abbrev pub notes_of : Run → Notes
notes_of r = record { supers = r.supers; nulls = r.nulls; evidence = r.evidence }

abbrev pub with_notes : Run → Notes → Run
with_notes r notes = record r { supers = notes.supers; nulls = notes.nulls; evidence = notes.evidence }

-- activation n runs, of task t, which stands at this body
pub record RunsAt (r : Run) (t n : ℕ) (body : Body) : Type 0 where
  pub row : ActivationRow
  pub running : r.running ≡ Some n
  pub there : by_number r.journal.rows n ≡ Some row
  pub of_task : row.task ≡ t
  pub has : found r.bodies t ≡ Some body

-- the frame goes on to another line, by a line of its own or by the number that a task gave
pub data Goes (p : Program) (c : Columns) (r : Run) (q : FrameOf ℕ) : FrameOf ℕ → Type 0 where
  steps : (next : FrameOf ℕ) → ActsAt p c q (Steps next) → Goes p c r q next
  reads : (to x u n : ℕ) → ActsAt p c q (Reads to x) → future_at q.futures x ≡ Some u → found r.outcomes u ≡ Some (Gave (Number n)) → Goes p c r q (set_number q to n)

-- the frame asks for a new task, which its variable `to` is to name; the Bool is its `retry`
pub data Asks (p : Program) (c : Columns) (q : FrameOf ℕ) : Request → ℕ → Bool → Type 0 where
  calls : (line : Line) (to : ℕ) (call : CallOf ℕ) (waits : Option ℕ) → slice_get (code_at p q.kind q.state) q.at ≡ Some line → act_of c line.instr q ≡ Calls to call waits
      → Asks p c q (call_request p call (task_waited q waits) (asked_priority line.instr)) to (asks_again line.instr)
  gathers : (line : Line) (to : ℕ) (members : List ℕ) → slice_get (code_at p q.kind q.state) q.at ≡ Some line → act_of c line.instr q ≡ Gathers to members
      → Asks p c q (all_request (tasks_named q members) (asked_priority line.instr)) to (asks_again line.instr)

-- the task ends with this value: by its own line, by the trap of a task that it reads, or as an aggregate after its last member
pub data Answers (p : Program) (c : Columns) (r : Run) : Body → Value → Type 0 where
  finishes : (q : FrameOf ℕ) (v : Value) → ActsAt p c q (Finishes v) → Answers p c r (OfKind q) v
  traps : (q : FrameOf ℕ) (to x u : ℕ) (trap : Trap) → ActsAt p c q (Reads to x) → future_at q.futures x ≡ Some u → found r.outcomes u ≡ Some (Gave (Trapped trap)) → Answers p c r (OfKind q) (Trapped trap)
  gathered : (members : List ℕ) (next : ℕ) → slice_get members next ≡ None → Answers p c r (OfMembers members next) (Number 0)

-- the task asks for a further activation, from this body, behind this task and with this priority: by `again`, by a retry
-- after a null answer, or as an aggregate with a next member
pub data Renews (p : Program) (c : Columns) (units : ℕ) (r : Run) (n : ℕ) : Body → Body → Option ℕ → Priority → Notes → Type 0 where
  again : (q : FrameOf ℕ) (line : Line) (target : ℕ) (waits : Option ℕ) → slice_get (code_at p q.kind q.state) q.at ≡ Some line → act_of c line.instr q ≡ Respawns target waits
      → Renews p c units r n (OfKind q) (OfKind (enter p q target)) (task_waited q waits) (asked_priority line.instr) (notes_of r)
  retries : (q : FrameOf ℕ) (request : Request) (to : ℕ) → Asks p c q request to true → placed (pool_of units r) request.class ≡ None
      → Renews p c units r n (OfKind q) (OfKind q) None Low (notes_of (counts_null units r request.class))
  behind : (members : List ℕ) (next u : ℕ) → slice_get members next ≡ Some u
      → Renews p c units r n (OfMembers members next) (OfMembers members (next + 1)) (Some u) (priority_of r.priorities n) (notes_of r)

-- the task is refused: a block, a number for a new task, or a number for itself
pub data Refuses (p : Program) (c : Columns) (units : ℕ) (r : Run) (n : ℕ) : Body → CutTag → Notes → Type 0 where
  no_block : (q : FrameOf ℕ) (request : Request) (to : ℕ) → Asks p c q request to false → placed (pool_of units r) request.class ≡ None
      → Refuses p c units r n (OfKind q) Null (notes_of (counts_null units r request.class))
  no_number : (q : FrameOf ℕ) (request : Request) (to : ℕ) (retry : Bool) (block : BlockState) → Asks p c q request to retry → placed (pool_of units r) request.class ≡ Some block
      → has_number r ≡ false → Refuses p c units r n (OfKind q) Limit (notes_of (places units r block))
  no_renewal : (body to : Body) (after : Option ℕ) (priority : Priority) (notes : Notes) → Renews p c units r n body to after priority notes
      → has_number r ≡ false → Refuses p c units r n body Limit notes

-- the root is refused a block or a number
pub data RefusesRoot (p : Program) (units : ℕ) (r : Run) (root : RootLine) : CutTag → Notes → Type 0 where
  no_block : placed (pool_of units r) (kind_class p root.kind) ≡ None → RefusesRoot p units r root Null (notes_of (counts_null units r (kind_class p root.kind)))
  no_number : (block : BlockState) → placed (pool_of units r) (kind_class p root.kind) ≡ Some block → has_number r ≡ false → RefusesRoot p units r root Limit (notes_of (places units r block))

-- activation n has started, and is taken out of the queues
abbrev pub begins : Run → ℕ → Queues → Run
begins r n left = record r { journal = with_begun r.journal n; ready = left; running = Some n }

-- A running task goes on, asks for a new task, is renewed, ends with a value, or is refused; or the next activation starts,
-- and where it is behind a cut task, it is cut.
pub data Move (p : Program) (c : Columns) (units : ℕ) (r : Run) : Run → Type 0 where
  goes_on : (t n : ℕ) (q next : FrameOf ℕ) → RunsAt r t n (OfKind q) → Goes p c r q next → Move p c units r (with_body r t (OfKind next))
  spawned : (t n to : ℕ) (q : FrameOf ℕ) (request : Request) (retry : Bool) (block : BlockState) → RunsAt r t n (OfKind q) → Asks p c q request to retry
      → placed (pool_of units r) request.class ≡ Some block → has_number r ≡ true
      → Move p c units r (arrives (with_body (accepts units r request block) t (OfKind (set_future q to (Some (next_number r.journal))))) (next_number r.journal) request.after)
  respawned : (t n : ℕ) (body to : Body) (after : Option ℕ) (priority : Priority) (notes : Notes) → RunsAt r t n body → Renews p c units r n body to after priority notes → has_number r ≡ true
      → Move p c units r (arrives (with_body (record (draws (with_notes r notes) (Some t) after priority (Respawn t after) None None) { running = None }) t to) (next_number r.journal) after)
  gave : (t n : ℕ) (body : Body) (v : Value) → RunsAt r t n body → Answers p c r body v → Move p c units r (gives r t v)
  refused : (t n : ℕ) (body : Body) (tag : CutTag) (notes : Notes) → RunsAt r t n body → Refuses p c units r n body tag notes → Move p c units r (is_refused (with_notes r notes) t tag)
  started : (n : ℕ) (left : Queues) → r.running ≡ None → next_queued r.ready ≡ Some (n, left)
      → ((row : ActivationRow) (u : ℕ) (tag : CutTag) → by_number r.journal.rows n ≡ Some row → row.after ≡ Some u → found r.outcomes u ≢ Some (WasCut tag))
      → Move p c units r (begins r n left)
  cut_at_start : (n : ℕ) (left : Queues) (row : ActivationRow) (u : ℕ) (tag : CutTag) → r.running ≡ None → next_queued r.ready ≡ Some (n, left)
      → by_number r.journal.rows n ≡ Some row → row.after ≡ Some u → found r.outcomes u ≡ Some (WasCut tag)
      → Move p c units r (completes (begins r n left) row.task (WasCut tag) (cause.By u))

-- Asking for a root: it has a task, is refused, or is skipped because it names a root without a task.
pub data RootMove (p : Program) (units : ℕ) (r : Run) (root : RootLine) : Run → Type 0 where
  named : (block : BlockState) → first_taskless r.roots (roots_named root) ≡ None → placed (pool_of units r) (kind_class p root.kind) ≡ Some block → has_number r ≡ true
      → RootMove p units r root (arrives (with_root (accepts units r (root_request p r root) block) (Named (next_number r.journal))) (next_number r.journal) (root_request p r root).after)
  refused : (tag : CutTag) (notes : Notes) → first_taskless r.roots (roots_named root) ≡ None → RefusesRoot p units r root tag notes → RootMove p units r root (with_root (with_notes r notes) (Refused tag))
  skipped : (first : ℕ × CutTag) → first_taskless r.roots (roots_named root) ≡ Some first → RootMove p units r root (with_root r (Skipped first.0 first.1))

-- why a step changes nothing: the run is over; or, which no valid program meets, the running task has no row, no body, no
-- line, or reads a task that gave no value
pub data Still (p : Program) (c : Columns) (r : Run) : Type 0 where
  quiet : r.running ≡ None → next_queued r.ready ≡ None → Still p c r
  no_row : (n : ℕ) → r.running ≡ Some n → by_number r.journal.rows n ≡ None → Still p c r
  no_body : (n : ℕ) (row : ActivationRow) → r.running ≡ Some n → by_number r.journal.rows n ≡ Some row → found r.bodies row.task ≡ None → Still p c r
  no_line : (t n : ℕ) (q : FrameOf ℕ) → RunsAt r t n (OfKind q) → slice_get (code_at p q.kind q.state) q.at ≡ None → Still p c r
  no_value : (t n to x : ℕ) (q : FrameOf ℕ) → RunsAt r t n (OfKind q) → ActsAt p c q (Reads to x) → ((v : Value) → outcome_of r (future_at q.futures x) ≢ Some (Gave v)) → Still p c r

-- nothing changes, for a reason, or a move is made
abbrev pub StaysOrMoves : Program → Columns → ℕ → Run → Run → Type 0
StaysOrMoves p c units r next = ((next ≡ r) × Still p c r) ⊎ Move p c units r next

-- a step changes nothing, for a reason, or makes a move
abbrev pub StepsMove : Type 0
StepsMove = (p : Program) (c : Columns) (units : ℕ) (r : Run) → StaysOrMoves p c units r (step p c units r)

-- asking for a root makes a move of a root
abbrev pub RootsMove : Type 0
RootsMove = (p : Program) (units : ℕ) (r : Run) (root : RootLine) → RootMove p units r root (asks_root p units r root (first_taskless r.roots (roots_named root)))
