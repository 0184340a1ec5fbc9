-- One step of the run: the running activation does its next line, or, where none runs, the next one starts.
use Rattle.std.specs.Prelude.{ℕ, zero, suc, ◌+◌, Bool, true, false, cond, nat_lt, Option, Some, None, List, [], ◌∷◌, ◌++◌, length, map, replicate, slice_get}
use Rattle.std.specs.Option.{option_map, option_or}
use Rattle.task_syntax.specs.declared.value.Value.{Value}
use Rattle.task_syntax.specs.declared.value.Value.TheVariants.{Number, Trapped}
use Rattle.task_syntax.specs.declared.value.Priority.{Priority}
use Rattle.task_syntax.specs.declared.value.Priority.TheVariants.{Regular, Low}
use Rattle.task_syntax.specs.declared.instr.Instr.{Instr}
use Rattle.task_syntax.specs.declared.instr.Instr.TheVariants.{Spawn, All, Again}
use Rattle.task_syntax.specs.declared.instr.Line.{Line}
use Rattle.task_syntax.specs.declared.program.Root.{Root as RootLine}
use Rattle.task_syntax.specs.declared.program.Program.{Program}
use Rattle.task_syntax.specs.declared.columns.Columns.{Columns}
use Rattle.task_meaning.specs.Meant.{future_at}
use Rattle.task_meaning.specs.Frame.{FrameOf, CallOf, code_at, entry, enter, set_number, set_future}
use Rattle.task_meaning.specs.Acts.{Act, Steps, Calls, Gathers, Reads, Respawns, Finishes, act_of}
use Rattle.task_meaning.specs.FrameLaws.{task_waited}
use Rattle.task_meaning.specs.Roots.{root_call}
use Rattle.task_meaning.specs.RootLaws.{root_waits}
use Rattle.task_meaning.specs.Worths.{Accepted, OfCall, OfAll, Respawn}
use Rattle.pool_core.specs.Blocks.{BlockState}
use Rattle.frame_code.specs.Words.{OfKind, OfMembers}
use Rattle.record_core.specs.Numbers.{by_number, put_number, found}
use Rattle.record_core.specs.Journal.{empty_journal, next_number, with_accepted, with_begun, with_finished}
use Rattle.record_core.specs.EndSeen.{RunPlan}
use Rattle.record_core.specs.EndSound.{kind_class, members_class}
use Rattle.record_core.specs.RootEnds.{roots_named}
use Rattle.record_core.specs.declared.rows.ActivationRow.{ActivationRow}
use Rattle.record_core.specs.declared.rows.Cause.{Cause}
use Rattle.record_core.specs.declared.rows.Cause.TheVariants as cause
use Rattle.record_core.specs.declared.rows.CutTag.{CutTag}
use Rattle.record_core.specs.declared.rows.CutTag.TheVariants.{Null, Limit}
use Rattle.run_model.specs.State.{Body, Outcome, Gave, WasCut, RootWord, Named, Refused, Skipped, Evidence, Queues, Run, queued, next_queued, no_queues}
use Rattle.run_model.specs.Placing.{pool_of, placed, supers_with, words_of}

-- joining the queues

abbrev pub priority_or : Option Priority → Priority
priority_or None = Regular
priority_or (Some priority) = priority

abbrev pub priority_of : List Priority → ℕ → Priority
priority_of priorities n = priority_or (by_number priorities n)

-- these activations join the queues of their priorities, in this order
abbrev pub all_queued : List Priority → List ℕ → Queues → Queues
all_queued priorities [] q = q
all_queued priorities (n ∷ more) q = all_queued priorities more (queued (priority_of priorities n) n q)

abbrev pub list_or : Option (List ℕ) → List ℕ
list_or None = []
list_or (Some waiters) = waiters

abbrev pub waiters_of : List (List ℕ) → ℕ → List ℕ
waiters_of waiters t = list_or (by_number waiters t)

-- a new activation waits for its predecessor where that has not ended, and else joins its queue at once
abbrev pub waits_or_queues : Option Outcome → Run → ℕ → ℕ → Run
waits_or_queues None r n u = record r { waiters = put_number r.waiters u (n ∷ waiters_of r.waiters u) }
waits_or_queues (Some outcome) r n u = record r { ready = all_queued r.priorities (n ∷ []) r.ready }

abbrev pub arrives : Run → ℕ → Option ℕ → Run
arrives r n None = record r { ready = all_queued r.priorities (n ∷ []) r.ready }
arrives r n (Some u) = waits_or_queues (found r.outcomes u) r n u

-- how a task ends

abbrev pub cause_of_cut : CutTag → Cause
cause_of_cut Null = cause.Null
cause_of_cut Limit = cause.Limit

-- the running task ends: its finish is stamped, its body given up, and its waiters join their queues, the last that came
-- first
abbrev pub completes : Run → ℕ → Outcome → Cause → Run
completes r t outcome why = record r {
  journal = with_finished r.journal t why;
  running = None;
  outcomes = put_number r.outcomes t (Some outcome);
  waiters = put_number r.waiters t [];
  bodies = put_number r.bodies t None;
  ready = all_queued r.priorities (waiters_of r.waiters t) r.ready;
}

abbrev pub gives : Run → ℕ → Value → Run
gives r t v = completes r t (Gave v) cause.Clear

-- it ends because it was refused
abbrev pub is_refused : Run → ℕ → CutTag → Run
is_refused r t tag = completes r t (WasCut tag) (cause_of_cut tag)

-- asking for an activation

-- whether one more number may be drawn
abbrev pub has_number : Run → Bool
has_number r = nat_lt (length r.journal.rows) r.journal.limit

-- the next number is drawn, for a new task with its body and block, or for a further activation of a task
abbrev pub draws : Run → Option ℕ → Option ℕ → Priority → Accepted → Option Body → Option BlockState → Run
draws r task after priority call body block = record r {
  journal = with_accepted r.journal task after;
  calls = r.calls ++ call ∷ [];
  priorities = r.priorities ++ priority ∷ [];
  outcomes = r.outcomes ++ None ∷ [];
  waiters = r.waiters ++ [] ∷ [];
  bodies = r.bodies ++ body ∷ [];
  blocks = r.blocks ++ block ∷ [];
}

abbrev pub with_body : Run → ℕ → Body → Run
with_body r t body = record r { bodies = put_number r.bodies t (Some body) }

-- the running activation ends, and its task goes on from this body by a further activation; at the limit the task is cut
abbrev pub respawns : Run → ℕ → Body → Option ℕ → Priority → Run
respawns r t body after priority =
    cond (has_number r)
    (arrives (with_body (record (draws r (Some t) after priority (Respawn t after) None None) { running = None }) t body) (next_number r.journal) after)
    (is_refused r t Limit)

-- a new task that is asked for: its call, where it begins, the class of its block, its predecessor and its priority
pub record Request : Type 0 where
  pub call : Accepted
  pub body : Body
  pub class : ℕ
  pub after : Option ℕ
  pub priority : Priority

-- the block is placed; its superblock keeps that also where the block is given back at once
abbrev pub places : ℕ → Run → BlockState → Run
places units r block = record r { supers = supers_with units r.supers block }

-- the new task has the next number, and the block
abbrev pub accepts : ℕ → Run → Request → BlockState → Run
accepts units r q block = draws (places units r block) None q.after q.priority q.call (Some q.body) (Some block)

-- a null answer is counted; the first keeps its class and the superblocks as it saw them
abbrev pub evidence_or : Option Evidence → ℕ → Run → ℕ → Option Evidence
evidence_or None units r class = Some (record { class = class; words = words_of (pool_of units r) })
evidence_or (Some e) units r class = Some e

abbrev pub counts_null : ℕ → Run → ℕ → Run
counts_null units r class = record r { nulls = r.nulls + 1; evidence = evidence_or r.evidence units r class }

-- The running task t asks for a new task. It stands at the body `stays`, and goes on from `goes n` where the new task is n.
-- The pool is asked before the limit. Without a block the answer is null, and is counted: the task is cut, or, with `retry`,
-- runs the same line again in a further activation, behind none and with priority low. With a block but no number the block
-- is given back, and the task is cut. Until `goes n` takes its place, `stays` names what it named.
abbrev pub asks_with : Option BlockState → ℕ → Run → ℕ → Body → (ℕ → Body) → Request → Bool → Run
asks_with None units r t stays goes q false = is_refused (counts_null units r q.class) t Null
asks_with None units r t stays goes q true = respawns (counts_null units r q.class) t stays None Low
asks_with (Some block) units r t stays goes q retry =
    cond (has_number r)
    (arrives (with_body (accepts units r q block) t (goes (next_number r.journal))) (next_number r.journal) q.after)
    (is_refused (places units r block) t Limit)

abbrev pub asks : ℕ → Run → ℕ → Body → (ℕ → Body) → Request → Bool → Run
asks units r t stays goes q retry = asks_with (placed (pool_of units r) q.class) units r t stays goes q retry

-- what is asked for

abbrev pub call_request : Program → CallOf ℕ → Option ℕ → Priority → Request
call_request p call after priority = record {
  call = OfCall call after;
  body = OfKind (entry p call);
  class = kind_class p call.kind;
  after = after;
  priority = priority;
}

-- the tasks among these, in their order
abbrev pub task_list : List (Option ℕ) → List ℕ
task_list [] = []
task_list (None ∷ more) = task_list more
task_list (Some t ∷ more) = t ∷ task_list more

-- the tasks that these variables name
abbrev pub tasks_named : FrameOf ℕ → List ℕ → List ℕ
tasks_named q members = task_list (map (future_at q.futures) members)

-- an aggregate is behind its first member, and the member at position 1 is the next
abbrev pub all_request : List ℕ → Priority → Request
all_request tasks priority = record {
  call = OfAll tasks;
  body = OfMembers tasks 1;
  class = members_class (length tasks);
  after = slice_get tasks 0;
  priority = priority;
}

-- one line of a frame

abbrev pub asked_priority : Instr → Priority
asked_priority (Spawn to kind arguments waits priority retry) = priority
asked_priority (All to members priority retry) = priority
asked_priority (Again target waits priority) = priority
asked_priority _ = Regular

abbrev pub asks_again : Instr → Bool
asks_again (Spawn to kind arguments waits priority retry) = retry
asks_again (All to members priority retry) = retry
asks_again _ = false

-- the frame reads a task: it holds the number that the task gave, or ends by its trap; a task without a value is not read
abbrev pub reads : Option Outcome → Run → ℕ → FrameOf ℕ → ℕ → Run
reads (Some (Gave (Number n))) r t q to = with_body r t (OfKind (set_number q to n))
reads (Some (Gave (Trapped trap))) r t q to = gives r t (Trapped trap)
reads _ r t q to = r

abbrev pub outcome_of : Run → Option ℕ → Option Outcome
outcome_of r None = None
outcome_of r (Some u) = found r.outcomes u

-- what the line does, by the act that the meaning of programs has for it, with the line's priority and `retry`
abbrev pub does : Program → ℕ → Run → ℕ → FrameOf ℕ → Instr → Act ℕ → Run
does p units r t q instr (Steps next) = with_body r t (OfKind next)
does p units r t q instr (Calls to call waits) =
    asks units r t (OfKind q) (λ n. OfKind (set_future q to (Some n))) (call_request p call (task_waited q waits) (asked_priority instr)) (asks_again instr)
does p units r t q instr (Gathers to members) =
    asks units r t (OfKind q) (λ n. OfKind (set_future q to (Some n))) (all_request (tasks_named q members) (asked_priority instr)) (asks_again instr)
does p units r t q instr (Reads to x) = reads (outcome_of r (future_at q.futures x)) r t q to
does p units r t q instr (Respawns target waits) = respawns r t (OfKind (enter p q target)) (task_waited q waits) (asked_priority instr)
does p units r t q instr (Finishes v) = gives r t v

abbrev pub runs_line : Program → Columns → ℕ → Run → ℕ → FrameOf ℕ → Option Line → Run
runs_line p c units r t q None = r
runs_line p c units r t q (Some line) = does p units r t q line.instr (act_of c line.instr q)

-- an aggregate goes on behind its next member, with its own priority, and after the last one it ends with 0
abbrev pub goes_behind : Run → ℕ → Priority → List ℕ → ℕ → Option ℕ → Run
goes_behind r t priority members next None = gives r t (Number 0)
goes_behind r t priority members next (Some u) = respawns r t (OfMembers members (next + 1)) (Some u) priority

abbrev pub runs_body : Program → Columns → ℕ → Run → ℕ → ℕ → Option Body → Run
runs_body p c units r n t None = r
runs_body p c units r n t (Some (OfKind q)) = runs_line p c units r t q (slice_get (code_at p q.kind q.state) q.at)
runs_body p c units r n t (Some (OfMembers members next)) = goes_behind r t (priority_of r.priorities n) members next (slice_get members next)

abbrev pub runs_row : Program → Columns → ℕ → Run → ℕ → Option ActivationRow → Run
runs_row p c units r n None = r
runs_row p c units r n (Some row) = runs_body p c units r n row.task (found r.bodies row.task)

-- the start of an activation

-- behind a task that was cut, the started task is cut at once in the same way, because of that task
abbrev pub cut_behind : Option Outcome → Run → ℕ → ℕ → Run
cut_behind (Some (WasCut tag)) r t u = completes r t (WasCut tag) (cause.By u)
cut_behind _ r t u = r

abbrev pub is_behind : Run → ℕ → Option ℕ → Run
is_behind r t None = r
is_behind r t (Some u) = cut_behind (found r.outcomes u) r t u

abbrev pub started_row : Run → Option ActivationRow → Run
started_row r None = r
started_row r (Some row) = is_behind r row.task row.after

abbrev pub starts : Run → ℕ → Queues → Run
starts r n left = started_row (record r { journal = with_begun r.journal n; ready = left; running = Some n }) (by_number r.journal.rows n)

abbrev pub starts_next : Run → Option (ℕ × Queues) → Run
starts_next r None = r
starts_next r (Some next) = starts r next.0 next.1

-- steps

-- nothing changes where none runs and none is ready
abbrev pub step_with : Program → Columns → ℕ → Run → Option ℕ → Run
step_with p c units r None = starts_next r (next_queued r.ready)
step_with p c units r (Some n) = runs_row p c units r n (by_number r.journal.rows n)

abbrev pub step : Program → Columns → ℕ → Run → Run
step p c units r = step_with p c units r r.running

abbrev pub steps : Program → Columns → ℕ → ℕ → Run → Run
steps p c units zero r = r
steps p c units (suc n) r = steps p c units n (step p c units r)

-- asking for the roots

abbrev pub own_task : RootWord → Option ℕ
own_task (Named t) = Some t
own_task (Refused tag) = None
own_task (Skipped r tag) = None

-- the task of each root, where it has one
abbrev pub own_tasks : Run → List (Option ℕ)
own_tasks r = map own_task r.roots

-- how a root without a task was cut
abbrev pub taskless : Option RootWord → Option CutTag
taskless None = None
taskless (Some (Named t)) = None
taskless (Some (Refused tag)) = Some tag
taskless (Some (Skipped r tag)) = Some tag

-- the first of these roots that has no task, and how it was cut
abbrev pub first_taskless : List RootWord → List ℕ → Option (ℕ × CutTag)
first_taskless words [] = None
first_taskless words (at ∷ more) = option_or (option_map (λ tag. (at, tag)) (taskless (slice_get words at))) (first_taskless words more)

abbrev pub with_root : Run → RootWord → Run
with_root r word = record r { roots = r.roots ++ word ∷ [] }

-- the call of a root, with the tasks of the roots that it names
abbrev pub root_request : Program → Run → RootLine → Request
root_request p r root = call_request p (root_call (own_tasks r) root) (root_waits (own_tasks r) root.behind) root.priority

-- a root is asked for, as a spawn is, but no task is cut where it is refused
abbrev pub asks_root_with : Option BlockState → ℕ → Run → Request → Run
asks_root_with None units r q = with_root (counts_null units r q.class) (Refused Null)
asks_root_with (Some block) units r q =
    cond (has_number r)
    (arrives (with_root (accepts units r q block) (Named (next_number r.journal))) (next_number r.journal) q.after)
    (with_root (places units r block) (Refused Limit))

-- a root that names one without a task is skipped, and cut in the same way
abbrev pub asks_root : Program → ℕ → Run → RootLine → Option (ℕ × CutTag) → Run
asks_root p units r root None = asks_root_with (placed (pool_of units r) (kind_class p root.kind)) units r (root_request p r root)
asks_root p units r root (Some first) = with_root r (Skipped first.0 first.1)

-- these roots are asked for in their order
abbrev pub asks_roots : Program → ℕ → Run → List RootLine → Run
asks_roots p units r [] = r
asks_roots p units r (root ∷ more) = asks_roots p units (asks_root p units r root (first_taskless r.roots (roots_named root))) more

-- nothing has happened
abbrev pub at_first : RunPlan → Run
at_first plan = record {
  journal = empty_journal plan.limit;
  calls = [];
  priorities = [];
  outcomes = [];
  waiters = [];
  bodies = [];
  blocks = [];
  roots = [];
  ready = no_queues;
  running = None;
  supers = replicate plan.superblocks (record { class = 0; ever = 0 });
  nulls = 0;
  evidence = None;
}

-- all roots are asked for, and nothing has started
abbrev pub asked : Program → RunPlan → Run
asked p plan = asks_roots p plan.units (at_first plan) p.roots
