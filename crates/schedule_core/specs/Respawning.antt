-- What a respawn and a retry need, and what they tell.
use Rattle.std.specs.Prelude.{◌≡◌, ℕ, ◌-◌, ◌<◌, ◌⊎◌, true, cond, Option, Some, None, IfSome, List, ◌∷◌, length, slice_get, slice_index}
use Rattle.record_core.specs.Counting.{dropped}
use Rattle.record_core.specs.declared.rows.CutTag.TheVariants as cut
use Rattle.task_syntax.specs.declared.columns.Columns.{Columns}
use Rattle.task_syntax.specs.declared.program.Program.{Program}
use Rattle.task_syntax.specs.declared.program.Sort.TheVariants.{Future as FutureSort}
use Rattle.task_syntax.specs.declared.value.Priority.{Priority}
use Rattle.task_syntax.specs.declared.value.Priority.TheVariants.{Low}
use Rattle.task_meaning.specs.Meant.{future_at}
use Rattle.task_meaning.specs.Worths.{Respawn}
use Rattle.ready_queues.specs.declared.entry.Entry.{Entry}
use Rattle.frame_code.specs.Control.{is_aggregate}
use Rattle.frame_code.specs.Frames.{IsFrame}
use Rattle.frame_code.specs.Members.{member_act}
use Rattle.frame_code.specs.Setting.{BodyHasSort}
use Rattle.frame_code.specs.Stops.{StopsAt}
use Rattle.frame_code.specs.Units.{named_in, IsEnteredHeld}
use Rattle.frame_code.specs.Words.{BodyOf, OfKind, OfMembers, body_of}
use Rattle.frame_code.specs.declared.act.Act.TheVariants as act
use Rattle.frame_code.specs.declared.act.AllRequest.{AllRequest}
use Rattle.frame_code.specs.declared.act.RespawnRequest.{RespawnRequest}
use Rattle.frame_code.specs.declared.act.SpawnRequest.{SpawnRequest}
use Rattle.table_core.specs.WaitViews.{is_run_at}
use Rattle.table_core.specs.declared.setup.Setup.{Setup}
use Rattle.table_core.specs.declared.view.View.{View}
use Rattle.schedule_rule.specs.LifeViews.{answers_left}
use Rattle.schedule_rule.specs.PlacingViews.{less}
use Rattle.step_table.specs.PlacingSteps.{placing_of}
use Rattle.schedule_core.specs.Making.{PlacesNumber, task_behind, waits_behind}
use Rattle.schedule_core.specs.NextNumbers.{HasNumber, MetLimitNext, SawBehind}
use Rattle.schedule_core.specs.References.{Grows}
use Rattle.schedule_core.specs.Runs.{IsInStep}
use Rattle.schedule_core.specs.SeenTasks.{unit_behind}
use Rattle.schedule_core.specs.declared.answers.Respawned.{Respawned}
use Rattle.schedule_core.specs.declared.answers.Respawned.TheVariants as respawned
use Rattle.schedule_core.specs.declared.making.Behind.{Behind}
use Rattle.schedule_core.specs.declared.running.Running.{Running}

-- the unit that a task names which is to be behind the future in this variable, if in any; an aggregate is behind the member at this
-- position
abbrev pub unit_next : BodyOf ℕ → Option ℕ → Option ℕ
unit_next (OfKind q) None = None
unit_next (OfKind q) (Some x) = future_at q.futures x
unit_next (OfMembers units next) None = None
unit_next (OfMembers units next) (Some position) = slice_get units position

-- the variable is a future of the frame, or the position one of its members, if one is given
abbrev pub IsBehindName : Program → Option ℕ → BodyOf ℕ → Type 0
IsBehindName p x (OfKind q) = IfSome x (λ at. BodyHasSort p FutureSort at (OfKind q))
IsBehindName p x (OfMembers units next) = IfSome x (λ position. position < length units)

-- a task stands at its respawn; an aggregate asks to be behind its next member
abbrev pub AsksAgain : Program → Columns → RespawnRequest → BodyOf ℕ → Type 0
AsksAgain p c request (OfKind q) = StopsAt p c q (act.Again request)
AsksAgain p c request (OfMembers units next) = member_act (slice_get units next) next ≡ act.Again request

-- A running task asks for its next activation where its frame stands. Nothing was refused to it, and no record was made that its variable
-- does not name.
pub record MayRespawn (g : Setup) (x : Running) (request : RespawnRequest) (v : View) : Type 0 where
  pub in_step : IsInStep g x v
  pub asks : AsksAgain g.checked g.columns request (body_of g.checked x.frame.items)
  pub unrefused : x.refused ≡ None
  pub unmade : x.made ≡ None

-- The task has a next activation, under the next number: behind the task of the record at this unit, or behind none. The pass runs it no
-- more, and has none of the references that its frame named: those of the next activation's frame are the record's, and the others are
-- given up; the places of blocks that came free by this are settled beside those that were before. Its frame is a next one.
pub record HasRespawned (g : Setup) (x : Running) (wanted : Option ℕ) (priority : Priority) (IsNext : List ℕ → Type 0) (old : View) (told : Option Entry) (new : View) : Type 0 where
  pub number : ℕ
  pub behind : Option Behind
  pub behind_is : unit_behind behind ≡ wanted
  pub placed : PlacesNumber g.plan.limit x.started.unit number priority behind told old new
  pub saw : SawBehind behind placed.steps
  pub words : List ℕ
  pub is_frame : IsFrame g.checked words
  pub next : IsNext words
  pub facts : Grows old.facts new.facts
  pub settles : Grows old.settles new.settles
  pub view_is : new ≡ record old {
    runs = dropped (is_run_at x.started.unit) old.runs;
    known = new.known;
    futures = less old.futures (named_in g.checked x.frame.items);
    sights = new.sights;
    calls = (number, Respawn x.task (task_behind behind)) ∷ old.calls;
    may_draw = 0;
    placings = placing_of (waits_behind behind) x.started.unit number priority words ∷ old.placings;
    answers = answers_left x.task old.answers;
    facts = new.facts;
    settles = new.settles;
    tries = new.tries;
    seen = new.seen;
  }

-- the same task, which the limit was answered to
abbrev pub limited : Running → Running
limited x = record x { refused = Some cut.Limit }

-- The limit is met, and the task is answered so. It comes back, and the pass runs it as before.
pub record IsLimited (g : Setup) (x : Running) (old : View) (back : Running) (new : View) : Type 0 where
  pub back_is : back ≡ limited x
  pub met : MetLimitNext g x.task old new
  pub in_step : IsInStep g back new

-- what comes of asking for a next activation, whose frame is such a one
abbrev pub GoesOn : Setup → Running → Option ℕ → Priority → (List ℕ → Type 0) → View → Respawned → View → Type 0
GoesOn g x wanted priority IsNext old respawned.Waits new = HasRespawned g x wanted priority IsNext old None new
GoesOn g x wanted priority IsNext old (respawned.Ready e) new = HasRespawned g x wanted priority IsNext old (Some e) new
GoesOn g x wanted priority IsNext old (respawned.Over back) new = IsLimited g x old back new

-- the priority of the next activation: an aggregate keeps that of its running one
abbrev pub priority_next : Running → RespawnRequest → Priority
priority_next x request = cond (is_aggregate (slice_index x.frame.items 0)) x.priority request.priority

-- by a respawn: the next frame is this one where it enters its target
abbrev pub Respawns : Setup → Running → RespawnRequest → View → Respawned → View → Type 0
Respawns g x request = GoesOn g x (unit_next (body_of g.checked x.frame.items) request.behind) (priority_next x request) (IsEnteredHeld g.checked request.target x.frame.items)

-- how many references a pass counts that had so many before
abbrev pub held_respawned : Setup → Running → ℕ → Respawned → ℕ
held_respawned g x held respawned.Waits = held - length (named_in g.checked x.frame.items)
held_respawned g x held (respawned.Ready e) = held - length (named_in g.checked x.frame.items)
held_respawned g x held (respawned.Over back) = held

-- the number of a task's next activation is drawn
pub record MayEnterNext (g : Setup) (x : Running) (number : ℕ) (behind : Option Behind) (request : RespawnRequest) (v : View) : Type 0 where
  pub base : View
  pub may : MayRespawn g x request base
  pub has : HasNumber g x (unit_next (body_of g.checked x.frame.items) request.behind) number behind base v

-- the respawn is told, whatever the view was before
abbrev pub EntersNext : Setup → Running → ℕ → Option Behind → RespawnRequest → View → Respawned → View → Type 0
EntersNext g x number behind request v told new = (base : View) → MayRespawn g x request base
    → HasNumber g x (unit_next (body_of g.checked x.frame.items) request.behind) number behind base v → Respawns g x request base told new

-- a task stands where it asks for a new task or an aggregate, again if it gets none
abbrev pub AsksOnNull : Program → Columns → BodyOf ℕ → Type 0
AsksOnNull p c (OfKind q) = ((request : SpawnRequest) × StopsAt p c q (act.Spawn request) × (request.retry ≡ true))
    ⊎ ((request : AllRequest) × StopsAt p c q (act.All request) × (request.retry ≡ true))
AsksOnNull p c (OfMembers units next) = ⊥

-- the last request of a running task asks to be tried again, and the pool had no block for it
pub record MayRetry (g : Setup) (x : Running) (v : View) : Type 0 where
  pub in_step : IsInStep g x v
  pub asks : AsksOnNull g.checked g.columns (body_of g.checked x.frame.items)
  pub refused : x.refused ≡ Some cut.Null

-- the next activation has the frame that this one has, so it stands at the same line, and is behind no task
abbrev pub Retries : Setup → Running → View → Respawned → View → Type 0
Retries g x = GoesOn g x None Low (λ words. words ≡ x.frame.items)

-- the number of a task's next activation is drawn, which is behind no task
pub record MayStay (g : Setup) (x : Running) (number : ℕ) (v : View) : Type 0 where
  pub base : View
  pub may : MayRetry g x base
  pub has : HasNumber g x None number None base v

-- the retry is told, whatever the view was before
abbrev pub Stays : Setup → Running → ℕ → View → Respawned → View → Type 0
Stays g x number v told new = (base : View) → MayRetry g x base → HasNumber g x None number None base v → Retries g x base told new
