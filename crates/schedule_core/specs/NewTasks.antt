-- What a running task asks for: a call with what is given to it, and its first frame. What it takes to make a record for it, and what is told then.
use Rattle.std.specs.Prelude.{◌≡◌, true, ℕ, ◌+◌, ◌<◌, ◌≤◌, Option, Some, None, IfSome, List, ◌∷◌, map, length, slice_get}
use Rattle.record_core.specs.Counting.{At, Has}
use Rattle.record_core.specs.declared.rows.CutTag.{CutTag}
use Rattle.record_core.specs.declared.rows.CutTag.TheVariants as cut
use Rattle.kt_words.specs.Capacity.{class_for}
use Rattle.task_syntax.specs.Form.{IsWellFormed}
use Rattle.task_syntax.specs.declared.program.Program.{Program}
use Rattle.task_syntax.specs.declared.program.Sort.TheVariants.{Future as FutureSort}
use Rattle.task_syntax.specs.declared.value.Priority.{Priority}
use Rattle.task_meaning.specs.Frame.{variables_of}
use Rattle.task_meaning.specs.Worths.{Accepted, OfCall, OfAll}
use Rattle.ready_queues.specs.declared.entry.Entry.{Entry}
use Rattle.frame_code.specs.Entries.{future_of, number_of, AgreesWith, IsEntryOf}
use Rattle.frame_code.specs.Frames.{IsFrame}
use Rattle.frame_code.specs.Names.{present}
use Rattle.frame_code.specs.Setting.{HasSort}
use Rattle.frame_code.specs.Units.{named_in}
use Rattle.frame_code.specs.Words.{OfMembers, body_of}
use Rattle.frame_code.specs.declared.entries.Passed.{Passed}
use Rattle.frame_code.specs.declared.entries.Passed.TheVariants as passed
use Rattle.table_core.specs.Addresses.{units_of}
use Rattle.table_core.specs.Asking.{OfTask}
use Rattle.table_core.specs.Holdings.{Sight, SawTask}
use Rattle.table_core.specs.Lists.{Each}
use Rattle.table_core.specs.Pool.{superblock_of, IsBlock}
use Rattle.table_core.specs.RecordViews.{new_made}
use Rattle.table_core.specs.Views.{place, block}
use Rattle.table_core.specs.WaitViews.{is_run_at}
use Rattle.table_core.specs.declared.setup.Setup.{Setup}
use Rattle.table_core.specs.declared.view.View.{View}
use Rattle.schedule_rule.specs.Calls.{after_in}
use Rattle.schedule_rule.specs.CoveringLaws.{StandsAsking}
use Rattle.schedule_rule.specs.DrawViews.{changed}
use Rattle.schedule_rule.specs.Frames.{HoldsNames}
use Rattle.schedule_rule.specs.LifeViews.{with_words}
use Rattle.schedule_rule.specs.PlacingViews.{WereSeenAs, WasSeenAs}
use Rattle.memory_pool.specs.Answers.{Gives, Refuses}
use Rattle.memory_pool.specs.Searches.{SeesMore}
use Rattle.step_table.specs.DrawSteps.{Asking}
use Rattle.step_table.specs.Passes.{block_of}
use Rattle.step_table.specs.PlacingSteps.{Placement, ForRun, placing_of}
use Rattle.step_table.specs.declared.record_tokens.Future.{Future}
use Rattle.step_table.specs.declared.record_tokens.Made.{Made}
use Rattle.step_table.specs.declared.tokens.Block.{Block}
use Rattle.schedule_core.specs.Begins.{MetLimit}
use Rattle.schedule_core.specs.Making.{PlacesNumber, task_behind, waits_behind}
use Rattle.schedule_core.specs.PastFrames.{past_words}
use Rattle.schedule_core.specs.References.{Grows}
use Rattle.schedule_core.specs.Runs.{IsInStep}
use Rattle.schedule_core.specs.SeenTasks.{task_seen, unit_behind}
use Rattle.schedule_core.specs.declared.answers.Spawned.{Spawned}
use Rattle.schedule_core.specs.declared.answers.Spawned.TheVariants as spawned
use Rattle.schedule_core.specs.declared.making.Behind.{Behind}
use Rattle.schedule_core.specs.declared.new_tasks.Given.{Given}
use Rattle.schedule_core.specs.declared.new_tasks.Given.TheVariants as given
use Rattle.schedule_core.specs.declared.new_tasks.NewTask.{NewTask}
use Rattle.schedule_core.specs.declared.running.Running.{Running}

-- the task of what is passed, if it is a future
abbrev pub task_passed : List Sight → Passed → Option ℕ
task_passed sights (passed.Number n) = None
task_passed sights (passed.Future u) = task_seen u sights

-- the task that was seen, or 0 where none was
abbrev pub number_seen : Option ℕ → ℕ
number_seen None = 0
number_seen (Some t) = t

-- the task of a member, by the unit of its record
abbrev pub task_member : List Sight → ℕ → ℕ
task_member sights u = number_seen (task_seen u sights)

-- the units of the records that are given
abbrev pub units_given : Given → List ℕ
units_given (given.Call kind passed) = present (map future_of passed)
units_given (given.Members units) = units

-- the call that is made with what is given, over the tasks that were seen
abbrev pub call_made : Given → Option Behind → List Sight → Accepted
call_made (given.Call kind passed) behind sights = OfCall (record { kind = kind; numbers = map number_of passed; futures = map (task_passed sights) passed }) (task_behind behind)
call_made (given.Members units) behind sights = OfAll (map (task_member sights) units)

-- the class of the records of a kind, and of an aggregate with so many members
abbrev pub kind_class : Program → ℕ → ℕ
kind_class p kind = class_for (1 + variables_of p kind)

abbrev pub group_class : ℕ → ℕ
group_class members = class_for (1 + members)

abbrev pub class_given : Program → Given → ℕ
class_given p (given.Call kind passed) = kind_class p kind
class_given p (given.Members units) = group_class (length units)

-- The words are the first frame of the call. An aggregate of 1 to 8 members is behind the first one.
abbrev pub Begins : Program → Given → Option ℕ → List ℕ → Type 0
Begins p (given.Call kind passed) behind words = (kind < length p.kinds) × AgreesWith p kind passed × IsEntryOf p kind passed words
Begins p (given.Members units) behind words = (1 ≤ length units) × (length units ≤ 8) × (body_of p words ≡ OfMembers units 1) × (behind ≡ slice_get units 0)

-- A running task asks for it where its frame stands, and puts it into a future variable. The frame names the records of what is given
-- and of the predecessor; the first frame names what its state holds.
pub record Wants (g : Setup) (x : Running) (new : NewTask) (v : View) : Type 0 where
  pub in_step : IsInStep g x v
  pub formed : IsWellFormed g.checked
  pub stands : StandsAsking g.checked new.to (body_of g.checked x.frame.items)
  pub variable : HasSort g.checked FutureSort new.to x.frame.items
  pub named : Each (λ u. Has u (named_in g.checked x.frame.items)) (units_given new.given)
  pub behind : IfSome new.behind (λ u. Has u (named_in g.checked x.frame.items))
  pub frame : IsFrame g.checked new.first.items
  pub begins : Begins g.checked new.given new.behind new.first.items
  pub names : HoldsNames g.checked (body_of g.checked new.first.items)

-- the call is made with what is given, over tasks that were seen at those records
abbrev pub IsCallOver : View → Given → Option ℕ → Accepted → Type 0
IsCallOver v (given.Call kind passed) waits call = (futures : List (Option ℕ)) × WereSeenAs v (map future_of passed) futures × (call ≡ OfCall (record { kind = kind; numbers = map number_of passed; futures = futures }) waits)
IsCallOver v (given.Members units) waits call = (members : List ℕ) × WereSeenAs v (map Some units) (map Some members) × (call ≡ OfAll members)

-- A running task has a new one: the number is placed for its record with the priority and these words as its frame, by this call, which
-- is behind this task or none. The pass has one reference more, to the record, and saw its task there. The frame of the asker is past its
-- act, where its variable names the record.
pub record GetsTask (g : Setup) (x : Running) (to class : ℕ) (priority : Priority) (number : ℕ) (words : List ℕ) (call : Accepted) (behind : Option Behind) (old : View) (future : Future) (entry : Option Entry) (new : View) : Type 0 where
  pub placed : PlacesNumber g.plan.limit future.unit number priority behind entry old new
  pub sees : Has (SawTask future.unit number) new.sights
  pub facts : Grows old.facts new.facts
  pub view_is : new ≡ record old {
    futures = future.unit ∷ old.futures;
    runs = changed (is_run_at x.started.unit) (with_words (past_words g.checked x.frame.items to future.unit)) old.runs;
    calls = (number, call) ∷ old.calls;
    wins = place (superblock_of g.plan future.unit) class ∷ old.wins;
    may_draw = 0;
    placings = placing_of (waits_behind behind) future.unit number priority words ∷ old.placings;
    looks = new.looks;
    known = new.known;
    sights = new.sights;
    facts = new.facts;
    tries = new.tries;
    seen = new.seen;
  }

-- The new task is what is asked for, over the tasks that were seen, and begins with the first frame.
pub record HasMade (g : Setup) (x : Running) (new : NewTask) (old : View) (future : Future) (entry : Option Entry) (after : View) : Type 0 where
  pub number : ℕ
  pub behind : Option Behind
  pub behind_is : unit_behind behind ≡ new.behind
  pub behind_seen : WasSeenAs after new.behind (task_behind behind)
  pub call : Accepted
  pub call_is : IsCallOver after new.given (task_behind behind) call
  pub after_is : task_behind behind ≡ after_in (Some call)
  pub gets : GetsTask g x new.to (class_given g.checked new.given) new.priority number new.first.items call behind old future entry after

abbrev pub asking_of : Running → Asking
asking_of x = record { asker = Some (OfTask x.task); move = Some (record { unit = x.started.unit; words = x.frame.items }) }

-- what comes of asking for a task whose block has this class: what is told of the new one, or a refusal
abbrev pub ComesOf : Setup → Running → ℕ → (Future → Option Entry → View → Type 0) → View → Spawned → View → Type 0
ComesOf g x class Has old (spawned.Future future entry) new = Has future entry new
ComesOf g x class Has old spawned.Null new = Refuses g.plan class old new
ComesOf g x class Has old spawned.Over new = MetLimit g class (asking_of x) old new

abbrev pub Makes : Setup → Running → NewTask → View → Spawned → View → Type 0
Makes g x new old = ComesOf g x (class_given g.checked new.given) (HasMade g x new old) old

-- what was refused, if anything was
abbrev pub refusal_in : Spawned → Option CutTag
refusal_in (spawned.Future future entry) = None
refusal_in spawned.Null = Some cut.Null
refusal_in spawned.Over = Some cut.Limit

-- the unit of the record that was made, if one was
abbrev pub made_in : Spawned → Option ℕ
made_in (spawned.Future future entry) = Some future.unit
made_in spawned.Null = None
made_in spawned.Over = None

-- how many references a pass counts that had so many before
abbrev pub held_spawned : ℕ → Spawned → ℕ
held_spawned held (spawned.Future future entry) = held + 1
held_spawned held spawned.Null = held
held_spawned held spawned.Over = held

-- A record is made for it in a new block, with leave to draw a number, and tasks may have been seen since.
pub record IsMaking (g : Setup) (x : Running) (class : ℕ) (base : View) (made : Made) (v : View) : Type 0 where
  pub is_block : IsBlock g.plan made.unit class
  pub class_is : made.class ≡ class
  pub seen : Grows base.seen v.seen
  pub looks : Grows base.looks v.looks
  pub sights : Grows base.sights v.sights
  pub facts : Grows base.facts v.facts
  pub near : Each (λ u. u < units_of g.plan) base.futures
  pub view_is : v ≡ record base {
    made = new_made (block made.unit class true) ∷ base.made;
    runs = changed (is_run_at x.started.unit) (with_words x.frame.items) base.runs;
    wins = place (superblock_of g.plan made.unit) class ∷ base.wins;
    may_draw = 1;
    seen = v.seen;
    looks = v.looks;
    sights = v.sights;
    facts = v.facts;
  }

-- without that record the task is asked for
pub record MayMakeTask (g : Setup) (x : Running) (made : Made) (new : NewTask) (v : View) : Type 0 where
  pub base : View
  pub wants : Wants g x new base
  pub making : IsMaking g x (class_given g.checked new.given) base made v

-- what comes of it, and that the running record goes on, whatever the view was before the record was made
abbrev pub MakesTask : Setup → Running → Made → NewTask → View → Spawned → View → Type 0
MakesTask g x made new v told after = (base : View) → Wants g x new base → IsMaking g x (class_given g.checked new.given) base made v
    → Makes g x new base told after × IsInStep g x after

-- how the new record is placed: by its call over the tasks that were seen, with its first frame, and the asker's frame is past its act
abbrev pub placement_of : Setup → Running → Made → NewTask → Option Behind → View → Placement
placement_of g x made new behind v = record {
  call = call_made new.given behind v.sights;
  words = new.first.items;
  asked = ForRun x.started.unit (past_words g.checked x.frame.items new.to made.unit);
}

-- the tasks of what is given and of the predecessor were seen besides
pub record MayPlaceTask (g : Setup) (x : Running) (made : Made) (new : NewTask) (behind : Option Behind) (placement : Placement) (v : View) : Type 0 where
  pub make : MayMakeTask g x made new v
  pub seen : (k u : ℕ) → At (units_given new.given) k u → (t : ℕ) × (task_seen u v.sights ≡ Some t)
  pub behind_is : unit_behind behind ≡ new.behind
  pub behind_seen : IfSome behind (λ b. task_seen b.unit v.sights ≡ Some b.task)
  pub placement_is : placement ≡ placement_of g x made new behind v

-- a block was just allocated for it
pub record MayMakeInBlock (g : Setup) (x : Running) (new : NewTask) (b : Block) (v : View) : Type 0 where
  pub base : View
  pub wants : Wants g x new base
  pub gives : Gives g.plan (class_given g.checked new.given) base (block_of b) v
  pub later : SeesMore base v

abbrev pub MakesInBlock : Setup → Running → NewTask → Block → View → Spawned → View → Type 0
MakesInBlock g x new b v told after = (base : View) → Wants g x new base → Gives g.plan (class_given g.checked new.given) base (block_of b) v → SeesMore base v
    → Makes g x new base told after × IsInStep g x after
