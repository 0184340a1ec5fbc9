-- What the calls need and tell by which a running task goes on.
use Rattle.std.specs.Prelude.{◌≡◌, ℕ, ◌+◌, Option, Some, None, List, [], ◌∷◌, ◌++◌, length, slice_get}
use Rattle.std.specs.Option.{option_to_list}
use Rattle.record_core.specs.Counting.{times}
use Rattle.task_syntax.specs.declared.columns.Columns.{Columns}
use Rattle.task_syntax.specs.declared.program.Program.{Program}
use Rattle.frame_code.specs.Calls.{Advances, Means, NamesStay}
use Rattle.frame_code.specs.Members.{member_act}
use Rattle.frame_code.specs.Moves.{passed_on}
use Rattle.frame_code.specs.Setting.{unit_in, with_future}
use Rattle.frame_code.specs.Stops.{StopsAt}
use Rattle.frame_code.specs.Units.{named_in}
use Rattle.frame_code.specs.Words.{BodyOf, OfKind, OfMembers, body_of}
use Rattle.frame_code.specs.declared.act.Act.{Act}
use Rattle.frame_code.specs.declared.act.Act.TheVariants as act
use Rattle.table_core.specs.WaitViews.{is_run_at}
use Rattle.table_core.specs.declared.setup.Setup.{Setup}
use Rattle.table_core.specs.declared.view.View.{View}
use Rattle.schedule_rule.specs.DrawViews.{changed}
use Rattle.schedule_rule.specs.HeldNames.{StandsPutting, StandsDropping}
use Rattle.schedule_rule.specs.LifeViews.{with_words}
use Rattle.schedule_rule.specs.PlacingViews.{less}
use Rattle.step_table.specs.DrawSteps.{Asking, moved as frame_moved}
use Rattle.schedule_core.specs.Bags.{IsSpare}
use Rattle.schedule_core.specs.References.{Grows}
use Rattle.schedule_core.specs.Runs.{IsTask, IsInStep}
use Rattle.schedule_core.specs.Spawning.{AsksFor}
use Rattle.schedule_core.specs.declared.running.Running.{Running}

-- what a task asks for where its frame stands; an aggregate asks to be behind its next member, or to be done
abbrev pub Asks : Program → Columns → Act → BodyOf ℕ → Type 0
Asks p c asked (OfKind q) = StopsAt p c q asked
Asks p c asked (OfMembers units next) = member_act (slice_get units next) next ≡ asked

-- the running task with another frame
abbrev pub IsMoved : Running → Running → Type 0
IsMoved old new = new ≡ record old { frame = new.frame }

-- The frame of a running task is a task's, and no aggregate's. Besides what its runs need and what the frame names, the pass has these
-- references.
pub record HasLoose (g : Setup) (x : Running) (units : List ℕ) (v : View) : Type 0 where
  pub in_step : IsInStep g x v
  pub single : IsTask (body_of g.checked x.frame.items)
  pub spare : IsSpare g.checked x.started.unit (units ++ named_in g.checked x.frame.items) v

-- The table knows where the frame of the running task stands, and those references are given up.
pub record DropsLoose (g : Setup) (x : Running) (units : List ℕ) (old new : View) : Type 0 where
  pub settles : Grows old.settles new.settles
  pub seen : Grows old.seen new.seen
  pub view_is : new ≡ record old {
    runs = changed (is_run_at x.started.unit) (with_words x.frame.items) old.runs;
    futures = less old.futures units;
    sights = new.sights;
    settles = new.settles;
    may_draw = new.may_draw;
    seen = new.seen;
  }

-- the total is loaded for nobody, and the frame of the running task may have moved on
abbrev pub looking_at : Running → Asking
looking_at x = record { asker = None; move = Some (record { unit = x.started.unit; words = x.frame.items }) }

-- nor has any frame moved on
abbrev pub looking : Asking
looking = record { asker = None; move = None }

-- the total of drawn numbers was loaded for nobody, and a frame may have moved on
pub record SeesFrame (asking : Asking) (old new : View) : Type 0 where
  pub seen : Grows old.seen new.seen
  pub view_is : new ≡ record (frame_moved asking.move old) { may_draw = new.may_draw; seen = new.seen }

-- One more reference was taken to the record at the unit, which the frame names. It is beside what the runs need.
pub record TakesNamed (g : Setup) (x : Running) (unit : ℕ) (old new : View) : Type 0 where
  pub in_step : IsInStep g x new
  pub spare : IsSpare g.checked x.started.unit (unit ∷ named_in g.checked x.frame.items) new
  pub seen : Grows old.seen new.seen
  pub view_is : new ≡ record old { futures = unit ∷ old.futures; may_draw = new.may_draw; seen = new.seen }

-- The running task stands where it puts a future into the variable. Besides what its runs need and what its frame names, the pass has a reference to
-- the record at the unit.
pub record MayPut (g : Setup) (x : Running) (to unit : ℕ) (v : View) : Type 0 where
  pub in_step : IsInStep g x v
  pub puts : StandsPutting g.checked to (body_of g.checked x.frame.items)
  pub spare : IsSpare g.checked x.started.unit (unit ∷ named_in g.checked x.frame.items) v

-- The record at the unit was made for what the running task asks for where it stands.
pub record MayName (g : Setup) (x : Running) (to unit : ℕ) (v : View) : Type 0 where
  pub made : x.made ≡ Some unit
  pub may : MayPut g x to unit v

-- the running task stands where one variable is to name the task that another names
pub record MayCopy (g : Setup) (x : Running) (to source : ℕ) (v : View) : Type 0 where
  pub in_step : IsInStep g x v
  pub asks : AsksFor g.checked g.columns (act.Copy to source) (body_of g.checked x.frame.items)

-- the running task stands where a variable is to name no task any more
pub record MayLetGo (g : Setup) (x : Running) (variable : ℕ) (v : View) : Type 0 where
  pub in_step : IsInStep g x v
  pub drops : StandsDropping g.checked variable (body_of g.checked x.frame.items)

-- A running task stands in another frame, which says this body. Of the references that the pass had or was `given` in this call, those of
-- `left` are given up. The frame names what it named before, with what `came` and without what is left.
pub record GoesPast (g : Setup) (x : Running) (body : BodyOf ℕ) (came given left : List ℕ) (old : View) (y : Running) (new : View) : Type 0 where
  pub moved : IsMoved x y
  pub body_is : body_of g.checked y.frame.items ≡ body
  pub names : (w : ℕ) → times w left + times w (named_in g.checked y.frame.items) ≡ times w came + times w (named_in g.checked x.frame.items)
  pub count : length left + length (named_in g.checked y.frame.items) ≡ length came + length (named_in g.checked x.frame.items)
  pub referred : (w : ℕ) → times w left + times w new.futures ≡ times w given + times w old.futures
  pub settles : Grows old.settles new.settles
  pub seen : Grows old.seen new.seen
  pub view_is : new ≡ record old {
    runs = changed (is_run_at x.started.unit) (with_words y.frame.items) old.runs;
    futures = new.futures;
    sights = new.sights;
    settles = new.settles;
    may_draw = new.may_draw;
    seen = new.seen;
  }
  pub in_step : IsInStep g y new

-- the unit that a variable of the running task names, if any
abbrev pub unit_at : Setup → Running → ℕ → List ℕ
unit_at g x variable = option_to_list (unit_in g.checked x.frame.items variable)

-- the body past its act, with the variable set
abbrev pub set_past : Setup → Running → ℕ → Option ℕ → BodyOf ℕ
set_past g x to unit = with_future to unit (passed_on (body_of g.checked x.frame.items))

-- a future was put into the variable
abbrev pub Puts : Setup → Running → ℕ → ℕ → View → Running → View → Type 0
Puts g x to unit = GoesPast g x (set_past g x to (Some unit)) (unit ∷ []) [] (unit_at g x to)

-- the same task, without a record that its variable does not name
abbrev pub unmade : Running → Running
unmade x = record x { made = None }

-- what the three moves tell
abbrev pub Names : Setup → Running → ℕ → ℕ → View → Running → View → Type 0
Names g x to unit = GoesPast g (unmade x) (set_past g x to (Some unit)) (unit ∷ []) [] (unit_at g x to)

abbrev pub Copies : Setup → Running → ℕ → ℕ → View → Running → View → Type 0
Copies g x to source = GoesPast g x (set_past g x to (unit_in g.checked x.frame.items source)) (unit_at g x source) (unit_at g x source) (unit_at g x to)

abbrev pub LetsGo : Setup → Running → ℕ → View → Running → View → Type 0
LetsGo g x variable = GoesPast g x (set_past g x variable None) [] [] (unit_at g x variable)

-- The running task went on along lines that stop nothing to where it asks for this. It names the same tasks, and is in step.
pub record RunsOn (g : Setup) (x : Running) (v : View) (asked : Act) (y : Running) : Type 0 where
  pub moved : IsMoved x y
  pub acts : Advances g.checked g.columns x.frame.items asked y.frame.items
  pub meaning : Means g.checked g.columns x.frame.items asked y.frame.items
  pub asks : Asks g.checked g.columns asked (body_of g.checked y.frame.items)
  pub names : NamesStay g.checked x.frame.items y.frame.items
  pub in_step : IsInStep g y v
