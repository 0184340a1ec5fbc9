-- The scheduler's rule: that of the table, and parts on numbers, tasks, frames and counts. It holds between any two steps.
use Rattle.std.specs.Prelude.{◌≡◌, ℕ, ◌+◌, ◌<◌, Bool, true, false, ◌||◌, List, map, length, slice_get, slice_set, Some, ◌==◌}
use Rattle.record_core.specs.Sums.{total}
use Rattle.task_meaning.specs.Worths.{Accepted}
use Rattle.table_core.specs.Addresses.{Addr, Mem, super, state, head, next, task, outcome, root, journal, evidence, sum, frame_in, put, words_of, mem_of}
use Rattle.table_core.specs.Lists.{Each}
use Rattle.table_core.specs.Holdings.{Made, Run}
use Rattle.table_core.specs.Story.{Story, Fact}
use Rattle.table_core.specs.Steps.{Stepped}
use Rattle.table_core.specs.Parts.{AllSay as TableSays}
use Rattle.table_core.specs.declared.setup.Setup.{Setup}
use Rattle.table_core.specs.declared.view.View.{View}
use Rattle.schedule_rule.specs.Calls.{Suits, CallsSound, CallersSound, IsSo}
use Rattle.schedule_rule.specs.Rows.{Unwritten, RowsSound, Rowing, RowedSound}
use Rattle.schedule_rule.specs.Numbers.{NumbersHeld, PlacesSound, TasksHeld, OwnersSound, RunningSound, BehindSound, BegunSound}
use Rattle.schedule_rule.specs.Askers.{Asks, AskedSound}
use Rattle.schedule_rule.specs.Frames.{FramedSound, FormedSound, Bagged, BagSound}
use Rattle.schedule_rule.specs.Counts.{Lives, LiveSound, CountedSound, ClassesSound, QuietSound}
use Rattle.schedule_rule.specs.Limits.{Told, LimitsSound}
use Rattle.schedule_rule.specs.Results.{ResultsSound}
use Rattle.schedule_rule.specs.Stories.{Grows}
use Rattle.schedule_rule.specs.RootTasks.{RootTask, RootTasksSound}

pub data Part : Type 0 where
  -- few numbers are drawn past the limit
  draws : Part
  -- calls name earlier tasks
  names : Part
  -- each accepted call fits its kind
  suited : Part
  -- each number is in one pass's calls
  callers : Part
  -- what passes know of the story is so
  facts : Part
  -- rows say tasks and predecessors
  rows : Part
  -- rows still to be written are those of drawn numbers
  rowed : Part
  -- each number stands in one place
  places : Part
  -- numbers are drawn for records of the hand
  askers : Part
  -- frames are of their tasks' calls
  framed : Part
  -- the words of frames are frames
  formed : Part
  -- roots have their tasks
  root_tasks : Part
  -- each task stands in one place, or has ended
  owners : Part
  -- a done record says how its task ended
  results : Part
  -- what is said of running records is so
  running : Part
  -- the word of living records counts them
  live : Part
  -- what is counted in has its number, what is counted out a closed list
  counted_lives : Part
  -- blocks have the class of their task's call
  classes : Part
  -- what waits in a list is behind its record's task
  behind : Part
  -- what is ready or runs is behind no task that is not over
  begun : Part
  -- there is a reference for each future that a running frame holds
  bags : Part
  -- a pass that saw the living count at 0 after the last root still sees it at 0
  quiet : Part
  -- the limit is met where an answer, a root or an end says so
  limits : Part

-- what a part reads of a view
abbrev pub Seen : Part → Type 0
Seen draws = ℕ
Seen names = Unit {0}
Seen suited = Unit {0}
Seen callers = List (ℕ × Accepted)
Seen facts = List Fact
Seen rows = Unwritten
Seen rowed = Rowing
Seen places = NumbersHeld
Seen askers = Asks
Seen framed = List Run
Seen formed = List Run
Seen root_tasks = RootTask
Seen owners = TasksHeld
Seen results = Unit {0}
Seen running = List Run
Seen live = Lives
Seen counted_lives = Lives
Seen classes = List Made
Seen behind = List (List ℕ)
Seen begun = Unit {0}
Seen bags = Bagged
Seen quiet = ℕ
Seen limits = Told

abbrev pub seen : (q : Part) → View → Seen q
seen draws v = v.may_draw
seen names v = tt
seen suited v = tt
seen callers v = v.calls
seen facts v = v.facts
seen rows v = record { no_task = v.no_task; no_after = v.no_after }
seen rowed v = record { no_task = v.no_task; no_after = v.no_after; drawn = v.drawn; taken = v.taken; runs = v.runs }
seen places v = record { drawn = v.drawn; taken = v.taken }
seen askers v = record { made = v.made; runs = v.runs; drawn = v.drawn; turn = v.turn; root_task = v.root_task }
seen framed v = v.runs
seen formed v = v.runs
seen root_tasks v = record { turn = v.turn; root_task = v.root_task }
seen owners v = record { drawn = v.drawn; runs = v.runs }
seen results v = tt
seen running v = v.runs
seen live v = record { made = v.made; done = v.done }
seen counted_lives v = record { made = v.made; done = v.done }
seen classes v = v.made
seen behind v = v.chains
seen begun v = tt
seen bags v = record { futures = v.futures; runs = v.runs }
seen quiet v = v.quiet
seen limits v = record { answers = v.answers; turn = v.turn }

-- The words that some step up to the scheduler's writes. All others are 0: the starts, finishes and causes, the evidence, and the
-- totals of stamps and nulls with the class of the evidence.
abbrev pub is_written : Addr → Bool
is_written (journal n j) = (j == 0) || (j == 1)
is_written (evidence i) = false
is_written (sum k) = (k == 0) || ((k == 1) || (k == 4))
is_written a = true

abbrev pub UnwrittenAreZero : Mem → Type 0
UnwrittenAreZero m = (a : Addr) → is_written a ≡ false → m a ≡ 0

module _ (g : Setup) where
  -- what a part says
  abbrev pub Says : (q : Part) → Story → Mem → List (Seen q) → Type 0
  Says draws s m vs = m (sum 0) + total (λ n. n) vs < g.plan.limit + 4096
  Says names s m vs = CallsSound s.calls
  Says suited s m vs = Each (Suits g.checked) s.calls
  Says callers s m vs = CallersSound s.calls vs
  Says facts s m vs = Each (Each (IsSo s.calls s.ends)) vs
  Says rows s m vs = RowsSound s.calls (λ n. m (journal n 0)) (λ n. m (journal n 1)) vs
  Says rowed s m vs = Each RowedSound vs
  Says places s m vs = PlacesSound g.plan s.calls (λ u. m (state u)) vs
  Says askers s m vs = Each (AskedSound s.calls g.plan) vs
  Says framed s m vs = FramedSound g.checked s.calls (λ u. m (task u)) g.plan (λ u. m (state u)) (frame_in m) vs
  Says formed s m vs = FormedSound g.checked g.plan (λ u. m (state u)) (frame_in m) vs
  Says root_tasks s m vs = RootTasksSound g.checked g.plan s.calls (λ u. m (task u)) (λ r. m (root r)) vs
  Says owners s m vs = OwnersSound g.plan s.calls s.ends (λ u. m (state u)) (λ u. m (task u)) vs
  Says results s m vs = ResultsSound g.plan s.ends (λ u. m (state u)) (λ u. m (task u)) (λ u. m (outcome u))
  Says running s m vs = RunningSound g.plan s.calls vs
  Says live s m vs = LiveSound g.plan (λ u. m (state u)) (m (sum 1)) vs
  Says counted_lives s m vs = Each CountedSound vs
  Says classes s m vs = ClassesSound g.checked g.plan s.calls (λ i. m (super i)) (λ u. m (state u)) vs
  Says behind s m vs = BehindSound g.plan s.calls s.ends (λ u. m (state u)) (λ u. m (head u)) (λ u. m (next u)) (λ u. m (task u)) vs
  Says begun s m vs = BegunSound g.plan s.calls s.ends (λ u. m (state u))
  Says bags s m vs = Each (BagSound g.checked) vs
  Says quiet s m vs = QuietSound g.plan (λ r. m (root r)) (m (sum 1)) vs
  Says limits s m vs = LimitsSound g.plan.limit s.calls s.ends vs

  -- all parts of the table's rule and of this one, of one story
  pub record AllSay (s : Story) (m : Mem) (vs : List View) : Type 0 where
    pub table : TableSays g s m vs
    pub schedule : (q : Part) → Says q s m (map (seen q) vs)

  abbrev pub Lawful : Mem → List View → Type 0
  Lawful m vs = (s : Story) × AllSay s m vs

  -- the same of the words as they lie, and the words that no step writes are 0
  abbrev pub Holds : List ℕ → List View → Type 0
  Holds ws vs = (length ws ≡ words_of g.plan) × Lawful (mem_of g.plan ws) vs × UnwrittenAreZero (mem_of g.plan ws)

  -- all parts hold, of a story that the one before began
  abbrev pub LawfulAfter : Story → Mem → List View → Type 0
  LawfulAfter s m vs = (after : Story) × Grows s after × AllSay after m vs

  -- A step that writes f of what it finds at one word may be made: whatever the table and the story are then, some new view of the
  -- pass keeps the rule, with a story that goes on from that one; it has seen what was found, what it placed was written, and it is what the step tells.
  abbrev pub Keeps : ℕ → View → Addr → (ℕ → ℕ) → (ℕ → View → Type 0) → Type 0
  Keeps id v a f told = (m : Mem) (vs : List View) (s : Story) → AllSay s m vs → slice_get vs id ≡ Some v → m a < 18446744073709551616
      → (w : View) × LawfulAfter s (put m a (f (m a))) (slice_set vs id w) × told (m a) w × Stepped a (m a) (f (m a)) v w
