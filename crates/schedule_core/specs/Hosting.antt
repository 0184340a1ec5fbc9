-- What the asking for the next root needs and tells.
use Rattle.std.specs.Prelude.{◌≡◌, ℕ, ◌+◌, ◌<◌, Option, Some, None, List, [], ◌∷◌, length, slice_get}
use Rattle.record_core.specs.Counting.{At, Has}
use Rattle.record_core.specs.RootEnds.{roots_named}
use Rattle.task_syntax.specs.declared.program.Root.{Root as RootLine}
use Rattle.task_syntax.specs.declared.program.RootArgument.{RootArgument}
use Rattle.task_syntax.specs.declared.program.RootArgument.TheVariants as root_argument
use Rattle.task_meaning.specs.Meant.{future_at}
use Rattle.task_meaning.specs.RootLaws.{root_waits}
use Rattle.task_meaning.specs.Roots.{root_call}
use Rattle.task_meaning.specs.Worths.{OfCall}
use Rattle.ready_queues.specs.declared.entry.Entry.{Entry}
use Rattle.frame_code.specs.Entries.{IsEntryOf}
use Rattle.frame_code.specs.Frames.{IsFrame}
use Rattle.frame_code.specs.declared.entries.Passed.{Passed}
use Rattle.frame_code.specs.declared.entries.Passed.TheVariants as passed
use Rattle.kt_words.specs.declared.plan.Plan.{Plan}
use Rattle.table_core.specs.Addresses.{Addr, units_of, root as word_of_root, task}
use Rattle.table_core.specs.Holdings.{RootSays, Record}
use Rattle.table_core.specs.Holdings as says
use Rattle.table_core.specs.Lists.{Each}
use Rattle.table_core.specs.Pool.{superblock_of, IsBlock}
use Rattle.table_core.specs.RecordViews.{put_root}
use Rattle.table_core.specs.Roots.{FirstMissing, HasRecord}
use Rattle.table_core.specs.Views.{place, saw}
use Rattle.table_core.specs.declared.setup.Setup.{Setup}
use Rattle.table_core.specs.declared.view.View.{View}
use Rattle.memory_pool.specs.Searches.{SawNoneBelow}
use Rattle.step_table.specs.PlacingSteps.{placing_of}
use Rattle.schedule_core.specs.Begins.{SawLimit}
use Rattle.schedule_core.specs.Making.{PlacesNumber, waits_behind}
use Rattle.schedule_core.specs.References.{Grows}
use Rattle.schedule_core.specs.NewTasks.{kind_class}
use Rattle.schedule_core.specs.declared.answers.HostSpawned.{HostSpawned}
use Rattle.schedule_core.specs.declared.answers.HostSpawned.TheVariants as hosted
use Rattle.schedule_core.specs.declared.making.Behind.{Behind}

-- The pass has the turn with these roots asked for, and this is the line of the next one, for which no number is drawn yet. The records
-- of the roots are the table's.
pub record IsNextRoot (g : Setup) (root : ℕ) (line : RootLine) (asked : List RootSays) (v : View) : Type 0 where
  pub has_turn : v.turn ≡ asked ∷ []
  pub is_next : length asked ≡ root
  pub inside : root < g.plan.roots
  pub is_line : slice_get g.checked.roots root ≡ Some line
  pub undrawn : v.root_task ≡ 0
  pub near : (r u : ℕ) → At asked r (Record u) → u < units_of g.plan

abbrev pub MayHostSpawn : Setup → ℕ → View → Type 0
MayHostSpawn g root v = (line : RootLine) × (asked : List RootSays) × IsNextRoot g root line asked v

-- the next root is asked for, and this is said of it, by a pass that has no reference to give to the root's word
abbrev pub says_next : RootSays → View → View
says_next said v = record (put_root said v) { futures = v.futures; sights = v.sights }

-- each root that the line names has a record
abbrev pub HaveRecords : RootLine → List RootSays → Type 0
HaveRecords line asked = Each (HasRecord asked) (roots_named line)

-- the root has this task, which was read in one of these steps in the record that the root's word names
abbrev pub ReadsRoot : List RootSays → List (Option ℕ) → List (Addr × ℕ) → ℕ → Type 0
ReadsRoot asked known steps r = (u : ℕ) × (t : ℕ) × At asked r (Record u) × (future_at known r ≡ Some t) × Has (task u, t) steps

-- the predecessor is the record of the root that the line is behind, if it is behind one
abbrev pub IsBehindRoot : List RootSays → Option ℕ → Option Behind → Type 0
IsBehindRoot asked None None = Unit {0}
IsBehindRoot asked None (Some b) = ⊥
IsBehindRoot asked (Some r) None = ⊥
IsBehindRoot asked (Some r) (Some b) = At asked r (Record b.unit)

-- what a line says is passed: a number, or the record of a root
abbrev pub IsPassedAs : List RootSays → RootArgument → Passed → Type 0
IsPassedAs asked (root_argument.Number n) given = given ≡ passed.Number n
IsPassedAs asked (root_argument.Root r) given = (u : ℕ) × (given ≡ passed.Future u) × At asked r (Record u)

-- one after the other
pub record ArePassedAs (asked : List RootSays) (arguments : List RootArgument) (given : List Passed) : Type 0 where
  pub length_is : length given ≡ length arguments
  pub each : (k : ℕ) (a : RootArgument) (x : Passed) → At arguments k a → At given k x → IsPassedAs asked a x

-- The new task has the next number, and its call is that of the line, over the tasks of the roots that it names. Its record has a block
-- of the kind's class, its frame is the first one of its kind with what the line passes, and its reference is in the root's word.
pub record HasHosted (g : Setup) (line : RootLine) (asked : List RootSays) (old : View) (entry : Option Entry) (new : View) : Type 0 where
  pub unit : ℕ
  pub number : ℕ
  pub is_block : IsBlock g.plan unit (kind_class g.checked line.kind)
  pub known : List (Option ℕ)
  pub behind : Option Behind
  pub behind_is : IsBehindRoot asked line.behind behind
  pub placed : PlacesNumber g.plan.limit unit number line.priority behind entry old new
  pub reads : Each (ReadsRoot asked known placed.steps) (roots_named line)
  pub passed : List Passed
  pub passes : ArePassedAs asked line.arguments passed
  pub words : List ℕ
  pub is_frame : IsFrame g.checked words
  pub first : IsEntryOf g.checked line.kind passed words
  pub looks : Grows old.looks new.looks
  pub facts : Grows old.facts new.facts
  pub settles : Grows old.settles new.settles
  pub view_is : new ≡ record (says_next (Record unit) old) {
    calls = (number, OfCall (root_call known line) (root_waits known line.behind)) ∷ old.calls;
    wins = place (superblock_of g.plan unit) (kind_class g.checked line.kind) ∷ old.wins;
    settles = new.settles;
    may_draw = 0;
    placings = placing_of (waits_behind behind) unit number line.priority words ∷ old.placings;
    looks = new.looks;
    known = new.known;
    sights = new.sights;
    facts = new.facts;
    tries = new.tries;
    seen = new.seen;
  }

-- in this call each superblock was seen without room for a block of the class, and nothing else has changed
pub record RefusesRoot (g : Plan) (class : ℕ) (old new : View) : Type 0 where
  pub saw : SawNoneBelow g class g.geometry.superblocks old.looks new.looks
  pub seen : Grows old.seen new.seen
  pub view_is : new ≡ record (says_next says.Null old) { looks = new.looks; seen = new.seen }

-- The limit is met: a block of the class was won and given back.
pub record MeetsLimit (g : Plan) (class : ℕ) (old new : View) : Type 0 where
  pub saw : SawLimit g.limit old new
  pub looks : Grows old.looks new.looks
  pub facts : Grows old.facts new.facts
  pub superblock : ℕ
  pub settles : Grows (place superblock class ∷ old.settles) new.settles
  pub view_is : new ≡ record (says_next says.Limit old) {
    wins = place superblock class ∷ old.wins;
    settles = new.settles;
    cleared = old.cleared + 1;
    may_draw = new.may_draw;
    known = new.known;
    sights = new.sights;
    facts = new.facts;
    seen = new.seen;
    looks = new.looks;
  }

-- the root is skipped for root j, and its word alone has changed
pub record SkipsRoot (g : Setup) (asked : List RootSays) (root j : ℕ) (old new : View) : Type 0 where
  pub first : FirstMissing g.checked asked root j
  pub found : ℕ
  pub view_is : new ≡ saw (word_of_root root) found (says_next (says.Skipped j) old)

-- what comes of the root
abbrev pub Hosts : Setup → ℕ → RootLine → List RootSays → View → HostSpawned → View → Type 0
Hosts g root line asked old (hosted.Named entry) new = HasHosted g line asked old entry new
Hosts g root line asked old hosted.Null new = HaveRecords line asked × RefusesRoot g.plan (kind_class g.checked line.kind) old new
Hosts g root line asked old hosted.Over new = HaveRecords line asked × MeetsLimit g.plan (kind_class g.checked line.kind) old new
Hosts g root line asked old (hosted.Skipped j) new = SkipsRoot g asked root j old new

-- of each line and turn
abbrev pub HostSpawns : Setup → ℕ → View → HostSpawned → View → Type 0
HostSpawns g root old told new = (line : RootLine) (asked : List RootSays) → IsNextRoot g root line asked old → Hosts g root line asked old told new
