-- The stages of the asking for a root: a record is made, references to the records of the named roots are taken, a number is drawn and placed.
use Rattle.std.specs.Prelude.{◌≡◌, ℕ, ◌+◌, ◌<◌, true, Option, Some, None, List, ◌∷◌, ◌++◌, map, length}
use Rattle.std.specs.Option.{option_to_list}
use Rattle.record_core.specs.Counting.{dropped}
use Rattle.task_syntax.specs.Form.{IsWellFormed}
use Rattle.task_syntax.specs.Valid.{IsValid}
use Rattle.task_syntax.specs.declared.program.Program.{Program}
use Rattle.task_syntax.specs.declared.value.Priority.{Priority}
use Rattle.task_syntax.specs.declared.program.Root.{Root as RootLine}
use Rattle.task_meaning.specs.Worths.{Accepted}
use Rattle.ready_queues.specs.declared.entry.Entry.{Entry}
use Rattle.frame_code.specs.Entries.{future_of, IsEntryOf}
use Rattle.frame_code.specs.Frames.{IsFrame}
use Rattle.frame_code.specs.Names.{present}
use Rattle.table_core.specs.Asking.{OfRoot}
use Rattle.table_core.specs.Holdings.{RootSays, Record}
use Rattle.table_core.specs.Holdings as says
use Rattle.table_core.specs.Lists.{Each}
use Rattle.table_core.specs.Pool.{superblock_of}
use Rattle.table_core.specs.RecordViews.{is_made_at, new_made}
use Rattle.table_core.specs.Views.{place, block}
use Rattle.table_core.specs.declared.setup.Setup.{Setup}
use Rattle.table_core.specs.declared.view.View.{View}
use Rattle.schedule_rule.specs.DrawViews.{drew_for_root}
use Rattle.memory_pool.specs.Answers.{Gives}
use Rattle.memory_pool.specs.Searches.{SeesMore}
use Rattle.step_table.specs.DrawSteps.{Asking}
use Rattle.step_table.specs.Passes.{block_of}
use Rattle.step_table.specs.PlacingSteps.{Placement, ForRoot, placing_of}
use Rattle.step_table.specs.RecordHands.{MadeAt}
use Rattle.step_table.specs.declared.record_tokens.Made.{Made}
use Rattle.step_table.specs.declared.tokens.Block.{Block}
use Rattle.schedule_core.specs.Begins.{HasBegun, SawLimit}
use Rattle.schedule_core.specs.Hosting.{IsNextRoot, IsBehindRoot, ArePassedAs, HaveRecords, Hosts, says_next}
use Rattle.schedule_core.specs.Making.{PlacesNumber, waits_behind}
use Rattle.schedule_core.specs.NamedRoots.{SawLast}
use Rattle.schedule_core.specs.Numbers.{Numbers}
use Rattle.schedule_core.specs.References.{Grows, HasEach}
use Rattle.schedule_core.specs.SeenTasks.{task_seen, unit_behind}
use Rattle.schedule_core.specs.NewTasks.{call_made, kind_class}
use Rattle.schedule_core.specs.declared.new_tasks.Given.TheVariants as wanted
use Rattle.schedule_core.specs.declared.answers.HostSpawned.{HostSpawned}
use Rattle.schedule_core.specs.declared.answers.HostSpawned.TheVariants as hosted
use Rattle.schedule_core.specs.declared.hosting.RootTask.{RootTask}
use Rattle.schedule_core.specs.declared.making.Behind.{Behind}

-- the total of drawn numbers is seen for the root
abbrev pub asking_root : ℕ → Asking
asking_root root = record { asker = Some (OfRoot root); move = None }

abbrev pub NumbersForRoot : Setup → Made → ℕ → Accepted → View → Option (Made × ℕ) → View → Type 0
NumbersForRoot g made root call old told new = Numbers g made (OfRoot root) (λ n. drew_for_root made.unit root call n old) old told new

-- the units of the records that are passed, and of that which the task is behind
abbrev pub units_of_task : RootTask → List ℕ
units_of_task x = present (map future_of x.passed.items) ++ option_to_list (unit_behind x.behind)

-- the task is what the line says, over the records of the roots, with its first frame
pub record IsRootTask (p : Program) (line : RootLine) (asked : List RootSays) (x : RootTask) : Type 0 where
  pub passes : ArePassedAs asked line.arguments x.passed.items
  pub behind : IsBehindRoot asked line.behind x.behind
  pub frame : IsFrame p x.first.items
  pub entry : IsEntryOf p line.kind x.passed.items x.first.items

-- how the record is placed: by its call over the tasks that were seen, with its first frame, for the root of the turn
abbrev pub root_placement : RootLine → RootTask → View → Placement
root_placement line x v = record { call = call_made (wanted.Call line.kind x.passed.items) x.behind v.sights; words = x.first.items; asked = ForRoot }

-- A record is made for the next root, with leave to draw a number, and the task of each record was seen that the task names.
pub record MayPlaceRoot (g : Setup) (root : ℕ) (line : RootLine) (made : Made) (x : RootTask) (placement : Placement) (v : View) : Type 0 where
  pub formed : IsWellFormed g.checked
  pub valid : IsValid g.checked
  pub kind_fits : line.kind < length g.checked.kinds
  pub asked : List RootSays
  pub next : IsNextRoot g root line asked v
  pub task : IsRootTask g.checked line asked x
  pub class_is : made.class ≡ kind_class g.checked line.kind
  pub at : MadeAt g.plan made.unit v (new_made (block made.unit made.class true))
  pub permission : v.may_draw ≡ 1
  pub has : HasEach g.plan (units_of_task x) v
  pub seen : Each (λ u. (t : ℕ) × (task_seen u v.sights ≡ Some t)) (units_of_task x)
  pub behind_seen : SawLast x.behind v
  pub placement_is : placement ≡ root_placement line x v

-- the number is placed with these words as its frame, and the record's reference is in the root's word
pub record NamesTask (g : Setup) (priority : Priority) (made : Made) (behind : Option Behind) (words : List ℕ) (call : Accepted) (old : View) (entry : Option Entry) (new : View) : Type 0 where
  pub number : ℕ
  pub placed : PlacesNumber g.plan.limit made.unit number priority behind entry old new
  pub facts : Grows old.facts new.facts
  pub view_is : new ≡ record (says_next (Record made.unit) old) {
    made = dropped (is_made_at made.unit) old.made;
    calls = (number, call) ∷ old.calls;
    may_draw = 0;
    placings = placing_of (waits_behind behind) made.unit number priority words ∷ old.placings;
    known = new.known;
    sights = new.sights;
    facts = new.facts;
    tries = new.tries;
    seen = new.seen;
  }

-- the limit is met, the block is given back, and the root's word says so
pub record NamesLimit (g : Setup) (made : Made) (old new : View) : Type 0 where
  pub saw : SawLimit g.plan.limit old new
  pub view_is : new ≡ record (says_next says.Limit old) {
    made = dropped (is_made_at made.unit) old.made;
    settles = place (superblock_of g.plan made.unit) made.class ∷ old.settles;
    cleared = old.cleared + 1;
    may_draw = 0;
    known = new.known;
    seen = new.seen;
  }

abbrev pub PlacesRoot : Setup → RootLine → Made → RootTask → Placement → View → HostSpawned → View → Type 0
PlacesRoot g line made x placement old (hosted.Named entry) new = NamesTask g line.priority made x.behind x.first.items placement.call old entry new
PlacesRoot g line made x placement old hosted.Over new = NamesLimit g made old new
PlacesRoot g line made x placement old hosted.Null new = ⊥
PlacesRoot g line made x placement old (hosted.Skipped j) new = ⊥

-- a record was just made for the next root, each root that its line names has a record
pub record MayMakeRoot (g : Setup) (root : ℕ) (line : RootLine) (made : Made) (v : View) : Type 0 where
  pub base : View
  pub asked : List RootSays
  pub next : IsNextRoot g root line asked base
  pub have : HaveRecords line asked
  pub begun : HasBegun g (kind_class g.checked line.kind) (asking_root root) base made v

abbrev pub MakesRoot : Setup → ℕ → RootLine → Made → View → HostSpawned → View → Type 0
MakesRoot g root line made v told after = (base : View) (asked : List RootSays) → IsNextRoot g root line asked base → HaveRecords line asked
    → HasBegun g (kind_class g.checked line.kind) (asking_root root) base made v → Hosts g root line asked base told after

-- a block was just allocated for it
pub record MayRootIn (g : Setup) (root : ℕ) (line : RootLine) (b : Block) (v : View) : Type 0 where
  pub base : View
  pub asked : List RootSays
  pub next : IsNextRoot g root line asked base
  pub have : HaveRecords line asked
  pub gives : Gives g.plan (kind_class g.checked line.kind) base (block_of b) v
  pub later : SeesMore base v

abbrev pub RootsIn : Setup → ℕ → RootLine → Block → View → HostSpawned → View → Type 0
RootsIn g root line b v told after = (base : View) (asked : List RootSays) → IsNextRoot g root line asked base → HaveRecords line asked
    → Gives g.plan (kind_class g.checked line.kind) base (block_of b) v → SeesMore base v → Hosts g root line asked base told after

-- each root that the next root's line names has a record
pub record MaySpawnRoot (g : Setup) (root : ℕ) (line : RootLine) (v : View) : Type 0 where
  pub asked : List RootSays
  pub next : IsNextRoot g root line asked v
  pub have : HaveRecords line asked

abbrev pub SpawnsRoot : Setup → ℕ → RootLine → View → HostSpawned → View → Type 0
SpawnsRoot g root line v told after = (asked : List RootSays) → IsNextRoot g root line asked v → HaveRecords line asked → Hosts g root line asked v told after
