-- What the steps of asking for roots need, and what they tell.
use Rattle.std.specs.Prelude.{◌≡◌, ℕ, ◌<◌, List, [], ◌∷◌, length, slice_get, Option}
use Rattle.record_core.specs.Counting.{At}
use Rattle.kt_words.specs.declared.plan.Plan.{Plan}
use Rattle.table_core.specs.Addresses as addresses
use Rattle.table_core.specs.Holdings.{RootSays}
use Rattle.table_core.specs.Holdings as says
use Rattle.table_core.specs.Naming.{MayName}
use Rattle.table_core.specs.Views.{saw}
use Rattle.table_core.specs.RecordViews.{put_root}
use Rattle.table_core.specs.declared.setup.Setup.{Setup}
use Rattle.table_core.specs.declared.view.View.{View}
use Rattle.schedule_rule.specs.NamingLaws.{MaySay}
use Rattle.step_table.specs.declared.pass.Pass.{Pass}
use Rattle.step_table.specs.declared.record_tokens.Future.{Future}
use Rattle.step_table.specs.declared.turn.NamedRoot.{NamedRoot}
use Rattle.step_table.specs.declared.turn.NamedRoot.TheVariants as named
use Rattle.step_table.specs.declared.roots.RootWord.{RootWord}
use Rattle.step_table.specs.declared.roots.RootWord.TheVariants as word
use Rattle.step_table.specs.Passes.{view}
use Rattle.step_table.specs.Turns.{says_of, said}
use Rattle.step_table.specs.RecordSteps.{Refers}

abbrev pub name_of : RootWord → NamedRoot
name_of (word.Record future) = named.Record future.unit
name_of word.Null = named.Null
name_of word.Limit = named.Limit
name_of (word.Skipped root) = named.Skipped root

-- how many references a word takes
abbrev pub taken_of : RootWord → ℕ
taken_of (word.Record future) = 1
taken_of word.Null = 0
taken_of word.Limit = 0
taken_of (word.Skipped root) = 0

-- the unit or the root has room in a root's word
abbrev pub FitsName : NamedRoot → Type 0
FitsName (named.Record unit) = unit < 524288
FitsName named.Null = Unit {0}
FitsName named.Limit = Unit {0}
FitsName (named.Skipped root) = root < 16

-- the pass has the turn, the root is the next one of the plan, and the pass has what its word needs
pub record MayAsk (g : Setup) (r : ℕ) (w : RootWord) (v : View) : Type 0 where
  pub asked : List RootSays
  pub has_turn : v.turn ≡ asked ∷ []
  pub is_next : r ≡ length asked
  pub inside : length asked < g.plan.roots
  pub may : MayName g asked v (says_of (name_of w))
  pub says : MaySay g asked v (says_of (name_of w))

-- the root is asked for
pub record Names (r : ℕ) (w : RootWord) (old new : Pass) : Type 0 where
  pub found : ℕ
  pub view_is : view new ≡ saw (addresses.root r) found (put_root (says_of (name_of w)) (view old))

-- a pass with the turn tells what is said of root r, where it was asked for
abbrev pub TellsRoot : ℕ → View → Option NamedRoot → Type 0
TellsRoot r v told = (asked : List RootSays) → v.turn ≡ asked ∷ [] → said told ≡ slice_get asked r

-- the pass has the turn, and root r has a record, one of the table's
pub record HasRootRecord (g : Plan) (r : ℕ) (v : View) : Type 0 where
  pub asked : List RootSays
  pub has_turn : v.turn ≡ asked ∷ []
  pub unit : ℕ
  pub there : At asked r (says.Record unit)
  pub near : unit < addresses.units_of g

-- one reference more to the record of root r
pub record RefersRoot (r : ℕ) (old : Pass) (future : Future) (new : Pass) : Type 0 where
  pub is_its : (asked : List RootSays) → (view old).turn ≡ asked ∷ [] → At asked r (says.Record future.unit)
  pub refers : Refers future.unit old future new
