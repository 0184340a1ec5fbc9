-- What the values of records name in a pass's hand, and which of their words may be written and read.
use Rattle.std.specs.Prelude.{◌≡◌, ℕ, ◌+◌, ◌*◌, ◌<◌, ◌≤◌, ◌⊎◌, true, false, Some}
use Rattle.record_core.specs.Counting.{times}
use Rattle.kt_words.specs.declared.plan.Plan.{Plan}
use Rattle.kt_words.specs.Capacity.{block_units}
use Rattle.table_core.specs.Addresses.{Addr, units_of, frame, next, task, outcome, refs, head}
use Rattle.table_core.specs.Pool.{IsBlock}
use Rattle.table_core.specs.Holdings.{Made, Waiter, Run, Done}
use Rattle.table_core.specs.RecordViews.{lessened}
use Rattle.table_core.specs.declared.setup.Setup.{Setup}
use Rattle.table_core.specs.declared.view.View.{View}
use Rattle.schedule_rule.specs.PlacingLaws.{StillCovers}
use Rattle.step_table.specs.declared.record_tokens.OwnWord.{OwnWord}
use Rattle.step_table.specs.declared.record_tokens.OwnWord.TheVariants as own_word
use Rattle.step_table.specs.Lookups.{made_in, waiter_in, run_in, done_in}

-- the record at the unit is made by the pass
pub record MadeAt (g : Plan) (u : ℕ) (v : View) (r : Made) : Type 0 where
  pub is_block : IsBlock g u r.class
  pub there : made_in u v.made ≡ Some r

-- It runs in the hand.
pub record RunAt (g : Plan) (u : ℕ) (v : View) (r : Run) : Type 0 where
  pub is_block : IsBlock g u r.class
  pub there : run_in u v.runs ≡ Some r

-- It waits there, and stands in no list.
pub record WaiterAt (g : Plan) (u : ℕ) (v : View) (w : Waiter) : Type 0 where
  pub near : u < units_of g
  pub there : waiter_in u v.waiting ≡ Some w

-- It is done, with the scheduler's own reference.
pub record DoneAt (g : Plan) (u : ℕ) (v : View) (d : Done) : Type 0 where
  pub near : u < units_of g
  pub there : done_in u v.done ≡ Some d

-- a made record in a block of this class may be a block again: it has no number, and does not count as living
pub record MayUnmake (g : Plan) (u class : ℕ) (v : View) : Type 0 where
  pub made : Made
  pub at : MadeAt g u v made
  pub class_is : made.class ≡ class
  pub no_number : made.number ≡ 0
  pub not_live : made.live ≡ false

-- the scheduler's reference to a done record may be given up: its list is closed, and it counts as living no more
pub record MayGiveUp (g : Plan) (u : ℕ) (v : View) : Type 0 where
  pub done : Done
  pub at : DoneAt g u v done
  pub closed : done.closed ≡ true
  pub out : done.out ≡ true

-- the pass has a reference to it
pub record HasFuture (g : Plan) (unit : ℕ) (v : View) : Type 0 where
  pub near : unit < units_of g
  pub there : 1 ≤ times unit v.futures

-- and may give it up: the references that are left are enough for its running frames, if they were before
pub record MayLessen (g : Setup) (u : ℕ) (v : View) : Type 0 where
  pub has : HasFuture g.plan u v
  pub spare : StillCovers g v (lessened u 0 v)

-- the pass gave up the last reference to it
pub record HasRetiring (g : Plan) (unit : ℕ) (v : View) : Type 0 where
  pub near : unit < units_of g
  pub there : 1 ≤ times unit v.retiring

-- the word of a record at this unit
abbrev pub word_of_record : OwnWord → ℕ → Addr
word_of_record (own_word.Frame j) u = frame u j
word_of_record own_word.Next u = next u
word_of_record own_word.Task u = task u
word_of_record own_word.Result u = outcome u
word_of_record own_word.References u = refs u
word_of_record own_word.Head u = head u

-- the table has the word
abbrev pub OwnAt : Plan → ℕ → OwnWord → Type 0
OwnAt g u (own_word.Frame j) = (u < units_of g) × (8 * u + j < 8 * units_of g)
OwnAt g u word = u < units_of g

-- what may be written of a record that is made: any word but the next one, of the frame inside its block
abbrev pub FillsMade : ℕ → OwnWord → Type 0
FillsMade class (own_word.Frame j) = j < 8 * block_units class
FillsMade class own_word.Next = ⊥
FillsMade class word = Unit {0}

-- and of one that runs: the frame and the result
abbrev pub FillsRun : ℕ → OwnWord → Type 0
FillsRun class (own_word.Frame j) = j < 8 * block_units class
FillsRun class own_word.Result = Unit {0}
FillsRun class word = ⊥

abbrev pub MayFill : Plan → ℕ → OwnWord → View → Type 0
MayFill g u word v = ((r : Made) × MadeAt g u v r × FillsMade r.class word) ⊎ ((r : Run) × RunAt g u v r × FillsRun r.class word)

-- What may be read: any word of a record of the pass, of the frame inside its block. Of a record that waits or is done the pass
-- does not know the class, so of its frame the words of its first unit alone.
abbrev pub ReadsWord : ℕ → OwnWord → Type 0
ReadsWord units (own_word.Frame j) = j < 8 * units
ReadsWord units word = Unit {0}

abbrev pub IsOwnRecord : Plan → ℕ → View → ℕ → Type 0
IsOwnRecord g u v units = ((r : Made) × MadeAt g u v r × (units ≡ block_units r.class))
    ⊎ (((r : Run) × RunAt g u v r × (units ≡ block_units r.class)) ⊎ (((w : Waiter) × WaiterAt g u v w × (units ≡ 1)) ⊎ ((d : Done) × DoneAt g u v d × (units ≡ 1))))

abbrev pub MayRead : Plan → ℕ → OwnWord → View → Type 0
MayRead g u word v = (units : ℕ) × IsOwnRecord g u v units × ReadsWord units word
