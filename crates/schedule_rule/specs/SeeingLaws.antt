-- That the scheduler's rule is kept by the loads that tell of tasks and rows, and by the store that makes a waiter ready.
use Rattle.std.specs.Prelude.{◌≡◌, ℕ, ◌<◌, ◌≤◌, Some}
use Rattle.record_core.specs.Counting.{Has, times}
use Rattle.kt_words.specs.StateWords.{IsStateWord}
use Rattle.kt_words.specs.SuperWords.{class_of}
use Rattle.table_core.specs.Addresses.{Addr, super, state, task, outcome, journal, units_of}
use Rattle.table_core.specs.Holdings.{Block, Waiter, Run, SawDone}
use Rattle.table_core.specs.Own.{known_in}
use Rattle.table_core.specs.Pool.{superblock_of}
use Rattle.table_core.specs.Views.{saw}
use Rattle.table_core.specs.WaitViews.{readied}
use Rattle.table_core.specs.declared.setup.Setup.{Setup}
use Rattle.table_core.specs.declared.view.View.{View}
use Rattle.schedule_rule.specs.LifeViews.{MayStart}
use Rattle.schedule_rule.specs.SeeingViews.{SeesTask, SawStateOf, TellsResult, IsAfterRow, IsWaitingWord, ready_word}
use Rattle.schedule_rule.specs.Parts.{Keeps}

module _ (g : Setup) (id : ℕ) (v : View) where
  -- the task of a record to which the hand has a reference
  abbrev pub SeeTaskKeeps : Type 0
  SeeTaskKeeps = (u : ℕ) → 1 ≤ times u v.futures → Keeps g id v (task u) (λ n. n) (SeesTask g.plan.limit u v)

  -- the state of a record to which the hand has a reference: where it is done, it is known how the tasks that were seen there ended
  abbrev pub SeeOverKeeps : Type 0
  SeeOverKeeps = (u : ℕ) → 1 ≤ times u v.futures → Keeps g id v (state u) (λ n. n) (λ r w. SawStateOf u v r w × IsStateWord r)

  -- the result of a record that was seen done
  abbrev pub SeeResultKeeps : Type 0
  SeeResultKeeps = (u word : ℕ) → Has (SawDone u word) v.sights → Keeps g id v (outcome u) (λ n. n) (λ r w. TellsResult u word v r w)

  -- the state of a waiter of the hand
  abbrev pub SeeWaiterKeeps : Type 0
  SeeWaiterKeeps = (x : Waiter) → Has x v.waiting → Keeps g id v (state x.unit) (λ n. n) (λ r w. (w ≡ saw (state x.unit) r v) × IsWaitingWord x.number r)

  -- the two rows of the number of a run of the hand
  abbrev pub SeeTaskRowKeeps : Type 0
  SeeTaskRowKeeps = (r : Run) → Has r v.runs → Keeps g id v (journal r.number 0) (λ n. n) (λ k w. (w ≡ saw (journal r.number 0) k v) × (k ≡ r.task))

  abbrev pub SeeAfterRowKeeps : Type 0
  SeeAfterRowKeeps = (r : Run) → Has r v.runs → Keeps g id v (journal r.number 1) (λ n. n) (λ k w. (w ≡ saw (journal r.number 1) k v) × IsAfterRow g.plan.limit v r.number k)

  -- a known word is what is read, and nothing more is known
  abbrev pub ReadKnownKeeps : Type 0
  ReadKnownKeeps = (a : Addr) (n : ℕ) → known_in a v.known ≡ Some n → Keeps g id v a (λ k. k) (λ r w. (w ≡ saw a r v) × (r ≡ n))

  -- a load of a superblock's word, which tells the class of a block there
  abbrev pub ClassGlanceKeeps : Type 0
  ClassGlanceKeeps = (u : ℕ) → u < units_of g.plan → Keeps g id v (super (superblock_of g.plan u)) (λ n. n)
      (λ r w. (w ≡ saw (super (superblock_of g.plan u)) r v) × (class_of r ≤ 3) × ((x : Block) → Has x v.blocks → x.unit ≡ u → class_of r ≡ x.class))

  -- A waiter of the hand that may start is ready, by the word that was seen there while it waited, with the phase of what is ready.
  abbrev pub ReadyKeeps : Type 0
  ReadyKeeps = (x : Waiter) → Has x v.waiting → MayStart v x.number → (old : ℕ) → Has (state x.unit, old) v.seen → IsWaitingWord x.number old → 1 ≤ v.parts
      → Keeps g id v (state x.unit) (λ n. ready_word old) (λ k w. (n : ℕ) × (w ≡ saw (state x.unit) n (readied x.unit v)))

-- the loads that tell of tasks, those that tell what is known already, and the store of a ready word keep the scheduler's rule
abbrev pub TaskLoadsKeep : Type 0
TaskLoadsKeep = (g : Setup) (id : ℕ) (v : View) → SeeTaskKeeps g id v × SeeOverKeeps g id v × SeeResultKeeps g id v × SeeTaskRowKeeps g id v × SeeAfterRowKeeps g id v

abbrev pub KnownLoadsKeep : Type 0
KnownLoadsKeep = (g : Setup) (id : ℕ) (v : View) → ReadKnownKeeps g id v × ClassGlanceKeeps g id v

abbrev pub WaiterStepsKeep : Type 0
WaiterStepsKeep = (g : Setup) (id : ℕ) (v : View) → SeeWaiterKeeps g id v × ReadyKeeps g id v
