-- What each step on wait lists tells, of its pass before it and after.
use Rattle.std.specs.Prelude.{◌≡◌, ◌≢◌, ℕ, ◌≤◌, List, ◌∷◌, length}
use Rattle.std.specs.declared.result.Result.{Result}
use Rattle.std.specs.declared.result.Result.TheVariants.{Ok, Err}
use Rattle.kt_words.specs.declared.plan.Plan.{Plan}
use Rattle.kt_words.specs.declared.head_word.HeadWord.{HeadWord}
use Rattle.kt_words.specs.HeadWords.{FitsHeadWord, closed_word, link_of, length_of, packed_head}
use Rattle.table_core.specs.Addresses.{state, head, next, units_of}
use Rattle.table_core.specs.Holdings.{Run}
use Rattle.table_core.specs.Sights.{IsLater}
use Rattle.table_core.specs.WaitLists.{link_to}
use Rattle.table_core.specs.Views.{saw}
use Rattle.table_core.specs.Story.{Fact}
use Rattle.table_core.specs.WaitViews.{linked, tried, joined_list, closed_list, unchained, finished}
use Rattle.schedule_rule.specs.LifeViews.{SawHeadOf, knowing, MayStart, ended}
use Rattle.step_table.specs.declared.pass.Pass.{Pass}
use Rattle.step_table.specs.declared.record_tokens.Finishing.{Finishing}
use Rattle.step_table.specs.declared.record_tokens.Started.{Started}
use Rattle.step_table.specs.declared.record_tokens.Linkable.{Linkable}
use Rattle.step_table.specs.declared.record_tokens.Chain.{Chain}
use Rattle.step_table.specs.Passes.{view}
use Rattle.step_table.specs.declared.ending.Ending.{Ending}
use Rattle.step_table.specs.Endings.{outcome_of}
use Rattle.step_table.specs.RecordHands.{RunAt}
use Rattle.step_table.specs.ListHands.{IsOpenHead, HasChain}

-- a head as it is found: an open list is no longer than the table has units
pub record IsFoundHead (g : Plan) (word : HeadWord) : Type 0 where
  pub fits : FitsHeadWord word
  pub few : IsOpenHead word → length_of (packed_head word) ≤ units_of g

-- the head was found, and is kept as a sight; where it is closed, each task that was seen at the record is known to be over
pub record SeesHead (g : Plan) (u : ℕ) (old : Pass) (word : HeadWord) (new : Pass) : Type 0 where
  pub is_head : IsFoundHead g word
  pub tells : SawHeadOf u (view old) (packed_head word) (view new)

-- the waiter is linked to the head
pub record Links (waiter : Linkable) (word : HeadWord) (old new : Pass) : Type 0 where
  pub found : ℕ
  pub view_is : view new ≡ saw (next waiter.unit) found (linked waiter.unit (packed_head word) (view old))

-- the head was as it was seen, and the waiter stands first in its list
abbrev pub Pushes : ℕ → Linkable → HeadWord → Pass → Pass → Type 0
Pushes u waiter seen old new = view new ≡ saw (head u) (packed_head seen) (joined_list waiter.unit (view old))

-- the head was a later one, which is kept as a sight as if it had been loaded, and the waiter comes back
pub record FindsLater (g : Plan) (u : ℕ) (waiter : Linkable) (seen : HeadWord) (old : Pass) (lost : Linkable × HeadWord) (new : Pass) : Type 0 where
  pub back : lost.0 ≡ waiter
  pub is_head : IsFoundHead g lost.1
  pub other : lost.1 ≢ seen
  pub later : IsLater (packed_head seen) (packed_head lost.1)
  pub tells : SawHeadOf u (tried (view old)) (packed_head lost.1) (view new)

abbrev pub Pushed : Plan → ℕ → Linkable → HeadWord → Pass → Result (Unit {0}) (Linkable × HeadWord) → Pass → Type 0
Pushed g u waiter seen old (Ok done) new = Pushes u waiter seen old new
Pushed g u waiter seen old (Err lost) new = FindsLater g u waiter seen old lost new

-- the head was open and is closed, and the members of its list are a chain in the hand
pub record TakesList (g : Plan) (finishing : Finishing) (old : Pass) (taken : Finishing × Chain) (new : Pass) : Type 0 where
  pub same : taken.0 ≡ finishing
  pub members : List ℕ
  pub word : ℕ
  pub unclosed : word ≢ closed_word
  pub link_is : link_of word ≡ link_to members
  pub length_is : length_of word ≡ length members
  pub has : HasChain g taken.1 (view new) members
  pub view_is : view new ≡ saw (head finishing.unit) word (closed_list finishing.unit members (view old))

-- the first of the chain is a waiter in the hand that may start, and the rest are a chain there
pub record Unchains (g : Plan) (members : List ℕ) (old : Pass) (left : Linkable × Chain) (new : Pass) : Type 0 where
  pub rest : List ℕ
  pub first_is : members ≡ left.0.unit ∷ rest
  pub has : HasChain g left.1 (view new) rest
  pub number : ℕ
  pub more : List Fact
  pub view_is : view new ≡ knowing more (saw (next left.0.unit) (link_to rest) (unchained left.0.unit number rest (view old)))
  pub may_start : MayStart (view new) number

-- whichever chain the value names, its first was taken
abbrev pub TakesFirst : Plan → Chain → Pass → Linkable × Chain → Pass → Type 0
TakesFirst g c old left new = (members : List ℕ) → HasChain g c (view old) members → Unchains g members old left new

-- the running record is done, and its task has ended so
pub record Finishes (g : Plan) (started : Started) (ending : Ending) (old : Pass) (done : Finishing) (new : Pass) : Type 0 where
  pub unit_is : done.unit ≡ started.unit
  pub run : Run
  pub was : RunAt g started.unit (view old) run
  pub found : ℕ
  pub view_is : view new ≡ saw (state started.unit) found (ended run.task (outcome_of ending) (finished started.unit run.class (view old)))
