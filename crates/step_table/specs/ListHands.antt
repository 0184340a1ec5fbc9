-- What the values of wait lists name in a pass's hand, and what it saw of a head.
use Rattle.std.specs.Prelude.{◌≡◌, ◌≢◌, ℕ, ◌<◌, List, [], ◌∷◌, false, length, Option, Some, None}
use Rattle.record_core.specs.Counting.{Has}
use Rattle.kt_words.specs.declared.plan.Plan.{Plan}
use Rattle.kt_words.specs.declared.head_word.HeadWord.{HeadWord}
use Rattle.kt_words.specs.HeadWords.{FitsHeadWord, closed_word, link_code, packed_head}
use Rattle.table_core.specs.Addresses.{units_of}
use Rattle.table_core.specs.Lists.{Each}
use Rattle.table_core.specs.Holdings.{Waiter, Run, Done, Sight, SawHead, SawTask, SawDone}
use Rattle.table_core.specs.WaitLists.{link_to}
use Rattle.table_core.specs.declared.view.View.{View}
use Rattle.schedule_rule.specs.LifeViews.{KnowsBehind, KnowsEnd}
use Rattle.step_table.specs.declared.record_tokens.Started.{Started}
use Rattle.step_table.specs.declared.record_tokens.Chain.{Chain}
use Rattle.step_table.specs.declared.ending.Ending.{Ending}
use Rattle.step_table.specs.Endings.{outcome_of}
use Rattle.step_table.specs.RecordHands.{HasFuture, WaiterAt, RunAt, DoneAt}

abbrev pub IsOpenHead : HeadWord → Type 0
IsOpenHead word = packed_head word ≢ closed_word

-- of all heads that the pass saw, the last one, and whose it was
abbrev pub last_head : List Sight → Option (ℕ × ℕ)
last_head [] = None
last_head (SawHead unit head ∷ more) = Some (unit, head)
last_head (SawTask unit task ∷ more) = last_head more
last_head (SawDone unit word ∷ more) = last_head more

-- the last head that the pass saw is this one, of some record
abbrev pub IsLastHead : ℕ → View → Type 0
IsLastHead word v = (unit : ℕ) × (last_head v.sights ≡ Some (unit, word))

-- a head to which a waiter may be linked: an open one, the last that the pass saw
abbrev pub MayLinkTo : HeadWord → View → Type 0
MayLinkTo word v = FitsHeadWord word × IsOpenHead word × IsLastHead (packed_head word) v

-- the record at the unit waits in the hand
abbrev pub IsWaiter : Plan → ℕ → View → Type 0
IsWaiter g unit v = (w : Waiter) × WaiterAt g unit v w

-- it is done in the hand, and its list is still to be closed
abbrev pub IsUnclosed : Plan → ℕ → View → Type 0
IsUnclosed g unit v = (d : Done) × DoneAt g unit v d × (d.closed ≡ false)

-- The waiter at the unit w was linked to this head of the record at u, an open one. Its call is behind the task that was seen there.
pub record MayPush (g : Plan) (u w : ℕ) (word : HeadWord) (v : View) : Type 0 where
  pub future : HasFuture g u v
  pub waiter : Waiter
  pub at : WaiterAt g w v waiter
  pub linked_to : waiter.linked ≡ Some (packed_head word)
  pub fits : FitsHeadWord word
  pub opened : IsOpenHead word
  pub seen : Has (SawHead u (packed_head word)) v.sights
  pub behind : KnowsBehind v u waiter.number

-- The run in the hand has this number, and none that it asked for is unplaced. The pass knows why the task ends so.
pub record MayFinish (g : Plan) (started : Started) (ending : Ending) (v : View) : Type 0 where
  pub run : Run
  pub at : RunAt g started.unit v run
  pub number_is : run.number ≡ started.number
  pub placed : run.unplaced ≡ 0
  pub knows : KnowsEnd v run (outcome_of ending)

-- a chain with members is in the hand; one without is nothing there
abbrev pub StandsChain : List ℕ → View → Type 0
StandsChain [] v = Unit {0}
StandsChain (u ∷ us) v = Has (u ∷ us) v.chains

-- the value names the chain of these members
pub record HasChain (g : Plan) (c : Chain) (v : View) (members : List ℕ) : Type 0 where
  pub there : StandsChain members v
  pub first_is : link_code c.first ≡ link_to members
  pub length_is : c.length ≡ length members
  pub near : Each (λ u. u < units_of g) members

abbrev pub IsChain : Plan → Chain → View → Type 0
IsChain g c v = (members : List ℕ) × HasChain g c v members
