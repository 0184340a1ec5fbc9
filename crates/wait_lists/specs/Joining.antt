-- What a try to join a list tells, and what a whole join leaves.
use Rattle.std.specs.Prelude.{◌≡◌, ◌≢◌, ℕ, ◌⊎◌, List, ◌++◌, Some}
use Rattle.std.specs.declared.result.Result.{Result}
use Rattle.std.specs.declared.result.Result.TheVariants.{Ok, Err}
use Rattle.record_core.specs.Counting.{Has, dropped}
use Rattle.kt_words.specs.declared.plan.Plan.{Plan}
use Rattle.kt_words.specs.declared.head_word.HeadWord.{HeadWord}
use Rattle.kt_words.specs.HeadWords.{closed_word, packed_head}
use Rattle.table_core.specs.Addresses.{Addr, head, next}
use Rattle.table_core.specs.Lists.{Each}
use Rattle.table_core.specs.Holdings.{Waiter, Sight, SawHead}
use Rattle.table_core.specs.Sights.{IsLater}
use Rattle.table_core.specs.Views.{saw}
use Rattle.table_core.specs.Story.{Fact}
use Rattle.table_core.specs.WaitViews.{is_waiter_at, link_in, linked, tried, joined_list}
use Rattle.table_core.specs.declared.view.View.{View}
use Rattle.step_table.specs.declared.pass.Pass.{Pass}
use Rattle.step_table.specs.declared.record_tokens.Linkable.{Linkable}
use Rattle.schedule_rule.specs.LifeViews.{KnowsBehind, SawHeadOf, SawOver}
use Rattle.step_table.specs.Passes.{view}
use Rattle.step_table.specs.Lookups.{waiter_in}
use Rattle.step_table.specs.RecordHands.{HasFuture, WaiterAt}
use Rattle.step_table.specs.ListHands.{MayLinkTo}
use Rattle.step_table.specs.ListSteps.{IsFoundHead}

-- the waiter at w may join the list of the record at u: its call is behind the task that was seen there
pub record MayJoin (g : Plan) (u w : ℕ) (v : View) : Type 0 where
  pub future : HasFuture g u v
  pub waiter : Waiter
  pub at : WaiterAt g w v waiter
  pub behind : KnowsBehind v u waiter.number

-- and its head was seen open last
pub record MayTry (g : Plan) (u w : ℕ) (word : HeadWord) (v : View) : Type 0 where
  pub may : MayJoin g u w v
  pub linkable : MayLinkTo word v
  pub seen : Has (SawHead u (packed_head word)) v.sights

-- the waiter's next word, which was `found`, links to the list of a head
abbrev pub relinked : ℕ → ℕ → ℕ → View → View
relinked w found word v = saw (next w) found (linked w word v)

-- the head was as it was seen, and the waiter stands first in its list
pub record TryWins (u w head_seen : ℕ) (old new : Pass) : Type 0 where
  pub found : ℕ
  pub view_is : view new ≡ saw (head u) head_seen (joined_list w (relinked w found head_seen (view old)))

-- the head was a later one, and the waiter comes back, linked to the one that was seen
pub record TryLoses (g : Plan) (u : ℕ) (waiter : Linkable) (seen : HeadWord) (old : Pass) (lost : Linkable × HeadWord) (new : Pass) : Type 0 where
  pub back : lost.0 ≡ waiter
  pub is_head : IsFoundHead g lost.1
  pub other : lost.1 ≢ seen
  pub later : IsLater (packed_head seen) (packed_head lost.1)
  pub found : ℕ
  pub tells : SawHeadOf u (tried (relinked waiter.unit found (packed_head seen) (view old))) (packed_head lost.1) (view new)

abbrev pub TriesOnce : Plan → ℕ → Linkable → HeadWord → Pass → Result (Unit {0}) (Linkable × HeadWord) → Pass → Type 0
TriesOnce g u waiter seen old (Ok done) new = TryWins u waiter.unit (packed_head seen) old new
TriesOnce g u waiter seen old (Err lost) new = TryLoses g u waiter seen old lost new

-- a step on the head of the record at u, or on the next word of the waiter at w
abbrev pub IsListStep : ℕ → ℕ → Addr × ℕ → Type 0
IsListStep u w step = (step.0 ≡ head u) ⊎ (step.0 ≡ next w)

-- the steps of a join are on that list alone, and what was seen of records before is kept
pub record OnList (u w : ℕ) (old new : View) (steps : List (Addr × ℕ)) : Type 0 where
  pub since : new.seen ≡ steps ++ old.seen
  pub only : Each (IsListStep u w) steps
  pub sights : (more : List Sight) × (new.sights ≡ more ++ old.sights)

-- the waiter has left the hand into the list, whose head was found, and never closed
pub record Waits (u w : ℕ) (old new : View) : Type 0 where
  pub steps : List (Addr × ℕ)
  pub on_list : OnList u w old new steps
  pub looked : (word : ℕ) × Has (head u, word) steps
  pub unclosed : ¬ Has (head u, closed_word) steps
  pub view_is : new ≡ record old { waiting = dropped (is_waiter_at w) old.waiting; sights = new.sights; seen = new.seen; tries = new.tries }

-- the waiters of the hand are as before, but for the one at w, which may be linked to some head
abbrev pub IsRelinked : ℕ → List Waiter → List Waiter → Type 0
IsRelinked w old new = (new ≡ old) ⊎ ((word : ℕ) × (new ≡ link_in w word old))

-- the record at w is one of these waiters, under this number
pub record StillWaits (w number : ℕ) (waiting : List Waiter) : Type 0 where
  pub waiter : Waiter
  pub there : waiter_in w waiting ≡ Some waiter
  pub number_is : waiter.number ≡ number

-- This call found the head closed, and the waiter is in the hand, under its number. Each task that was seen at the record is over.
pub record SawClosed (u w : ℕ) (old new : View) : Type 0 where
  pub steps : List (Addr × ℕ)
  pub on_list : OnList u w old new steps
  pub closed : Has (head u, closed_word) steps
  pub sighted : Has (SawHead u closed_word) new.sights
  pub waiting : IsRelinked w old.waiting new.waiting
  pub still : (x : Waiter) → waiter_in w old.waiting ≡ Some x → StillWaits w x.number new.waiting
  pub over : SawOver new u
  pub facts : (more : List Fact) × (new.facts ≡ more ++ old.facts)
  pub view_is : new ≡ record old { waiting = new.waiting; sights = new.sights; facts = new.facts; seen = new.seen; tries = new.tries }
