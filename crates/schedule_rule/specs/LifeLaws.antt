-- That the scheduler's rule is kept by the steps on lists, the counts of living records, finishes and the moves of frames.
use Rattle.std.specs.Prelude.{◌≡◌, ◌≢◌, ℕ, ◌+◌, ◌-◌, ◌%◌, ◌^◌, ◌<◌, ◌≤◌, ◌==◌, false, Some, List, ◌∷◌, length, slice_set, true}
use prog.Atomic.{either}
use Rattle.record_core.specs.Counting.{At, Has, times}
use Rattle.kt_words.specs.HeadWords.{closed_word, head_word, link_of, length_of, IsHeadWord}
use Rattle.table_core.specs.Addresses.{Mem, state, head, next, sum, units_of}
use Rattle.table_core.specs.Holdings.{Made, Waiter, Run, Done, SawHead}
use Rattle.table_core.specs.Lists.{Each}
use Rattle.table_core.specs.Sights.{IsLater}
use Rattle.table_core.specs.Story.{Story, Outcome}
use Rattle.table_core.specs.Views.{saw}
use Rattle.table_core.specs.WaitLists.{link_to}
use Rattle.table_core.specs.WaitViews.{linked, closed_list}
use Rattle.table_core.specs.declared.setup.Setup.{Setup}
use Rattle.table_core.specs.declared.view.View.{View}
use Rattle.schedule_rule.specs.LifeViews.{KnowsBehind, SawHeadOf, TriedJoin, Unchained, counted_in, counted_out, IsFinishWord, FinishedTask, moved_on, IsMovedFrame}
use Rattle.schedule_rule.specs.Parts.{AllSay, Keeps}
use Rattle.schedule_rule.specs.PlacingLaws.{StillCovers}

-- the head of a list that is taken whole was open, and says where it begins and how long it is
pub record IsWhole (g : Setup) (found : ℕ) (members : List ℕ) : Type 0 where
  pub is_head : IsHeadWord found
  pub unclosed : found ≢ closed_word
  pub link_is : link_of found ≡ link_to members
  pub length_is : length_of found ≡ length members
  pub near : Each (λ u. u < units_of g.plan) members

-- the next word of u links to the rest of its chain, and no other of these chains begins with u
pub record IsRestOf (chains : List (List ℕ)) (u found : ℕ) (rest : List ℕ) : Type 0 where
  pub there : Has (u ∷ rest) chains
  pub link_is : found ≡ link_to rest
  pub only : (other : List ℕ) → Has (u ∷ other) chains → other ≡ rest

module _ (g : Setup) (id : ℕ) (v : View) where
  -- the head of a record to which the hand has a reference
  abbrev pub SeeHeadKeeps : Type 0
  SeeHeadKeeps = (u : ℕ) → 1 ≤ times u v.futures → Keeps g id v (head u) (λ n. n) (λ r w. SawHeadOf u v r w × IsHeadWord r × (r ≢ closed_word → length_of r ≤ units_of g.plan))

  -- a waiter is linked to the list of a head
  abbrev pub LinkKeeps : Type 0
  LinkKeeps = (x : Waiter) → Has x v.waiting → 1 ≤ v.parts → (seen_head : ℕ) → Keeps g id v (next x.unit) (λ n. link_of seen_head) (λ r w. (n : ℕ) × (w ≡ saw (next x.unit) n (linked x.unit seen_head v)))

  -- a waiter is pushed over the head to which it is linked, onto the list of the task that its call is behind
  abbrev pub JoinKeeps : Type 0
  JoinKeeps = (u : ℕ) → 1 ≤ times u v.futures → (x : Waiter) → Has x v.waiting → KnowsBehind v u x.number → 1 ≤ v.parts → (old new : ℕ) → x.linked ≡ Some old → old ≢ closed_word → Has (SawHead u old) v.sights
      → new ≡ head_word (x.unit + 1) (length_of old + 1)
      → Keeps g id v (head u) (λ n. either (n == old) new n) (λ r w. TriedJoin u x.unit old v r w × IsHeadWord r × IsLater old r × (r ≢ closed_word → length_of r ≤ units_of g.plan))

  -- the list of a done record is closed
  abbrev pub CloseKeeps : Type 0
  CloseKeeps = (d : Done) → Has d v.done → d.closed ≡ false → 1 ≤ v.parts
      → Keeps g id v (head d.unit) (λ n. closed_word) (λ r w. (members : List ℕ) × (w ≡ saw (head d.unit) r (closed_list d.unit members v)) × IsWhole g r members)

  -- the first of a chain becomes a waiter in the hand that may start
  abbrev pub UnchainKeeps : Type 0
  UnchainKeeps = (u : ℕ) (members : List ℕ) → Has (u ∷ members) v.chains → 1 ≤ v.parts → Keeps g id v (next u) (λ n. n) (λ r w. (rest : List ℕ) × Unchained u v r rest w × IsRestOf v.chains u r rest)

  -- a made record that has its number is counted in, a done one out
  abbrev pub CountInKeeps : Type 0
  CountInKeeps = (r : Made) → Has r v.made → r.live ≡ false → r.number ≢ 0 → 1 ≤ v.parts → Keeps g id v (sum 1) (λ n. (n + 1) % 2 ^ 64) (λ k w. w ≡ saw (sum 1) k (counted_in r.unit v))

  abbrev pub CountOutKeeps : Type 0
  CountOutKeeps = (d : Done) → Has d v.done → d.out ≡ false → d.closed ≡ true → 1 ≤ v.parts → Keeps g id v (sum 1) (λ n. (n + (2 ^ 64 - 1)) % 2 ^ 64) (λ k w. w ≡ saw (sum 1) k (counted_out d.unit v))

  -- a spill is told
  abbrev pub SpillKeeps : Type 0
  SpillKeeps = Keeps g id v (sum 4) (λ n. 1) (λ k w. (n : ℕ) × (w ≡ saw (sum 4) n v))

  -- a running record by whose acts nothing is unplaced is done, and its task has ended as the word says
  abbrev pub FinishKeeps : Type 0
  FinishKeeps = (r : Run) → Has r v.runs → r.unplaced ≡ 0 → 1 ≤ v.parts → (word : ℕ) (outcome : Outcome) → IsFinishWord v r word outcome
      → Keeps g id v (state r.unit) (λ n. word) (λ k w. FinishedTask r.unit r.task outcome v w)

  -- the frame of a running record moves on where the references are enough still, provided they were enough before; no step is made
  abbrev pub MoveStays : Type 0
  MoveStays = (r : Run) → Has r v.runs → r.unplaced ≡ 0 → (words : List ℕ) → IsMovedFrame g.checked r.words words → StillCovers g v (moved_on r.unit words v) → 1 ≤ v.parts
      → (m : Mem) (vs : List View) (s : Story) → AllSay g s m vs → At vs id v → AllSay g s m (slice_set vs id (moved_on r.unit words v))

-- the steps on lists, on the living, and of finishing keep the scheduler's rule, and so do the moves of frames
abbrev pub ListStepsKeep : Type 0
ListStepsKeep = (g : Setup) (id : ℕ) (v : View) → SeeHeadKeeps g id v × LinkKeeps g id v × JoinKeeps g id v × CloseKeeps g id v × UnchainKeeps g id v

abbrev pub LivingStepsKeep : Type 0
LivingStepsKeep = (g : Setup) (id : ℕ) (v : View) → CountInKeeps g id v × CountOutKeeps g id v × SpillKeeps g id v

abbrev pub RunStepsKeep : Type 0
RunStepsKeep = (g : Setup) (id : ℕ) (v : View) → FinishKeeps g id v × MoveStays g id v
