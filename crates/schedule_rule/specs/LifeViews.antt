-- What the steps on lists, on the count of living records and on frames do to a view beside what the table's own rule says of them.
use Rattle.std.specs.Prelude.{◌≡◌, ◌≢◌, ℕ, slice_index, ◌==◌, Bool, true, false, cond, List, [], ◌∷◌, ◌++◌, Some, IfSome}
use Rattle.record_core.specs.Counting.{Has}
use Rattle.kt_words.specs.HeadWords.{closed_word}
use Rattle.kt_words.specs.StateWords.{phase_of, number_of, tag_of, tag_code, IsStateWord}
use Rattle.task_syntax.specs.declared.value.Value.TheVariants.{Number, Trapped}
use Rattle.task_meaning.specs.Worths.{Accepted}
use Rattle.task_syntax.specs.declared.program.Program.{Program}
use Rattle.frame_code.specs.Control.{is_aggregate, control_kind}
use Rattle.frame_code.specs.Ways.{HasWay}
use Rattle.frame_code.specs.Words.{frame_at}
use Rattle.table_core.specs.Addresses.{state, head, next, outcome as result_word}
use Rattle.table_core.specs.Asking.{Asker, OfRoot, OfTask, Answer, Cut, Null, Limit, By, IsNull, IsLimit}
use Rattle.table_core.specs.Holdings.{Made, Run, Done, SawTask}
use Rattle.table_core.specs.Own.{known_in}
use Rattle.table_core.specs.RecordViews.{is_made_at, is_done_at}
use Rattle.table_core.specs.Story.{Outcome, Gave, WasCut, Fact, IsAccepted, IsOver}
use Rattle.table_core.specs.Views.{saw}
use Rattle.table_core.specs.WaitViews.{is_run_at, saw_head, tried, joined_list, unchained, finished}
use Rattle.table_core.specs.declared.view.View.{View}
use Rattle.schedule_rule.specs.Calls.{after_in}
use Rattle.schedule_rule.specs.DrawViews.{changed}
use Rattle.schedule_rule.specs.Frames.{IsFormed}
use Rattle.schedule_rule.specs.Results.{tag_for}

-- what else a pass knows now of the story
abbrev pub knowing : List Fact → View → View
knowing more v = record v { facts = more ++ v.facts }

-- the task is known to be over
abbrev pub KnowsOver : View → ℕ → Type 0
KnowsOver v t = (outcome : Outcome) × Has (IsOver t outcome) v.facts

-- The call of the number is known, and that it is behind no task, or that its predecessor is over: so it may start.
abbrev pub MayStart : View → ℕ → Type 0
MayStart v n = (call : Accepted) × Has (IsAccepted n call) v.facts × IfSome (after_in (Some call)) (KnowsOver v)

-- the call of the number is known to be behind the task that was seen at the record u
abbrev pub KnowsBehind : View → ℕ → ℕ → Type 0
KnowsBehind v u n = (call : Accepted) × (t : ℕ) × Has (IsAccepted n call) v.facts × Has (SawTask u t) v.sights × (after_in (Some call) ≡ Some t)

-- each task that was seen at the record u is known to be over
abbrev pub SawOver : View → ℕ → Type 0
SawOver v u = (t : ℕ) → Has (SawTask u t) v.sights → KnowsOver v t

-- The new view knows nothing more than the old one where the head that was found is open. Where it is closed, it knows that each
-- task that was seen at the record is over.
abbrev pub TellsClosed : ℕ → ℕ → View → View → Type 0
TellsClosed u found old new = (more : List Fact) × (new ≡ knowing more old) × (found ≢ closed_word → more ≡ []) × (found ≡ closed_word → SawOver new u)

-- what a load of the head of u tells
abbrev pub SawHeadOf : ℕ → View → ℕ → View → Type 0
SawHeadOf u old found new = TellsClosed u found (saw (head u) found (saw_head u found old)) new

-- what a try to push the waiter at w onto the list of u tells, over the head `expected`: the waiter stands in the list, or the head
-- was another one
abbrev pub TriedJoin : ℕ → ℕ → ℕ → View → ℕ → View → Type 0
TriedJoin u w expected old found new =
    (found ≡ expected → new ≡ saw (head u) found (joined_list w old)) × (¬ (found ≡ expected) → TellsClosed u found (saw (head u) found (saw_head u found (tried old))) new)

-- What the load of the next word of u tells, the first of a chain: u is a waiter in the hand, under its number, and may start.
abbrev pub Unchained : ℕ → View → ℕ → List ℕ → View → Type 0
Unchained u old found rest new = (number : ℕ) × (more : List Fact) × (new ≡ knowing more (saw (next u) found (unchained u number rest old))) × MayStart new number

-- a made record counts as living, a done one no more
abbrev pub count_in : Made → Made
count_in r = record r { live = true }

abbrev pub count_out : Done → Done
count_out d = record d { out = true }

-- the made record at u is counted in, the done one there out
abbrev pub counted_in : ℕ → View → View
counted_in u v = record v { made = changed (is_made_at u) count_in v.made }

abbrev pub counted_out : ℕ → View → View
counted_out u v = record v { done = changed (is_done_at u) count_out v.done }

-- the answers to others than the task t
abbrev pub is_to : ℕ → Asker → Bool
is_to t (OfTask task) = task == t
is_to t (OfRoot root) = false

abbrev pub answers_left : ℕ → List Answer → List Answer
answers_left t [] = []
answers_left t (a ∷ more) = cond (is_to t a.asker) (answers_left t more) (a ∷ answers_left t more)

-- the task t ended so: its end is known, and what was answered to it is of no use any more
abbrev pub ended : ℕ → Outcome → View → View
ended t outcome v = record v { answers = answers_left t v.answers; facts = IsOver t outcome ∷ v.facts }

-- The pass knows why it ends so. Of a number it has filled the result word. A task ends by the limit only where that was answered to it;
-- behind a predecessor that was cut it ends as that did. Which task was refused a block is not kept, so an end as null needs no answer.
abbrev pub KnowsEnd : View → Run → Outcome → Type 0
KnowsEnd v r (Gave (Number n)) = known_in (result_word r.unit) v.known ≡ Some n
KnowsEnd v r (Gave (Trapped trap)) = Unit {0}
KnowsEnd v r (WasCut Null refusal) = refusal ≡ IsNull
KnowsEnd v r (WasCut Limit refusal) = (refusal ≡ IsLimit) × Has (record { asker = OfTask r.task; refusal = IsLimit }) v.answers
KnowsEnd v r (WasCut (By t) refusal) = (call : Accepted) × (cut : Cut) × Has (IsAccepted r.number call) v.facts × (after_in (Some call) ≡ Some t) × Has (IsOver t (WasCut cut refusal)) v.facts

-- the word says that the run is done, with this outcome, and keeps its number
pub record IsFinishWord (v : View) (r : Run) (word : ℕ) (outcome : Outcome) : Type 0 where
  pub done : phase_of word ≡ 5
  pub number : number_of word ≡ r.number
  pub shape : IsStateWord word
  pub tag : tag_of word ≡ tag_code (tag_for outcome)
  pub knows : KnowsEnd v r outcome

-- what a finish tells: the record at u is done, its task t has ended so, and the class is that of each run there
abbrev pub FinishedTask : ℕ → ℕ → Outcome → View → View → Type 0
FinishedTask u t outcome old new = (n : ℕ) × (c : ℕ) × (new ≡ saw (state u) n (ended t outcome (finished u c old))) × ((x : Run) → Has x old.runs → x.unit ≡ u → x.class ≡ c)

-- the frame of the run at u has these words now
abbrev pub with_words : List ℕ → Run → Run
with_words words r = record r { words = words }

abbrev pub moved_on : ℕ → List ℕ → View → View
moved_on u words v = record v { runs = changed (is_run_at u) (with_words words) v.runs }

-- The words `next` begin with a frame of the same kind as that with the words `words`, neither is an aggregate's, and there is a way
-- to where the next one stands.
pub record IsMovedFrame (p : Program) (words next : List ℕ) : Type 0 where
  pub single : is_aggregate (slice_index words 0) ≡ false
  pub next_single : is_aggregate (slice_index next 0) ≡ false
  pub kind : control_kind (slice_index next 0) ≡ control_kind (slice_index words 0)
  pub way : HasWay p (frame_at p (slice_index next))
  pub formed : IsFormed p (slice_index next)
