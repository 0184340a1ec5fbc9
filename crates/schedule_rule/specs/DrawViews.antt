-- What the steps do to a view that draw a number, that write its two rows, and that load a total.
use Rattle.std.specs.Prelude.{◌≡◌, ℕ, ◌+◌, ◌<◌, ◌≤◌, ◌==◌, ◌&&◌, true, cond, List, [], ◌∷◌, length, Bool, Option, Some, None, IfSome}
use Rattle.record_core.specs.Counting.{At, Has, dropped}
use Rattle.task_syntax.specs.Places.{Each as EachArgument}
use Rattle.task_syntax.specs.declared.program.Program.{Program}
use Rattle.task_syntax.specs.declared.program.Root.{Root as RootLine}
use Rattle.task_meaning.specs.Meant.{future_at}
use Rattle.task_meaning.specs.Roots.{root_call}
use Rattle.task_meaning.specs.RootLaws.{HasTask, NamesTasks, root_waits}
use Rattle.task_meaning.specs.Worths.{Accepted, OfCall, OfAll, Respawn}
use Rattle.frame_code.specs.Words.{BodyOf, OfKind, OfMembers}
use Rattle.table_core.specs.Addresses.{sum}
use Rattle.table_core.specs.Asking.{Asker, OfRoot, OfTask, Drawn, IsLimit}
use Rattle.table_core.specs.Holdings.{Made, Run, SawTask, RootSays, Record}
use Rattle.table_core.specs.Lists.{Each}
use Rattle.table_core.specs.RecordViews.{is_at, is_made_at}
use Rattle.table_core.specs.Story.{IsAccepted}
use Rattle.table_core.specs.Views.{saw}
use Rattle.table_core.specs.WaitViews.{is_run_at}
use Rattle.table_core.specs.declared.setup.Setup.{Setup}
use Rattle.table_core.specs.declared.view.View.{View}
use Rattle.schedule_rule.specs.Calls.{Suits}

-- the list with f of its first member that passes
abbrev pub changed : {A : Type 0} → (A → Bool) → (A → A) → List A → List A
changed p f [] = []
changed p f (x ∷ xs) = cond (p x) (f x ∷ xs) (x ∷ changed p f xs)

-- the number of drawn activations was seen below the limit, so one may be drawn
abbrev pub permitted : View → View
permitted v = record v { may_draw = 1 }

-- the asker, if one is named, is told that the limit is met
abbrev pub told_limit : Option Asker → View → View
told_limit None v = v
told_limit (Some asker) v = record v { answers = record { asker = asker; refusal = IsLimit } ∷ v.answers }

-- Nothing was seen to live. That counts where the pass knows that all roots were asked for: then nothing will live any more.
abbrev pub saw_live : ℕ → ℕ → View → View
saw_live roots found v = record v { quiet = cond ((found == 0) && (v.asked == roots)) 1 v.quiet }

-- a row of the number n is written
abbrev pub wrote_task : ℕ → View → View
wrote_task n v = record v { no_task = dropped (is_at n) v.no_task }

abbrev pub wrote_after : ℕ → View → View
wrote_after n v = record v { no_after = dropped (is_at n) v.no_after }

-- the made record at u has the number n
abbrev pub give_number : ℕ → Made → Made
give_number n r = record r { number = n }

abbrev pub with_number : ℕ → ℕ → List Made → List Made
with_number u n = changed (is_made_at u) (give_number n)

-- the run at u asked for one number more, for another record or for itself
abbrev pub ask : Run → Run
ask r = record r { unplaced = r.unplaced + 1 }

abbrev pub ask_again : Run → Run
ask_again r = record r { unplaced = r.unplaced + 1; asked = true }

abbrev pub asking : ℕ → List Run → List Run
asking u = changed (is_run_at u) ask

abbrev pub asking_again : ℕ → List Run → List Run
asking_again u = changed (is_run_at u) ask_again

-- A number is drawn for this call. The pass knows the call, and is to write both rows; it may not draw again.
abbrev pub drew : Drawn → Accepted → List Made → List Run → ℕ → View → View
drew d call made runs root_task v = record v {
  made = made;
  runs = runs;
  root_task = root_task;
  drawn = d ∷ v.drawn;
  no_task = d.number ∷ v.no_task;
  no_after = d.number ∷ v.no_after;
  calls = (d.number, call) ∷ v.calls;
  facts = IsAccepted d.number call ∷ v.facts;
  may_draw = 0;
}

abbrev pub drawn_for : ℕ → ℕ → Asker → Drawn
drawn_for n u asker = record { number = n; unit = u; asker = asker }

-- the number n, for the made record at u, by an act of the run at w, whose task is t
abbrev pub drew_for_run : ℕ → ℕ → ℕ → Accepted → ℕ → View → View
drew_for_run u w t call n v = drew (drawn_for n u (OfTask t)) call (with_number u n v.made) (asking w v.runs) v.root_task v

-- for the made record at u, by the root r of the turn
abbrev pub drew_for_root : ℕ → ℕ → Accepted → ℕ → View → View
drew_for_root u r call n v = drew (drawn_for n u (OfRoot r)) call (with_number u n v.made) v.runs n v

-- for the next activation of the run at w
abbrev pub drew_again : ℕ → ℕ → Accepted → ℕ → View → View
drew_again w t call n v = drew (drawn_for n w (OfTask t)) call v.made (asking_again w v.runs) v.root_task v

-- above the limit the draw tells that it is met
abbrev pub drew_none : Asker → View → View
drew_none asker v = record (told_limit (Some asker) v) { may_draw = 0 }

-- What a draw tells where it found so many numbers drawn: below the limit the new number is the next one.
abbrev pub Drew : ℕ → (ℕ → View) → View → ℕ → View → Type 0
Drew limit won lost found new = (found < limit → new ≡ saw (sum 0) found (won (found + 1))) × (limit ≤ found → new ≡ saw (sum 0) found lost)

-- What a load of the drawn numbers tells.
abbrev pub SawDrawn : ℕ → Option Asker → View → ℕ → View → Type 0
SawDrawn limit asker old found new = (found < limit → new ≡ saw (sum 0) found (permitted old)) × (limit ≤ found → new ≡ saw (sum 0) found (told_limit asker old))

-- What a pass knows of tasks: that a record to which it has had a reference since it saw the task is of this one.
abbrev pub KnowsTask : View → ℕ → Type 0
KnowsTask v t = (u : ℕ) × Has (SawTask u t) v.sights

-- All tasks that the call of a new task names are known. A further activation begins no task.
abbrev pub KnowsNamed : View → Accepted → Type 0
KnowsNamed v (OfCall call waits) = Each (λ o. IfSome o (KnowsTask v)) call.futures × IfSome waits (KnowsTask v)
KnowsNamed v (OfAll members) = (1 ≤ length members) × (length members ≤ 8) × Each (KnowsTask v) members
KnowsNamed v (Respawn task waits) = ⊥

-- the program may make the call of a new task, and all tasks that it names are known
abbrev pub KnowsCall : Program → View → Accepted → Type 0
KnowsCall p v call = Suits p call × KnowsNamed v call

-- What the next activation of a run with this frame is behind: a known task or none; of an aggregate it is the next member, whose
-- task was seen at the record that the frame names.
abbrev pub NextBehind : View → Option ℕ → BodyOf ℕ → Type 0
NextBehind v waits (OfKind q) = IfSome waits (KnowsTask v)
NextBehind v waits (OfMembers units next) = (u : ℕ) × (t : ℕ) × At units next u × Has (SawTask u t) v.sights × (waits ≡ Some t)

-- the tasks of earlier roots, each seen at the record that the root's word names
abbrev pub KnowsRoots : View → List RootSays → List (Option ℕ) → Type 0
KnowsRoots v asked known = (r t : ℕ) → future_at known r ≡ Some t → (u : ℕ) × At asked r (Record u) × Has (SawTask u t) v.sights

-- the call is that of the root's line, over the tasks of the roots that it names
pub record IsRootCall (v : View) (asked : List RootSays) (line : RootLine) (call : Accepted) : Type 0 where
  pub known : List (Option ℕ)
  pub knows : KnowsRoots v asked known
  pub arguments : EachArgument line.arguments (NamesTasks known)
  pub waits : IfSome line.behind (HasTask known)
  pub is : call ≡ OfCall (root_call known line) (root_waits known line.behind)

-- who may be answered that the limit is met: a run of the hand that has no number to place, or the next root of the turn
abbrev pub MayAsk : Setup → View → Option Asker → Type 0
MayAsk g v None = Unit {0}
MayAsk g v (Some (OfTask t)) = (r : Run) × Has r v.runs × (r.task ≡ t) × (r.unplaced ≡ 0)
MayAsk g v (Some (OfRoot r)) = (asked : List RootSays) × (v.turn ≡ asked ∷ []) × (length asked ≡ r) × (r < g.plan.roots) × (v.root_task ≡ 0)
