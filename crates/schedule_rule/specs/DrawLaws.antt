-- That the scheduler's rule is kept by the loads of the totals, the draws of numbers, and the writes of a number's rows.
use Rattle.std.specs.Prelude.{◌≡◌, ℕ, ◌+◌, ◌%◌, ◌^◌, ◌<◌, ◌≤◌, Option, Some, List, [], ◌∷◌, length, false, slice_get, slice_index}
use Rattle.record_core.specs.Counting.{Has}
use Rattle.frame_code.specs.Control.{is_aggregate}
use Rattle.frame_code.specs.Words.{body_at}
use Rattle.task_syntax.specs.Form.{IsWellFormed}
use Rattle.task_syntax.specs.Valid.{IsValid}
use Rattle.task_syntax.specs.declared.program.Root.{Root as RootLine}
use Rattle.task_meaning.specs.Worths.{Accepted, Respawn}
use Rattle.table_core.specs.Addresses.{journal, sum}
use Rattle.table_core.specs.Asking.{Asker, OfRoot, OfTask}
use Rattle.table_core.specs.Holdings.{Made, Run, RootSays}
use Rattle.table_core.specs.Story.{IsAccepted}
use Rattle.table_core.specs.Views.{saw}
use Rattle.table_core.specs.declared.setup.Setup.{Setup}
use Rattle.table_core.specs.declared.view.View.{View}
use Rattle.schedule_rule.specs.Calls.{task_in, after_in}
use Rattle.schedule_rule.specs.Counts.{class_in}
use Rattle.schedule_rule.specs.DrawViews.{saw_live, wrote_task, wrote_after, drew_for_run, drew_for_root, drew_again, drew_none, Drew, SawDrawn, MayAsk, KnowsCall, NextBehind, IsRootCall}
use Rattle.schedule_rule.specs.Rows.{word_of_task}
use Rattle.schedule_rule.specs.Parts.{Keeps}

module _ (g : Setup) (id : ℕ) (v : View) where
  -- the loads of the totals
  abbrev pub SeeDrawnKeeps : Type 0
  SeeDrawnKeeps = (asker : Option Asker) → MayAsk g v asker → 1 ≤ v.parts → Keeps g id v (sum 0) (λ n. n) (SawDrawn g.plan.limit asker v)

  abbrev pub SeeLiveKeeps : Type 0
  SeeLiveKeeps = Keeps g id v (sum 1) (λ n. n) (λ r w. w ≡ saw (sum 1) r (saw_live g.plan.roots r v))

  -- a number for the next activation of a run that has not asked for one, and has none to place
  abbrev pub DrawAgainKeeps : Type 0
  DrawAgainKeeps = (r : Run) → Has r v.runs → r.asked ≡ false → r.unplaced ≡ 0 → (waits : Option ℕ) → NextBehind v waits (body_at g.checked (slice_index r.words)) → v.may_draw ≡ 1 → 1 ≤ v.parts
      → Keeps g id v (sum 0) (λ n. (n + 1) % 2 ^ 64) (Drew g.plan.limit (λ n. drew_again r.unit r.task (Respawn r.task waits) n v) (drew_none (OfTask r.task) v))

  -- a number for a new task, whose record y is made in a block of its class: by a run of a task that is no aggregate and has no
  -- number to place, or by the next root
  abbrev pub DrawForRunKeeps : Type 0
  DrawForRunKeeps = (a : Accepted) → KnowsCall g.checked v a → (y : Made) → Has y v.made → y.number ≡ 0 → y.class ≡ class_in g.checked (Some a) → (r : Run) → Has r v.runs
      → is_aggregate (slice_index r.words 0) ≡ false → r.unplaced ≡ 0 → v.may_draw ≡ 1 → 1 ≤ v.parts
      → Keeps g id v (sum 0) (λ n. (n + 1) % 2 ^ 64) (Drew g.plan.limit (λ n. drew_for_run y.unit r.unit r.task a n v) (drew_none (OfTask r.task) v))

  abbrev pub DrawForRootKeeps : Type 0
  DrawForRootKeeps = IsWellFormed g.checked → IsValid g.checked → (asked : List RootSays) → v.turn ≡ asked ∷ [] → length asked < g.plan.roots → v.root_task ≡ 0 → (line : RootLine) → slice_get g.checked.roots (length asked) ≡ Some line
      → (a : Accepted) → IsRootCall v asked line a → (y : Made) → Has y v.made → y.number ≡ 0 → y.class ≡ class_in g.checked (Some a) → v.may_draw ≡ 1 → 1 ≤ v.parts
      → Keeps g id v (sum 0) (λ n. (n + 1) % 2 ^ 64) (Drew g.plan.limit (λ n. drew_for_root y.unit (length asked) a n v) (drew_none (OfRoot (length asked)) v))

  -- the rows of a number whose call is known
  abbrev pub WriteTaskKeeps : Type 0
  WriteTaskKeeps = (n : ℕ) (call : Accepted) → Has (IsAccepted n call) v.facts → Has n v.no_task → 1 ≤ v.parts
      → Keeps g id v (journal n 0) (λ k. task_in (Some call) n) (λ k w. (found : ℕ) × (w ≡ saw (journal n 0) found (wrote_task n v)))

  abbrev pub WriteAfterKeeps : Type 0
  WriteAfterKeeps = (n : ℕ) (call : Accepted) → Has (IsAccepted n call) v.facts → Has n v.no_after → 1 ≤ v.parts
      → Keeps g id v (journal n 1) (λ k. word_of_task (after_in (Some call))) (λ k w. (found : ℕ) × (w ≡ saw (journal n 1) found (wrote_after n v)))

-- the loads of the totals, the draws and the rows keep the scheduler's rule
abbrev pub TotalLoadsKeep : Type 0
TotalLoadsKeep = (g : Setup) (id : ℕ) (v : View) → SeeDrawnKeeps g id v × SeeLiveKeeps g id v

abbrev pub DrawsKeep : Type 0
DrawsKeep = (g : Setup) (id : ℕ) (v : View) → DrawAgainKeeps g id v × DrawForRunKeeps g id v × DrawForRootKeeps g id v

abbrev pub RowWritesKeep : Type 0
RowWritesKeep = (g : Setup) (id : ℕ) (v : View) → WriteTaskKeeps g id v × WriteAfterKeeps g id v
