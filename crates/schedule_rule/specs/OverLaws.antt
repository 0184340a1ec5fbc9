-- What it comes to that a pass saw nothing living, what running frames hold, and where the limit is met.
use Rattle.std.specs.Prelude.{◌≡◌, ℕ, ◌<◌, ◌≤◌, List, [], Some, slice_index, true, false}
use Rattle.record_core.specs.Sums.{total}
use Rattle.record_core.specs.Counting.{At, Has, times}
use Rattle.task_syntax.specs.Valid.{Held}
use Rattle.task_syntax.specs.declared.program.State.{State}
use Rattle.task_syntax.specs.declared.program.Program.{Program}
use Rattle.task_meaning.specs.Frame.{state_at}
use Rattle.task_meaning.specs.Meant.{future_at}
use Rattle.frame_code.specs.Words.{BodyOf, OfKind, OfMembers, body_at}
use Rattle.table_core.specs.Addresses.{Mem, state, root, units_of}
use Rattle.table_core.specs.Asking.{Cut, IsLimit}
use Rattle.table_core.specs.Holdings.{Run, Limit}
use Rattle.table_core.specs.Lists.{Each}
use Rattle.table_core.specs.References.{is_live, is_record}
use Rattle.table_core.specs.Roots.{root_word}
use Rattle.table_core.specs.Story.{Story, WasCut}
use Rattle.table_core.specs.declared.setup.Setup.{Setup}
use Rattle.table_core.specs.declared.view.View.{View}
use Rattle.schedule_rule.specs.Calls.{IsNumber, IsTaskOf, IsComplete, Ended}
use Rattle.schedule_rule.specs.Limits.{IsMet}
use Rattle.schedule_rule.specs.Parts.{AllSay}

-- All is over: each accepted task has ended, and each number was taken; no record lives, and no number is drawn that is not placed.
pub record IsAllOver (g : Setup) (s : Story) (m : Mem) (vs : List View) : Type 0 where
  pub tasks : (t : ℕ) → IsTaskOf s.calls t → IsComplete s.ends t
  pub numbers : (n : ℕ) → IsNumber s.calls n → total (λ v. times n v.taken) vs ≡ 1
  pub records : (u : ℕ) → u < units_of g.plan → is_live (m (state u)) ≡ false
  pub runs : Each (λ v. v.runs ≡ []) vs
  pub drawn : Each (λ v. v.drawn ≡ []) vs

-- so it is where some pass saw that nothing lived once all roots were asked for
abbrev pub QuietIsOver : Type 0
QuietIsOver = (g : Setup) (s : Story) (m : Mem) (vs : List View) (id : ℕ) (v : View) → AllSay g s m vs → At vs id v → 1 ≤ v.quiet → IsAllOver g s m vs

-- the frame holds the unit where it stands, by a future variable; an aggregate's holds all its members
abbrev pub HoldsUnit : Program → BodyOf ℕ → ℕ → Type 0
HoldsUnit p (OfKind q) u = (x : ℕ) × (line : State) × (state_at p q.kind q.state ≡ Some line) × Held line q.at x × (future_at q.futures x ≡ Some u)
HoldsUnit p (OfMembers units next) u = Has u units

-- what a running frame holds is a record of the table
abbrev pub HeldAreRecords : Type 0
HeldAreRecords = (g : Setup) (s : Story) (m : Mem) (vs : List View) (id : ℕ) (v : View) (r : Run) (u : ℕ) → AllSay g s m vs → At vs id v → Has r v.runs → HoldsUnit g.checked (body_at g.checked (slice_index r.words)) u
    → (u < units_of g.plan) × (is_record (m (state u)) ≡ true)

-- where a task ended by the limit, its own or that of a predecessor, and where a root's word says so, the limit is met
abbrev pub LimitIsMet : Type 0
LimitIsMet = (g : Setup) (s : Story) (m : Mem) (vs : List View) → AllSay g s m vs → ((t : ℕ) (cut : Cut) → Ended s.ends t (WasCut cut IsLimit) → IsMet g.plan.limit s.calls) × ((r : ℕ) → r < 16 → m (root r) ≡ root_word Limit → IsMet g.plan.limit s.calls)
