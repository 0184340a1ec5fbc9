-- What the word of living records counts, the classes of records, and when a pass may stop.
use Rattle.std.specs.Prelude.{◌≡◌, ◌≢◌, ℕ, ◌+◌, ◌<◌, ◌≤◌, List, length, true, cond, Option, Some, None}
use Rattle.record_core.specs.Sums.{total, below}
use Rattle.record_core.specs.Counting.{one_if}
use Rattle.record_core.specs.Numbers.{by_number}
use Rattle.kt_words.specs.declared.plan.Plan.{Plan}
use Rattle.kt_words.specs.Capacity.{class_for}
use Rattle.kt_words.specs.SuperWords.{class_of}
use Rattle.kt_words.specs.StateWords.{number_of}
use Rattle.task_syntax.specs.declared.program.Program.{Program}
use Rattle.task_meaning.specs.Frame.{variables_of}
use Rattle.task_meaning.specs.Worths.{Accepted, OfCall, OfAll, Respawn}
use Rattle.table_core.specs.Addresses.{units_of}
use Rattle.table_core.specs.Pool.{superblock_of}
use Rattle.table_core.specs.References.{is_live, is_record}
use Rattle.table_core.specs.Roots.{asked_in}
use Rattle.table_core.specs.Lists.{Each}
use Rattle.table_core.specs.Holdings.{Made, Done}
use Rattle.schedule_rule.specs.Calls.{task_of}

-- records of a pass that are made or done
pub record Lives : Type 0 where
  pub made : List Made
  pub done : List Done

-- how many of them count as living: those made that were counted in, and those done that were not counted out
abbrev pub lives_in : Lives → ℕ
lives_in h = total (λ r. one_if r.live) h.made + total (λ (d : Done). cond d.out 0 1) h.done

-- the word counts the records that wait, are ready or run, and those of hands that count as living
abbrev pub LiveSound : Plan → (ℕ → ℕ) → ℕ → List Lives → Type 0
LiveSound g states live vs = live ≡ below (λ u. one_if (is_live (states u))) (units_of g) + total lives_in vs

-- What is counted in has its number, so it can be placed; what is counted out has a closed list, so it can be given up.
pub record CountedSound (h : Lives) : Type 0 where
  pub made : Each (λ (r : Made). r.live ≡ true → r.number ≢ 0) h.made
  pub done : Each (λ (d : Done). d.out ≡ true → d.closed ≡ true) h.done

-- the class of the block that a call needs
abbrev pub class_in : Program → Option Accepted → ℕ
class_in p None = 0
class_in p (Some (OfCall call waits)) = class_for (1 + variables_of p call.kind)
class_in p (Some (OfAll members)) = class_for (1 + length members)
class_in p (Some (Respawn task waits)) = 0

-- the block of a record has the class that its task's call needs
pub record ClassesSound (p : Program) (g : Plan) (calls : List Accepted) (supers states : ℕ → ℕ) (vs : List (List Made)) : Type 0 where
  pub records : (u : ℕ) → u < units_of g → is_record (states u) ≡ true
      → class_of (supers (superblock_of g u)) ≡ class_in p (by_number calls (task_of calls (number_of (states u))))
  pub made : Each (Each (λ (r : Made). r.number ≢ 0 → r.class ≡ class_in p (by_number calls r.number))) vs

-- a pass that saw nothing living once all roots were asked for is right still
abbrev pub QuietSound : Plan → (ℕ → ℕ) → ℕ → List ℕ → Type 0
QuietSound g roots live = Each (λ quiet. 1 ≤ quiet → (live ≡ 0) × (asked_in roots ≡ g.roots))
