-- That the scheduler's rule is kept by a take.
use Rattle.std.specs.Prelude.{ℕ, ◌<◌, ◌≤◌, ◌==◌}
use prog.Atomic.{either}
use Rattle.table_core.specs.Addresses.{state, units_of}
use Rattle.table_core.specs.declared.setup.Setup.{Setup}
use Rattle.table_core.specs.declared.view.View.{View}
use Rattle.schedule_rule.specs.TakingViews.{IsTaking, Takes}
use Rattle.schedule_rule.specs.Parts.{Keeps}

-- the state word of any unit is exchanged from one that says ready to one that says running
abbrev pub TakesKeep : Type 0
TakesKeep = (g : Setup) (id : ℕ) (v : View) (u : ℕ) → u < units_of g.plan → 1 ≤ v.parts → (ready running : ℕ) → IsTaking ready running
    → Keeps g id v (state u) (λ n. either (n == ready) running n) (Takes g u ready v)
