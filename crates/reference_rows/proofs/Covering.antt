-- A pass that runs nothing needs no reference.
use Rattle.std.proofs.Common.{◌≡◌, ℕ, ◌<◌, ◌≤◌, List, [], refl, sym, subst, arith}
use Rattle.record_core.specs.Counting.{times}
use Rattle.record_core.proofs.TotalFacts.{none_there}
use Rattle.table_core.specs.Addresses.{units_of}
use Rattle.table_core.specs.RecordViews.{lessened}
use Rattle.table_core.specs.declared.setup.Setup.{Setup}
use Rattle.table_core.specs.declared.view.View.{View}
use Rattle.schedule_rule.specs.PlacingLaws.{StillCovers}
use Rattle.step_table.specs.RecordHands.{MayLessen}

-- the references that are left are enough for no run
pub idle-covers : (g : Setup) (v w : View) → w.runs ≡ [] → StillCovers g v w
idle-covers g v w idle before = record { pairs = []; are_runs = sym idle; covers = λ k x there. absurd (none_there x there); enough = λ u. omega arith }

-- so each of them may be given up
pub may-lessen : (g : Setup) (u x : ℕ) (v : View) → x ≡ u → v.runs ≡ [] → u < units_of g.plan → 1 ≤ times u v.futures → MayLessen g x v
may-lessen g u x v its idle near some = subst (λ (y : ℕ). MayLessen g y v) (sym its) (record { has = record { near = near; there = some }; spare = idle-covers g v (lessened u 0 v) idle })
