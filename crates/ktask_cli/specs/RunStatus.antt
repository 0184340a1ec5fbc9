-- The exit status of a run, by how its roots ended.
use Rattle.std.specs.Prelude.{◌≡◌, ℕ, Bool, true, false, List, length, IsTrue, if◌then◌else◌}
use Rattle.std.specs.List.{list_any}
use Rattle.task_syntax.specs.Places.{Each}
use Rattle.task_syntax.specs.declared.value.Value.TheVariants.{Number, Trapped}
use Rattle.record_core.specs.EndSeen.{EndSeen}
use Rattle.record_core.specs.EndSound.{IsValueEnd}
use Rattle.record_core.specs.declared.rows.CutTag.TheVariants.{Null, Limit}
use Rattle.record_core.specs.declared.rows.RootEnd.{RootEnd}
use Rattle.record_core.specs.declared.rows.RootEnd.TheVariants.{Value, Cut}

abbrev pub is_null : RootEnd → Bool
is_null (Cut Null from) = true
is_null _ = false

abbrev pub is_limit : RootEnd → Bool
is_limit (Cut Limit from) = true
is_limit _ = false

abbrev pub is_trap : RootEnd → Bool
is_trap (Value (Trapped trap)) = true
is_trap _ = false

-- 3 where some root is null, else 4 where some is cut by the limit, else 1 where some is a trap, else 0
abbrev pub status_of_ends : List RootEnd → ℕ
status_of_ends ends = if list_any is_null ends then 3 else (if list_any is_limit ends then 4 else (if list_any is_trap ends then 1 else 0))

abbrev pub IsNumber : RootEnd → Type 0
IsNumber (Value (Number n)) = Unit {0}
IsNumber _ = ⊥

abbrev pub IsNotNull : RootEnd → Type 0
IsNotNull (Cut Null from) = ⊥
IsNotNull _ = Unit {0}

-- What a run's status says of its end: at 0 each root is a number; at 1 some root is a trap, and none is cut; at 3 some
-- root is null; at 4 some root is cut by the limit, which was met, and none is null. All but 8 is the status of the roots.
pub record IsStatusOf (limit : ℕ) (e : EndSeen) (status : ℕ) : Type 0 where
  pub zero : status ≡ 0 → Each e.roots IsNumber
  pub one : status ≡ 1 → IsTrue (list_any is_trap e.roots) × Each e.roots IsValueEnd
  pub three : status ≡ 3 → IsTrue (list_any is_null e.roots)
  pub four : status ≡ 4 → IsTrue (list_any is_limit e.roots) × Each e.roots IsNotNull × (length e.rows ≡ limit)
  pub by_roots : ¬ (status ≡ 8) → status ≡ status_of_ends e.roots
