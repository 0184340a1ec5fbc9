-- What the status of a run says of how its roots ended.
use Rattle.std.proofs.Common.{◌≡◌, ℕ, zero, suc, Bool, true, false, ◌||◌, List, [], ◌∷◌, length, Some, slice_get, refl, sym, ◌∙◌, ap, if◌then◌else◌}
use Rattle.std.specs.List.{list_any}
use Rattle.task_syntax.specs.Form.{IsWellFormed}
use Rattle.task_syntax.specs.Places.{Each}
use Rattle.task_syntax.specs.declared.columns.Columns.{Columns}
use Rattle.task_syntax.specs.declared.program.Program.{Program as ProgramOf}
use Rattle.task_syntax.specs.declared.value.Value.TheVariants.{Number, Trapped}
use Rattle.record_core.specs.EndSeen.{EndSeen, RunPlan}
use Rattle.record_core.specs.EndSound.{EndSound, IsValueEnd}
use Rattle.record_core.specs.declared.rows.CutFrom.{CutFrom}
use Rattle.record_core.specs.declared.rows.RootEnd.{RootEnd}
use Rattle.record_core.specs.declared.rows.RootEnd.TheVariants.{Value, Cut}
use Rattle.record_core.specs.declared.rows.CutTag.TheVariants.{Null, Limit}
use Rattle.record_core.proofs.EndFacts.{limit_met}
use Rattle.ktask_cli.specs.RunStatus.{status_of_ends, is_null, is_limit, is_trap, IsNumber, IsNotNull}

-- a list has a member that passes
any-some : {X : Type 0} (p : X → Bool) (xs : List X) → list_any p xs ≡ true → (at : ℕ) × (x : X) × (slice_get xs at ≡ Some x) × (p x ≡ true)
any-some p [] h = cc
any-some {X = X} p (y ∷ ys) h = by (p y) refl h (any-some p ys) where
  by : (b : Bool) → p y ≡ b → (b || list_any p ys) ≡ true → (list_any p ys ≡ true → (at : ℕ) × (x : X) × (slice_get ys at ≡ Some x) × (p x ≡ true))
      → (at : ℕ) × (x : X) × (slice_get (y ∷ ys) at ≡ Some x) × (p x ≡ true)
  by true e h more = (0, y, refl, e)
  by false e h more = let r = more h in (suc r.0, r.1, r.2, r.3)

or_false : (a b : Bool) → (a || b) ≡ false → (a ≡ false) × (b ≡ false)
or_false true b h = cc
or_false false b h = (refl, h)

-- no member passes
any-none : {X : Type 0} (p : X → Bool) (xs : List X) → list_any p xs ≡ false → (at : ℕ) (x : X) → slice_get xs at ≡ Some x → p x ≡ false
any-none p [] h at x is = cc
any-none p (y ∷ ys) h zero x is = let b : (p y ≡ false) × (list_any p ys ≡ false) = or_false _ _ h in let s : y ≡ x = cc in ap p (sym s) ∙ b.0
any-none p (y ∷ ys) h (suc at) x is = any-none p ys (or_false (p y) (list_any p ys) h).1 at x is

not_null : (e : RootEnd) → is_null e ≡ false → IsNotNull e
not_null (Value v) n = tt
not_null (Cut Null from) n = cc
not_null (Cut Limit from) n = tt

uncut : (e : RootEnd) → is_null e ≡ false → is_limit e ≡ false → IsValueEnd e
uncut (Value v) n l = tt
uncut (Cut Null from) n l = cc
uncut (Cut Limit from) n l = cc

number : (e : RootEnd) → is_null e ≡ false → is_limit e ≡ false → is_trap e ≡ false → IsNumber e
number (Value (Number n)) a b c = tt
number (Value (Trapped trap)) a b c = cc
number (Cut Null from) a b c = cc
number (Cut Limit from) a b c = cc

-- a root that counts as cut by the limit is
cut_by_limit : (e : RootEnd) → is_limit e ≡ true → (from : CutFrom) × (e ≡ Cut Limit from)
cut_by_limit (Value v) l = cc
cut_by_limit (Cut Null from) l = cc
cut_by_limit (Cut Limit from) l = (from, refl)

-- the status of a run is one of four, and says what its end is
pub data Shows (limit : ℕ) (e : EndSeen) (status : ℕ) : Type 0 where
  all_numbers : status ≡ 0 → Each e.roots IsNumber → Shows limit e status
  none_cut : status ≡ 1 → list_any is_trap e.roots ≡ true → Each e.roots IsValueEnd → Shows limit e status
  some_null : status ≡ 3 → list_any is_null e.roots ≡ true → Shows limit e status
  limited : status ≡ 4 → list_any is_limit e.roots ≡ true → Each e.roots IsNotNull → length e.rows ≡ limit → Shows limit e status

module _ (p : ProgramOf) (c : Columns) (plan : RunPlan) (e : EndSeen) (formed : IsWellFormed p) (sound : EndSound p c plan e) where
  -- where some root is cut by the limit, it was met
  met : list_any is_limit e.roots ≡ true → length e.rows ≡ plan.limit
  met some =
      let r = any-some is_limit e.roots some in
      let cut = cut_by_limit r.1 r.3 in
      limit_met p c plan e formed sound r.0 cut.0 (r.2 ∙ ap Some cut.1)

  pub run_shows : Shows plan.limit e (status_of_ends e.roots)
  run_shows = by (list_any is_null e.roots) refl (list_any is_limit e.roots) refl (list_any is_trap e.roots) refl where
    by : (n : Bool) → list_any is_null e.roots ≡ n → (l : Bool) → list_any is_limit e.roots ≡ l → (t : Bool) → list_any is_trap e.roots ≡ t
        → Shows plan.limit e (if n then 3 else (if l then 4 else (if t then 1 else 0)))
    by true en l el t et = some_null refl en
    by false en true el t et = limited refl el (λ at x is. not_null x (any-none is_null e.roots en at x is)) (met el)
    by false en false el true et = none_cut refl et (λ at x is. uncut x (any-none is_null e.roots en at x is) (any-none is_limit e.roots el at x is))
    by false en false el false et =
        all_numbers refl (λ at x is. number x (any-none is_null e.roots en at x is) (any-none is_limit e.roots el at x is) (any-none is_trap e.roots et at x is))
