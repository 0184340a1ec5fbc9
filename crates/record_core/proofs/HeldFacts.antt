-- As many blocks are held as roots got a task.
use Rattle.std.proofs.Common.{◌≡◌, ◌↔◌, ◌∙◌, ℕ, suc, ◌+◌, Bool, true, false, cond, Option, Some, None, List, [], ◌∷◌, length, refl, arith}
use Rattle.std.specs.Prelude.{IsSome, nat_eq, slice_get}
use Rattle.task_syntax.specs.Places.{EachAt}
use Rattle.task_syntax.specs.declared.program.Root.{Root as RootLine}
use Rattle.task_syntax.specs.declared.program.Program.{Program}
use Rattle.task_syntax.specs.declared.columns.Columns.{Columns}
use Rattle.task_meaning.specs.Meant.{future_at}
use Rattle.record_core.specs.Sums.{total}
use Rattle.record_core.specs.EndSeen.{EndSeen, RunPlan}
use Rattle.record_core.specs.EndSound.{EndSound, IsOwnEnd, kind_class, own_of_class}
use Rattle.record_core.specs.EndLaws.{one_own}
use Rattle.record_core.specs.declared.rows.RootEnd.{RootEnd}
use Rattle.record_core.specs.declared.rows.RootEnd.TheVariants.{Value, Cut}
use Rattle.record_core.specs.declared.rows.CutFrom.TheVariants.{Host, Root, Task}

-- a class is counted among the four once
abbrev in_class : ℕ → ℕ → ℕ
in_class class wanted = cond (nat_eq class wanted) 1 0

abbrev in_all : ℕ → ℕ
in_all class = in_class class 0 + in_class class 1 + in_class class 2 + in_class class 3

-- a class is one of the four
in_one : (a b d : Bool) → in_all (cond a 0 (cond b 1 (cond d 2 3))) ≡ 1
in_one true b d = refl
in_one false true d = refl
in_one false false true = refl
in_one false false false = refl

-- so is a kind's class
kind_in_one : (p : Program) (kind : ℕ) → in_all (kind_class p kind) ≡ 1
kind_in_one p kind = in_one _ _ _

-- how many of these lines have an own task
abbrev own_count : List RootLine → List (Option ℕ) → ℕ
own_count (root ∷ roots) (Some t ∷ own) = suc (own_count roots own)
own_count (root ∷ roots) (None ∷ own) = own_count roots own
own_count _ _ = 0

-- the classes together count all own tasks
all_classes : (p : Program) (roots : List RootLine) (own : List (Option ℕ))
    → own_of_class p 0 roots own + own_of_class p 1 roots own + own_of_class p 2 roots own + own_of_class p 3 roots own ≡ own_count roots own
all_classes p [] own = refl
all_classes p (root ∷ roots) [] = refl
all_classes p (root ∷ roots) (Some t ∷ own) = omega (arith, all_classes p roots own, kind_in_one p root.kind)
all_classes p (root ∷ roots) (None ∷ own) = all_classes p roots own

-- an end with a task counts one
own_one : (end : RootEnd) → IsOwnEnd end → one_own end ≡ 1
own_one (Value v) is = refl
own_one (Cut tag Host) is = absurd is
own_one (Cut tag (Root r)) is = absurd is
own_one (Cut tag (Task t)) is = refl

-- an end without a task counts none
own_none : (end : RootEnd) → (IsOwnEnd end → ⊥) → one_own end ≡ 0
own_none (Value v) no_task = absurd (no_task tt)
own_none (Cut tag Host) no_task = refl
own_none (Cut tag (Root r)) no_task = refl
own_none (Cut tag (Task t)) no_task = absurd (no_task tt)

-- there are as many own tasks as ends with a task
counted_ends : (roots : List RootLine) (own : List (Option ℕ)) (ends : List RootEnd) → length own ≡ length ends → length ends ≡ length roots
    → EachAt ends (λ at end. IsOwnEnd end ↔ IsSome (future_at own at)) → own_count roots own ≡ total one_own ends
counted_ends [] own [] beside many each = refl
counted_ends [] own (end ∷ ends) beside many each = absurd (omega (arith, many))
counted_ends (root ∷ roots) own [] beside many each = absurd (omega (arith, many))
counted_ends (root ∷ roots) [] (end ∷ ends) beside many each = absurd (omega (arith, beside))
counted_ends (root ∷ roots) (Some t ∷ own) (end ∷ ends) beside many each =
    omega (arith, own_one end ((each 0 end refl).1 refl), counted_ends roots own ends (omega (arith, beside)) (omega (arith, many)) (λ at. each (suc at)))
counted_ends (root ∷ roots) (None ∷ own) (end ∷ ends) beside many each =
    omega (arith, own_none end (λ is. let some : false ≡ true = (each 0 end refl).0 is in cc), counted_ends roots own ends (omega (arith, beside)) (omega (arith, many)) (λ at. each (suc at)))

-- four members, one for each class
four : (held : List ℕ) (a b c d : ℕ) → length held ≡ 4 → slice_get held 0 ≡ Some a → slice_get held 1 ≡ Some b → slice_get held 2 ≡ Some c → slice_get held 3 ≡ Some d
    → total (λ n. n) held ≡ a + b + c + d
four [] a b c d many at_0 at_1 at_2 at_3 = absurd (omega (arith, many))
four (w ∷ []) a b c d many at_0 at_1 at_2 at_3 = absurd (omega (arith, many))
four (w ∷ x ∷ []) a b c d many at_0 at_1 at_2 at_3 = absurd (omega (arith, many))
four (w ∷ x ∷ y ∷ []) a b c d many at_0 at_1 at_2 at_3 = absurd (omega (arith, many))
four (w ∷ x ∷ y ∷ z ∷ []) a b c d many at_0 at_1 at_2 at_3 =
    let is_a : w ≡ a = cc in let is_b : x ≡ b = cc in let is_c : y ≡ c = cc in let is_d : z ≡ d = cc in omega (arith, is_a, is_b, is_c, is_d)
four (w ∷ x ∷ y ∷ z ∷ v ∷ held) a b c d many at_0 at_1 at_2 at_3 = absurd (omega (arith, many))

-- as many blocks are held as roots got a task
pub held_by_roots : (p : Program) (c : Columns) (plan : RunPlan) (e : EndSeen) → EndSound p c plan e → total (λ n. n) e.held ≡ total one_own e.roots
held_by_roots p c plan e sound =
    let own : ℕ → ℕ = λ class. own_of_class p class p.roots e.own in
    four e.held (own 0) (own 1) (own 2) (own 3) sound.held_classes (sound.held 0 (omega arith)) (sound.held 1 (omega arith)) (sound.held 2 (omega arith)) (sound.held 3 (omega arith))
    ∙ all_classes p p.roots e.own ∙ counted_ends p.roots e.own e.roots sound.own.as_many sound.as_many sound.own.own
