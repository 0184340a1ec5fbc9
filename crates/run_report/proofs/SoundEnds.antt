-- Each sound end can be reported.
use Rattle.std.proofs.Common.{◌≡◌, ℕ, zero, suc, ◌<◌, arith, List, [], ◌∷◌, length, Option, Some, None, IfSome, slice_get, refl, sym, ap, subst}
use Rattle.std.specs.Option.{option_map, option_or}
use Rattle.std.proofs.lemmas.Option.{slice_get_within}
use Rattle.task_syntax.specs.declared.columns.Columns.{Columns}
use Rattle.task_syntax.specs.declared.program.Program.{Program}
use Rattle.record_core.specs.Numbers.{HasTask}
use Rattle.record_core.specs.EndSeen.{EndSeen, RunPlan}
use Rattle.record_core.specs.EndSound.{EndSound}
use Rattle.record_core.specs.RootEnds.{roots_named, first_without_task, cut_without_task}
use Rattle.record_core.specs.declared.rows.CutTag.{CutTag}
use Rattle.record_core.specs.declared.rows.RootEnd.{RootEnd}
use Rattle.record_core.specs.declared.rows.RootEnd.TheVariants.{Value, Cut}
use Rattle.record_core.specs.declared.rows.CutFrom.TheVariants.{Host, Root, Task}
use Rattle.run_report.specs.CanReport.{AreCutByTasks, IsTold}
use Rattle.run_report.specs.Laws.{SoundEndsCanBeReported}

-- a position of a list has a member
member_at : {X : Type 0} (xs : List X) (at : ℕ) → at < length xs → (x : X) × (slice_get xs at ≡ Some x)
member_at [] at within = absurd (omega (arith, within))
member_at (x ∷ xs) zero within = (x, refl)
member_at (x ∷ xs) (suc at) within = member_at xs at (omega (arith, within))

-- the first root without a task is one of the ends
first_within : (ends : List RootEnd) (named : List ℕ) (at : ℕ) (tag : CutTag) → first_without_task ends named ≡ Some (at, tag) → at < length ends
first_within ends [] at tag e = cc
first_within ends (r ∷ named) at tag e = by (slice_get ends r) refl e (first_within ends named at tag) where
  cut : (end : RootEnd) (o : Option CutTag) → slice_get ends r ≡ Some end → option_or (option_map (λ (t : CutTag). (r, t)) o) (first_without_task ends named) ≡ Some (at, tag)
      → (first_without_task ends named ≡ Some (at, tag) → at < length ends) → at < length ends
  cut end None is f later = later f
  cut end (Some t) is f later = let same : r ≡ at = ap (λ (o : Option (ℕ × CutTag)). elim o [ None ↦ at | Some x ↦ x.0 ]) f in subst (λ n. n < length ends) same (slice_get_within ends r end is)

  by : (o : Option RootEnd) → slice_get ends r ≡ o
      → option_or (elim o [ None ↦ None | Some end ↦ option_map (λ (t : CutTag). (r, t)) (cut_without_task end) ]) (first_without_task ends named) ≡ Some (at, tag)
      → (first_without_task ends named ≡ Some (at, tag) → at < length ends) → at < length ends
  by None is f later = later f
  by (Some end) is f later = cut end (cut_without_task end) is f later

told : (p : Program) (c : Columns) (plan : RunPlan) (e : EndSeen) → EndSound p c plan e → (at : ℕ) (r : RootEnd) → slice_get e.roots at ≡ Some r → IsTold p e r
told p c plan e sound at (Value v) is = tt
told p c plan e sound at (Cut tag Host) is = tt
told p c plan e sound at (Cut tag (Root other)) is =
    let within : at < length e.roots = slice_get_within e.roots at (Cut tag (Root other)) is in
    let as_many = sound.as_many in
    let root = member_at p.roots at (omega (arith, within, as_many)) in
    let named : Some (other, tag) ≡ first_without_task e.roots (roots_named root.0) = sound.named at (Cut tag (Root other)) is root.0 root.1 in
    let below : other < length e.roots = first_within e.roots (roots_named root.0) other tag (sym named) in
    omega (arith, below, as_many)
told p c plan e sound at (Cut tag (Task t)) is = let own = sound.roots at (Cut tag (Task t)) is in (sound.own.accepted at t own.0, own.1)

-- a task is cut by the predecessor of its last activation, which is a task
cut_by_tasks : (p : Program) (c : Columns) (plan : RunPlan) (e : EndSeen) → EndSound p c plan e → AreCutByTasks e
cut_by_tasks p c plan e sound t u by =
    let last = (sound.causes t u by).0 in
    let of_task = sound.of_tasks last.number last.row last.there in
    (subst (λ (o : Option ℕ). IfSome o (λ v. (v < last.number) × HasTask e.rows v)) last.after of_task.after).1

pub sound_ends_can_be_reported : SoundEndsCanBeReported
sound_ends_can_be_reported p c plan e sound = record {
  as_many = sound.as_many;
  beside = sound.beside;
  four = sound.held_classes;
  roots = told p c plan e sound;
  causes = cut_by_tasks p c plan e sound;
  shown = λ some. let evidence = sound.evidence some in record {
    class = evidence.0;
    class_is = evidence.1;
    class_fits = evidence.2.class_fits;
    every = evidence.2.every;
    classes = evidence.2.classes;
  };
}
