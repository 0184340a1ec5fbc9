-- At the end, the value of a root is the meaning's, where the values of tasks are their worths; so the end is sound.
use Rattle.std.proofs.Common.{◌≡◌, ℕ, zero, suc, ◌<◌, Option, Some, None, List, [], ◌∷◌, length, map, slice_get, refl, sym, ◌∙◌, ap, subst, arith}
use Rattle.std.proofs.lemmas.Option.{none-some, same_Some, slice_get_within}
use Rattle.task_syntax.specs.Form.{IsWellFormed}
use Rattle.task_syntax.specs.declared.value.Value.{Value as ValueOf}
use Rattle.task_syntax.specs.declared.program.Program.{Program}
use Rattle.task_syntax.specs.declared.columns.Columns.{Columns}
use Rattle.task_meaning.specs.Meant.{future_at}
use Rattle.task_meaning.specs.Roots.{RootGives}
use Rattle.task_meaning.proofs.RootTasks.{root-worth}
use Rattle.kt_words.specs.Ranges.{IsGeometry}
use Rattle.record_core.specs.Numbers.{found}
use Rattle.record_core.specs.EndSeen.{RunPlan}
use Rattle.record_core.specs.EndSound.{EndSound}
use Rattle.record_core.specs.declared.rows.RootEnd.TheVariants.{Value, Cut}
use Rattle.record_core.specs.declared.rows.CutTag.TheVariants.{Null}
use Rattle.record_core.specs.declared.rows.CutFrom.TheVariants.{Host, Root, Task}
use Rattle.run_model.specs.State.{Outcome, Gave, WasCut, RootWord, Named, Refused, Skipped, Run}
use Rattle.run_model.specs.Step.{own_task, own_tasks}
use Rattle.run_model.specs.End.{OneThreadRun, end_at, root_end, end_seen}
use Rattle.run_model.specs.Laws.{EndsAreSound}
use Rattle.run_model.proofs.ValuesInvariant.{ValuesStand}
use Rattle.run_model.proofs.ValuesKept.{values_always}
use Rattle.run_model.proofs.EndLaws.{end_roots}
use Rattle.run_model.proofs.EndSoundness.{sound_with}

-- a root that shows a value has a task that gave it
shown : (r : Run) (words : List RootWord) (at : ℕ) (v : ValueOf) → slice_get (map (root_end r) words) at ≡ Some (Value v) → (t : ℕ) × (future_at (map own_task words) at ≡ Some t) × (found r.outcomes t ≡ Some (Gave v))
shown r [] at v e = absurd (none-some (Value v) e)
shown r (word ∷ words) (suc at) v e = shown r words at v e
shown r (Named t ∷ words) zero v e = by (found r.outcomes t) refl (same_Some (root_end r (Named t)) (Value v) e)
  where
    by : (o : Option Outcome) → found r.outcomes t ≡ o → end_at t o ≡ Value v → (t' : ℕ) × (Some t ≡ Some t') × (found r.outcomes t' ≡ Some (Gave v))
    by (Some (Gave w)) f g = (t, refl, f ∙ ap (λ x. Some (Gave x)) (same_value g))
      where
        same_value : Value w ≡ Value v → w ≡ v
        same_value h = cc
    by (Some (WasCut tag)) f g = absurd (wrong g)
      where
        wrong : Cut tag (Task t) ≡ Value v → ⊥
        wrong h = cc
    by None f g = absurd (wrong g)
      where
        wrong : Cut Null (Task t) ≡ Value v → ⊥
        wrong h = cc
shown r (Refused tag ∷ words) zero v e = absurd (wrong (same_Some (root_end r (Refused tag)) (Value v) e))
  where
    wrong : Cut tag Host ≡ Value v → ⊥
    wrong h = cc
shown r (Skipped k tag ∷ words) zero v e = absurd (wrong (same_Some (root_end r (Skipped k tag)) (Value v) e))
  where
    wrong : Cut tag (Root k) ≡ Value v → ⊥
    wrong h = cc

mapped_length : {A B : Type 0} (f : A → B) (xs : List A) → length (map f xs) ≡ length xs
mapped_length f [] = refl
mapped_length f (x ∷ xs) = ap suc (mapped_length f xs)

member_there : {A : Type 0} (xs : List A) (i : ℕ) → i < length xs → (x : A) × (slice_get xs i ≡ Some x)
member_there [] i lt = absurd (omega arith)
member_there (x ∷ xs) zero lt = (x, refl)
member_there (x ∷ xs) (suc i) lt = member_there xs i (omega arith)

module _ (p : Program) (c : Columns) (plan : RunPlan) (geometry : IsGeometry plan.superblocks plan.units) (formed : IsWellFormed p) (end : Run) (run : OneThreadRun p c plan end) (values : ValuesStand p c end) where
  root_gives : (at : ℕ) (v : ValueOf) → slice_get (end_seen plan end).roots at ≡ Some (Value v) → RootGives p c at v
  root_gives at v e =
      let roots = end_roots p c plan formed end run in
      let (t, own, gave) = shown end end.roots at v e in
      let within = slice_get_within (map (root_end end) end.roots) at (Value v) e in
      let (root, there) = member_there p.roots at (omega (arith, within, mapped_length (root_end end) end.roots, roots.few)) in
      let (n, worth) = values.complete t v gave in
      (n, sym (root-worth p c n end.calls (own_tasks end) formed roots.tasks (suc at) at root t (omega arith) there own) ∙ worth)

  -- the end is sound
  pub sound_end : EndSound p c plan (end_seen plan end)
  sound_end = sound_with p c plan geometry formed end run root_gives

-- of every run of a valid program, in a pool whose numbers are in range
pub ends_sound : EndsAreSound
ends_sound p c plan end formed valid geometry run = sound_end p c plan geometry formed end run (subst (ValuesStand p c) run.reached (values_always p formed valid c plan run.taken))
