-- What an activation is behind, as the engine reads it from a record, and that few refer to a task.
use Rattle.std.proofs.Common.{◌≡◌, ℕ, zero, suc, ◌+◌, ◌<◌, ◌≤◌, ◌^◌, true, false, Option, Some, None, List, [], ◌∷◌, length, replicate, slice_get}
use Rattle.std.proofs.Common.{slice_index, refl, sym, ◌∙◌, ap, subst, arith}
use Rattle.std.specs.Option.{option_map}
use Rattle.std.proofs.lemmas.Option.{none-some, same_Some}
use Rattle.task_syntax.specs.declared.program.Program.{Program}
use Rattle.task_meaning.specs.Frame.{renamed, variables_of, variables_in}
use Rattle.frame_code.specs.Control.{is_aggregate, control_kind}
use Rattle.frame_code.specs.Words.{variables_at, futures_from, number_count, members_at, body_of, variable_list}
use Rattle.frame_code.specs.Frames.{IsFrame}
use Rattle.frame_code.specs.Names.{present, names_of}
use Rattle.frame_code.proofs.Variables.{length-futures}
use Rattle.frame_code.proofs.ControlWords.{task-size, frame-members}
use Rattle.frame_code.proofs.Aggregates.{body-of_task, body-of_members, members-known}
use Rattle.record_core.specs.Numbers.{found}
use Rattle.record_core.specs.declared.rows.CutTag.{CutTag}
use Rattle.run_model.specs.State.{Outcome as RunOutcome, Run}
use Rattle.plain_state.specs.declared.record.Behind.{Behind}
use Rattle.plain_state.specs.Store.{cut_of}
use Rattle.plain_state.specs.Engine.{EngineState}
use Rattle.plain_state.specs.Moves.{behind_at, behind_record, behind_ended}
use Rattle.plain_state.specs.Sees.{Sees, InUse, references, times, unit_of, cut_behind, outcome_seen}
use Rattle.plain_state.proofs.Units.{unit_from}
use Rattle.plain_state.proofs.References.{references_bound, times_itself, times_bound}
use Rattle.plain_state.proofs.Arriving.{waits_open, waits_unit}
use Rattle.plain_state.proofs.FewReferences.{few_names}

-- no more tasks are present than there are futures
present_few : (futures : List (Option ℕ)) → length (present futures) ≤ length futures
present_few [] = omega arith
present_few (None ∷ futures) = omega (arith, present_few futures)
present_few (Some u ∷ futures) = omega (arith, present_few futures)

-- a kind has as many variables as its list of variables
variables_long : (p : Program) (kind : ℕ) → length (variables_at p kind) ≡ variables_of p kind
variables_long p kind = go (slice_get p.kinds kind)
  where
    go : (o : Option _) → length (variable_list o) ≡ variables_in o
    go None = refl
    go (Some k) = refl

-- a frame names few tasks
pub frame_names : (p : Program) (words : List ℕ) → IsFrame p words → length (names_of (body_of p words)) ≤ 63
frame_names p words frame = by (is_aggregate (slice_index words 0)) refl
  where
    by : (b : _) → is_aggregate (slice_index words 0) ≡ b → length (names_of (body_of p words)) ≤ 63
    by true group =
        let same : length (names_of (body_of p words)) ≡ length (members_at (slice_index words)) = ap
        (λ b. length (names_of b)) (body-of_members p words group) in
        let members = frame-members p words frame group in
        omega (arith, same, members-known words members, members.few)
    by false task =
        let futures = futures_from (slice_index words) (1 + number_count (variables_at p (control_kind (slice_index words 0)))) (variables_at p
        (control_kind (slice_index words 0))) in
        let same : length (names_of (body_of p words)) ≡ length (present futures) = ap (λ b. length (names_of b)) (body-of_task p words task) in
        let long : length futures ≡ length (variables_at p (control_kind (slice_index words 0))) =
        length-futures (slice_index words) (1 + number_count (variables_at p (control_kind (slice_index words 0)))) (variables_at p (control_kind
        (slice_index words 0))) in
        omega (arith, same, present_few futures, long, task-size p words frame task, frame.few, variables_long p (control_kind (slice_index words 0)))

-- this is what an activation behind the task is behind
pub record IsBehind (r : Run) (task : Option ℕ) (behind : Behind) : Type 0 where
  pub of_task : behind.task ≡ task
  pub waits : behind.waits ≡ waits_unit r task
  pub cut : (cut : Option CutTag) → cut_behind r.outcomes task ≡ Some cut → behind.cut ≡ cut

module _ (p : Program) (units : ℕ) (hand : List ℕ) (own : Option (ℕ × List ℕ)) (e : EngineState) (r : Run) (sees : Sees p units hand own e r) where
  -- what the engine reads of the record at this unit
  pub behind_seen : (task after : Option ℕ) → after ≡ renamed (unit_of r.blocks) task → ((u : ℕ) → task ≡ Some u → InUse hand r u)
      → IsBehind r task (behind_at e.store after)
  behind_seen None after is used = subst (λ o. IsBehind r None (behind_at e.store o)) (sym is)
      (record { of_task = refl; waits = refl; cut = λ cut same. same_Some None cut same })
  behind_seen (Some u) after is used =
      let task = sees.tasks u (used u refl) in
      let at : after ≡ Some task.block.unit = is ∙ unit_from r.blocks u task.block task.has_block in
      let reads : behind_at e.store after ≡ behind_ended u task.block.unit (option_map outcome_seen (found r.outcomes u)) =
      ap (behind_at e.store) at ∙ ap (behind_record task.block.unit) task.there
      ∙ ap (λ k. behind_ended k task.block.unit task.known.outcome) task.task ∙ ap (behind_ended u task.block.unit) task.outcome in
      subst (IsBehind r (Some u)) (sym reads) (by (found r.outcomes u) refl (unit_from r.blocks u task.block task.has_block))
    where
      by : (o : Option RunOutcome) → found r.outcomes u ≡ o → {unit : ℕ} → unit_of r.blocks u ≡ Some unit
          → IsBehind r (Some u) (behind_ended u unit (option_map outcome_seen o))
      by None same {unit} at = record {
        of_task = refl;
        waits = sym (ap (λ o. waits_open o (unit_of r.blocks u)) same ∙ at);
        cut = λ cut is_cut. absurd (none-some cut (sym (ap (option_map (λ o. cut_of (outcome_seen o))) same) ∙ is_cut));
      }
      by (Some outcome) same {unit} at = record {
        of_task = refl;
        waits = sym (ap (λ o. waits_open o (unit_of r.blocks u)) same);
        cut = λ cut is_cut. same_Some (cut_of (outcome_seen outcome)) cut (sym (ap (option_map (λ o. cut_of (outcome_seen o))) same) ∙ is_cut);
      }

  -- so few refer to a task that a hundred more may
  pub referred_few : length r.bodies ≤ 4000000 → length r.roots ≤ 16 → length hand ≤ 100 → (t : ℕ) → references hand r t + 100 < 2 ^ 32
  referred_few bodies roots few t =
      let more = references_bound (many 199 t) r t (few_names p units hand own e r sees) bodies roots (omega (arith, many_long 199 t)) in
      let own_times = times_bound t hand in
      omega (arith, more, many_times 199 t, own_times, few)
    where
      many : ℕ → ℕ → List ℕ
      many n t = replicate n t

      many_long : (n t : ℕ) → length (replicate n t) ≡ n
      many_long zero t = refl
      many_long (suc n) t = ap suc (many_long n t)

      many_times : (n t : ℕ) → times t (replicate n t) ≡ n
      many_times zero t = refl
      many_times (suc n) t = omega (arith, times_itself t, many_times n t)
