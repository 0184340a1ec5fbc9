-- Each move keeps that outcomes and causes agree.
use Rattle.std.proofs.Common.{◌≡◌, ◌≢◌, ℕ, ◌+◌, ◌≤◌, true, Option, Some, None, List, [], ◌∷◌, ◌++◌, length, refl, sym, ◌∙◌, ap, ⊎_elim, arith}
use Rattle.std.proofs.lemmas.Bool.{cases_eq}
use Rattle.std.proofs.lemmas.Option.{none-some, same_Some}
use Rattle.task_syntax.specs.declared.value.Value.{Value}
use Rattle.task_syntax.specs.declared.program.Root.{Root as RootLine}
use Rattle.task_syntax.specs.declared.program.Program.{Program}
use Rattle.task_syntax.specs.declared.columns.Columns.{Columns}
use Rattle.task_meaning.specs.Worths.{Respawn}
use Rattle.task_meaning.specs.Frame.{set_future}
use Rattle.frame_code.specs.Words.{OfKind}
use Rattle.record_core.specs.Numbers.{by_number, put_number, found}
use Rattle.record_core.specs.Journal.{next_number, unfinished, cause_in, cause_of, finish_in, finish_of, is_cut}
use Rattle.record_core.specs.EndSeen.{RunPlan}
use Rattle.record_core.specs.declared.rows.TaskRow.{TaskRow}
use Rattle.record_core.specs.declared.rows.Cause.{Cause}
use Rattle.record_core.specs.declared.rows.Cause.TheVariants.{Clear}
use Rattle.record_core.specs.declared.rows.Cause.TheVariants as cause
use Rattle.record_core.specs.declared.rows.CutTag.{CutTag}
use Rattle.record_core.specs.declared.rows.CutTag.TheVariants.{Null, Limit}
use Rattle.run_model.specs.State.{Outcome, Gave, WasCut, Named, Run}
use Rattle.run_model.specs.Step.{arrives, waits_or_queues, accepts, draws, with_body, with_root, root_request, cause_of_cut, at_first}
use Rattle.run_model.specs.Move.{with_notes, RunsAt, begins, Move, RootMove}
use Rattle.run_model.proofs.ByNumber.{member_at, put_same, put_other, found_put, found_put_other, none_of_empty}
use Rattle.run_model.proofs.NumbersInvariant.{NumbersStand}
use Rattle.run_model.proofs.LiveFacts.{read_snoc, finish_snoc, outcome_snoc}
use Rattle.run_model.proofs.NumbersParts.{held_starts, started_runs}
use Rattle.run_model.proofs.RunsFacts.{running_within}
use Rattle.run_model.proofs.OutcomesInvariant.{Outcomes, OutcomesStand}
use Rattle.run_model.proofs.Reached.{IsNextRoot}

-- a new task leaves each cause
pub cause_snoc : (tasks : List TaskRow) (t : ℕ) → cause_of (tasks ++ unfinished ∷ []) t ≡ cause_of tasks t
cause_snoc tasks t = read_snoc cause_in tasks unfinished refl t

outcomes_drawn : (tasks : List TaskRow) (outcomes : List (Option Outcome)) → Outcomes tasks outcomes → Outcomes (tasks ++ unfinished ∷ []) (outcomes ++ None ∷ [])
outcomes_drawn tasks outcomes now = record {
  gave = λ t v e. cause_snoc tasks t ∙ now.gave t v (sym (outcome_snoc outcomes t) ∙ e);
  cut = λ t tag e. ap is_cut (cause_snoc tasks t) ∙ now.cut t tag (sym (outcome_snoc outcomes t) ∙ e);
  open_ = λ t e. cause_snoc tasks t ∙ now.open_ t (sym (finish_snoc tasks t) ∙ e);
}

-- what a task ends with and why agree
pub record Agree (outcome : Outcome) (why : Cause) : Type 0 where
  pub gave : (v : Value) → outcome ≡ Gave v → why ≡ Clear
  pub cut : (tag : CutTag) → outcome ≡ WasCut tag → is_cut why ≡ true

gave_agrees : (v : Value) → Agree (Gave v) Clear
gave_agrees v = record { gave = λ w e. refl; cut = λ tag e. absurd (wrong tag e) }
  where
    wrong : (tag : CutTag) → Gave v ≡ WasCut tag → ⊥
    wrong tag e = cc

cut_agrees : (tag : CutTag) (why : Cause) → is_cut why ≡ true → Agree (WasCut tag) why
cut_agrees tag why cut = record { gave = λ v e. absurd (wrong v e); cut = λ other e. cut }
  where
    wrong : (v : Value) → WasCut tag ≡ Gave v → ⊥
    wrong v e = cc

refusal_cuts : (tag : CutTag) → is_cut (cause_of_cut tag) ≡ true
refusal_cuts Null = refl
refusal_cuts Limit = refl

module _ (tasks : List TaskRow) (t stamp : ℕ) (why : Cause) (some : 1 ≤ t) (within : t ≤ length tasks) where
  -- the task that ends has its cause
  pub cause_here : (u : ℕ) → u ≡ t → cause_of (put_number tasks t (record { finish = Some stamp; cause = why })) u ≡ why
  cause_here u same =
      let (was, there) = member_at tasks t some within in
      ap (cause_of (put_number tasks t (record { finish = Some stamp; cause = why }))) same ∙ ap cause_in (put_same tasks t was (record { finish = Some stamp; cause = why }) there)

  -- each other task has the cause that it had
  pub cause_other : (u : ℕ) → u ≢ t → cause_of (put_number tasks t (record { finish = Some stamp; cause = why })) u ≡ cause_of tasks u
  cause_other u differ = ap cause_in (put_other tasks t u (record { finish = Some stamp; cause = why }) differ)

  -- the task that ends has its stamp
  pub finish_here : (u : ℕ) → u ≡ t → finish_of (put_number tasks t (record { finish = Some stamp; cause = why })) u ≡ Some stamp
  finish_here u same =
      let (was, there) = member_at tasks t some within in
      ap (finish_of (put_number tasks t (record { finish = Some stamp; cause = why }))) same ∙ ap finish_in (put_same tasks t was (record { finish = Some stamp; cause = why }) there)

  -- each other task has the stamp that it had
  pub finish_other : (u : ℕ) → u ≢ t → finish_of (put_number tasks t (record { finish = Some stamp; cause = why })) u ≡ finish_of tasks u
  finish_other u differ = ap finish_in (put_other tasks t u (record { finish = Some stamp; cause = why }) differ)

outcomes_ends : (tasks : List TaskRow) (outcomes : List (Option Outcome)) (t stamp : ℕ) (outcome : Outcome) (why : Cause) → 1 ≤ t → t ≤ length tasks → t ≤ length outcomes → Agree outcome why → Outcomes tasks outcomes
    → Outcomes (put_number tasks t (record { finish = Some stamp; cause = why })) (put_number outcomes t (Some outcome))
outcomes_ends tasks outcomes t stamp outcome why some within within' agree now = record { gave = gave; cut = cut; open_ = open_ }
  where
    is_outcome : (u : ℕ) (o : Outcome) → u ≡ t → found (put_number outcomes t (Some outcome)) u ≡ Some o → outcome ≡ o
    is_outcome u o same e = same_Some outcome o (sym (found_put outcomes t (Some outcome) some within') ∙ sym (ap (found (put_number outcomes t (Some outcome))) same) ∙ e)

    gave : (u : ℕ) (v : Value) → found (put_number outcomes t (Some outcome)) u ≡ Some (Gave v) → cause_of (put_number tasks t (record { finish = Some stamp; cause = why })) u ≡ Clear
    gave u v e =
        ⊎_elim (λ same. cause_here tasks t stamp why some within u same ∙ agree.gave v (is_outcome u (Gave v) same e))
        (λ differ. cause_other tasks t stamp why some within u differ ∙ now.gave u v (sym (found_put_other outcomes t u (Some outcome) differ) ∙ e)) (cases_eq u t)

    cut : (u : ℕ) (tag : CutTag) → found (put_number outcomes t (Some outcome)) u ≡ Some (WasCut tag) → is_cut (cause_of (put_number tasks t (record { finish = Some stamp; cause = why })) u) ≡ true
    cut u tag e =
        ⊎_elim (λ same. ap is_cut (cause_here tasks t stamp why some within u same) ∙ agree.cut tag (is_outcome u (WasCut tag) same e))
        (λ differ. ap is_cut (cause_other tasks t stamp why some within u differ) ∙ now.cut u tag (sym (found_put_other outcomes t u (Some outcome) differ) ∙ e)) (cases_eq u t)

    open_ : (u : ℕ) → finish_of (put_number tasks t (record { finish = Some stamp; cause = why })) u ≡ None → cause_of (put_number tasks t (record { finish = Some stamp; cause = why })) u ≡ Clear
    open_ u e =
        ⊎_elim (λ same. absurd (none-some stamp (sym e ∙ finish_here tasks t stamp why some within u same)))
        (λ differ. cause_other tasks t stamp why some within u differ ∙ now.open_ u (sym (finish_other tasks t stamp why some within u differ) ∙ e)) (cases_eq u t)

arrives_outcomes : (r : Run) (n : ℕ) (after : Option ℕ) → OutcomesStand r → OutcomesStand (arrives r n after)
arrives_outcomes r n None now = record { gave = now.gave; cut = now.cut; open_ = now.open_ }
arrives_outcomes r n (Some u) now = by (found r.outcomes u)
  where
    by : (o : Option Outcome) → OutcomesStand (waits_or_queues o r n u)
    by None = record { gave = now.gave; cut = now.cut; open_ = now.open_ }
    by (Some outcome) = record { gave = now.gave; cut = now.cut; open_ = now.open_ }

-- before the first root nothing has ended
pub outcomes_first : (plan : RunPlan) → OutcomesStand (at_first plan)
outcomes_first plan = record {
  gave = λ t v e. absurd (none-some (Gave v) (sym (ap Rattle.record_core.specs.Numbers.flat (none_of_empty t)) ∙ e));
  cut = λ t tag e. absurd (none-some (WasCut tag) (sym (ap Rattle.record_core.specs.Numbers.flat (none_of_empty t)) ∙ e));
  open_ = λ t e. ap cause_in (none_of_empty t);
}

-- a root's move keeps outcomes and causes in agreement
pub outcomes_root : (p : Program) (units : ℕ) (r s : Run) (root : RootLine) → IsNextRoot p r root → OutcomesStand r → RootMove p units r root s → OutcomesStand s
outcomes_root p units r _ root next now (RootMove.named block free placed some) =
    let request = root_request p r root in
    arrives_outcomes (with_root (accepts units r request block) (Named (next_number r.journal))) (next_number r.journal) request.after
    (let drawn = outcomes_drawn r.journal.tasks r.outcomes now in record { gave = drawn.gave; cut = drawn.cut; open_ = drawn.open_ })
outcomes_root p units r _ root next now (RootMove.refused tag notes free how) = record { gave = now.gave; cut = now.cut; open_ = now.open_ }
outcomes_root p units r _ root next now (RootMove.skipped first e) = record { gave = now.gave; cut = now.cut; open_ = now.open_ }

module _ (p : Program) (c : Columns) (units : ℕ) where
  ends : (r : Run) (t m : ℕ) (body : Rattle.run_model.specs.State.Body) (outcome : Outcome) (why : Cause) → NumbersStand r → RunsAt r t m body → Agree outcome why → OutcomesStand r
      → Outcomes (put_number r.journal.tasks t (record { finish = Some (r.journal.stamps + 1); cause = why })) (put_number r.outcomes t (Some outcome))
  ends r t m body outcome why held runs agree now =
      let within = running_within r [] held t m body runs in
      outcomes_ends r.journal.tasks r.outcomes t (r.journal.stamps + 1) outcome why within.0 (omega (arith, within.1, held.beside.of_tasks)) (omega (arith, within.1, held.beside.of_outcomes)) agree now

  -- each move keeps outcomes and causes in agreement
  pub outcomes_move : (r s : Run) → NumbersStand r → OutcomesStand r → Move p c units r s → OutcomesStand s
  outcomes_move r _ held now (Move.goes_on t n q next runs goes) = record { gave = now.gave; cut = now.cut; open_ = now.open_ }
  outcomes_move r _ held now (Move.spawned t n to q request retry block runs asks placed some) =
      arrives_outcomes (with_body (accepts units r request block) t (OfKind (set_future q to (Some (next_number r.journal))))) (next_number r.journal) request.after
      (let drawn = outcomes_drawn r.journal.tasks r.outcomes now in record { gave = drawn.gave; cut = drawn.cut; open_ = drawn.open_ })
  outcomes_move r _ held now (Move.respawned t n body to after priority notes runs renews some) =
      arrives_outcomes (with_body (record (draws (with_notes r notes) (Some t) after priority (Respawn t after) None None) { running = None }) t to) (next_number r.journal) after
      (let drawn = outcomes_drawn r.journal.tasks r.outcomes now in record { gave = drawn.gave; cut = drawn.cut; open_ = drawn.open_ })
  outcomes_move r _ held now (Move.gave t n body v runs answers) = let done = ends r t n body (Gave v) Clear held runs (gave_agrees v) now in record { gave = done.gave; cut = done.cut; open_ = done.open_ }
  outcomes_move r _ held now (Move.refused t n body tag notes runs refuses) =
      let done = ends r t n body (WasCut tag) (cause_of_cut tag) held runs (cut_agrees tag (cause_of_cut tag) (refusal_cuts tag)) now in record { gave = done.gave; cut = done.cut; open_ = done.open_ }
  outcomes_move r _ held now (Move.started n left idle next uncut) = record { gave = now.gave; cut = now.cut; open_ = now.open_ }
  outcomes_move r _ held now (Move.cut_at_start n left row u tag idle next there after cut) =
      let (body, runs) = started_runs r n left row held idle next there in
      let started : OutcomesStand (begins r n left) = record { gave = now.gave; cut = now.cut; open_ = now.open_ } in
      let done = ends (begins r n left) row.task n body (WasCut tag) (cause.By u) (held_starts r n left held idle next) runs (cut_agrees tag (cause.By u) refl) started in record { gave = done.gave; cut = done.cut; open_ = done.open_ }
