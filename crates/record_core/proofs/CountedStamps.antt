-- How many stamps a journal has: never more than two to a row, and at the end one to an activation and one to a task.
use Rattle.std.proofs.Common.{◌≡◌, ◌∙◌, inl, inr, ℕ, suc, ◌+◌, ◌*◌, ◌≤◌, true, false, cond, Option, Some, None, List, [], ◌∷◌, length, refl, sym, ap, subst, arith}
use Rattle.std.specs.Prelude.{IsSome, nat_eq, slice_get}
use Rattle.std.proofs.lemmas.Bool.{cases_Bool, eqb-true, eq-eqb}
use Rattle.task_syntax.specs.Places.{Each}
use Rattle.record_core.specs.Numbers.{HasTask}
use Rattle.record_core.specs.Journal.{JournalState, finish_in, finish_of, starts, finishes, tasks_from, task_count, IsJournal}
use Rattle.record_core.specs.declared.rows.ActivationRow.{ActivationRow}
use Rattle.record_core.specs.declared.rows.TaskRow.{TaskRow}
use Rattle.record_core.proofs.TotalFacts.{total-bounded}
use Rattle.record_core.proofs.JournalFacts.{some_value}

abbrev one_of : Option ℕ → ℕ
one_of None = 0
one_of (Some s) = 1

-- a row has one stamp of a kind at most
one_at_most : (o : Option ℕ) → one_of o ≤ 1
one_at_most None = omega arith
one_at_most (Some s) = omega arith

-- there are at most two stamps to a row
pub stamps_few : (j : JournalState) → IsJournal j → j.stamps ≤ length j.rows + length j.rows
stamps_few j is =
    let started : starts j.rows ≤ 1 * length j.rows = total-bounded (λ (row : ActivationRow). one_of row.start) 1 j.rows (λ n row at. one_at_most row.start) in
    let done : finishes j.tasks ≤ 1 * length j.tasks = total-bounded (λ (task : TaskRow). one_of task.finish) 1 j.tasks (λ n task at. one_at_most task.finish) in
    omega (arith, is.counted, started, done, is.beside)

-- each row with a start counts one
all_started : (rows : List ActivationRow) → Each rows (λ (row : ActivationRow). IsSome row.start) → starts rows ≡ length rows
all_started [] each = refl
all_started (row ∷ rows) each =
    let it : (s : ℕ) × (row.start ≡ Some s) = some_value row.start (each 0 row refl) in
    omega (arith, ap one_of it.1, all_started rows (λ n. each (suc n)))

-- a task's row has a finish exactly where its number is the first of its task
abbrev IsTold : ℕ → ActivationRow → TaskRow → Type 0
IsTold n row task = ((row.task ≡ n) → IsSome task.finish) × ((f : ℕ) → task.finish ≡ Some f → row.task ≡ n)

-- a task's finish is counted at the task's own number
counted_once : (n : ℕ) (row : ActivationRow) (task : TaskRow) → IsTold n row task → one_of task.finish ≡ cond (nat_eq row.task n) 1 0
counted_once n row task told = elim (cases_Bool (nat_eq row.task n)) [
  | inl first ↦
      let it : (f : ℕ) × (task.finish ≡ Some f) = some_value task.finish (told.0 (eqb-true row.task n first)) in
      ap one_of it.1 ∙ sym (ap (λ b. cond b 1 0) first)
  | inr later ↦ none_of task.finish (λ f at. told.1 f at) later
]
  where
    none_of : (o : Option ℕ) → ((f : ℕ) → o ≡ Some f → row.task ≡ n) → nat_eq row.task n ≡ false → one_of o ≡ cond (nat_eq row.task n) 1 0
    none_of None told later = sym (ap (λ b. cond b 1 0) later)
    none_of (Some f) told later = let first : nat_eq row.task n ≡ true = eq-eqb row.task n (told f refl) in absurd cc

-- there are as many finishes as tasks
all_finished : (n : ℕ) (rows : List ActivationRow) (tasks : List TaskRow) → length tasks ≡ length rows
    → ((k : ℕ) (row : ActivationRow) (task : TaskRow) → slice_get rows k ≡ Some row → slice_get tasks k ≡ Some task → IsTold (n + k) row task)
    → finishes tasks ≡ tasks_from n rows
all_finished n [] [] beside each = refl
all_finished n [] (task ∷ tasks) beside each = absurd (omega (arith, beside))
all_finished n (row ∷ rows) [] beside each = absurd (omega (arith, beside))
all_finished n (row ∷ rows) (task ∷ tasks) beside each =
    let here : IsTold n row task = let e : n + 0 ≡ n = omega arith in subst (λ (k : ℕ). IsTold k row task) e (each 0 row task refl refl) in
    omega (arith, counted_once n row task here, all_finished (suc n) rows tasks (omega (arith, beside)) (λ k r s at at'. later k r s at at'))
  where
    later : (k : ℕ) (r : ActivationRow) (s : TaskRow) → slice_get rows k ≡ Some r → slice_get tasks k ≡ Some s → IsTold (suc n + k) r s
    later k r s at at' = let e : n + suc k ≡ suc n + k = omega arith in subst (λ (m : ℕ). IsTold m r s) e (each (suc k) r s at at')

-- at the end there are as many stamps as activations and tasks
pub all_written : (j : JournalState) → IsJournal j → Each j.rows (λ (row : ActivationRow). IsSome row.start)
    → ((t : ℕ) → HasTask j.rows t → IsSome (finish_of j.tasks t)) → j.stamps ≡ length j.rows + task_count j.rows
all_written j is started finished =
    omega (arith, is.counted, all_started j.rows started, all_finished 1 j.rows j.tasks is.beside (λ k row task at at'. told k row task at at'))
  where
    at_suc : (k : ℕ) → 1 + k ≡ suc k
    at_suc k = omega arith

    its_finish : (k : ℕ) (task : TaskRow) → slice_get j.tasks k ≡ Some task → finish_of j.tasks (suc k) ≡ task.finish
    its_finish k task at = ap finish_in at

    told : (k : ℕ) (row : ActivationRow) (task : TaskRow) → slice_get j.rows k ≡ Some row → slice_get j.tasks k ≡ Some task → IsTold (1 + k) row task
    told k row task at at' = (
      λ first. subst (λ (o : Option ℕ). IsSome o) (its_finish k task at') (finished (suc k) (row, at, first ∙ at_suc k)),
      λ f is_f. first_of k row at (is.finished (suc k) f (its_finish k task at' ∙ is_f)),
    )
      where
        first_of : (k : ℕ) (row : ActivationRow) → slice_get j.rows k ≡ Some row → HasTask j.rows (suc k) → row.task ≡ 1 + k
        first_of k row at there =
            let also : slice_get j.rows k ≡ Some there.0 = there.1 in
            let same : row ≡ there.0 = cc in
            ap (λ (r : ActivationRow). r.task) same ∙ there.2 ∙ sym (at_suc k)
