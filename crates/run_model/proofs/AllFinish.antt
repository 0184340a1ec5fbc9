-- Where a run is over, each task has finished, and each activation has started.
use Rattle.std.proofs.Common.{◌≡◌, ℕ, zero, suc, ◌+◌, ◌<◌, ◌≤◌, Option, Some, None, List, [], ◌∷◌, refl, sym, ◌∙◌, ap, inr, ⊎_elim, arith}
use Rattle.std.specs.Prelude.{IsSome}
use Rattle.std.specs.Option.{is_some}
use Rattle.std.proofs.lemmas.Bool.{false≢true}
use Rattle.std.proofs.lemmas.Option.{none-some}
use Rattle.record_core.specs.Sums.{total}
use Rattle.record_core.specs.Numbers.{by_number, found, HasTask}
use Rattle.record_core.specs.Journal.{finish_of}
use Rattle.record_core.specs.declared.rows.ActivationRow.{ActivationRow}
use Rattle.run_model.specs.State.{Queues, Run, first_queued, next_queued}
use Rattle.run_model.specs.Step.{waiters_of}
use Rattle.run_model.proofs.StandsStill.{IsQuiet}
use Rattle.run_model.proofs.ByNumber.{has_some}
use Rattle.run_model.proofs.NumbersInvariant.{times, times_ready, NumbersStand, IsLiveAt}
use Rattle.run_model.proofs.NumbersParts.{behind_task}
use Rattle.run_model.proofs.QueueFacts.{waits_still}
use Rattle.run_model.proofs.RankInvariant.{RankStands}

-- where a sum of counts is not 0, one of the counts is not
some_of_total : (n : ℕ) (lists : List (List ℕ)) → 1 ≤ total (times n) lists → (u : ℕ) × (1 ≤ times n (waiters_of lists u))
some_of_total n [] h = absurd (omega arith)
some_of_total n (xs ∷ lists) h = by (times n xs) refl (some_of_total n lists)
  where
    by : (k : ℕ) → times n xs ≡ k → (1 ≤ total (times n) lists → (u : ℕ) × (1 ≤ times n (waiters_of lists u))) → (u : ℕ) × (1 ≤ times n (waiters_of (xs ∷ lists) u))
    by (suc k) e rest = (1, omega (arith, e))
    by zero e rest = let (u, more) = rest (omega (arith, h, e)) in (suc u, up u more)
      where
        up : (u : ℕ) → 1 ≤ times n (waiters_of lists u) → 1 ≤ times n (waiters_of (xs ∷ lists) (suc u))
        up zero more = absurd (omega arith)
        up (suc u) more = more

-- no number is in empty queues
none_ready : (q : Queues) (n : ℕ) → next_queued q ≡ None → times_ready n q ≡ 0
none_ready q n e = by q.high q.regular q.low e
  where
    by : (high regular low : List ℕ) → first_queued high regular low ≡ None → times n high + times n regular + times n low ≡ 0
    by [] [] [] h = refl
    by [] [] (x ∷ low) h = absurd (none-some _ (sym h))
    by [] (x ∷ regular) low h = absurd (none-some _ (sym h))
    by (x ∷ high) regular low h = absurd (none-some _ (sym h))

module _ (r : Run) (held : NumbersStand r) (ranked : RankStands r) (quiet : IsQuiet r) where
  -- a number without a start waits for an unfinished task
  waits_for : (n : ℕ) (row : ActivationRow) → by_number r.journal.rows n ≡ Some row → row.start ≡ None → (u : ℕ) × (row.after ≡ Some u) × (finish_of r.journal.tasks u ≡ None)
  waits_for n row there start =
      let once : ◌≡◌ {A = ℕ} (total (times n) r.waiters + times_ready n r.ready) 1 = omega (arith, held.numbers.each n, ap Rattle.run_model.proofs.NumbersInvariant.not_started there, waits_still row start) in
      let none = none_ready r.ready n quiet.empty in
      let (u, some) = some_of_total n r.waiters (omega (arith, once, none)) in
      let behind = held.numbers.behind n u row there some in (u, behind.0, behind.1)

  -- an unfinished task waits for one of lower rank
  below_it : (t : ℕ) → HasTask r.journal.rows t → finish_of r.journal.tasks t ≡ None → (u : ℕ) × HasTask r.journal.rows u × (finish_of r.journal.tasks u ≡ None) × (ranked.rank u < ranked.rank t)
  below_it t task none =
      let (n, row, live) = held.live.current t task none in
      let start = ⊎_elim (λ waits. waits) (λ runs. absurd (none-some n (sym quiet.idle ∙ runs))) live.live in
      let (u, after, none_u) = waits_for n row live.there start in
      let (body, has) = has_some (found r.bodies t) ((held.live.has_body t task).1 none) in
      (u, (behind_task r.journal.rows held.of_tasks n u row live.there after).1, none_u, ranked.falls t u (body, has, inr (n, row, live, after)))

  no_task_below : (bound t : ℕ) → ranked.rank t < bound → HasTask r.journal.rows t → finish_of r.journal.tasks t ≡ None → ⊥
  no_task_below zero t low task none = absurd (omega arith)
  no_task_below (suc bound) t low task none = let (u, task_u, none_u, less) = below_it t task none in no_task_below bound u (omega (arith, less, low)) task_u none_u

  -- each task has finished
  pub all_finish : (t : ℕ) → HasTask r.journal.rows t → IsSome (finish_of r.journal.tasks t)
  all_finish t task = by (finish_of r.journal.tasks t) refl
    where
      by : (o : Option ℕ) → finish_of r.journal.tasks t ≡ o → IsSome o
      by None e = absurd (no_task_below (suc (ranked.rank t)) t (omega arith) task e)
      by (Some s) e = refl

  -- each activation has started
  pub all_start : (n : ℕ) (row : ActivationRow) → by_number r.journal.rows n ≡ Some row → IsSome row.start
  all_start n row there = by row.start refl
    where
      by : (o : Option ℕ) → row.start ≡ o → IsSome o
      by None e =
          let (u, after, none) = waits_for n row there e in
          let task = (behind_task r.journal.rows held.of_tasks n u row there after).1 in
          absurd (no_task_below (suc (ranked.rank u)) u (omega arith) task none)
      by (Some s) e = refl

  -- no task has a body any more
  pub no_bodies : (t : ℕ) → found r.bodies t ≡ None
  no_bodies t = by (found r.bodies t) refl
    where
      by : (o : Option Rattle.run_model.specs.State.Body) → found r.bodies t ≡ o → o ≡ None
      by None e = refl
      by (Some body) e =
          let task = held.live.of_task t (ap is_some e) in
          absurd (false≢true (sym (ap is_some ((held.live.has_body t task).0 (ap is_some e))) ∙ all_finish t task))
