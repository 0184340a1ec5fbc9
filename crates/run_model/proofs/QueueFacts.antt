-- Where a number stands that has not started, while numbers are drawn, arrive and begin, and tasks end.
use Rattle.std.proofs.Common.{◌≡◌, ◌≢◌, ◌⊎◌, ℕ, zero, suc, ◌+◌, ◌<◌, ◌≤◌, Option, Some, None, List, [], ◌∷◌, ◌++◌, cond, nat_eq, length, refl, sym, ◌∙◌, ap, inl, inr, ⊎_elim, arith}
use Rattle.std.specs.Prelude.{IsSome}
use Rattle.std.specs.Option.{is_some}
use Rattle.std.proofs.lemmas.Bool.{cases_eq, false≢true}
use Rattle.std.proofs.lemmas.Option.{none-some, same_Some, some_pair_parts, slice_get_past}
use Rattle.task_syntax.specs.declared.value.Priority.{Priority}
use Rattle.task_syntax.specs.declared.value.Priority.TheVariants.{High, Regular, Low}
use Rattle.record_core.specs.Sums.{total}
use Rattle.record_core.specs.Numbers.{by_number, put_number}
use Rattle.record_core.specs.Journal.{finish_of, unfinished}
use Rattle.record_core.specs.declared.rows.ActivationRow.{ActivationRow}
use Rattle.record_core.specs.declared.rows.TaskRow.{TaskRow}
use Rattle.record_core.proofs.TotalFacts.{total-set, total-snoc, total-append, total-member}
use Rattle.run_model.specs.State.{Queues, queued, next_queued, first_queued}
use Rattle.run_model.specs.Step.{all_queued, priority_of, list_or, waiters_of}
use Rattle.run_model.proofs.ByNumber.{member_at, put_same, put_other, snoc_new, snoc_other, snoc_cases}
use Rattle.run_model.proofs.LiveFacts.{read_snoc, finish_snoc, OneStarted, was_row}
use Rattle.run_model.proofs.NumbersInvariant.{times, times_ready, not_started, Numbers}

-- a number joins a queue
pub times_queued : (priority : Priority) (n k : ℕ) (q : Queues) → times_ready k (queued priority n q) ≡ times_ready k q + times k (n ∷ [])
times_queued High n k q = omega (arith, total-append (λ x. cond (nat_eq x k) 1 0) q.high (n ∷ []))
times_queued Regular n k q = omega (arith, total-append (λ x. cond (nat_eq x k) 1 0) q.regular (n ∷ []))
times_queued Low n k q = omega (arith, total-append (λ x. cond (nat_eq x k) 1 0) q.low (n ∷ []))

-- many join
pub times_all_queued : (priorities : List Priority) (xs : List ℕ) (q : Queues) (k : ℕ) → times_ready k (all_queued priorities xs q) ≡ times_ready k q + times k xs
times_all_queued priorities [] q k = omega arith
times_all_queued priorities (x ∷ xs) q k =
    let first = times_queued (priority_of priorities x) x k q in
    let rest = times_all_queued priorities xs (queued (priority_of priorities x) x q) k in omega (arith, first, rest)

-- the next one leaves
pub times_next : (q left : Queues) (n k : ℕ) → next_queued q ≡ Some (n, left) → times_ready k q ≡ times k (n ∷ []) + times_ready k left
times_next q left n k e = by q.high q.regular q.low e
  where
    parts : (x : ℕ) (rest : Queues) → ◌≡◌ {A = Option (ℕ × Queues)} (Some (x, rest)) (Some (n, left)) → times k (x ∷ []) + times_ready k rest ≡ times k (n ∷ []) + times_ready k left
    parts x rest h = let (same, same_left) = some_pair_parts x n rest left h in ap (λ y. times k (y ∷ []) + times_ready k rest) same ∙ ap (λ y. times k (n ∷ []) + times_ready k y) same_left

    by : (high regular low : List ℕ) → first_queued high regular low ≡ Some (n, left) → times k high + times k regular + times k low ≡ times k (n ∷ []) + times_ready k left
    by (x ∷ high) regular low h = let p = parts x (record { high = high; regular = regular; low = low }) h in omega (arith, p)
    by [] (x ∷ regular) low h = let p = parts x (record { high = []; regular = regular; low = low }) h in omega (arith, p)
    by [] [] (x ∷ low) h = let p = parts x (record { high = []; regular = []; low = low }) h in omega (arith, p)
    by [] [] [] h = absurd (none-some (n, left) h)

-- a number stands once in the list of itself
pub times_self : (n : ℕ) → times n (n ∷ []) ≡ 1
times_self n = rw (Rattle.std.proofs.Common.eq-eqb n n refl) refl

-- another number does not stand there
pub times_other : (n k : ℕ) → k ≢ n → times k (n ∷ []) ≡ 0
times_other n k differ = rw (Rattle.std.proofs.lemmas.Bool.ne_eqb n k (λ e. differ (sym e))) refl

-- the waiters of a task: none of them for a new number, and another list at a number
pub waiters_snoc : (waiters : List (List ℕ)) (u : ℕ) → waiters_of (waiters ++ [] ∷ []) u ≡ waiters_of waiters u
waiters_snoc waiters u = read_snoc list_or waiters [] refl u

-- a task has the waiters that were put there
pub waiters_put : (waiters : List (List ℕ)) (u : ℕ) (ws : List ℕ) → 1 ≤ u → u ≤ length waiters → waiters_of (put_number waiters u ws) u ≡ ws
waiters_put waiters u ws some within = let (old, there) = member_at waiters u some within in ap list_or (put_same waiters u old ws there)

-- each other task has the waiters that it had
pub waiters_put_other : (waiters : List (List ℕ)) (u v : ℕ) (ws : List ℕ) → v ≢ u → waiters_of (put_number waiters u ws) v ≡ waiters_of waiters v
waiters_put_other waiters u v ws differ = ap list_or (put_other waiters u v ws differ)

-- all waiters after another list at a number
pub total_put : (k : ℕ) (waiters : List (List ℕ)) (u : ℕ) (ws : List ℕ) → 1 ≤ u → u ≤ length waiters
    → total (times k) (put_number waiters u ws) + times k (waiters_of waiters u) ≡ total (times k) waiters + times k ws
total_put k waiters zero ws some within = absurd (omega arith)
total_put k waiters (suc u) ws some within =
    let (old, there) = member_at waiters (suc u) some within in
    let changed = total-set (times k) waiters u old ws there in
    let is_old : times k (waiters_of waiters (suc u)) ≡ times k old = ap (λ o. times k (list_or o)) there in omega (arith, changed, is_old)

-- a task's waiters are among all
pub waiters_within : (k : ℕ) (waiters : List (List ℕ)) (u : ℕ) → times k (waiters_of waiters u) ≤ total (times k) waiters
waiters_within k waiters zero = omega arith
waiters_within k waiters (suc u) = by (by_number waiters (suc u)) refl
  where
    by : (o : Option (List ℕ)) → by_number waiters (suc u) ≡ o → times k (list_or o) ≤ total (times k) waiters
    by None e = omega arith
    by (Some ws) e = total-member (times k) waiters u ws e

-- whether a row has not started is read from its start
pub waits_still : (row : ActivationRow) → row.start ≡ None → not_started (Some row) ≡ 1
waits_still row e = ap (λ (o : Option ℕ). elim o [ None ↦ 1 | Some s ↦ 0 ]) e

-- a number with a stamp is no longer one that has not started
pub has_begun : (row : ActivationRow) (s : ℕ) → row.start ≡ Some s → not_started (Some row) ≡ 0
has_begun row s e = ap (λ (o : Option ℕ). elim o [ None ↦ 1 | Some s ↦ 0 ]) e

-- a number that stands somewhere has a row without a start
pub row_of_number : (o : Option ActivationRow) → 1 ≤ not_started o → (row : ActivationRow) × (o ≡ Some row) × (row.start ≡ None)
row_of_number None h = absurd (omega arith)
row_of_number (Some row) h = by row.start refl
  where
    by : (s : Option ℕ) → row.start ≡ s → (other : ActivationRow) × (Some row ≡ Some other) × (other.start ≡ None)
    by None e = (row, refl, e)
    by (Some s) e = absurd (omega (arith, has_begun row s e, h))

module _ (rows : List ActivationRow) (tasks : List TaskRow) (waiters : List (List ℕ)) (ready : Queues) where
  -- a number is drawn, and is in the hand
  pub numbers_drawn : (row : ActivationRow) → row.start ≡ None → Numbers rows tasks waiters ready [] → Numbers (rows ++ row ∷ []) (tasks ++ unfinished ∷ []) (waiters ++ [] ∷ []) ready (suc (length rows) ∷ [])
  numbers_drawn row waiting now = record { each = each; behind = behind; free = free }
    where
      next : ℕ
      next = suc (length rows)

      nowhere : total (times (suc (length rows))) waiters + times_ready (suc (length rows)) ready ≡ 0
      nowhere = let e = now.each (suc (length rows)) in let none : not_started (by_number rows (suc (length rows))) ≡ 0 = ap not_started (slice_get_past rows (length rows) (omega arith)) in omega (arith, e, none)

      each : (k : ℕ) → times k (suc (length rows) ∷ []) + total (times k) (waiters ++ [] ∷ []) + times_ready k ready ≡ not_started (by_number (rows ++ row ∷ []) k)
      each k =
          let more : total (times k) (waiters ++ [] ∷ []) ≡ total (times k) waiters + times k [] = total-snoc (times k) waiters [] in
          ⊎_elim
          (λ same.
          let here : not_started (by_number (rows ++ row ∷ []) k) ≡ 1 = ap (λ j. not_started (by_number (rows ++ row ∷ []) j)) same ∙ ap not_started (snoc_new rows row) ∙ waits_still row waiting in
          let once : times k (suc (length rows) ∷ []) ≡ 1 = ap (λ j. times j (suc (length rows) ∷ [])) same ∙ times_self (suc (length rows)) in
          let none : total (times k) waiters + times_ready k ready ≡ 0 = ap (λ j. total (times j) waiters + times_ready j ready) same ∙ nowhere in
          omega (arith, more, here, once, none))
          (λ differ.
          let other : not_started (by_number (rows ++ row ∷ []) k) ≡ not_started (by_number rows k) = ap not_started (snoc_other rows row k differ) in
          let never : times k (suc (length rows) ∷ []) ≡ 0 = times_other (suc (length rows)) k differ in
          omega (arith, more, other, never, now.each k))
          (cases_eq k (suc (length rows)))

      behind : (k u : ℕ) (other : ActivationRow) → by_number (rows ++ row ∷ []) k ≡ Some other → 1 ≤ times k (waiters_of (waiters ++ [] ∷ []) u) → (other.after ≡ Some u) × (finish_of (tasks ++ unfinished ∷ []) u ≡ None)
      behind k u other there some =
          let same_waiters : times k (waiters_of (waiters ++ [] ∷ []) u) ≡ times k (waiters_of waiters u) = ap (times k) (waiters_snoc waiters u) in
          ⊎_elim
          (λ old. let was = now.behind k u other old (omega (arith, some, same_waiters)) in (was.0, finish_snoc tasks u ∙ was.1))
          (λ new. let none : total (times k) waiters + times_ready k ready ≡ 0 = ap (λ j. total (times j) waiters + times_ready j ready) new.0 ∙ nowhere in absurd (omega (arith, some, same_waiters, waiters_within k waiters u, none)))
          (snoc_cases rows row k other there)

      free : (k u : ℕ) (other : ActivationRow) → by_number (rows ++ row ∷ []) k ≡ Some other → 1 ≤ times_ready k ready → other.after ≡ Some u → IsSome (finish_of (tasks ++ unfinished ∷ []) u)
      free k u other there some after =
          ⊎_elim
          (λ old. ap is_some (finish_snoc tasks u) ∙ now.free k u other old some after)
          (λ new. let none : total (times k) waiters + times_ready k ready ≡ 0 = ap (λ j. total (times j) waiters + times_ready j ready) new.0 ∙ nowhere in absurd (omega (arith, some, none)))
          (snoc_cases rows row k other there)

  -- it joins its queue, where it is behind none or a finished task
  pub numbers_queue : (priorities : List Priority) (n : ℕ) (row : ActivationRow) → by_number rows n ≡ Some row → ((u : ℕ) → row.after ≡ Some u → IsSome (finish_of tasks u))
      → Numbers rows tasks waiters ready (n ∷ []) → Numbers rows tasks waiters (all_queued priorities (n ∷ []) ready) []
  numbers_queue priorities n row there ready_now now = record {
    each = λ k. let moved = times_all_queued priorities (n ∷ []) ready k in omega (arith, moved, now.each k);
    behind = now.behind;
    free = free;
  }
    where
      free : (k u : ℕ) (other : ActivationRow) → by_number rows k ≡ Some other → 1 ≤ times_ready k (all_queued priorities (n ∷ []) ready) → other.after ≡ Some u → IsSome (finish_of tasks u)
      free k u other there' some after =
          ⊎_elim
          (λ same. ready_now u (ap (λ (r : ActivationRow). r.after) (same_Some row other (sym there ∙ sym (ap (by_number rows) same) ∙ there')) ∙ after))
          (λ differ. let moved = times_all_queued priorities (n ∷ []) ready k in let never = times_other n k differ in now.free k u other there' (omega (arith, moved, never, some)) after)
          (cases_eq k n)

  -- or it waits for the unfinished task that it is behind
  pub numbers_wait : (n u : ℕ) (row : ActivationRow) → by_number rows n ≡ Some row → row.after ≡ Some u → finish_of tasks u ≡ None → 1 ≤ u → u ≤ length waiters
      → Numbers rows tasks waiters ready (n ∷ []) → Numbers rows tasks (put_number waiters u (n ∷ waiters_of waiters u)) ready []
  numbers_wait n u row there after open_ some within now = record {
    each = λ k. let moved = total_put k waiters u (n ∷ waiters_of waiters u) some within in omega (arith, moved, now.each k);
    behind = behind;
    free = now.free;
  }
    where
      behind : (k v : ℕ) (other : ActivationRow) → by_number rows k ≡ Some other → 1 ≤ times k (waiters_of (put_number waiters u (n ∷ waiters_of waiters u)) v) → (other.after ≡ Some v) × (finish_of tasks v ≡ None)
      behind k v other there' has =
          ⊎_elim
          (λ at_u.
          let here : times k (waiters_of (put_number waiters u (n ∷ waiters_of waiters u)) v) ≡ times k (n ∷ waiters_of waiters u) = ap (times k) (ap (waiters_of (put_number waiters u (n ∷ waiters_of waiters u))) at_u ∙ waiters_put waiters u (n ∷ waiters_of waiters u) some within) in
          ⊎_elim
          (λ is_n. (ap (λ (r : ActivationRow). r.after) (same_Some other row (sym there' ∙ ap (by_number rows) is_n ∙ there)) ∙ after ∙ sym (ap Some at_u), ap (finish_of tasks) at_u ∙ open_))
          (λ not_n. let never = times_other n k not_n in
          let was = now.behind k u other there' (omega (arith, here, has, never)) in (was.0 ∙ sym (ap Some at_u), ap (finish_of tasks) at_u ∙ was.1))
          (cases_eq k n))
          (λ not_u. let same = ap (times k) (waiters_put_other waiters u v (n ∷ waiters_of waiters u) not_u) in now.behind k v other there' (omega (arith, has, same)))
          (cases_eq v u)

  -- a task ends: its waiters join their queues
  pub numbers_ends : (priorities : List Priority) (t stamp : ℕ) (tasks' : List TaskRow) → finish_of tasks' t ≡ Some stamp → ((u : ℕ) → u ≢ t → finish_of tasks' u ≡ finish_of tasks u) → 1 ≤ t → t ≤ length waiters
      → Numbers rows tasks waiters ready [] → Numbers rows tasks' (put_number waiters t []) (all_queued priorities (waiters_of waiters t) ready) []
  numbers_ends priorities t stamp tasks' here others some within now = record { each = each; behind = behind; free = free }
    where
      each : (k : ℕ) → times k [] + total (times k) (put_number waiters t []) + times_ready k (all_queued priorities (waiters_of waiters t) ready) ≡ not_started (by_number rows k)
      each k =
          let moved = times_all_queued priorities (waiters_of waiters t) ready k in
          let left = total_put k waiters t [] some within in omega (arith, moved, left, now.each k)

      behind : (k u : ℕ) (other : ActivationRow) → by_number rows k ≡ Some other → 1 ≤ times k (waiters_of (put_number waiters t []) u) → (other.after ≡ Some u) × (finish_of tasks' u ≡ None)
      behind k u other there has =
          ⊎_elim
          (λ at_t. let none : times k (waiters_of (put_number waiters t []) u) ≡ 0 = ap (times k) (ap (waiters_of (put_number waiters t [])) at_t ∙ waiters_put waiters t [] some within) in absurd (omega (arith, has, none)))
          (λ not_t. let same = ap (times k) (waiters_put_other waiters t u [] not_t) in
          let was = now.behind k u other there (omega (arith, has, same)) in (was.0, others u not_t ∙ was.1))
          (cases_eq u t)

      finished : (u : ℕ) → IsSome (finish_of tasks u) → IsSome (finish_of tasks' u)
      finished u was = ⊎_elim (λ at_t. ap is_some (ap (finish_of tasks') at_t ∙ here)) (λ not_t. ap is_some (others u not_t) ∙ was) (cases_eq u t)

      free : (k u : ℕ) (other : ActivationRow) → by_number rows k ≡ Some other → 1 ≤ times_ready k (all_queued priorities (waiters_of waiters t) ready) → other.after ≡ Some u → IsSome (finish_of tasks' u)
      free k u other there has after =
          let moved = times_all_queued priorities (waiters_of waiters t) ready k in
          ⊎_elim
          (λ queued. finished u (now.free k u other there queued after))
          (λ not_queued.
          let was = now.behind k t other there (omega (arith, moved, has, not_queued)) in
          ap is_some (ap (finish_of tasks') (same_Some u t (sym after ∙ was.0)) ∙ here))
          (some_or_none (times_ready k ready))
        where
          some_or_none : (x : ℕ) → (1 ≤ x) ⊎ (x ≡ 0)
          some_or_none zero = inr refl
          some_or_none (suc x) = inl (omega arith)

  -- the next number starts
  pub numbers_start : (n stamp : ℕ) (row : ActivationRow) (left : Queues) (rows' : List ActivationRow) → by_number rows n ≡ Some row → OneStarted rows n stamp row rows' → next_queued ready ≡ Some (n, left)
      → Numbers rows tasks waiters ready [] → Numbers rows' tasks waiters left []
  numbers_start n stamp row left rows' there started next now = record { each = each; behind = behind; free = free }
    where
      each : (k : ℕ) → times k [] + total (times k) waiters + times_ready k left ≡ not_started (by_number rows' k)
      each k =
          let moved = times_next ready left n k next in
          ⊎_elim
          (λ same.
          let once : times k (n ∷ []) ≡ 1 = ap (λ j. times j (n ∷ [])) same ∙ times_self n in
          let begun : not_started (by_number rows' k) ≡ 0 = ap (λ j. not_started (by_number rows' j)) same ∙ ap not_started started.here in
          let most : not_started (by_number rows k) ≤ 1 = at_most (by_number rows k) in
          omega (arith, moved, once, begun, most, now.each k))
          (λ differ. let never = times_other n k differ in let other : not_started (by_number rows' k) ≡ not_started (by_number rows k) = ap not_started (started.others k differ) in omega (arith, moved, never, other, now.each k))
          (cases_eq k n)
        where
          at_most : (o : Option ActivationRow) → not_started o ≤ 1
          at_most None = omega arith
          at_most (Some row) = by row.start
            where
              by : (s : Option ℕ) → elim s [ None ↦ 1 | Some x ↦ 0 ] ≤ 1
              by None = omega arith
              by (Some x) = omega arith

      behind : (k u : ℕ) (now_row : ActivationRow) → by_number rows' k ≡ Some now_row → 1 ≤ times k (waiters_of waiters u) → (now_row.after ≡ Some u) × (finish_of tasks u ≡ None)
      behind k u now_row e some = let w = was_row rows rows' n stamp row there started k now_row e in let was = now.behind k u w.was w.stood some in (w.after ∙ was.0, was.1)

      free : (k u : ℕ) (now_row : ActivationRow) → by_number rows' k ≡ Some now_row → 1 ≤ times_ready k left → now_row.after ≡ Some u → IsSome (finish_of tasks u)
      free k u now_row e some after =
          let w = was_row rows rows' n stamp row there started k now_row e in
          let moved = times_next ready left n k next in now.free k u w.was w.stood (omega (arith, moved, some)) (sym w.after ∙ after)
