-- The numbers, live tasks and names after each part of a move.
use Rattle.std.proofs.Common.{◌≡◌, ◌≢◌, ◌⊎◌, ℕ, zero, suc, ◌+◌, ◌<◌, ◌≤◌, Option, Some, None, List, [], ◌∷◌, ◌++◌, length, slice_get, refl, sym, ◌∙◌, ap, subst, inl, inr, ⊎_elim, arith}
use Rattle.std.specs.Prelude.{IsSome, IfSome}
use Rattle.std.specs.Option.{is_some}
use Rattle.std.proofs.lemmas.Bool.{cases_eq, false≢true}
use Rattle.std.proofs.lemmas.Option.{none-some, same_Some, IfSome_then}
use Rattle.task_syntax.specs.declared.value.Priority.{Priority}
use Rattle.task_meaning.specs.Worths.{Accepted, Respawn}
use Rattle.pool_core.specs.Blocks.{BlockState}
use Rattle.record_core.specs.Numbers.{by_number, put_number, flat, found, HasTask}
use Rattle.record_core.specs.Journal.{started_rows, task_or, next_number, unfinished, finish_in, finish_of, IsOfTask, AreOfTasks}
use Rattle.record_core.specs.declared.rows.ActivationRow.{ActivationRow}
use Rattle.record_core.specs.declared.rows.TaskRow.{TaskRow}
use Rattle.record_core.specs.declared.rows.Cause.{Cause}
use Rattle.run_model.specs.State.{Body, Outcome, RootWord, Named, Queues, Run, next_queued}
use Rattle.run_model.specs.Step.{Request, all_queued, waiters_of, arrives, waits_or_queues, completes, draws, with_body, accepts, with_root}
use Rattle.run_model.specs.Move.{RunsAt, begins}
use Rattle.run_model.proofs.ByNumber.{length_snoc, length_put, member_at, snoc_new, snoc_cases, put_same, put_other, found_new, found_other, found_put, found_put_other, found_within, has_some}
use Rattle.run_model.proofs.NumbersInvariant.{BodyNames, Beside, NumbersHeld, IsLiveAt, Live}
use Rattle.run_model.proofs.NamesFacts.{RequestNames}
use Rattle.run_model.proofs.LiveFacts.{OneStarted, read_snoc, task_snoc, task_within, same_row, body_task, one_started, was_row, task_then, live_body, live_new, live_respawn, live_ends, live_starts}
use Rattle.run_model.proofs.QueueFacts.{numbers_drawn, numbers_queue, numbers_wait, numbers_ends, numbers_start, row_of_number, times_next, times_self}

-- a fact on what an option has
pub if_some_at : {A : Type 0} (P : A → Type 0) (o : Option A) (u : A) → IfSome o P → o ≡ Some u → P u
if_some_at P None u h e = absurd (none-some u e)
if_some_at P (Some x) u h e = subst P (same_Some x u e) h

-- what holds of whatever an option has holds of it
pub if_some_from : {A : Type 0} (P : A → Type 0) (o : Option A) → ((u : A) → o ≡ Some u → P u) → IfSome o P
if_some_from P None h = tt
if_some_from P (Some x) h = h x refl

-- one more row
of_tasks_snoc : (rows : List ActivationRow) (row : ActivationRow) → AreOfTasks rows → IsOfTask (rows ++ row ∷ []) (suc (length rows)) row → AreOfTasks (rows ++ row ∷ [])
of_tasks_snoc rows row old new n other there =
    ⊎_elim
    (λ was.
    let o = old n other was in
    record { first = o.first; of_task = task_snoc rows row other.task o.of_task; after = IfSome_then other.after o.after (λ u p. (p.0, task_snoc rows row u p.1)) })
    (λ is_new. rw (is_new.0, is_new.1) new)
    (snoc_cases rows row n other there)

-- what an activation is behind is an earlier task
pub behind_task : (rows : List ActivationRow) → AreOfTasks rows → (n u : ℕ) (row : ActivationRow) → by_number rows n ≡ Some row → row.after ≡ Some u → (u < n) × HasTask rows u
behind_task rows of_tasks n u row there after = if_some_at (λ v. (v < n) × HasTask rows v) row.after u (of_tasks n row there).after after

module _ (r : Run) (hand : List ℕ) (now : NumbersHeld r hand) where
  -- another body of a task that has one
  pub held_body : (t : ℕ) (old body : Body) → found r.bodies t ≡ Some old → ((u : ℕ) → BodyNames body u → HasTask r.journal.rows u) → NumbersHeld (with_body r t body) hand
  held_body t old body has names = record {
    beside = record {
      of_tasks = now.beside.of_tasks;
      of_calls = now.beside.of_calls;
      of_priorities = now.beside.of_priorities;
      of_outcomes = now.beside.of_outcomes;
      of_waiters = now.beside.of_waiters;
      of_bodies = length_put r.bodies t (Some body) ∙ now.beside.of_bodies;
      of_blocks = now.beside.of_blocks;
    };
    of_tasks = now.of_tasks;
    numbers = now.numbers;
    live = live_body r.journal.rows r.journal.tasks r.outcomes r.bodies r.running now.live t old body has;
    names = record { in_bodies = in_bodies; in_roots = now.names.in_roots; once = now.names.once };
  }
    where
      in_bodies : (v u : ℕ) (other : Body) → found (put_number r.bodies t (Some body)) v ≡ Some other → BodyNames other u → HasTask r.journal.rows u
      in_bodies v u other e named =
          ⊎_elim
          (λ same.
          let within = found_within r.bodies t old has in
          let is_body : body ≡ other = same_Some body other (sym (found_put r.bodies t (Some body) within.0 within.1) ∙ sym (ap (found (put_number r.bodies t (Some body))) same) ∙ e) in
          names u (subst (λ b. BodyNames b u) (sym is_body) named))
          (λ differ. now.names.in_bodies v u other (sym (found_put_other r.bodies t v (Some body) differ) ∙ e) named)
          (cases_eq v t)

-- a root without a task
pub slice_snoc : {A : Type 0} (xs : List A) (x y : A) (i : ℕ) → slice_get (xs ++ x ∷ []) i ≡ Some y → (slice_get xs i ≡ Some y) ⊎ ((i ≡ length xs) × (x ≡ y))
slice_snoc [] x y zero e = inr (refl, same_Some x y e)
slice_snoc [] x y (suc i) e = absurd (none-some y e)
slice_snoc (z ∷ xs) x y zero e = inl e
slice_snoc (z ∷ xs) x y (suc i) e = ⊎_elim (λ old. inl old) (λ new. inr (ap suc new.0, new.1)) (slice_snoc xs x y i e)

-- numbers stand still where one root more is answered
pub held_root : (r : Run) (hand : List ℕ) (word : RootWord) → NumbersHeld r hand → ((t : ℕ) → word ≡ Named t → HasTask r.journal.rows t × ((at : ℕ) → slice_get r.roots at ≡ Some (Named t) → ⊥)) → NumbersHeld (with_root r word) hand
held_root r hand word now fresh = record {
  beside = now.beside;
  of_tasks = now.of_tasks;
  numbers = now.numbers;
  live = now.live;
  names = record {
    in_bodies = now.names.in_bodies;
    in_roots = λ at t e. ⊎_elim (λ old. now.names.in_roots at t old) (λ new. (fresh t new.1).0) (slice_snoc r.roots word (Named t) at e);
    once = λ i j t e f.
        ⊎_elim
        (λ old_i. ⊎_elim (λ old_j. now.names.once i j t old_i old_j) (λ new_j. absurd ((fresh t new_j.1).1 i old_i)) (slice_snoc r.roots word (Named t) j f))
        (λ new_i. ⊎_elim (λ old_j. absurd ((fresh t new_i.1).1 j old_j)) (λ new_j. new_i.0 ∙ sym new_j.0) (slice_snoc r.roots word (Named t) j f))
        (slice_snoc r.roots word (Named t) i e);
  };
}

-- all lists are one longer
beside_drawn : (r : Run) (hand : List ℕ) (task after : Option ℕ) (priority : Priority) (call : Accepted) (body : Option Body) (block : Option BlockState) → NumbersHeld r hand
    → let s = draws r task after priority call body block in Beside s.journal s.calls s.priorities s.outcomes s.waiters s.bodies s.blocks
beside_drawn r hand task after priority call body block now =
    let row : ActivationRow = record { task = task_or task (next_number r.journal); after = after; start = None } in
    let rows = length_snoc r.journal.rows row in record {
      of_tasks = length_snoc r.journal.tasks unfinished ∙ ap suc now.beside.of_tasks ∙ sym rows;
      of_calls = length_snoc r.calls call ∙ ap suc now.beside.of_calls ∙ sym rows;
      of_priorities = length_snoc r.priorities priority ∙ ap suc now.beside.of_priorities ∙ sym rows;
      of_outcomes = length_snoc r.outcomes None ∙ ap suc now.beside.of_outcomes ∙ sym rows;
      of_waiters = length_snoc r.waiters [] ∙ ap suc now.beside.of_waiters ∙ sym rows;
      of_bodies = length_snoc r.bodies body ∙ ap suc now.beside.of_bodies ∙ sym rows;
      of_blocks = length_snoc r.blocks block ∙ ap suc now.beside.of_blocks ∙ sym rows;
    }

-- a new task is drawn, and its number is in the hand
pub held_drawn : (units : ℕ) (r : Run) (request : Request) (block : BlockState) → NumbersHeld r [] → ((u : ℕ) → RequestNames request u → HasTask r.journal.rows u)
    → NumbersHeld (accepts units r request block) (next_number r.journal ∷ [])
held_drawn units r request block now names = record {
  beside = beside_drawn r [] None request.after request.priority request.call (Some request.body) (Some block) now;
  of_tasks = of_tasks_snoc r.journal.rows row now.of_tasks (record {
    first = omega arith;
    of_task = (row, snoc_new r.journal.rows row, refl);
    after = if_some_from (λ u. (u < next_number r.journal) × HasTask (r.journal.rows ++ row ∷ []) u) request.after (λ u e. let task = names u (inr e) in (omega (arith, (task_within r.journal.rows u task).1), task_snoc r.journal.rows row u task));
  });
  numbers = numbers_drawn r.journal.rows r.journal.tasks r.waiters r.ready row refl now.numbers;
  live = live_new r.journal.rows r.journal.tasks r.outcomes r.bodies r.running now.live row refl now.of_tasks now.beside.of_tasks now.beside.of_outcomes now.beside.of_bodies request.body refl;
  names = record {
    in_bodies = in_bodies;
    in_roots = λ at t e. task_snoc r.journal.rows row t (now.names.in_roots at t e);
    once = now.names.once;
  };
}
  where
    row : ActivationRow
    row = record { task = next_number r.journal; after = request.after; start = None }

    in_bodies : (t u : ℕ) (body : Body) → found (r.bodies ++ Some request.body ∷ []) t ≡ Some body → BodyNames body u → HasTask (r.journal.rows ++ row ∷ []) u
    in_bodies t u body e named =
        ⊎_elim
        (λ same. let is_body : request.body ≡ body = same_Some request.body body (sym (found_new r.bodies (Some request.body) t same) ∙ e) in
        task_snoc r.journal.rows row u (names u (inl (subst (λ b. BodyNames b u) (sym is_body) named))))
        (λ differ. task_snoc r.journal.rows row u (now.names.in_bodies t u body (sym (found_other r.bodies (Some request.body) t differ) ∙ e) named))
        (cases_eq t (suc (length r.bodies)))

-- a further activation of the running task is drawn, and the task stands at another body
pub held_renewed : (r : Run) (t m : ℕ) (old to : Body) (after : Option ℕ) (priority : Priority) → NumbersHeld r [] → RunsAt r t m old → ((u : ℕ) → BodyNames to u ⊎ (after ≡ Some u) → HasTask r.journal.rows u)
    → NumbersHeld (with_body (record (draws r (Some t) after priority (Respawn t after) None None) { running = None }) t to) (next_number r.journal ∷ [])
held_renewed r t m old to after priority now runs names = record {
  beside = let b = beside_drawn r [] (Some t) after priority (Respawn t after) None None now in record {
    of_tasks = b.of_tasks;
    of_calls = b.of_calls;
    of_priorities = b.of_priorities;
    of_outcomes = b.of_outcomes;
    of_waiters = b.of_waiters;
    of_bodies = length_put (r.bodies ++ None ∷ []) t (Some to) ∙ b.of_bodies;
    of_blocks = b.of_blocks;
  };
  of_tasks = of_tasks_snoc r.journal.rows row now.of_tasks (record {
    first = omega (arith, (task_within r.journal.rows t is_task).1);
    of_task = task_snoc r.journal.rows row t is_task;
    after = if_some_from (λ u. (u < next_number r.journal) × HasTask (r.journal.rows ++ row ∷ []) u) after (λ u e. let task = names u (inr e) in (omega (arith, (task_within r.journal.rows u task).1), task_snoc r.journal.rows row u task));
  });
  numbers = numbers_drawn r.journal.rows r.journal.tasks r.waiters r.ready row refl now.numbers;
  live = live_respawn r.journal.rows r.journal.tasks r.outcomes r.bodies r.running now.live row refl now.of_tasks now.beside.of_tasks now.beside.of_outcomes now.beside.of_bodies t m runs.row old to runs.running runs.there runs.of_task runs.has refl;
  names = record {
    in_bodies = in_bodies;
    in_roots = λ at u e. task_snoc r.journal.rows row u (now.names.in_roots at u e);
    once = now.names.once;
  };
}
  where
    row : ActivationRow
    row = record { task = t; after = after; start = None }

    is_task : HasTask r.journal.rows t
    is_task = (body_task r.journal.rows r.journal.tasks r.outcomes r.bodies r.running now.live t old runs.has).0

    in_bodies : (v u : ℕ) (body : Body) → found (put_number (r.bodies ++ None ∷ []) t (Some to)) v ≡ Some body → BodyNames body u → HasTask (r.journal.rows ++ row ∷ []) u
    in_bodies v u body e named =
        ⊎_elim
        (λ same.
        let within = task_within r.journal.rows t is_task in
        let here = found_put (r.bodies ++ None ∷ []) t (Some to) within.0 (omega (arith, within.1, length_snoc r.bodies None, now.beside.of_bodies)) in
        let is_body : to ≡ body = same_Some to body (sym here ∙ sym (ap (found (put_number (r.bodies ++ None ∷ []) t (Some to))) same) ∙ e) in
        task_snoc r.journal.rows row u (names u (inl (subst (λ b. BodyNames b u) (sym is_body) named))))
        (λ differ. task_snoc r.journal.rows row u (now.names.in_bodies v u body (sym (read_snoc flat r.bodies None refl v) ∙ sym (found_put_other (r.bodies ++ None ∷ []) t v (Some to) differ) ∙ e) named))
        (cases_eq v t)

-- a number in the hand joins its queue, or the waiters of the task that it is behind
pub held_arrives : (r : Run) (n : ℕ) (after : Option ℕ) (row : ActivationRow) → NumbersHeld r (n ∷ []) → by_number r.journal.rows n ≡ Some row → row.after ≡ after → NumbersHeld (arrives r n after) []
held_arrives r n after row now there is_after = by after is_after
  where
    queue : ((u : ℕ) → row.after ≡ Some u → IsSome (finish_of r.journal.tasks u)) → NumbersHeld (record r { ready = all_queued r.priorities (n ∷ []) r.ready }) []
    queue free = record {
      beside = now.beside;
      of_tasks = now.of_tasks;
      live = now.live;
      names = now.names;
      numbers = numbers_queue r.journal.rows r.journal.tasks r.waiters r.ready r.priorities n row there free now.numbers;
    }

    behind : (u : ℕ) → row.after ≡ Some u → (o : Option Outcome) → found r.outcomes u ≡ o → NumbersHeld (waits_or_queues o r n u) []
    behind u e None none = record {
      beside = record {
        of_tasks = now.beside.of_tasks;
        of_calls = now.beside.of_calls;
        of_priorities = now.beside.of_priorities;
        of_outcomes = now.beside.of_outcomes;
        of_waiters = length_put r.waiters u (n ∷ waiters_of r.waiters u) ∙ now.beside.of_waiters;
        of_bodies = now.beside.of_bodies;
        of_blocks = now.beside.of_blocks;
      };
      of_tasks = now.of_tasks;
      live = now.live;
      names = now.names;
      numbers = numbers_wait r.journal.rows r.journal.tasks r.waiters r.ready n u row there e is_open within.0 (omega (arith, within.1, now.beside.of_waiters)) now.numbers;
    }
      where
        within : (1 ≤ u) × (u ≤ length r.journal.rows)
        within = task_within r.journal.rows u (behind_task r.journal.rows now.of_tasks n u row there e).1

        is_open : finish_of r.journal.tasks u ≡ None
        is_open = by_finish (finish_of r.journal.tasks u) refl
          where
            by_finish : (o : Option ℕ) → finish_of r.journal.tasks u ≡ o → o ≡ None
            by_finish None f = refl
            by_finish (Some s) f = absurd (false≢true (sym (ap is_some none) ∙ (now.live.has_outcome u).1 (ap is_some f)))
    behind u e (Some outcome) some = queue (λ v f. (now.live.has_outcome v).0 (ap is_some (ap (found r.outcomes) (same_Some v u (sym f ∙ e)) ∙ some)))

    by : (after : Option ℕ) → row.after ≡ after → NumbersHeld (arrives r n after) []
    by None e = queue (λ u f. absurd (none-some u (sym e ∙ f)))
    by (Some u) e = behind u e (found r.outcomes u) refl

-- the running task ends
pub held_ends : (r : Run) (t m : ℕ) (old : Body) (outcome : Outcome) (why : Cause) → NumbersHeld r [] → RunsAt r t m old → NumbersHeld (completes r t outcome why) []
held_ends r t m old outcome why now runs = record {
  beside = record {
    of_tasks = length_put r.journal.tasks t finished ∙ now.beside.of_tasks;
    of_calls = now.beside.of_calls;
    of_priorities = now.beside.of_priorities;
    of_outcomes = length_put r.outcomes t (Some outcome) ∙ now.beside.of_outcomes;
    of_waiters = length_put r.waiters t [] ∙ now.beside.of_waiters;
    of_bodies = length_put r.bodies t None ∙ now.beside.of_bodies;
    of_blocks = now.beside.of_blocks;
  };
  of_tasks = now.of_tasks;
  numbers = numbers_ends r.journal.rows r.journal.tasks r.waiters r.ready r.priorities t (r.journal.stamps + 1) (put_number r.journal.tasks t finished) here others within.0 (omega (arith, within.1, now.beside.of_waiters)) now.numbers;
  live = live_ends r.journal.rows r.journal.tasks r.outcomes r.bodies r.running now.live t m runs.row old outcome (r.journal.stamps + 1) why runs.running runs.there runs.of_task runs.has now.beside.of_tasks now.beside.of_outcomes now.beside.of_bodies;
  names = record { in_bodies = in_bodies; in_roots = now.names.in_roots; once = now.names.once };
}
  where
    finished : TaskRow
    finished = record { finish = Some (r.journal.stamps + 1); cause = why }

    within : (1 ≤ t) × (t ≤ length r.journal.rows)
    within = task_within r.journal.rows t (body_task r.journal.rows r.journal.tasks r.outcomes r.bodies r.running now.live t old runs.has).0

    here : finish_of (put_number r.journal.tasks t finished) t ≡ Some (r.journal.stamps + 1)
    here = let (was, there) = member_at r.journal.tasks t within.0 (omega (arith, within.1, now.beside.of_tasks)) in ap finish_in (put_same r.journal.tasks t was finished there)

    others : (u : ℕ) → u ≢ t → finish_of (put_number r.journal.tasks t finished) u ≡ finish_of r.journal.tasks u
    others u differ = ap finish_in (put_other r.journal.tasks t u finished differ)

    in_bodies : (v u : ℕ) (body : Body) → found (put_number r.bodies t None) v ≡ Some body → BodyNames body u → HasTask r.journal.rows u
    in_bodies v u body e named =
        ⊎_elim
        (λ same. absurd (none-some body (sym (found_put r.bodies t None within.0 (omega (arith, within.1, now.beside.of_bodies))) ∙ sym (ap (found (put_number r.bodies t None)) same) ∙ e)))
        (λ differ. now.names.in_bodies v u body (sym (found_put_other r.bodies t v None differ) ∙ e) named)
        (cases_eq v t)

-- the number that is taken from the queues has a row, without a start
pub next_row : (r : Run) (hand : List ℕ) (n : ℕ) (left : Queues) → NumbersHeld r hand → next_queued r.ready ≡ Some (n, left) → (row : ActivationRow) × (by_number r.journal.rows n ≡ Some row) × (row.start ≡ None)
next_row r hand n left now next = row_of_number (by_number r.journal.rows n) (let moved = times_next r.ready left n n next in let once = times_self n in omega (arith, moved, once, now.numbers.each n))

-- it starts
pub held_starts : (r : Run) (n : ℕ) (left : Queues) → NumbersHeld r [] → r.running ≡ None → next_queued r.ready ≡ Some (n, left) → NumbersHeld (begins r n left) []
held_starts r n left now idle next = record {
  beside = record {
    of_tasks = now.beside.of_tasks ∙ sym as_long;
    of_calls = now.beside.of_calls ∙ sym as_long;
    of_priorities = now.beside.of_priorities ∙ sym as_long;
    of_outcomes = now.beside.of_outcomes ∙ sym as_long;
    of_waiters = now.beside.of_waiters ∙ sym as_long;
    of_bodies = now.beside.of_bodies ∙ sym as_long;
    of_blocks = now.beside.of_blocks ∙ sym as_long;
  };
  of_tasks = of_tasks;
  numbers = numbers_start r.journal.rows r.journal.tasks r.waiters r.ready n (r.journal.stamps + 1) row.0 left rows' row.1 started next now.numbers;
  live = live_starts r.journal.rows rows' n (r.journal.stamps + 1) row.0 row.1 started r.journal.tasks r.outcomes r.bodies row.2 (subst (Live r.journal.rows r.journal.tasks r.outcomes r.bodies) idle now.live);
  names = record {
    in_bodies = λ t u body e named. then u (now.names.in_bodies t u body e named);
    in_roots = λ at t e. then t (now.names.in_roots at t e);
    once = now.names.once;
  };
}
  where
    rows' : List ActivationRow
    rows' = started_rows r.journal.rows n (r.journal.stamps + 1) (by_number r.journal.rows n)

    row : (row : ActivationRow) × (by_number r.journal.rows n ≡ Some row) × (row.start ≡ None)
    row = next_row r [] n left now next

    started : OneStarted r.journal.rows n (r.journal.stamps + 1) row.0 rows'
    started = one_started r.journal.rows n (r.journal.stamps + 1) row.0 row.1

    as_long : length rows' ≡ length r.journal.rows
    as_long = by (by_number r.journal.rows n)
      where
        by : (o : Option ActivationRow) → length (started_rows r.journal.rows n (r.journal.stamps + 1) o) ≡ length r.journal.rows
        by None = refl
        by (Some was) = length_put r.journal.rows n (record was { start = Some (r.journal.stamps + 1) })

    then : (u : ℕ) → HasTask r.journal.rows u → HasTask rows' u
    then u = task_then r.journal.rows rows' n (r.journal.stamps + 1) row.0 row.1 started u

    of_tasks : AreOfTasks rows'
    of_tasks k other e =
        let w = was_row r.journal.rows rows' n (r.journal.stamps + 1) row.0 row.1 started k other e in
        let old = now.of_tasks k w.was w.stood in
        record {
          first = omega (arith, old.first, w.task);
          of_task = subst (HasTask rows') (sym w.task) (then w.was.task old.of_task);
          after = subst (λ o. IfSome o (λ u. (u < k) × HasTask rows' u)) (sym w.after) (IfSome_then w.was.after old.after (λ u p. (p.0, then u p.1)));
        }

-- the row that starts has a task with a body
pub started_runs : (r : Run) (n : ℕ) (left : Queues) (row : ActivationRow) → NumbersHeld r [] → r.running ≡ None → next_queued r.ready ≡ Some (n, left) → by_number r.journal.rows n ≡ Some row → (body : Body) × RunsAt (begins r n left) row.task n body
started_runs r n left row now idle next there =
    let was = next_row r [] n left now next in
    let is_row : row ≡ was.0 = same_row r.journal.rows n row was.0 there was.1 in
    let waits : row.start ≡ None = ap (λ (k : ActivationRow). k.start) is_row ∙ was.2 in
    let is_live : IsLiveAt r.journal.rows r.running row.task n row = record { there = there; of_task = refl; live = inl waits } in
    let task = (now.of_tasks n row there).of_task in
    let (body, has) = has_some (found r.bodies row.task) ((now.live.has_body row.task task).1 (now.live.is_open row.task n row is_live)) in
    let started = one_started r.journal.rows n (r.journal.stamps + 1) row there in
    (body, record { row = record row { start = Some (r.journal.stamps + 1) }; running = refl; there = started.here; of_task = refl; has = has })
