-- Which number of a task is live, while numbers are drawn, begin, and tasks end.
use Rattle.std.proofs.Common.{◌≡◌, ◌≢◌, ◌⊎◌, ◌↔◌, ℕ, suc, ◌≤◌, Option, Some, None, List, [], ◌∷◌, ◌++◌, length, refl, sym, ◌∙◌, ap, inl, inr, ⊎_elim, arith}
use Rattle.std.specs.Prelude.{IsSome}
use Rattle.std.specs.Option.{is_some}
use Rattle.std.proofs.lemmas.Bool.{cases_eq, false≢true}
use Rattle.std.proofs.lemmas.Option.{none-some, same_Some}
use Rattle.record_core.specs.Numbers.{by_number, put_number, found, HasTask}
use Rattle.record_core.specs.Journal.{finish_in, finish_of, unfinished, AreOfTasks, started_rows}
use Rattle.record_core.specs.declared.rows.ActivationRow.{ActivationRow}
use Rattle.record_core.specs.declared.rows.TaskRow.{TaskRow}
use Rattle.record_core.specs.declared.rows.Cause.{Cause}
use Rattle.run_model.specs.State.{Body, Outcome}
use Rattle.run_model.proofs.ByNumber.{number_within, snoc_new, snoc_old, snoc_other, snoc_cases, put_same, put_other, found_new, found_other, found_put, found_put_other, found_past, member_at}
use Rattle.run_model.proofs.NumbersInvariant.{IsLiveAt, Live}

-- what is read of a number is the same, where the new member reads as none does
pub read_snoc : {A B : Type 0} (f : Option A → B) (xs : List A) (x : A) → f (Some x) ≡ f None → (n : ℕ) → f (by_number (xs ++ x ∷ []) n) ≡ f (by_number xs n)
read_snoc f xs x same n =
    ⊎_elim
    (λ e. ap (λ m. f (by_number (xs ++ x ∷ []) m)) e ∙ ap f (snoc_new xs x) ∙ same ∙ sym (ap f (past xs)) ∙ sym (ap (λ m. f (by_number xs m)) e))
    (λ differ. ap f (snoc_other xs x n differ))
    (cases_eq n (suc (length xs)))
  where
    past : {A : Type 0} (xs : List A) → by_number xs (suc (length xs)) ≡ None
    past xs = Rattle.std.proofs.lemmas.Option.slice_get_past xs (length xs) (omega arith)

-- a new task leaves each finish
pub finish_snoc : (tasks : List TaskRow) (t : ℕ) → finish_of (tasks ++ unfinished ∷ []) t ≡ finish_of tasks t
finish_snoc tasks t = read_snoc finish_in tasks unfinished refl t

-- a new task leaves each outcome
pub outcome_snoc : (outcomes : List (Option Outcome)) (t : ℕ) → found (outcomes ++ None ∷ []) t ≡ found outcomes t
outcome_snoc outcomes t = read_snoc Rattle.record_core.specs.Numbers.flat outcomes None refl t

-- a task is one still, with one row more
pub task_snoc : (rows : List ActivationRow) (row : ActivationRow) (t : ℕ) → HasTask rows t → HasTask (rows ++ row ∷ []) t
task_snoc rows row t (old, there, e) = (old, snoc_old rows row t old there, e)

-- a task was one before, unless the new row begins it
pub task_old : (rows : List ActivationRow) (row : ActivationRow) (t : ℕ) → t ≢ suc (length rows) → HasTask (rows ++ row ∷ []) t → HasTask rows t
task_old rows row t differ (old, there, e) = (old, sym (snoc_other rows row t differ) ∙ there, e)

-- a task's number is one of the rows
pub task_within : (rows : List ActivationRow) (t : ℕ) → HasTask rows t → (1 ≤ t) × (t ≤ length rows)
task_within rows t (row, there, e) = number_within rows t row there

-- two rows at one number
pub same_row : (rows : List ActivationRow) (n : ℕ) (one other : ActivationRow) → by_number rows n ≡ Some one → by_number rows n ≡ Some other → one ≡ other
same_row rows n one other e f = same_Some one other (sym e ∙ f)

same_task : (one other : ActivationRow) → one ≡ other → one.task ≡ other.task
same_task one other e = ap (λ (row : ActivationRow). row.task) e

-- a live number among one more row
pub live_snoc_cases : (rows : List ActivationRow) (row : ActivationRow) (running : Option ℕ) (t n : ℕ) (other : ActivationRow) → IsLiveAt (rows ++ row ∷ []) running t n other
    → IsLiveAt rows running t n other ⊎ ((n ≡ suc (length rows)) × (other ≡ row))
live_snoc_cases rows row running t n other now = ⊎_elim (λ old. inl (record { there = old; of_task = now.of_task; live = now.live })) (λ new. inr new) (snoc_cases rows row n other now.there)

module _ (rows : List ActivationRow) (tasks : List TaskRow) (outcomes : List (Option Outcome)) (bodies : List (Option Body)) (running : Option ℕ) (live : Live rows tasks outcomes bodies running) where
  -- a task that has a body is a task, and unfinished
  pub body_task : (t : ℕ) (body : Body) → found bodies t ≡ Some body → HasTask rows t × (finish_of tasks t ≡ None)
  body_task t body e = let task = live.of_task t (ap is_some e) in (task, (live.has_body t task).0 (ap is_some e))

  -- two live numbers of one task are one
  pub one_live : (t n m : ℕ) (row other : ActivationRow) → IsLiveAt rows running t n row → IsLiveAt rows running t m other → n ≡ m
  one_live t n m row other first second =
      let below = live.last t n m row other first second.there second.of_task in
      let above = live.last t m n other row second first.there first.of_task in omega arith

  -- nothing runs, so a live number waits
  waits : {u n : ℕ} {other : ActivationRow} → IsLiveAt rows None u n other → other.start ≡ None
  waits {n = n} now = ⊎_elim (λ start. start) (λ runs. absurd (none-some n runs)) now.live

  -- a live number is live still, whatever runs
  pub was_live : (u n : ℕ) (other : ActivationRow) → IsLiveAt rows None u n other → IsLiveAt rows running u n other
  was_live u n other now = record { there = now.there; of_task = now.of_task; live = inl (waits now) }

  -- while activation m of task t runs
  module _ (t m : ℕ) (now_row : ActivationRow) (runs_m : running ≡ Some m) (there_m : by_number rows m ≡ Some now_row) (task_m : now_row.task ≡ t) where
    -- the running number is the live one of its task
    pub running_live : IsLiveAt rows running t m now_row
    running_live = record { there = there_m; of_task = task_m; live = inr runs_m }

    -- a live number of another task waits
    pub not_running : (u n : ℕ) (other : ActivationRow) → u ≢ t → IsLiveAt rows running u n other → other.start ≡ None
    not_running u n other differ now = ⊎_elim (λ start. start) (λ runs. absurd (differ (sym now.of_task ∙ same_task other now_row (is_row (same_Some n m (sym runs ∙ runs_m))) ∙ task_m))) now.live
      where
        is_row : n ≡ m → other ≡ now_row
        is_row same = same_row rows m other now_row (sym (ap (by_number rows) same) ∙ now.there) there_m

    -- no number of the task waits
    pub no_wait : (n : ℕ) (other : ActivationRow) → by_number rows n ≡ Some other → other.start ≡ None → other.task ≡ t → ⊥
    no_wait n other there start e =
        let same : n ≡ m = one_live t n m other now_row (record { there = there; of_task = e; live = inl start }) running_live in
        let (row, there_row, some) = live.runs m runs_m in
        let is_row : row ≡ other = same_row rows m row other there_row (sym (ap (by_number rows) same) ∙ there) in
        false≢true (sym (ap is_some (ap (λ (r : ActivationRow). r.start) is_row ∙ start)) ∙ some)

  -- bodies of the same tasks
  pub live_bodies : (bodies' : List (Option Body)) → ((t : ℕ) → is_some (found bodies' t) ≡ is_some (found bodies t)) → Live rows tasks outcomes bodies' running
  live_bodies bodies' same = record {
    of_task = λ t some. live.of_task t (sym (same t) ∙ some);
    has_body = λ t task. (λ some. (live.has_body t task).0 (sym (same t) ∙ some), λ none. same t ∙ (live.has_body t task).1 none);
    has_outcome = live.has_outcome;
    current = live.current;
    is_open = live.is_open;
    last = live.last;
    runs = live.runs;
  }

  -- another body of a task that has one
  pub live_body : (t : ℕ) (old body : Body) → found bodies t ≡ Some old → Live rows tasks outcomes (put_number bodies t (Some body)) running
  live_body t old body e = live_bodies (put_number bodies t (Some body)) (λ u. ⊎_elim (λ same. at u same) (λ differ. ap is_some (found_put_other bodies t u (Some body) differ)) (cases_eq u t))
    where
      at : (u : ℕ) → u ≡ t → is_some (found (put_number bodies t (Some body)) u) ≡ is_some (found bodies u)
      at u same =
          let within = Rattle.run_model.proofs.ByNumber.found_within bodies t old e in
          ap (λ v. is_some (found (put_number bodies t (Some body)) v)) same ∙ ap is_some (found_put bodies t (Some body) within.0 within.1) ∙ sym (ap is_some e) ∙ sym (ap (λ v. is_some (found bodies v)) same)

  -- a new row without a start
  module _ (row : ActivationRow) (waiting : row.start ≡ None) (of_tasks : AreOfTasks rows) (as_tasks : length tasks ≡ length rows) (as_outcomes : length outcomes ≡ length rows) (as_bodies : length bodies ≡ length rows) where
    live_old : (running' : Option ℕ) (t n : ℕ) (other : ActivationRow) → IsLiveAt rows running' t n other → IsLiveAt (rows ++ row ∷ []) running' t n other
    live_old running' t n other now = record { there = snoc_old rows row n other now.there; of_task = now.of_task; live = now.live }

    live_cases : (running' : Option ℕ) (t n : ℕ) (other : ActivationRow) → IsLiveAt (rows ++ row ∷ []) running' t n other → IsLiveAt rows running' t n other ⊎ ((n ≡ suc (length rows)) × (other ≡ row))
    live_cases running' t n other now = ⊎_elim (λ old. inl (record { there = old; of_task = now.of_task; live = now.live })) (λ new. inr new) (snoc_cases rows row n other now.there)

    live_new_row : (t : ℕ) → row.task ≡ t → (running' : Option ℕ) → IsLiveAt (rows ++ row ∷ []) running' t (suc (length rows)) row
    live_new_row t e running' = record { there = snoc_new rows row; of_task = e; live = inl waiting }

    task_of_row : (n : ℕ) (other : ActivationRow) → by_number rows n ≡ Some other → (1 ≤ other.task) × (other.task ≤ length rows)
    task_of_row n other there = task_within rows other.task (of_tasks n other there).of_task

    -- it is of a new task, which has a body
    pub live_new : (body : Body) → row.task ≡ suc (length rows) → Live (rows ++ row ∷ []) (tasks ++ unfinished ∷ []) (outcomes ++ None ∷ []) (bodies ++ Some body ∷ []) running
    live_new body is_new = record { of_task = of_task; has_body = has_body; has_outcome = has_outcome; current = current; is_open = is_open; last = last; runs = runs }
      where
        past : (t : ℕ) → t ≡ suc (length rows) → finish_of tasks t ≡ None
        past t e = ap finish_in (ap (by_number tasks) e ∙ Rattle.std.proofs.lemmas.Option.slice_get_past tasks (length rows) (omega arith))

        body_other : (t : ℕ) → t ≢ suc (length rows) → found (bodies ++ Some body ∷ []) t ≡ found bodies t
        body_other t differ = found_other bodies (Some body) t (λ e. differ (e ∙ ap suc as_bodies))

        of_task : (t : ℕ) → IsSome (found (bodies ++ Some body ∷ []) t) → HasTask (rows ++ row ∷ []) t
        of_task t some =
            ⊎_elim (λ same. (row, ap (by_number (rows ++ row ∷ [])) same ∙ snoc_new rows row, is_new ∙ sym same))
            (λ differ. task_snoc rows row t (live.of_task t (sym (ap is_some (body_other t differ)) ∙ some))) (cases_eq t (suc (length rows)))

        has_body : (t : ℕ) → HasTask (rows ++ row ∷ []) t → IsSome (found (bodies ++ Some body ∷ []) t) ↔ (finish_of (tasks ++ unfinished ∷ []) t ≡ None)
        has_body t task =
            ⊎_elim (λ same. (λ some. finish_snoc tasks t ∙ past t same, λ none. ap is_some (found_new bodies (Some body) t (same ∙ sym (ap suc as_bodies)))))
            (λ differ. let old = live.has_body t (task_old rows row t differ task) in (λ some. finish_snoc tasks t ∙ old.0 (sym (ap is_some (body_other t differ)) ∙ some), λ none. ap is_some (body_other t differ) ∙ old.1 (sym (finish_snoc tasks t) ∙ none)))
            (cases_eq t (suc (length rows)))

        has_outcome : (t : ℕ) → IsSome (found (outcomes ++ None ∷ []) t) ↔ IsSome (finish_of (tasks ++ unfinished ∷ []) t)
        has_outcome t = let old = live.has_outcome t in (λ some. ap is_some (finish_snoc tasks t) ∙ old.0 (sym (ap is_some (outcome_snoc outcomes t)) ∙ some), λ some. ap is_some (outcome_snoc outcomes t) ∙ old.1 (sym (ap is_some (finish_snoc tasks t)) ∙ some))

        current : (t : ℕ) → HasTask (rows ++ row ∷ []) t → finish_of (tasks ++ unfinished ∷ []) t ≡ None → (n : ℕ) × (other : ActivationRow) × IsLiveAt (rows ++ row ∷ []) running t n other
        current t task none =
            ⊎_elim (λ same. (suc (length rows), row, live_new_row t (is_new ∙ sym same) running))
            (λ differ. let (n, other, now) = live.current t (task_old rows row t differ task) (sym (finish_snoc tasks t) ∙ none) in (n, other, live_old running t n other now))
            (cases_eq t (suc (length rows)))

        is_open : (t n : ℕ) (other : ActivationRow) → IsLiveAt (rows ++ row ∷ []) running t n other → finish_of (tasks ++ unfinished ∷ []) t ≡ None
        is_open t n other now =
            finish_snoc tasks t ∙ ⊎_elim (λ old. live.is_open t n other old) (λ new. past t (sym now.of_task ∙ same_task other row new.1 ∙ is_new)) (live_cases running t n other now)

        last : (t n m : ℕ) (one other : ActivationRow) → IsLiveAt (rows ++ row ∷ []) running t n one → by_number (rows ++ row ∷ []) m ≡ Some other → other.task ≡ t → m ≤ n
        last t n m one other now there e =
            ⊎_elim
            (λ old. ⊎_elim (λ old_m. live.last t n m one other old old_m e)
            (λ new_m. let within = task_of_row n one old.there in absurd (omega (arith, within.1, old.of_task, e, same_task other row new_m.1, is_new))) (snoc_cases rows row m other there))
            (λ new. let within = number_within (rows ++ row ∷ []) m other there in omega (arith, within.1, new.0, Rattle.run_model.proofs.ByNumber.length_snoc rows row))
            (live_cases running t n one now)

        runs : (n : ℕ) → running ≡ Some n → (other : ActivationRow) × (by_number (rows ++ row ∷ []) n ≡ Some other) × IsSome other.start
        runs n e = let (other, there, some) = live.runs n e in (other, snoc_old rows row n other there, some)

    -- it is of the task that runs, whose activation ends, and which goes on from another body
    pub live_respawn : (t m : ℕ) (now_row : ActivationRow) (old to : Body) → running ≡ Some m → by_number rows m ≡ Some now_row → now_row.task ≡ t → found bodies t ≡ Some old → row.task ≡ t
        → Live (rows ++ row ∷ []) (tasks ++ unfinished ∷ []) (outcomes ++ None ∷ []) (put_number (bodies ++ None ∷ []) t (Some to)) None
    live_respawn t m now_row old to runs_m there_m task_m has_old is_t = record { of_task = of_task; has_body = has_body; has_outcome = has_outcome; current = current; is_open = is_open; last = last; runs = λ n e. absurd (none-some n e) }
      where
        is_task : HasTask rows t × (finish_of tasks t ≡ None)
        is_task = body_task t old has_old

        within : (1 ≤ t) × (t ≤ length rows)
        within = task_within rows t is_task.0

        body_here : found (put_number (bodies ++ None ∷ []) t (Some to)) t ≡ Some to
        body_here = found_put (bodies ++ None ∷ []) t (Some to) within.0 (omega (arith, Rattle.run_model.proofs.ByNumber.length_snoc bodies None, within.1, as_bodies))

        body_other : (u : ℕ) → u ≢ t → found (put_number (bodies ++ None ∷ []) t (Some to)) u ≡ found bodies u
        body_other u differ = found_put_other (bodies ++ None ∷ []) t u (Some to) differ ∙ read_snoc Rattle.record_core.specs.Numbers.flat bodies None refl u

        task_here : (u : ℕ) → HasTask (rows ++ row ∷ []) u → HasTask rows u
        task_here u task = task_old rows row u (not_new u task) task
          where
            not_new : (u : ℕ) → HasTask (rows ++ row ∷ []) u → u ≢ suc (length rows)
            not_new u (other, there, e) same =
                let is_row : other ≡ row = same_row (rows ++ row ∷ []) u other row there (ap (by_number (rows ++ row ∷ [])) same ∙ snoc_new rows row) in
                absurd (omega (arith, within.1, same_task other row is_row, e, is_t))

        of_task : (u : ℕ) → IsSome (found (put_number (bodies ++ None ∷ []) t (Some to)) u) → HasTask (rows ++ row ∷ []) u
        of_task u some =
            ⊎_elim (λ same. rw same (task_snoc rows row t is_task.0))
            (λ differ. task_snoc rows row u (live.of_task u (sym (ap is_some (body_other u differ)) ∙ some))) (cases_eq u t)

        has_body : (u : ℕ) → HasTask (rows ++ row ∷ []) u → IsSome (found (put_number (bodies ++ None ∷ []) t (Some to)) u) ↔ (finish_of (tasks ++ unfinished ∷ []) u ≡ None)
        has_body u task =
            ⊎_elim (λ same. (λ some. finish_snoc tasks u ∙ ap (finish_of tasks) same ∙ is_task.1, λ none. ap (λ v. is_some (found (put_number (bodies ++ None ∷ []) t (Some to)) v)) same ∙ ap is_some body_here))
            (λ differ. let iff = live.has_body u (task_here u task) in (λ some. finish_snoc tasks u ∙ iff.0 (sym (ap is_some (body_other u differ)) ∙ some), λ none. ap is_some (body_other u differ) ∙ iff.1 (sym (finish_snoc tasks u) ∙ none)))
            (cases_eq u t)

        has_outcome : (u : ℕ) → IsSome (found (outcomes ++ None ∷ []) u) ↔ IsSome (finish_of (tasks ++ unfinished ∷ []) u)
        has_outcome u = let iff = live.has_outcome u in (λ some. ap is_some (finish_snoc tasks u) ∙ iff.0 (sym (ap is_some (outcome_snoc outcomes u)) ∙ some), λ some. ap is_some (outcome_snoc outcomes u) ∙ iff.1 (sym (ap is_some (finish_snoc tasks u)) ∙ some))

        current : (u : ℕ) → HasTask (rows ++ row ∷ []) u → finish_of (tasks ++ unfinished ∷ []) u ≡ None → (n : ℕ) × (other : ActivationRow) × IsLiveAt (rows ++ row ∷ []) None u n other
        current u task none =
            ⊎_elim (λ same. (suc (length rows), row, live_new_row u (is_t ∙ sym same) None))
            (λ differ. let (n, other, now) = live.current u (task_here u task) (sym (finish_snoc tasks u) ∙ none) in (n, other, live_old None u n other (record { there = now.there; of_task = now.of_task; live = inl (not_running t m now_row runs_m there_m task_m u n other differ now) })))
            (cases_eq u t)

        is_open : (u n : ℕ) (other : ActivationRow) → IsLiveAt (rows ++ row ∷ []) None u n other → finish_of (tasks ++ unfinished ∷ []) u ≡ None
        is_open u n other now = finish_snoc tasks u ∙ ⊎_elim (λ old. live.is_open u n other (was_live u n other old)) (λ new. ap (finish_of tasks) (sym now.of_task ∙ same_task other row new.1 ∙ is_t) ∙ is_task.1) (live_cases None u n other now)

        last : (u n k : ℕ) (one other : ActivationRow) → IsLiveAt (rows ++ row ∷ []) None u n one → by_number (rows ++ row ∷ []) k ≡ Some other → other.task ≡ u → k ≤ n
        last u n k one other now there e =
            ⊎_elim
            (λ old. ⊎_elim (λ old_k. live.last u n k one other (was_live u n one old) old_k e)
            (λ new_k. absurd (no_wait t m now_row runs_m there_m task_m n one old.there (waits old) (old.of_task ∙ sym e ∙ same_task other row new_k.1 ∙ is_t))) (snoc_cases rows row k other there))
            (λ new. let within_k = number_within (rows ++ row ∷ []) k other there in omega (arith, within_k.1, new.0, Rattle.run_model.proofs.ByNumber.length_snoc rows row))
            (live_cases None u n one now)

  -- the task that runs ends
  pub live_ends : (t m : ℕ) (now_row : ActivationRow) (old : Body) (outcome : Outcome) (stamp : ℕ) (why : Cause) → running ≡ Some m → by_number rows m ≡ Some now_row → now_row.task ≡ t → found bodies t ≡ Some old
      → length tasks ≡ length rows → length outcomes ≡ length rows → length bodies ≡ length rows
      → Live rows (put_number tasks t (record { finish = Some stamp; cause = why })) (put_number outcomes t (Some outcome)) (put_number bodies t None) None
  live_ends t m now_row old outcome stamp why runs_m there_m task_m has_old as_tasks as_outcomes as_bodies =
      record { of_task = of_task; has_body = has_body; has_outcome = has_outcome; current = current; is_open = is_open; last = λ u n k one other now. live.last u n k one other (was_live u n one now); runs = λ n e. absurd (none-some n e) }
    where
      within : (1 ≤ t) × (t ≤ length rows)
      within = task_within rows t (body_task t old has_old).0

      finish_here : (u : ℕ) → u ≡ t → finish_of (put_number tasks t (record { finish = Some stamp; cause = why })) u ≡ Some stamp
      finish_here u same =
          let (row, there) = member_at tasks t within.0 (omega (arith, within.1, as_tasks)) in
          ap (finish_of (put_number tasks t (record { finish = Some stamp; cause = why }))) same ∙ ap finish_in (put_same tasks t row (record { finish = Some stamp; cause = why }) there)

      finish_other : (u : ℕ) → u ≢ t → finish_of (put_number tasks t (record { finish = Some stamp; cause = why })) u ≡ finish_of tasks u
      finish_other u differ = ap finish_in (put_other tasks t u (record { finish = Some stamp; cause = why }) differ)

      outcome_here : (u : ℕ) → u ≡ t → found (put_number outcomes t (Some outcome)) u ≡ Some outcome
      outcome_here u same = ap (found (put_number outcomes t (Some outcome))) same ∙ found_put outcomes t (Some outcome) within.0 (omega (arith, within.1, as_outcomes))

      body_here : (u : ℕ) → u ≡ t → found (put_number bodies t None) u ≡ None
      body_here u same = ap (found (put_number bodies t None)) same ∙ found_put bodies t None within.0 (omega (arith, within.1, as_bodies))

      body_other : (u : ℕ) → u ≢ t → found (put_number bodies t None) u ≡ found bodies u
      body_other u differ = found_put_other bodies t u None differ

      of_task : (u : ℕ) → IsSome (found (put_number bodies t None) u) → HasTask rows u
      of_task u some = ⊎_elim (λ same. absurd (false≢true (sym (ap is_some (body_here u same)) ∙ some))) (λ differ. live.of_task u (sym (ap is_some (body_other u differ)) ∙ some)) (cases_eq u t)

      has_body : (u : ℕ) → HasTask rows u → IsSome (found (put_number bodies t None) u) ↔ (finish_of (put_number tasks t (record { finish = Some stamp; cause = why })) u ≡ None)
      has_body u task =
          ⊎_elim (λ same. (λ some. absurd (false≢true (sym (ap is_some (body_here u same)) ∙ some)), λ none. absurd (none-some stamp (sym none ∙ finish_here u same))))
          (λ differ. let iff = live.has_body u task in (λ some. finish_other u differ ∙ iff.0 (sym (ap is_some (body_other u differ)) ∙ some), λ none. ap is_some (body_other u differ) ∙ iff.1 (sym (finish_other u differ) ∙ none)))
          (cases_eq u t)

      has_outcome : (u : ℕ) → IsSome (found (put_number outcomes t (Some outcome)) u) ↔ IsSome (finish_of (put_number tasks t (record { finish = Some stamp; cause = why })) u)
      has_outcome u =
          ⊎_elim (λ same. (λ some. ap is_some (finish_here u same), λ some. ap is_some (outcome_here u same)))
          (λ differ. let iff = live.has_outcome u in (
            λ some. ap is_some (finish_other u differ) ∙ iff.0 (sym (ap is_some (found_put_other outcomes t u (Some outcome) differ)) ∙ some),
            λ some. ap is_some (found_put_other outcomes t u (Some outcome) differ) ∙ iff.1 (sym (ap is_some (finish_other u differ)) ∙ some),
          ))
          (cases_eq u t)

      current : (u : ℕ) → HasTask rows u → finish_of (put_number tasks t (record { finish = Some stamp; cause = why })) u ≡ None → (n : ℕ) × (other : ActivationRow) × IsLiveAt rows None u n other
      current u task none =
          ⊎_elim (λ same. absurd (none-some stamp (sym none ∙ finish_here u same)))
          (λ differ. let (n, other, now) = live.current u task (sym (finish_other u differ) ∙ none) in
          (n, other, record { there = now.there; of_task = now.of_task; live = inl (not_running t m now_row runs_m there_m task_m u n other differ now) }))
          (cases_eq u t)

      is_open : (u n : ℕ) (other : ActivationRow) → IsLiveAt rows None u n other → finish_of (put_number tasks t (record { finish = Some stamp; cause = why })) u ≡ None
      is_open u n other now =
          ⊎_elim (λ same. absurd (no_wait t m now_row runs_m there_m task_m n other now.there (waits now) (now.of_task ∙ same)))
          (λ differ. finish_other u differ ∙ live.is_open u n other (was_live u n other now)) (cases_eq u t)

-- an activation starts: rows have a start more
pub record OneStarted (rows : List ActivationRow) (n stamp : ℕ) (row : ActivationRow) (rows' : List ActivationRow) : Type 0 where
  pub here : by_number rows' n ≡ Some (record row { start = Some stamp })
  pub others : (k : ℕ) → k ≢ n → by_number rows' k ≡ by_number rows k

-- a start changes one row, and there the stamp alone
pub one_started : (rows : List ActivationRow) (n stamp : ℕ) (row : ActivationRow) → by_number rows n ≡ Some row → OneStarted rows n stamp row (started_rows rows n stamp (by_number rows n))
one_started rows n stamp row there =
    rw there (record { here = put_same rows n row (record row { start = Some stamp }) there; others = λ k differ. put_other rows n k (record row { start = Some stamp }) differ })

module _ (rows rows' : List ActivationRow) (n stamp : ℕ) (row : ActivationRow) (there : by_number rows n ≡ Some row) (started : OneStarted rows n stamp row rows') where
  -- each row was there, of the same task and behind the same
  pub record WasRow (k : ℕ) (now : ActivationRow) : Type 0 where
    pub was : ActivationRow
    pub stood : by_number rows k ≡ Some was
    pub task : now.task ≡ was.task
    pub after : now.after ≡ was.after
    pub start : (k ≡ n → now.start ≡ Some stamp) × (k ≢ n → now.start ≡ was.start)

  -- each row now was one before
  pub was_row : (k : ℕ) (now : ActivationRow) → by_number rows' k ≡ Some now → WasRow k now
  was_row k now e =
      ⊎_elim
      (λ same.
      let is_now : now ≡ record row { start = Some stamp } = same_Some now (record row { start = Some stamp }) (sym e ∙ ap (by_number rows') same ∙ started.here) in
      record {
        was = row;
        stood = ap (by_number rows) same ∙ there;
        task = ap (λ (r : ActivationRow). r.task) is_now;
        after = ap (λ (r : ActivationRow). r.after) is_now;
        start = (λ _. ap (λ (r : ActivationRow). r.start) is_now, λ differ. absurd (differ same));
      })
      (λ differ. record { was = now; stood = sym (started.others k differ) ∙ e; task = refl; after = refl; start = (λ same. absurd (differ same), λ _. refl) })
      (cases_eq k n)

  -- each row before is one now, of the same task
  pub row_then : (k : ℕ) (was : ActivationRow) → by_number rows k ≡ Some was → (now : ActivationRow) × (by_number rows' k ≡ Some now) × (now.task ≡ was.task)
  row_then k was e =
      ⊎_elim
      (λ same. (record row { start = Some stamp }, ap (by_number rows') same ∙ started.here, ap (λ (r : ActivationRow). r.task) (same_row rows n row was there (sym (ap (by_number rows) same) ∙ e))))
      (λ differ. (was, started.others k differ ∙ e, refl))
      (cases_eq k n)

  -- each task before is one now
  pub task_then : (t : ℕ) → HasTask rows t → HasTask rows' t
  task_then t (was, e, task) = let (now, e', same) = row_then t was e in (now, e', same ∙ task)

  -- each task now was one before
  pub task_was : (t : ℕ) → HasTask rows' t → HasTask rows t
  task_was t (now, e, task) = let w = was_row t now e in (w.was, w.stood, sym w.task ∙ task)

  module _ (tasks : List TaskRow) (outcomes : List (Option Outcome)) (bodies : List (Option Body)) (waiting : row.start ≡ None) (live : Live rows tasks outcomes bodies None) where
    -- the live number of a task was the live one before the start
    pub live_then : (t k : ℕ) (now : ActivationRow) → IsLiveAt rows' (Some n) t k now → (was : ActivationRow) × IsLiveAt rows None t k was
    live_then t k now is_live =
        let w = was_row k now is_live.there in
        (w.was, record { there = w.stood; of_task = sym w.task ∙ is_live.of_task; live = inl (⊎_elim (λ same. at_n w.was same w.stood) (λ differ. sym (w.start.1 differ) ∙ not_here differ is_live.live) (cases_eq k n)) })
      where
        at_n : (was : ActivationRow) → k ≡ n → by_number rows k ≡ Some was → was.start ≡ None
        at_n was same e = ap (λ (r : ActivationRow). r.start) (same_row rows n was row (sym (ap (by_number rows) same) ∙ e) there) ∙ waiting

        not_here : k ≢ n → (now.start ≡ None) ⊎ (Some n ≡ Some k) → now.start ≡ None
        not_here differ live = ⊎_elim (λ start. start) (λ e. absurd (differ (sym (same_Some n k e)))) live

    -- tasks are live as before where a number starts
    pub live_starts : Live rows' tasks outcomes bodies (Some n)
    live_starts = record {
      of_task = λ t some. task_then t (live.of_task t some);
      has_body = λ t task. live.has_body t (task_was t task);
      has_outcome = live.has_outcome;
      current = current;
      is_open = λ t k now is_live. let (was, old) = live_then t k now is_live in live.is_open t k was old;
      last = λ t k m one other is_live e task. let (was, old) = live_then t k one is_live in let w = was_row m other e in live.last t k m was w.was old w.stood (sym w.task ∙ task);
      runs = λ k e. (record row { start = Some stamp }, ap (by_number rows') (sym (same_Some n k e)) ∙ started.here, refl);
    }
      where
        start_of : (k : ℕ) (was now : ActivationRow) → k ≢ n → (was.start ≡ None) ⊎ (None ≡ Some k) → by_number rows k ≡ Some was → by_number rows' k ≡ Some now → now.start ≡ None
        start_of k was now differ live there e =
            let is_was : now ≡ was = same_Some now was (sym e ∙ started.others k differ ∙ there) in
            ap (λ (r : ActivationRow). r.start) is_was ∙ ⊎_elim (λ start. start) (λ runs. absurd (none-some k runs)) live

        current : (t : ℕ) → HasTask rows' t → finish_of tasks t ≡ None → (k : ℕ) × (now : ActivationRow) × IsLiveAt rows' (Some n) t k now
        current t task none =
            let (k, was, old) = live.current t (task_was t task) none in
            let (now, e, same) = row_then k was old.there in
            (k, now, record { there = e; of_task = same ∙ old.of_task; live = ⊎_elim (λ at. inr (ap Some (sym at))) (λ differ. inl (start_of k was now differ old.live old.there e)) (cases_eq k n) })
