-- An activation arrives: it joins its queue, or the waiters of the task that it is behind.
use Rattle.std.proofs.Common.{◌≡◌, ◌≢◌, ℕ, ◌+◌, ◌*◌, ◌<◌, ◌≤◌, Option, Some, None, List, [], ◌∷◌, length, map, slice_get, refl, sym, ◌∙◌, ap, subst, ⊎_elim, arith}
use Rattle.std.specs.Option.{is_some}
use Rattle.std.proofs.lemmas.Bool.{cases_eq, false≢true}
use Rattle.std.proofs.lemmas.Option.{none-some, same_Some, slice_get_within}
use Rattle.task_syntax.specs.declared.program.Program.{Program}
use Rattle.record_core.specs.Numbers.{by_number, put_number, found}
use Rattle.record_core.specs.Journal.{finish_of}
use Rattle.record_core.specs.declared.rows.ActivationRow.{ActivationRow}
use Rattle.run_model.specs.State.{Outcome as RunOutcome, Queues, Run, queued}
use Rattle.run_model.specs.Step.{arrives, waits_or_queues, waiters_of, priority_of}
use Rattle.run_model.proofs.ByNumber.{has_some}
use Rattle.run_model.proofs.NumbersInvariant.{NumbersHeld, times_ready, not_started}
use Rattle.run_model.proofs.NumbersParts.{behind_task}
use Rattle.run_model.proofs.QueueFacts.{waiters_put, waiters_put_other, waiters_within, times_self}
use Rattle.plain_state.specs.declared.record.Record.{Record}
use Rattle.plain_state.specs.Store.{StoreState, Chained, changed, queued_at, linked, with_first, with_next, first_in, priority_in, units_of}
use Rattle.plain_state.specs.Engine.{EngineState, with_store}
use Rattle.plain_state.specs.Moves.{arrived, MayArrive}
use Rattle.plain_state.specs.Sees.{Sees, SeesTask, IsCurrent, InUse, AreUnitsOf, unit_of, unit_of_number, times}
use Rattle.plain_state.proofs.Units.{unit_from}
use Rattle.plain_state.proofs.References.{in_use_open}
use Rattle.plain_state.proofs.Frames.{frame_same}
use Rattle.plain_state.proofs.ChangedRecords.{changed_same, changed_other, changed_length}
use Rattle.plain_state.proofs.QueueRoom.{number_named}
use Rattle.plain_state.proofs.ReadySeen.{QueuesSeen, queued_seen}
use Rattle.plain_state.proofs.Waking.{chained_same}
use Rattle.plain_state.proofs.SeenNumbers.{SeenNumber, seen_number, seen_counted, one_number, room}

-- the unit of the task that an activation behind it waits for
abbrev pub waits_open : Option RunOutcome → Option ℕ → Option ℕ
waits_open None at = at
waits_open (Some outcome) at = None

-- nothing where it is behind none
abbrev pub waits_unit : Run → Option ℕ → Option ℕ
waits_unit r None = None
waits_unit r (Some u) = waits_open (found r.outcomes u) (unit_of r.blocks u)

-- other queues on both sides change no task
pub task_queued : (p : Program) (hand : List ℕ) (own : Option (ℕ × List ℕ)) (s : StoreState) (r : Run) (ready ready' : Queues) (t : ℕ) → SeesTask p hand own s r t
    → SeesTask p hand own (record s { ready = ready }) (record r { ready = ready' }) t
task_queued p hand own s r ready ready' t old = record {
  block = old.block;
  known = old.known;
  has_block = old.has_block;
  stands = old.stands;
  there = old.there;
  task = old.task;
  referred = old.referred;
  outcome = old.outcome;
  number = λ m row current. old.number m row (before m row current);
  cut = λ m row cut current. old.cut m row cut (before m row current);
  waiters = old.waiters;
  of_waiters = old.of_waiters;
  chain = old.chain;
  fits = old.fits;
  body = old.body;
  size = old.size;
}
  where
    before : (m : ℕ) (row : ActivationRow) → IsCurrent (record r { ready = ready' }) t m row → IsCurrent r t m row
    before m row current = record { there = current.there; of_task = current.of_task; current = current.current }

module _ (p : Program) (units : ℕ) (hand : List ℕ) (own : Option (ℕ × List ℕ)) (e : EngineState) (r : Run) (n : ℕ) (held : NumbersHeld r (n ∷ [])) (row : ActivationRow) (there : by_number r.journal.rows n ≡ Some row)
    (waits : row.start ≡ None) (t unit : ℕ) (of_task : row.task ≡ t) (at : unit_of r.blocks t ≡ Some unit) (sees : Sees p units hand own e r) where
  -- the record of its task is seen
  here : SeenNumber hand e r n
  here = seen_number p units hand own e r sees (n ∷ []) held n row there waits

  -- by its row
  is_row : here.row ≡ row
  is_row = same_Some here.row row (sym here.there ∙ there)

  -- at its unit
  is_unit : here.unit ≡ unit
  is_unit = same_Some here.unit unit (sym here.at ∙ ap (λ (k : ActivationRow). unit_of r.blocks k.task) is_row ∙ ap (unit_of r.blocks) of_task ∙ at)

  -- which is that of the number
  named : unit_of_number r n ≡ Some unit
  named = here.named ∙ ap Some is_unit

  -- the record there
  stands : slice_get e.store.records unit ≡ Some here.known
  stands = ap (slice_get e.store.records) (sym is_unit) ∙ here.stands

  -- a unit of the store
  within : unit < units_of e.store
  within = slice_get_within e.store.records unit here.known stands

  -- it joins its queue
  may_queue : MayArrive unit None e.store
  may_queue = (
    within,
    room p units hand own e r sees (n ∷ []) held (n ∷ []) (unit ∷ []) (ap (λ o. o ∷ []) named)
        (λ m. let each : times m (n ∷ []) + Rattle.record_core.specs.Sums.total (times m) r.waiters + times_ready m r.ready ≡ not_started (by_number r.journal.rows m) = held.numbers.each m in omega (arith, each)),
  )

  -- both sides have it last in the queue of its priority
  queue_sees : Sees p units hand own (with_store e (queued_at unit e.store)) (record r { ready = queued (priority_of r.priorities n) n r.ready })
  queue_sees = record {
    shaped = record { units = sees.shaped.units; of_blocks = sees.shaped.of_blocks; of_words = sees.shaped.of_words };
    sound = sees.sound;
    pool = sees.pool;
    out = sees.out;
    apart = sees.apart;
    tasks = λ u used. task_queued p hand own e.store r (queued_at unit e.store).ready (queued (priority_of r.priorities n) n r.ready) u (sees.tasks u used);
    journal = sees.journal;
    roots = sees.roots;
    high = queues.high;
    regular = queues.regular;
    low = queues.low;
    nulls = sees.nulls;
    class = sees.class;
    words = sees.words;
  }
    where
      queues : QueuesSeen (unit_of_number r) (queued_at unit e.store).ready (queued (priority_of r.priorities n) n r.ready)
      queues =
          subst (λ pr. QueuesSeen (unit_of_number r) (queued pr unit e.store.ready) (queued (priority_of r.priorities n) n r.ready)) (sym (ap priority_in stands ∙ here.priority))
          (queued_seen (unit_of_number r) (priority_of r.priorities n) e.store.ready r.ready unit n named (record { high = sees.high; regular = sees.regular; low = sees.low }))

  -- a task behind which it is, and that has not ended, is in use
  used_behind : (u : ℕ) → row.after ≡ Some u → found r.outcomes u ≡ None → InUse hand r u
  used_behind u behind unended =
      let task = (behind_task r.journal.rows held.of_tasks n u row there behind).1 in
      let none : finish_of r.journal.tasks u ≡ None = unfinished (finish_of r.journal.tasks u) refl in
      let (body, has) = has_some (found r.bodies u) ((held.live.has_body u task).1 none) in in_use_open hand r u body has
    where
      unfinished : (f : Option ℕ) → finish_of r.journal.tasks u ≡ f → finish_of r.journal.tasks u ≡ None
      unfinished None e = e
      unfinished (Some f) e = absurd (false≢true (sym (ap is_some unended) ∙ (held.live.has_outcome u).1 (ap is_some e)))

  -- it joins the waiters of a task that has not ended
  module _ (u target : ℕ) (behind : row.after ≡ Some u) (unended : found r.outcomes u ≡ None) (of_target : unit_of r.blocks u ≡ Some target) where
    -- that task is in use
    target_used : InUse hand r u
    target_used = used_behind u behind unended

    -- and seen
    goal_task : SeesTask p hand own e.store r u
    goal_task = sees.tasks u target_used

    -- its block begins at the target
    is_target : goal_task.block.unit ≡ target
    is_target = same_Some goal_task.block.unit target (sym (unit_from r.blocks u goal_task.block goal_task.has_block) ∙ of_target)

    -- where its record stands
    target_stands : slice_get e.store.records target ≡ Some goal_task.known
    target_stands = ap (slice_get e.store.records) (sym is_target) ∙ goal_task.there

    -- so the call may be made
    may_link : MayArrive unit (Some target) e.store
    may_link = (within, slice_get_within e.store.records target goal_task.known target_stands)

    -- the waiter that was in front
    abbrev front : Option ℕ
    front = first_in (slice_get e.store.records target)

    -- the store once its record names that one
    abbrev half : StoreState
    half = changed (with_next (first_in (slice_get e.store.records target))) unit e.store

    -- and once the target names it
    abbrev joined : StoreState
    joined = linked unit target e.store

    -- the run once it is among the waiters
    abbrev after_run : Run
    after_run = record r { waiters = put_number r.waiters u (n ∷ waiters_of r.waiters u) }

    -- what became of the record k at the unit v
    record After (v : ℕ) (k : Record) : Type 0 where
      pub now : Record
      pub lies : slice_get joined.records v ≡ Some now
      pub task : now.task ≡ k.task
      pub number : now.number ≡ k.number
      pub priority : now.priority ≡ k.priority
      pub references : now.references ≡ k.references
      pub outcome : now.outcome ≡ k.outcome
      pub cut : now.cut ≡ k.cut
      pub size : now.length ≡ k.length
      pub next_kept : v ≢ unit → now.next ≡ k.next
      pub next_set : v ≡ unit → now.next ≡ front
      pub first_kept : v ≢ target → now.first ≡ k.first
      pub first_set : v ≡ target → now.first ≡ Some unit

    -- it is so for each record
    after : (v : ℕ) (k : Record) → slice_get e.store.records v ≡ Some k → After v k
    after v k stood = ⊎_elim one other (cases_eq v unit)
      where
        one : v ≡ unit → After v k
        one same = ⊎_elim both only (cases_eq v target)
          where
            set : slice_get half.records v ≡ Some (with_next front k)
            set = ap (slice_get half.records) same ∙ changed_same (with_next front) unit e.store.records k (ap (slice_get e.store.records) (sym same) ∙ stood)

            both : v ≡ target → After v k
            both goal = record {
              now = with_first (Some unit) (with_next front k);
              lies = ap (slice_get joined.records) goal ∙ changed_same (with_first (Some unit)) target half.records (with_next front k) (ap (slice_get half.records) (sym goal) ∙ set);
              task = refl;
              number = refl;
              priority = refl;
              references = refl;
              outcome = refl;
              cut = refl;
              size = refl;
              next_kept = λ differ. absurd (differ same);
              next_set = λ _. refl;
              first_kept = λ differ. absurd (differ goal);
              first_set = λ _. refl;
            }

            only : v ≢ target → After v k
            only differ = record {
              now = with_next front k;
              lies = changed_other (with_first (Some unit)) target v half.records differ ∙ set;
              task = refl;
              number = refl;
              priority = refl;
              references = refl;
              outcome = refl;
              cut = refl;
              size = refl;
              next_kept = λ wrong. absurd (wrong same);
              next_set = λ _. refl;
              first_kept = λ _. refl;
              first_set = λ goal. absurd (differ goal);
            }

        other : v ≢ unit → After v k
        other differ = ⊎_elim both only (cases_eq v target)
          where
            kept : slice_get half.records v ≡ Some k
            kept = changed_other (with_next front) unit v e.store.records differ ∙ stood

            both : v ≡ target → After v k
            both goal = record {
              now = with_first (Some unit) k;
              lies = ap (slice_get joined.records) goal ∙ changed_same (with_first (Some unit)) target half.records k (ap (slice_get half.records) (sym goal) ∙ kept);
              task = refl;
              number = refl;
              priority = refl;
              references = refl;
              outcome = refl;
              cut = refl;
              size = refl;
              next_kept = λ _. refl;
              next_set = λ same. absurd (differ same);
              first_kept = λ wrong. absurd (wrong goal);
              first_set = λ _. refl;
            }

            only : v ≢ target → After v k
            only apart = record {
              now = k;
              lies = changed_other (with_first (Some unit)) target v half.records apart ∙ kept;
              task = refl;
              number = refl;
              priority = refl;
              references = refl;
              outcome = refl;
              cut = refl;
              size = refl;
              next_kept = λ _. refl;
              next_set = λ same. absurd (differ same);
              first_kept = λ _. refl;
              first_set = λ goal. absurd (apart goal);
            }

    -- no waiter stands at its unit, since its number stands in hand
    waiter_apart : (x v : ℕ) (ws : List ℕ) → AreUnitsOf r ws (waiters_of r.waiters x) → 1 ≤ times v ws → v ≢ unit
    waiter_apart x v ws are some same =
        let (m, stood, at_m) = number_named (unit_of_number r) (waiters_of r.waiters x) ws v are some in
        let each_m : times m (n ∷ []) + Rattle.record_core.specs.Sums.total (times m) r.waiters + times_ready m r.ready ≡ not_started (by_number r.journal.rows m) = held.numbers.each m in
        let below_m : times m (waiters_of r.waiters x) ≤ Rattle.record_core.specs.Sums.total (times m) r.waiters = waiters_within m r.waiters x in
        let seen = seen_counted p units hand own e r sees (n ∷ []) held m (omega (arith, stood, each_m, below_m)) in
        let is_n : m ≡ n = one_number p units hand own e r sees (n ∷ []) held m n v seen here at_m (named ∙ ap Some (sym same)) in
        let each_n : times n (n ∷ []) + Rattle.record_core.specs.Sums.total (times n) r.waiters + times_ready n r.ready ≡ not_started (by_number r.journal.rows n) = held.numbers.each n in
        let below_n : times n (waiters_of r.waiters x) ≤ Rattle.record_core.specs.Sums.total (times n) r.waiters = waiters_within n r.waiters x in
        let once : times n (n ∷ []) ≡ 1 = times_self n in
        let again : 1 ≤ times n (waiters_of r.waiters x) = subst (λ y. 1 ≤ times y (waiters_of r.waiters x)) is_n stood in
        let most : not_started (by_number r.journal.rows n) ≤ 1 = Rattle.plain_state.proofs.SeenNumbers.not_twice (by_number r.journal.rows n) in
        absurd (omega (arith, each_n, below_n, once, again, most))

    -- the lists of waiters go on as before
    chain_kept : (x : ℕ) (first : Option ℕ) (ws : List ℕ) → AreUnitsOf r ws (waiters_of r.waiters x) → Chained e.store.records first ws → Chained joined.records first ws
    chain_kept x first ws are chain = chained_same e.store.records joined.records first ws (λ v k some stood. let a = after v k stood in (a.now, a.lies, a.next_kept (waiter_apart x v ws are some))) chain

    -- the number of the task is within the list
    within_waiters : (1 ≤ u) × (u ≤ length r.waiters)
    within_waiters =
        let task = (behind_task r.journal.rows held.of_tasks n u row there behind).1 in
        let in_rows = Rattle.run_model.proofs.LiveFacts.task_within r.journal.rows u task in (in_rows.0, let most = in_rows.1 in omega (arith, most, held.beside.of_waiters))

    -- the record of a task in use is at the target only where it is that task
    at_target : (x : ℕ) (old : SeesTask p hand own e.store r x) → (x ≡ u → old.block.unit ≡ target) × (x ≢ u → old.block.unit ≢ target)
    at_target x old = (same_unit, apart)
      where
        same_unit : x ≡ u → old.block.unit ≡ target
        same_unit same = same_Some old.block.unit target (sym (unit_from r.blocks x old.block old.has_block) ∙ ap (unit_of r.blocks) same ∙ of_target)

        apart : x ≢ u → old.block.unit ≢ target
        apart differ same =
            let is_known : old.known ≡ goal_task.known = same_Some old.known goal_task.known (sym old.there ∙ ap (slice_get e.store.records) same ∙ target_stands) in
            differ (sym old.task ∙ ap (λ (k : Record). k.task) is_known ∙ goal_task.task)

    -- the waiters of each task, of which the one that it is behind has one more in front
    waiters_after : (x : ℕ) (old : SeesTask p hand own e.store r x) (a : After old.block.unit old.known)
        → (ws : List ℕ) × AreUnitsOf after_run ws (waiters_of (put_number r.waiters u (n ∷ waiters_of r.waiters u)) x) × Chained joined.records a.now.first ws
    waiters_after x old a =
        ⊎_elim
        (λ same.
        let put : waiters_of (put_number r.waiters u (n ∷ waiters_of r.waiters u)) x ≡ n ∷ waiters_of r.waiters x =
        ap (waiters_of (put_number r.waiters u (n ∷ waiters_of r.waiters u))) same ∙ waiters_put r.waiters u (n ∷ waiters_of r.waiters u) within_waiters.0 within_waiters.1 ∙ ap (λ y. n ∷ waiters_of r.waiters y) (sym same) in
        let new = after unit here.known stands in
        let next : new.now.next ≡ old.known.first = new.next_set refl ∙ ap first_in (ap (slice_get e.store.records) (sym ((at_target x old).0 same)) ∙ old.there) in (
          unit ∷ old.waiters,
          ap (map (unit_of_number r)) put ∙ ap (λ o. o ∷ map (unit_of_number r) (waiters_of r.waiters x)) named ∙ ap (λ os. Some unit ∷ os) old.of_waiters,
          subst (λ o. Chained joined.records o (unit ∷ old.waiters)) (sym (a.first_set ((at_target x old).0 same)))
              (refl, (new.now, new.lies, subst (λ o. Chained joined.records o old.waiters) (sym next) (chain_kept x old.known.first old.waiters old.of_waiters old.chain))),
        ))
        (λ differ. (
          old.waiters,
          ap (map (unit_of_number r)) (waiters_put_other r.waiters u x (n ∷ waiters_of r.waiters u) differ) ∙ old.of_waiters,
          subst (λ o. Chained joined.records o old.waiters) (sym (a.first_kept ((at_target x old).1 differ))) (chain_kept x old.known.first old.waiters old.of_waiters old.chain),
        ))
        (cases_eq x u)

    -- each task is seen
    linked_task : (x : ℕ) → SeesTask p hand own e.store r x → SeesTask p hand own joined after_run x
    linked_task x old = record {
      block = old.block;
      known = a.now;
      has_block = old.has_block;
      stands = old.stands;
      there = a.lies;
      task = a.task ∙ old.task;
      referred = a.references ∙ old.referred;
      outcome = a.outcome ∙ old.outcome;
      number = λ m now current. let was = old.number m now (before m now current) in (a.number ∙ was.0, a.priority ∙ was.1);
      cut = λ m now cut current start known. a.cut ∙ old.cut m now cut (before m now current) start known;
      waiters = kept.0;
      of_waiters = kept.1;
      chain = kept.2;
      fits = omega (arith, old.fits, a.size);
      body = λ body has. subst (λ ws. Rattle.plain_state.specs.Sees.SeesBody p r.blocks (Rattle.plain_state.specs.Sees.frame_or own x ws) body) (sym (frame_same e.store joined old.block.unit old.known a.now old.there a.lies a.size refl)) (old.body body has);
      size = λ ws e. old.size ws e ∙ sym a.size;
    }
      where
        a : After old.block.unit old.known
        a = after old.block.unit old.known old.there

        kept : (ws : List ℕ) × AreUnitsOf after_run ws (waiters_of (put_number r.waiters u (n ∷ waiters_of r.waiters u)) x) × Chained joined.records (after old.block.unit old.known old.there).now.first ws
        kept = waiters_after x old (after old.block.unit old.known old.there)

        before : (m : ℕ) (now : ActivationRow) → IsCurrent after_run x m now → IsCurrent r x m now
        before m now current = record { there = current.there; of_task = current.of_task; current = current.current }

    -- the engine stands for the run in which it waits
    link_sees : Sees p units hand own (with_store e joined) after_run
    link_sees = record {
      shaped = record { units = long ∙ sees.shaped.units; of_blocks = sees.shaped.of_blocks ∙ sym long; of_words = sees.shaped.of_words ∙ ap (λ k. k * 8) (sym long) };
      sound = sees.sound;
      pool = sees.pool;
      out = sees.out;
      apart = sees.apart;
      tasks = λ x used. linked_task x (sees.tasks x used);
      journal = sees.journal;
      roots = sees.roots;
      high = sees.high;
      regular = sees.regular;
      low = sees.low;
      nulls = sees.nulls;
      class = sees.class;
      words = sees.words;
    }
      where
        long : length joined.records ≡ length e.store.records
        long = changed_length (with_first (Some unit)) target half.records ∙ changed_length (with_next front) unit e.store.records

  -- the call may be made, and then the engine stands for this run
  abbrev Arrives : Option ℕ → Run → Type 0
  Arrives waits_at s = MayArrive unit waits_at e.store × Sees p units hand own (with_store e (arrived unit waits_at e.store)) s

  -- It arrives, behind what its row says.
  pub arrival_sees : MayArrive unit (waits_unit r row.after) e.store × Sees p units hand own (with_store e (arrived unit (waits_unit r row.after) e.store)) (arrives r n row.after)
  arrival_sees = by row.after refl
    where
      by : (o : Option ℕ) → row.after ≡ o → Arrives (waits_unit r o) (arrives r n o)
      by None is = (may_queue, queue_sees)
      by (Some u) is = behind (found r.outcomes u) refl
        where
          behind : (o : Option RunOutcome) → found r.outcomes u ≡ o → Arrives (waits_open o (unit_of r.blocks u)) (waits_or_queues o r n u)
          behind (Some outcome) e = (may_queue, queue_sees)
          behind None unended = joins (unit_of r.blocks u) refl
            where
              joins : (w : Option ℕ) → unit_of r.blocks u ≡ w → Arrives w (record r { waiters = put_number r.waiters u (n ∷ waiters_of r.waiters u) })
              joins None none = absurd (none-some target (sym none ∙ from))
                where
                  task_u : SeesTask p hand own e.store r u
                  task_u = sees.tasks u (used_behind u is unended)

                  target : ℕ
                  target = task_u.block.unit

                  from : unit_of r.blocks u ≡ Some task_u.block.unit
                  from = unit_from r.blocks u task_u.block task_u.has_block
              joins (Some target) of_target = (may_link u target is unended of_target, link_sees u target is unended of_target)
