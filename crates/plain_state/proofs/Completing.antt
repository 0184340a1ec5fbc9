-- A task ends: its outcome is set, its waiters are woken, and its body goes, so that what it named, and itself, are in hand.
use Rattle.std.proofs.Common.{◌≡◌, ◌≢◌, ℕ, zero, suc, ◌+◌, ◌*◌, ◌<◌, ◌≤◌, cond, nat_eq, Option, Some, None, List, [], ◌∷◌, ◌++◌, length, map, take, drop, slice_get, refl, sym, ◌∙◌, ap, subst, inl, inr, ⊎_elim, arith}
use Rattle.std.proofs.lemmas.Bool.{cases_eq, false≢true, ne_eqb}
use Rattle.std.proofs.lemmas.Option.{none-some, same_Some, slice_get_within}
use Rattle.std.specs.Option.{option_map}
use Rattle.task_syntax.specs.declared.program.Program.{Program}
use Rattle.pool_core.specs.Pool.{PoolState, IsSound, IsOut}
use Rattle.record_core.specs.Sums.{total}
use Rattle.frame_code.specs.Names.{names_of}
use Rattle.record_core.specs.Numbers.{by_number, put_number, found}
use Rattle.record_core.specs.Journal.{with_finished}
use Rattle.record_core.specs.declared.rows.ActivationRow.{ActivationRow}
use Rattle.record_core.specs.declared.rows.Cause.{Cause}
use Rattle.record_core.specs.declared.rows.CutTag.{CutTag}
use Rattle.run_model.specs.State.{Body, Outcome as RunOutcome, Run}
use Rattle.run_model.specs.Placing.{pool_of, is_in_use, is_open, used_from, superblocks_from}
use Rattle.run_model.specs.Step.{completes, waiters_of, priority_of}
use Rattle.run_model.specs.Move.{RunsAt}
use Rattle.run_model.proofs.ByNumber.{found_put, found_put_other, found_within}
use Rattle.run_model.proofs.LiveFacts.{one_live}
use Rattle.run_model.proofs.NumbersInvariant.{NumbersStand, NumbersHeld, IsLiveAt, times_ready, not_started}
use Rattle.run_model.proofs.QueueFacts.{waiters_put, waiters_put_other, waiters_within, waits_still}
use Rattle.plain_state.specs.declared.record.Record.{Record}
use Rattle.plain_state.specs.Store.{StoreState, Chained, MayComplete, completed, changed, with_outcome, with_cut, cut_of, first_in, frame_at, frame_in, units_of}
use Rattle.plain_state.specs.Engine.{EngineState}
use Rattle.plain_state.specs.Sees.{Sees, SeesTask, SeesBody, IsCurrent, InUse, AreUnitsOf, unit_of, unit_of_row, unit_of_number, times, references, with_hand, outcome_seen, cut_behind}
use Rattle.plain_state.proofs.Units.{unit_from}
use Rattle.plain_state.proofs.References.{in_use_counts, in_use_open, body_total, times_member}
use Rattle.plain_state.proofs.ChangedRecords.{changed_same, changed_other, changed_length}
use Rattle.plain_state.proofs.InHand.{same_test, used_same}
use Rattle.plain_state.proofs.QueueRoom.{times_here, times_other, times_append, number_named, name_numbered}
use Rattle.plain_state.proofs.ReadySeen.{QueuesSeen}
use Rattle.plain_state.proofs.Waking.{Woken, woken_records, woken_queues, chained_same}
use Rattle.plain_state.proofs.SeenNumbers.{SeenNumber, seen_number, seen_counted, one_number, room}

-- where each task is referred to as often, the same are in use
pub in_use_same : (hand hand' : List ℕ) (r r' : Run) (u : ℕ) → references hand' r' u ≡ references hand r u → InUse hand' r' u → InUse hand r u
in_use_same hand hand' r r' u same used = (in_use_counts hand r u).1 (let some = (in_use_counts hand' r' u).0 used in omega (arith, same, some))

-- and the pool is the same
pub pool_same : (units : ℕ) (hand hand' : List ℕ) (r r' : Run) → r'.blocks ≡ r.blocks → r'.supers ≡ r.supers → ((u : ℕ) → references hand' r' u ≡ references hand r u) → pool_of units (with_hand hand' r') ≡ pool_of units (with_hand hand r)
pool_same units hand hand' r r' blocks supers same =
    ap (λ bs. record { units = units; superblocks = superblocks_from units (used_from (with_hand hand' r').roots r'.bodies 1 bs) 0 r'.supers }) blocks
    ∙ ap (λ ss. record { units = units; superblocks = superblocks_from units (used_from (with_hand hand' r').roots r'.bodies 1 r.blocks) 0 ss }) supers
    ∙ ap (λ us. record { units = units; superblocks = superblocks_from units us 0 r.supers })
    (used_same (with_hand hand' r').roots (with_hand hand r).roots r'.bodies r.bodies 1 r.blocks
    (λ u. same_test (is_in_use (with_hand hand' r').roots r'.bodies u) (is_in_use (with_hand hand r).roots r.bodies u) (in_use_same hand hand' r r' u (same u)) (in_use_same hand' hand r' r u (sym (same u)))))

-- where a number stands among all waiters, it stands among those of one task
some_waiters : (m : ℕ) (waiters : List (List ℕ)) → 1 ≤ total (times m) waiters → (w : ℕ) × (1 ≤ times m (waiters_of waiters w))
some_waiters m [] some = absurd (omega (arith, some))
some_waiters m (ws ∷ more) some = by (times m ws) refl (some_waiters m more)
  where
    by : (k : ℕ) → times m ws ≡ k → (1 ≤ total (times m) more → (w : ℕ) × (1 ≤ times m (waiters_of more w))) → (w : ℕ) × (1 ≤ times m (waiters_of (ws ∷ more) w))
    by zero none rest = later (rest (omega (arith, some, none)))
      where
        later : (w : ℕ) × (1 ≤ times m (waiters_of more w)) → (w : ℕ) × (1 ≤ times m (waiters_of (ws ∷ more) w))
        later (zero, h) = absurd (omega (arith, h))
        later (suc w, h) = (suc (suc w), h)
    by (suc k) has rest = (1, omega (arith, has))

module _ (p : Program) (units : ℕ) (e : EngineState) (r : Run) (unit : ℕ) (words : List ℕ) (t n : ℕ) (body : Body) (held : NumbersStand r) (runs : RunsAt r t n body) (at : unit_of r.blocks t ≡ Some unit)
    (sees : Sees p units [] (Some (t, words)) e r) (outcome : RunOutcome) (why : Cause) where
  -- the hand once the body is gone
  abbrev pub left_hand : List ℕ
  left_hand = names_of body ++ t ∷ []

  -- the run once it ended
  abbrev pub ended : Run
  ended = completes r t outcome why

  -- the task has a number within the lists
  body_within : (1 ≤ t) × (t ≤ length r.bodies)
  body_within = found_within r.bodies t body runs.has

  -- also within that of waiters
  waiters_long : t ≤ length r.waiters
  waiters_long = let within = body_within.1 in omega (arith, within, held.beside.of_bodies, held.beside.of_waiters)

  -- and that of outcomes
  outcomes_long : t ≤ length r.outcomes
  outcomes_long = let within = body_within.1 in omega (arith, within, held.beside.of_bodies, held.beside.of_outcomes)

  -- its outcome is set
  outcome_put : found (put_number r.outcomes t (Some outcome)) t ≡ Some outcome
  outcome_put = found_put r.outcomes t (Some outcome) body_within.0 outcomes_long

  -- its body is gone
  gone_body : found (put_number r.bodies t None) t ≡ None
  gone_body = found_put r.bodies t None body_within.0 body_within.1

  -- each task is referred to as often as before
  pub references_ended : (u : ℕ) → references left_hand ended u ≡ references [] r u
  references_ended u =
      let bodies = body_total r.bodies t u body None runs.has in
      let handed : times u (names_of body ++ t ∷ []) ≡ times u (names_of body) + times u (t ∷ []) = times_append u (names_of body) (t ∷ []) in
      let opens = open_gone u in omega (arith, bodies, handed, opens)
    where
      open_gone : (u : ℕ) → cond (is_open (found (put_number r.bodies t None) u)) 1 0 + times u (t ∷ []) ≡ cond (is_open (found r.bodies u)) 1 0
      open_gone u =
          ⊎_elim
          (λ same.
          let one : times u (t ∷ []) ≡ 1 = ap (λ v. times u (v ∷ [])) same ∙ times_here u [] in
          let shut : ◌≡◌ {A = ℕ} (cond (is_open (found (put_number r.bodies t None) u)) 1 0) 0 = ap (λ v. cond (is_open (found (put_number r.bodies t None) v)) 1 0) (sym same) ∙ ap (λ o. cond (is_open o) 1 0) gone_body in
          let was : ◌≡◌ {A = ℕ} (cond (is_open (found r.bodies u)) 1 0) 1 = ap (λ v. cond (is_open (found r.bodies v)) 1 0) (sym same) ∙ ap (λ o. cond (is_open o) 1 0) runs.has in
          omega (arith, one, shut, was))
          (λ differ.
          let none : times u (t ∷ []) ≡ 0 = times_other u t [] differ in
          let same : ◌≡◌ {A = ℕ} (cond (is_open (found (put_number r.bodies t None) u)) 1 0) (cond (is_open (found r.bodies u)) 1 0) = ap (λ o. cond (is_open o) 1 0) (found_put_other r.bodies t u None (λ e. differ (sym e))) in
          omega (arith, none, same))
          (cases_eq t u)

  -- no other task is in use than before
  pub was_in_use : (u : ℕ) → InUse left_hand ended u → InUse [] r u
  was_in_use u used = in_use_same [] left_hand r ended u (references_ended u) used

  -- it was in use itself
  pub used_itself : InUse [] r t
  used_itself = in_use_open [] r t body runs.has

  -- its record
  pub itself : SeesTask p [] (Some (t, words)) e.store r t
  itself = sees.tasks t used_itself

  -- its block begins at the unit
  pub unit_itself : itself.block.unit ≡ unit
  unit_itself = same_Some itself.block.unit unit (sym (unit_from r.blocks t itself.block itself.has_block) ∙ at)

  -- and its record stands there
  pub record_itself : slice_get e.store.records unit ≡ Some itself.known
  record_itself = ap (slice_get e.store.records) (sym unit_itself) ∙ itself.there

  -- the units of its waiters
  abbrev pub waiters : List ℕ
  waiters = itself.waiters

  -- its waiters are numbers that have not started, of other tasks
  pub waiter_seen : (m : ℕ) → 1 ≤ times m (waiters_of r.waiters t) → SeenNumber [] e r m
  waiter_seen m some = let each = held.numbers.each m in seen_counted p units [] (Some (t, words)) e r sees [] held m (omega (arith, some, each, waiters_within m r.waiters t))

  -- its running activation is its live one
  live_itself : IsLiveAt r.journal.rows r.running t n runs.row
  live_itself = record { there = runs.there; of_task = runs.of_task; live = inr runs.running }

  -- a number that has not started is of another task
  pub other_task : (m : ℕ) (row : ActivationRow) → by_number r.journal.rows m ≡ Some row → row.start ≡ None → row.task ≢ t
  other_task m row there waits same =
      let is : m ≡ n = one_live r.journal.rows r.journal.tasks r.outcomes r.bodies r.running held.live t m n row runs.row (record { there = there; of_task = same; live = inl waits }) live_itself in
      let (began, stands, some) = held.live.runs n runs.running in
      let is_row : row ≡ began = same_Some row began (sym there ∙ ap (by_number r.journal.rows) is ∙ stands) in
      false≢true (sym (ap Rattle.std.specs.Option.is_some (ap (λ (k : ActivationRow). k.start) (sym is_row) ∙ waits)) ∙ some)

  -- so no waiter has its unit
  pub waiter_apart : (m v : ℕ) → 1 ≤ times m (waiters_of r.waiters t) → unit_of_number r m ≡ Some v → v ≢ unit
  waiter_apart m v some named same =
      let seen = waiter_seen m some in
      let is_unit : seen.unit ≡ v = same_Some seen.unit v (sym seen.named ∙ named) in
      let is_known : seen.known ≡ itself.known = same_Some seen.known itself.known (sym seen.stands ∙ ap (slice_get e.store.records) (is_unit ∙ same) ∙ record_itself) in
      other_task m seen.row seen.there seen.waits (sym seen.task ∙ ap (λ (k : Record). k.task) is_known ∙ itself.task)

  -- each unit among the waiters is that of a number that waits
  waiter_named : (v : ℕ) → 1 ≤ times v waiters → (m : ℕ) × (1 ≤ times m (waiters_of r.waiters t)) × (unit_of_number r m ≡ Some v)
  waiter_named v some = number_named (unit_of_number r) (waiters_of r.waiters t) waiters v itself.of_waiters some

  -- the task may end
  pub may_complete : MayComplete unit waiters e.store
  may_complete = record {
    within = slice_get_within e.store.records unit itself.known record_itself;
    inside = λ place v there. inside v (waiter_named v (times_member v waiters place there));
    apart = λ place v there. apart v (waiter_named v (times_member v waiters place there));
    chain = subst (λ o. Chained e.store.records (first_in o) waiters) (sym record_itself) itself.chain;
    places = room p units [] (Some (t, words)) e r sees [] held (waiters_of r.waiters t) waiters itself.of_waiters (λ m. let each = held.numbers.each m in let most = waiters_within m r.waiters t in omega (arith, each, most));
  }
    where
      inside : (v : ℕ) → (m : ℕ) × (1 ≤ times m (waiters_of r.waiters t)) × (unit_of_number r m ≡ Some v) → v < units_of e.store
      inside v (m, some, named) =
          let seen = waiter_seen m some in
          let is_unit : seen.unit ≡ v = same_Some seen.unit v (sym seen.named ∙ named) in
          slice_get_within e.store.records v seen.known (ap (slice_get e.store.records) (sym is_unit) ∙ seen.stands)

      apart : (v : ℕ) → (m : ℕ) × (1 ≤ times m (waiters_of r.waiters t)) × (unit_of_number r m ≡ Some v) → v ≢ unit
      apart v (m, some, named) = waiter_apart m v some named

  -- the store with the outcome, and then with the waiters woken
  abbrev set_store : StoreState
  set_store = changed (with_outcome (outcome_seen outcome)) unit e.store

  -- and once the waiters are woken
  abbrev pub done_store : StoreState
  done_store = completed unit (outcome_seen outcome) waiters e.store

  -- what that is
  woke : Woken (cut_of (outcome_seen outcome)) waiters set_store done_store
  woke = woken_records (cut_of (outcome_seen outcome)) waiters set_store

  -- what became of the record k at the unit v
  record After (v : ℕ) (k : Record) : Type 0 where
    pub now : Record
    pub there : slice_get done_store.records v ≡ Some now
    pub task : now.task ≡ k.task
    pub number : now.number ≡ k.number
    pub priority : now.priority ≡ k.priority
    pub references : now.references ≡ k.references
    pub next : now.next ≡ k.next
    pub size : now.length ≡ k.length
    pub outcome_kept : v ≢ unit → now.outcome ≡ k.outcome
    pub outcome_set : v ≡ unit → now.outcome ≡ Some (outcome_seen outcome)
    pub first_kept : v ≢ unit → now.first ≡ k.first
    pub first_gone : v ≡ unit → now.first ≡ None
    pub cut_kept : times v waiters ≡ 0 → now.cut ≡ k.cut
    pub cut_told : 1 ≤ times v waiters → now.cut ≡ cut_of (outcome_seen outcome)

  -- it is so for each record
  after : (v : ℕ) (k : Record) → slice_get e.store.records v ≡ Some k → After v k
  after v k there = ⊎_elim here other (cases_eq v unit)
    where
      here : v ≡ unit → After v k
      here same = by (times v waiters) refl
        where
          set : slice_get set_store.records v ≡ Some (with_outcome (outcome_seen outcome) k)
          set = ap (slice_get set_store.records) same ∙ changed_same (with_outcome (outcome_seen outcome)) unit e.store.records k (ap (slice_get e.store.records) (sym same) ∙ there)

          by : (n : ℕ) → times v waiters ≡ n → After v k
          by zero none = record {
            now = with_outcome (outcome_seen outcome) k;
            there = woke.other v none ∙ set;
            task = refl;
            number = refl;
            priority = refl;
            references = refl;
            next = refl;
            size = refl;
            outcome_kept = λ differ. absurd (differ same);
            outcome_set = λ e. refl;
            first_kept = λ differ. absurd (differ same);
            first_gone = λ e. refl;
            cut_kept = λ e. refl;
            cut_told = λ some. absurd (omega (arith, none, some));
          }
          by (suc n) has = record {
            now = with_cut (cut_of (outcome_seen outcome)) (with_outcome (outcome_seen outcome) k);
            there = woke.here v (with_outcome (outcome_seen outcome) k) (omega (arith, has)) set;
            task = refl;
            number = refl;
            priority = refl;
            references = refl;
            next = refl;
            size = refl;
            outcome_kept = λ differ. absurd (differ same);
            outcome_set = λ e. refl;
            first_kept = λ differ. absurd (differ same);
            first_gone = λ e. refl;
            cut_kept = λ none. absurd (omega (arith, none, has));
            cut_told = λ some. refl;
          }

      other : v ≢ unit → After v k
      other differ = by (times v waiters) refl
        where
          kept : slice_get set_store.records v ≡ Some k
          kept = changed_other (with_outcome (outcome_seen outcome)) unit v e.store.records differ ∙ there

          by : (n : ℕ) → times v waiters ≡ n → After v k
          by zero none = record {
            now = k;
            there = woke.other v none ∙ kept;
            task = refl;
            number = refl;
            priority = refl;
            references = refl;
            next = refl;
            size = refl;
            outcome_kept = λ _. refl;
            outcome_set = λ same. absurd (differ same);
            first_kept = λ _. refl;
            first_gone = λ same. absurd (differ same);
            cut_kept = λ e. refl;
            cut_told = λ some. absurd (omega (arith, none, some));
          }
          by (suc n) has = record {
            now = with_cut (cut_of (outcome_seen outcome)) k;
            there = woke.here v k (omega (arith, has)) kept;
            task = refl;
            number = refl;
            priority = refl;
            references = refl;
            next = refl;
            size = refl;
            outcome_kept = λ _. refl;
            outcome_set = λ same. absurd (differ same);
            first_kept = λ _. refl;
            first_gone = λ same. absurd (differ same);
            cut_kept = λ none. absurd (omega (arith, none, has));
            cut_told = λ some. refl;
          }

  -- the record of a task in use is at this unit only where it is the task's
  at_unit : (u : ℕ) (old : SeesTask p [] (Some (t, words)) e.store r u) → (u ≡ t → old.block.unit ≡ unit) × (u ≢ t → old.block.unit ≢ unit)
  at_unit u old = (there, apart)
    where
      there : u ≡ t → old.block.unit ≡ unit
      there same = same_Some old.block.unit unit (sym (unit_from r.blocks u old.block old.has_block) ∙ ap (unit_of r.blocks) same ∙ at)

      apart : u ≢ t → old.block.unit ≢ unit
      apart differ same =
          let is_known : old.known ≡ itself.known = same_Some old.known itself.known (sym old.there ∙ ap (slice_get e.store.records) same ∙ record_itself) in
          differ (sym old.task ∙ ap (λ (k : Record). k.task) is_known ∙ itself.task)

  -- frames are what they were
  frame_after : (v : ℕ) (k : Record) (there : slice_get e.store.records v ≡ Some k) (a : After v k) → frame_at done_store v ≡ frame_at e.store v
  frame_after v k there a =
      ap (frame_in v done_store.words) a.there ∙ ap (λ (n : ℕ). take n (drop (v * 8) done_store.words)) a.size ∙ ap (λ ws. take k.length (drop (v * 8) ws)) woke.beside.words ∙ sym (ap (frame_in v e.store.words) there)

  -- and lists of waiters go on as before
  chain_after : (first : Option ℕ) (ws : List ℕ) → Chained e.store.records first ws → Chained done_store.records first ws
  chain_after first ws chain = chained_same e.store.records done_store.records first ws (λ v k some there. let a = after v k there in (a.now, a.there, a.next)) chain

  -- a number of the task u that has not started, at the unit v
  module _ (u m : ℕ) (row : ActivationRow) (there : by_number r.journal.rows m ≡ Some row) (of_task : row.task ≡ u) (waits : row.start ≡ None) where
    -- where it is behind the task that ended, it stood among its waiters
    stood : Rattle.run_model.proofs.NumbersInvariant.Numbers r.journal.rows r.journal.tasks r.waiters r.ready [] → row.after ≡ Some t → 1 ≤ times m (waiters_of r.waiters t)
    stood numbers behind_t = by (times_ready m r.ready) refl
      where
        open_t : Rattle.record_core.specs.Journal.finish_of r.journal.tasks t ≡ None
        open_t = held.live.is_open t n runs.row live_itself

        one : not_started (by_number r.journal.rows m) ≡ 1
        one = ap not_started there ∙ waits_still row waits

        by : (k : ℕ) → times_ready m r.ready ≡ k → 1 ≤ times m (waiters_of r.waiters t)
        by zero none =
            let (w, some) = some_waiters m r.waiters (let each = numbers.each m in omega (arith, each, one, none)) in
            let (after, _) = numbers.behind m w row there some in
            subst (λ x. 1 ≤ times m (waiters_of r.waiters x)) (same_Some w t (sym after ∙ behind_t)) some
        by (suc k) has = absurd (false≢true (sym (ap Rattle.std.specs.Option.is_some open_t) ∙ numbers.free m t row there (omega (arith, has)) behind_t))

    -- its record knows how the task was cut that it is behind
    cut_after : (v : ℕ) (old : SeesTask p [] (Some (t, words)) e.store r u) → old.block.unit ≡ v → (a : After v old.known) → (cut : Option CutTag)
        → cut_behind (put_number r.outcomes t (Some outcome)) row.after ≡ Some cut → a.now.cut ≡ cut
    cut_after v old is_v a cut known = by (times v waiters) refl
      where
        named : unit_of_number r m ≡ Some v
        named = ap (unit_of_row r.blocks) there ∙ ap (unit_of r.blocks) of_task ∙ unit_from r.blocks u old.block old.has_block ∙ ap Some is_v

        told : row.after ≡ Some t → cut_of (outcome_seen outcome) ≡ cut
        told behind_t =
            same_Some (cut_of (outcome_seen outcome)) cut
            (sym (ap (cut_behind (put_number r.outcomes t (Some outcome))) behind_t ∙ ap (option_map (λ o. cut_of (outcome_seen o))) outcome_put) ∙ known)

        by : (k : ℕ) → times v waiters ≡ k → a.now.cut ≡ cut
        by zero none = a.cut_kept none ∙ old.cut m row cut (record { there = there; of_task = of_task; current = inl waits }) waits (not_behind row.after refl known)
          where
            not_behind : (o : Option ℕ) → row.after ≡ o → cut_behind (put_number r.outcomes t (Some outcome)) o ≡ Some cut → cut_behind r.outcomes row.after ≡ Some cut
            not_behind None is e = ap (cut_behind r.outcomes) is ∙ e
            not_behind (Some w) is e =
                ⊎_elim
                (λ same.
                let (x, some, has) = name_numbered (unit_of_number r) (waiters_of r.waiters t) waiters m itself.of_waiters (stood held.numbers (is ∙ ap Some same)) in
                let is_x : x ≡ v = same_Some x v (sym has ∙ named) in
                let both : times x waiters ≡ times v waiters = ap (λ y. times y waiters) is_x in
                absurd (omega (arith, some, both, none)))
                (λ differ. ap (cut_behind r.outcomes) is ∙ ap (option_map (λ o. cut_of (outcome_seen o))) (sym (found_put_other r.outcomes t w (Some outcome) differ)) ∙ e)
                (cases_eq w t)
        by (suc k) has =
            let (x, some, at_x) = waiter_named v (omega (arith, has)) in
            let is_m : m ≡ x = one_number p units [] (Some (t, words)) e r sees [] held m x v (seen_number p units [] (Some (t, words)) e r sees [] held m row there waits) (waiter_seen x some) named at_x in
            let (after_t, _) = held.numbers.behind m t row there (subst (λ y. 1 ≤ times y (waiters_of r.waiters t)) (sym is_m) some) in
            a.cut_told (omega (arith, has)) ∙ told after_t

  -- the waiters of each task, of which the one that ended has none
  waiters_after : (u : ℕ) (old : SeesTask p [] (Some (t, words)) e.store r u) (a : After old.block.unit old.known)
      → (ws : List ℕ) × AreUnitsOf ended ws (waiters_of (put_number r.waiters t []) u) × Chained done_store.records a.now.first ws
  waiters_after u old a =
      ⊎_elim
      (λ same. (
        [],
        ap (λ x. map (unit_of_number r) (waiters_of (put_number r.waiters t []) x)) same ∙ ap (map (unit_of_number r)) (waiters_put r.waiters t [] body_within.0 waiters_long),
        subst (λ o. Chained done_store.records o []) (sym (a.first_gone ((at_unit u old).0 same))) tt,
      ))
      (λ differ. (
        old.waiters,
        ap (map (unit_of_number r)) (waiters_put_other r.waiters t u [] differ) ∙ old.of_waiters,
        subst (λ o. Chained done_store.records o old.waiters) (sym (a.first_kept ((at_unit u old).1 differ))) (chain_after old.known.first old.waiters old.chain),
      ))
      (cases_eq u t)

  -- the outcome of each task
  outcome_after : (u : ℕ) (old : SeesTask p [] (Some (t, words)) e.store r u) (a : After old.block.unit old.known)
      → a.now.outcome ≡ option_map outcome_seen (found (put_number r.outcomes t (Some outcome)) u)
  outcome_after u old a =
      ⊎_elim
      (λ same. a.outcome_set ((at_unit u old).0 same) ∙ sym (ap (λ x. option_map outcome_seen (found (put_number r.outcomes t (Some outcome)) x)) same ∙ ap (option_map outcome_seen) outcome_put))
      (λ differ. a.outcome_kept ((at_unit u old).1 differ) ∙ old.outcome ∙ sym (ap (option_map outcome_seen) (found_put_other r.outcomes t u (Some outcome) differ)))
      (cases_eq u t)

  -- the body of each task that has one
  body_after : (u : ℕ) (old : SeesTask p [] (Some (t, words)) e.store r u) (a : After old.block.unit old.known) (b : Body) → found (put_number r.bodies t None) u ≡ Some b
      → SeesBody p r.blocks (frame_at done_store old.block.unit) b
  body_after u old a b has =
      ⊎_elim
      (λ same. absurd (none-some b (sym (ap (found (put_number r.bodies t None)) same ∙ gone_body) ∙ has)))
      (λ differ.
      let was : cond (nat_eq t u) words (frame_at e.store old.block.unit) ≡ frame_at e.store old.block.unit = ap (λ x. cond x words (frame_at e.store old.block.unit)) (ne_eqb t u (λ e. differ (sym e))) in
      subst (λ ws. SeesBody p r.blocks ws b) (was ∙ sym (frame_after old.block.unit old.known old.there a)) (old.body b (sym (found_put_other r.bodies t u None differ) ∙ has)))
      (cases_eq u t)

  -- each task in use is seen
  ended_task : (u : ℕ) → InUse left_hand ended u → SeesTask p left_hand None done_store ended u
  ended_task u used = make u (sees.tasks u (was_in_use u used))
    where
      make : (u : ℕ) → SeesTask p [] (Some (t, words)) e.store r u → SeesTask p left_hand None done_store ended u
      make u old = record {
        block = old.block;
        known = a.now;
        has_block = old.has_block;
        stands = ap (λ bs. slice_get bs old.block.unit) woke.beside.blocks ∙ old.stands;
        there = a.there;
        task = a.task ∙ old.task;
        referred = a.references ∙ old.referred ∙ sym (references_ended u);
        outcome = outcome_after u old a;
        number = λ m row current. let was = old.number m row (before m row current) in (a.number ∙ was.0, a.priority ∙ was.1);
        cut = λ m row cut current waits known. cut_after u m row current.there current.of_task waits old.block.unit old refl a cut known;
        waiters = kept.0;
        of_waiters = kept.1;
        chain = kept.2;
        fits = omega (arith, old.fits, a.size);
        body = body_after u old a;
        size = λ ws own. absurd (none-some (u, ws) own);
      }
        where
          a : After old.block.unit old.known
          a = after old.block.unit old.known old.there

          kept : (ws : List ℕ) × AreUnitsOf ended ws (waiters_of (put_number r.waiters t []) u) × Chained done_store.records (after old.block.unit old.known old.there).now.first ws
          kept = waiters_after u old (after old.block.unit old.known old.there)

          before : (m : ℕ) (row : ActivationRow) → IsCurrent ended u m row → IsCurrent r u m row
          before m row current = record { there = current.there; of_task = current.of_task; current = ⊎_elim (λ waits. inl waits) (λ run. absurd (none-some m run)) current.current }

  -- the state once the task was completed
  abbrev pub done_engine : EngineState
  done_engine = record e { journal = with_finished e.journal t why; store = done_store }

  -- The engine stands for the run that ended the task, with what the body named, and the task, in hand.
  pub completed_sees : Sees p units left_hand None done_engine ended
  completed_sees = record {
    shaped = record { units = woke_length ∙ sees.shaped.units ∙ ap (λ (pool : PoolState). length pool.superblocks * pool.units) (sym woke.beside.pool); of_blocks = ap length woke.beside.blocks ∙ sees.shaped.of_blocks ∙ sym woke_length; of_words = ap length woke.beside.words ∙ sees.shaped.of_words ∙ ap (λ n. n * 8) (sym woke_length) };
    sound = subst IsSound (sym woke.beside.pool) sees.sound;
    pool = woke.beside.pool ∙ sees.pool ∙ sym (pool_same units [] left_hand r ended refl refl references_ended);
    out = λ u block has used. subst (λ pool. IsOut pool block) (sym woke.beside.pool) (sees.out u block has (was_in_use u used));
    apart = λ u v block has_u has_v used_u used_v. sees.apart u v block has_u has_v (was_in_use u used_u) (was_in_use v used_v);
    tasks = ended_task;
    journal = ap (λ j. with_finished j t why) sees.journal;
    roots = sees.roots;
    high = queues.high;
    regular = queues.regular;
    low = queues.low;
    nulls = sees.nulls;
    class = sees.class;
    words = sees.words;
  }
    where
      woke_length : length done_store.records ≡ length e.store.records
      woke_length = woke.beside.size ∙ changed_length (with_outcome (outcome_seen outcome)) unit e.store.records

      queues : QueuesSeen (unit_of_number r) done_store.ready ended.ready
      queues = woken_queues (unit_of_number r) r.priorities (cut_of (outcome_seen outcome)) (waiters_of r.waiters t) waiters set_store r.ready itself.of_waiters priorities (record { high = sees.high; regular = sees.regular; low = sees.low })
        where
          priorities : (m v : ℕ) → 1 ≤ times m (waiters_of r.waiters t) → unit_of_number r m ≡ Some v → (k : Record) × (slice_get set_store.records v ≡ Some k) × (k.priority ≡ priority_of r.priorities m)
          priorities m v some named =
              let seen = waiter_seen m some in
              let is_unit : seen.unit ≡ v = same_Some seen.unit v (sym seen.named ∙ named) in
              (seen.known, changed_other (with_outcome (outcome_seen outcome)) unit v e.store.records (waiter_apart m v some named) ∙ ap (slice_get e.store.records) (sym is_unit) ∙ seen.stands, seen.priority)
