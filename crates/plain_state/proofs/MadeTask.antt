-- A new task is made: it has its block, its record and its frame, and is in hand in place of the tasks that its body names.
use Rattle.std.proofs.Common.{◌≡◌, ◌≢◌, ◌⊎◌, ℕ, zero, suc, ◌+◌, ◌*◌, ◌<◌, ◌≤◌, cond, Option, Some, None, List, [], ◌∷◌, ◌++◌, length, map, slice_get}
use Rattle.std.proofs.Common.{refl, sym, ◌∙◌, ap, subst, inl, inr, ⊎_elim, arith}
use Rattle.std.specs.Prelude.{slice_set}
use Rattle.std.specs.Option.{option_map}
use Rattle.std.proofs.lemmas.Bool.{cases_eq}
use Rattle.std.proofs.lemmas.Option.{none-some, same_Some}
use Rattle.task_syntax.specs.Places.{Each}
use Rattle.task_syntax.specs.declared.program.Program.{Program}
use Rattle.kt_words.specs.Capacity.{block_units}
use Rattle.kt_words.specs.Ranges.{IsUnitCount}
use Rattle.pool_core.specs.Blocks.{BlockState, HasUnit}
use Rattle.pool_core.specs.Pool.{PoolState, IsSound, IsOut, Gives, Adds}
use Rattle.pool_core.proofs.Given.{gives_sound, gives_adds}
use Rattle.pool_core.proofs.Apart.{blocks_apart, blocks_inside}
use Rattle.frame_code.specs.Frames.{IsFrame}
use Rattle.frame_code.specs.Words.{body_of}
use Rattle.frame_code.specs.Names.{names_of, body_with}
use Rattle.record_core.specs.Numbers.{by_number, found}
use Rattle.record_core.specs.Sums.{total}
use Rattle.record_core.specs.Journal.{next_number, with_accepted}
use Rattle.record_core.specs.declared.rows.ActivationRow.{ActivationRow}
use Rattle.record_core.specs.declared.rows.CutTag.{CutTag}
use Rattle.record_core.proofs.TotalFacts.{total-snoc}
use Rattle.run_model.specs.State.{Body, RootWord, Named, Run}
use Rattle.run_model.specs.Placing.{is_open, pool_of}
use Rattle.run_model.specs.Step.{Request, priority_of, priority_or, waiters_of, list_or, accepts}
use Rattle.run_model.proofs.ByNumber.{number_within, member_at, snoc_new, snoc_other, snoc_cases, found_new, found_other, found_old, found_past}
use Rattle.run_model.proofs.ByNumber.{has_some}
use Rattle.run_model.proofs.NumbersInvariant.{NumbersStand, not_started}
use Rattle.run_model.proofs.LiveFacts.{read_snoc, outcome_snoc}
use Rattle.run_model.proofs.QueueFacts.{row_of_number}
use Rattle.run_model.proofs.UsedFacts.{Uses, in_use}
use Rattle.run_model.proofs.BlocksParts.{Core}
use Rattle.plain_state.specs.declared.record.Record.{Record}
use Rattle.plain_state.specs.Store.{StoreState, IsShaped, made, stored, with_length, frame_at, frame_in, cut_of}
use Rattle.plain_state.specs.Engine.{EngineState}
use Rattle.plain_state.specs.Moves.{new_record}
use Rattle.plain_state.specs.declared.record.Behind.{Behind}
use Rattle.plain_state.specs.Sees.{Sees, SeesTask, SeesBody, IsCurrent, InUse, references, times, body_times, root_state, with_hand, unit_of}
use Rattle.plain_state.specs.Sees.{unit_of_number, cut_behind, frame_or, outcome_seen, unit_of_row}
use Rattle.plain_state.proofs.Units.{unit_from, unit_in_use, le_or_lt, has_first}
use Rattle.plain_state.proofs.ChangedRecords.{set_length, set_same, set_other, changed_same, changed_other}
use Rattle.plain_state.proofs.Frames.{frame_stored, frame_beside, stored_shaped}
use Rattle.plain_state.proofs.Chains.{chained_kept, KeepsNext}
use Rattle.plain_state.proofs.References.{in_use_counts, in_use_open, in_use_named, in_use_hand, times_append, times_other, times_itself}
use Rattle.plain_state.proofs.References.{times_member}
use Rattle.plain_state.proofs.PoolParts.{core_from, used_out}
use Rattle.plain_state.proofs.PoolGiven.{core_given, given_pool}
use Rattle.plain_state.proofs.GrownLists.{map_grows, body_same, unit_grows, number_grows, not_own, none_if, map_member, root_grows}
use Rattle.pool_core.specs.Superblocks.{given}
use Rattle.std.proofs.lemmas.Nat.{pow_pos}

-- the record and the frame of the new task, once the tasks that it names are held
abbrev pub with_task : BlockState → PoolState → Record → List ℕ → StoreState → StoreState
with_task block pool k words s = stored block.unit words (made block k (record s { pool = pool }))

module _ (p : Program) (units : ℕ) (unit_count : IsUnitCount units) (hand : List ℕ) (own : Option (ℕ × List ℕ)) (e : EngineState) (r : Run)
    (q : Request) (block : BlockState) (pool : PoolState)
    (words : List ℕ) (behind : Behind) (sees : Sees p units (names_of q.body ++ hand) own e r) (stands : NumbersStand r) (fits : q.class ≤ 3)
    (gives : Gives e.store.pool q.class block pool) where
  -- the new task, and the run that accepted it
  abbrev new : ℕ
  new = next_number r.journal

  abbrev before : List ℕ
  before = names_of q.body ++ hand

  abbrev then : Run
  then = accepts units r q block

  abbrev k : Record
  k = new_record (next_number e.journal) q.priority behind.cut

  abbrev s : StoreState
  s = with_task block pool k words e.store

  -- references

  -- its number is the next among the bodies
  as_bodies : new ≡ suc (length r.bodies)
  as_bodies = ap suc (sym stands.beside.of_bodies)

  -- and among the blocks
  as_blocks : new ≡ suc (length r.blocks)
  as_blocks = ap suc (sym stands.beside.of_blocks)

  -- nothing referred to the new task
  unknown : found r.blocks new ≡ None
  unknown = found_past r.blocks new (omega (arith, stands.beside.of_blocks))

  -- nothing referred to it
  none_before : references before r new ≡ 0
  none_before = none_if (references before r new)
      (λ some. let task = sees.tasks new ((in_use_counts before r new).1 some) in none-some task.block (sym unknown ∙ task.has_block))

  -- another task is referred to as before
  refs_other : (t : ℕ) → t ≢ new → references (new ∷ hand) then t ≡ references before r t
  refs_other t differ =
      let same : ◌≡◌ {A = ℕ} (cond (is_open (found (r.bodies ++ Some q.body ∷ []) t)) 1 0) (cond (is_open (found r.bodies t)) 1 0) =
      ap (λ o. cond (is_open o) 1 0) (found_other r.bodies (Some q.body) t (λ is_new. differ (is_new ∙ sym as_bodies))) in
      omega (
        arith,
        same,
        total-snoc (body_times t) r.bodies (Some q.body),
        times_append t (names_of q.body) hand,
        times_other t new
            (λ is_new. differ (sym is_new)),
      )

  -- it is referred to twice
  refs_new : references (new ∷ hand) then new ≡ 2
  refs_new =
      let here : ◌≡◌ {A = ℕ} (cond (is_open (found (r.bodies ++ Some q.body ∷ []) new)) 1 0) 1 = ap
      (λ o. cond (is_open o) 1 0) (found_new r.bodies (Some q.body) new as_bodies) in
      omega (arith, here, total-snoc (body_times new) r.bodies (Some q.body), times_append new (names_of q.body) hand, times_itself new, none_before)

  -- another task in use was in use
  pub used_before : (t : ℕ) → t ≢ new → InUse (new ∷ hand) then t → InUse before r t
  used_before t differ used = (in_use_counts before r t).1 (omega (arith, refs_other t differ, (in_use_counts (new ∷ hand) then t).0 used))

  -- what was in use still is
  used_then : (t : ℕ) → InUse before r t → InUse (new ∷ hand) then t
  used_then t used =
      let some = (in_use_counts before r t).0 used in
      let differ : t ≢ new = λ same. absurd (omega (arith, some, none_before, ap (references before r) same)) in
      (in_use_counts (new ∷ hand) then t).1 (omega (arith, refs_other t differ, some))

  -- blocks

  abbrev roots : List RootWord
  roots = map Named before ++ r.roots

  abbrev roots' : List RootWord
  roots' = map Named (new ∷ hand) ++ r.roots

  -- the pool of the run is sound
  sound : IsSound (pool_of units (with_hand before r))
  sound = subst IsSound sees.pool sees.sound

  -- what is kept of the blocks in use
  core : Core units roots r.bodies r.blocks r.supers
  core = core_from units unit_count roots r.bodies r.blocks r.supers sound
      (λ t b has used. subst (λ x. IsOut x b) sees.pool (sees.out t b has ((in_use roots r.bodies t).1 used)))
      (λ t u b has_t has_u used_t used_u. sees.apart t u b has_t has_u ((in_use roots r.bodies t).1 used_t) ((in_use roots r.bodies u).1 used_u))

  -- the pool of the run gives the block
  gives' : Gives (pool_of units (with_hand before r)) q.class block pool
  gives' = subst (λ x. Gives x q.class block pool) sees.pool gives

  -- only the new task is in use besides
  less : (u : ℕ) → Uses roots' then.bodies u → u ≢ suc (length r.blocks) → Uses roots r.bodies u
  less u used differ = (in_use roots r.bodies u).0 (used_before u (λ same. differ (same ∙ as_blocks)) ((in_use roots' then.bodies u).1 used))

  -- and none is in use no longer
  kept : (u : ℕ) → Uses roots r.bodies u → Uses roots' then.bodies u
  kept u used = (in_use roots' then.bodies u).0 (used_then u ((in_use roots r.bodies u).1 used))

  -- the new task is in use
  used_new : InUse (new ∷ hand) then new
  used_new = (in_use_counts (new ∷ hand) then new).1 (omega (arith, refs_new))

  -- by its number among the blocks
  fresh : Uses roots' then.bodies (suc (length r.blocks))
  fresh = (in_use roots' then.bodies (suc (length r.blocks))).0 (subst (InUse (new ∷ hand) then) as_blocks used_new)

  -- what is kept of the blocks with the new one
  core' : Core units roots' then.bodies then.blocks then.supers
  core' = core_given units unit_count roots r.bodies r.blocks r.supers core sound q.class fits block pool gives' roots' then.bodies less kept fresh

  -- the pool that gave the block is that of the run with the new task
  pool_is : pool ≡ pool_of units (with_hand (new ∷ hand) then)
  pool_is = given_pool units unit_count roots r.bodies r.blocks r.supers core sound q.class fits block pool gives' roots' then.bodies less kept fresh

  -- it is sound
  new_sound : IsSound pool
  new_sound = gives_sound e.store.pool pool q.class block sees.sound fits gives

  -- one block more is out of it
  adds : Adds e.store.pool block pool
  adds = gives_adds e.store.pool pool q.class block sees.sound fits gives

  -- its superblocks are as large
  units_is : pool.units ≡ e.store.pool.units
  units_is = ap (λ (x : PoolState). x.units) gives.after

  -- and as many
  many : length pool.superblocks ≡ length e.store.pool.superblocks
  many = ap (λ (x : PoolState). length x.superblocks) gives.after
      ∙ set_length e.store.pool.superblocks gives.place (given gives.was q.class gives.bit)

  -- the new block is inside
  pub inside : block.unit + block_units block.class ≤ length e.store.records
  inside =
      let within = blocks_inside pool new_sound block adds.is_out in
      let same : length pool.superblocks * pool.units ≡ length e.store.pool.superblocks * e.store.pool.units = ap (λ n. n * pool.units) many
      ∙ ap (λ n. length e.store.pool.superblocks * n) units_is in
      omega (arith, within, same, sees.shaped.units)

  -- its first unit has a record
  below : block.unit < length e.store.records
  below = omega (arith, inside, pow_pos block.class)

  -- it lies beside the block of each task that was in use
  beside : (t : ℕ) (b : BlockState) → found r.blocks t ≡ Some b → InUse before r t
      → (b.unit + block_units b.class ≤ block.unit) ⊎ (block.unit + block_units block.class ≤ b.unit)
  beside t b has used =
      ⊎_elim
      (λ low. ⊎_elim (λ ends. inl ends) (λ over. absurd (not_same (apart block.unit (record { from = low; before = omega (arith, over) })
      (has_first block)))) (le_or_lt (b.unit + block_units b.class) block.unit))
      (λ high. ⊎_elim (λ ends. inr ends) (λ over. absurd (not_same (apart b.unit (has_first b) (record {
        from = omega (arith, high);
        before = omega
            (arith, over);
      })))) (le_or_lt (block.unit + block_units block.class) b.unit))
      (le_or_lt b.unit block.unit)
    where
      was_out : IsOut e.store.pool b
      was_out = sees.out t b has used

      not_same : b ≢ block
      not_same same = adds.was_in (subst (IsOut e.store.pool) same was_out)

      apart : (unit : ℕ) → HasUnit b unit → HasUnit block unit → b ≡ block
      apart unit in_b in_block = blocks_apart pool new_sound b block unit ((adds.others b not_same).1 was_out) adds.is_out in_b in_block

  -- no block that was in use begins there
  other_unit : (t : ℕ) (b : BlockState) → found r.blocks t ≡ Some b → InUse before r t → b.unit ≢ block.unit
  other_unit t b has used same =
      ⊎_elim
      (λ low. absurd (omega (arith, low, same, pow_pos b.class)))
      (λ high. absurd (omega (arith, high, same, pow_pos block.class)))
      (beside t b has used)

  -- records

  -- the new record
  made_record : slice_get (slice_set e.store.records block.unit k) block.unit ≡ Some k
  made_record = let (old, there) = member_at e.store.records (suc block.unit) (omega arith) (omega
      (arith, below)) in set_same e.store.records block.unit old k there

  -- and its length
  record_new : slice_get s.records block.unit ≡ Some (with_length (length words) k)
  record_new = changed_same (with_length (length words)) block.unit (slice_set e.store.records block.unit k) k made_record

  -- the other records stay
  record_other : (at : ℕ) → at ≢ block.unit → slice_get s.records at ≡ slice_get e.store.records at
  record_other at differ = changed_other (with_length (length words)) block.unit at (slice_set e.store.records block.unit k) differ
      ∙ set_other e.store.records block.unit at k differ

  -- the new block stands at its unit
  block_new : slice_get s.blocks block.unit ≡ Some (Some block)
  block_new =
      let (old, there) = member_at e.store.blocks (suc block.unit) (omega arith) (omega
      (arith, below, sees.shaped.of_blocks)) in set_same e.store.blocks block.unit old (Some block) there

  -- what waits for a task is not at the new unit
  waiter_used : (t n : ℕ) → 1 ≤ times n (waiters_of r.waiters t) → (unit : ℕ) → unit_of_number r n ≡ Some unit → unit ≢ block.unit
  waiter_used t n waits unit at =
      let counted : 1 ≤ not_started (by_number r.journal.rows n) = omega
      (arith, stands.numbers.each n, waits, in_total r.waiters t n) in
      let (row, there, none) = row_of_number (by_number r.journal.rows n) counted in
      let task = (stands.of_tasks n row there).of_task in
      let open_ = stands.live.is_open row.task n row (record { there = there; of_task = refl; live = inl none }) in
      let (body, has) = has_some (found r.bodies row.task) ((stands.live.has_body row.task task).1 open_) in
      let used = in_use_open before r row.task body has in
      let seen = sees.tasks row.task used in
      let is_unit : seen.block.unit ≡ unit = same_Some seen.block.unit unit (sym (unit_from r.blocks row.task seen.block seen.has_block)
      ∙ sym (ap (unit_of_row r.blocks) there) ∙ at) in
      λ same. other_unit row.task seen.block seen.has_block used (is_unit ∙ same)
    where
      in_total : (waiters : List (List ℕ)) (t n : ℕ) → times n (waiters_of waiters t) ≤ total (times n) waiters
      in_total waiters zero n = omega arith
      in_total waiters (suc t) n = go waiters t
        where
          go : (waiters : List (List ℕ)) (t : ℕ) → times n (list_or (slice_get waiters t)) ≤ total (times n) waiters
          go [] t = omega arith
          go (w ∷ waiters) zero = omega arith
          go (w ∷ waiters) (suc t) = omega (arith, go waiters t)

  -- what is read of the run that accepted it

  abbrev new_row : ActivationRow
  new_row = record { task = new; after = q.after; start = None }

  -- a task in use keeps its unit
  same_unit : (u : ℕ) → InUse before r u → unit_of r.blocks u ≡ unit_of then.blocks u
  same_unit u used = let (unit, at) = unit_in_use p units before own e r sees u used in at ∙ sym (unit_grows r.blocks (Some block) u unit at)

  -- an activation keeps its unit
  named_grows : (n unit : ℕ) → unit_of_number r n ≡ Some unit → unit_of_number then n ≡ Some unit
  named_grows n unit at = number_grows r.journal.rows r.blocks new_row (Some block) n unit at

  -- what is known of a cut stays
  cut_same : (after : Option ℕ) → cut_behind then.outcomes after ≡ cut_behind r.outcomes after
  cut_same None = refl
  cut_same (Some u) = ap (option_map (λ o. cut_of (outcome_seen o)))
      (outcome_snoc r.outcomes u)

  -- waiters stay
  waiters_same : (t : ℕ) → waiters_of then.waiters t ≡ waiters_of r.waiters t
  waiters_same t = read_snoc list_or r.waiters [] refl t

  -- priorities stay
  priority_same : (n : ℕ) → n ≤ length r.journal.rows → priority_of then.priorities n ≡ priority_of r.priorities n
  priority_same n within = ap priority_or (snoc_other r.priorities q.priority n
      (λ same. absurd (omega (arith, same, within, stands.beside.of_priorities))))

  -- the current activation of another task was so before
  was_current : (t n : ℕ) (row : ActivationRow) → t ≢ new → IsCurrent then t n row → IsCurrent r t n row
  was_current t n row differ current =
      ⊎_elim
      (λ there. record { there = there; of_task = current.of_task; current = current.current })
      (λ is_new. absurd (differ (sym current.of_task ∙ ap (λ (x : ActivationRow). x.task) is_new.1)))
      (snoc_cases r.journal.rows new_row n row current.there)

  -- that of the new task is the new one
  is_current : (n : ℕ) (row : ActivationRow) → IsCurrent then new n row → (n ≡ new) × (row ≡ new_row)
  is_current n row current =
      ⊎_elim
      (λ there. absurd (omega (arith, (stands.of_tasks n row there).first, current.of_task, (number_within r.journal.rows n row there).1)))
      (λ is_new. is_new)
      (snoc_cases r.journal.rows new_row n row current.there)

  module _ (frame : IsFrame p words) (says : body_of p words ≡ body_with (unit_of r.blocks) q.body) (few : length words ≤ block_units block.class * 8)
      (apart_own : (ws : List ℕ) → own ≡ Some (new, ws) → ⊥)
      (after_is : behind.task ≡ q.after) (cut_is : (cut : Option CutTag) → cut_behind r.outcomes q.after ≡ Some cut → behind.cut ≡ cut) where
    -- the new frame is inside
    fits_words : block.unit * 8 + length words ≤ length e.store.words
    fits_words = omega (arith, inside, few, sees.shaped.of_words)

    -- the frame of another task
    frame_other : (t : ℕ) (was : SeesTask p before own e.store r t) → InUse before r t → frame_at s was.block.unit ≡ frame_at e.store was.block.unit
    frame_other t was used =
        let differ = other_unit t was.block was.has_block used in
        let same = set_other e.store.records block.unit was.block.unit k differ in
        frame_beside block.unit was.block.unit words (made block k (record e.store { pool = pool })) was.known differ (same ∙ was.there) fits_words
        (⊎_elim (λ low. inl (omega (arith, low, was.fits))) (λ high. inr (omega (arith, high, few))) (beside t was.block was.has_block used))
        ∙ ap (frame_in was.block.unit e.store.words) same

    -- another task
    old_task : (t : ℕ) → t ≢ new → InUse (new ∷ hand) then t → SeesTask p (new ∷ hand) own s then t
    old_task t differ used = record {
      block = was.block;
      known = was.known;
      has_block = found_old r.blocks (Some block) t was.block was.has_block;
      stands = set_other e.store.blocks block.unit was.block.unit (Some block) other ∙ was.stands;
      there = record_other was.block.unit other ∙ was.there;
      task = was.task;
      referred = was.referred ∙ sym (refs_other t differ);
      outcome = was.outcome ∙ ap (option_map outcome_seen) (sym (outcome_snoc r.outcomes t));
      number = λ n row current.
          let current' = was_current t n row differ current in
          let same = was.number n row current' in
          (same.0, same.1 ∙ sym (priority_same n (number_within r.journal.rows n row current'.there).1));
      cut = λ n row cut current starts cut_there. was.cut n row cut (was_current t n row differ current) starts (sym (cut_same row.after)
          ∙ cut_there);
      waiters = was.waiters;
      of_waiters = ap (map (unit_of_number then)) (waiters_same t)
          ∙ map_grows (unit_of_number r) (unit_of_number then) (waiters_of r.waiters t) was.waiters named_grows was.of_waiters;
      chain = chained_kept e.store.records s.records was.known.first was.waiters keeps was.chain;
      fits = was.fits;
      body = seen_body;
      size = was.size;
    }
      where
        used_then' : InUse before r t
        used_then' = used_before t differ used

        was : SeesTask p before own e.store r t
        was = sees.tasks t used_then'

        other : was.block.unit ≢ block.unit
        other = other_unit t was.block was.has_block used_then'

        keeps : Each was.waiters (KeepsNext e.store.records s.records)
        keeps place unit e k there =
            let (n, stood, at) = map_member (unit_of_number r)
            (waiters_of r.waiters t) was.waiters was.of_waiters place unit e in
            (k, record_other unit (waiter_used t n (times_member n (waiters_of r.waiters t) place stood) unit at) ∙ there, refl)

        seen_body : (body : Body) → found then.bodies t ≡ Some body → SeesBody p then.blocks (frame_or own t (frame_at s was.block.unit)) body
        seen_body body has =
            let has' : found r.bodies t ≡ Some body = sym (found_other r.bodies (Some q.body) t (λ same. differ (same ∙ sym as_bodies))) ∙ has in
            let seen = was.body body has' in
            let grown : SeesBody p then.blocks (frame_or own t (frame_at e.store was.block.unit)) body = record {
              frame = seen.frame;
              says = seen.says ∙ body_same (unit_of r.blocks) (unit_of then.blocks) body
                  (λ u some. same_unit u (in_use_named before r t u body has' some));
            } in
            subst (λ ws. SeesBody p then.blocks (frame_or own t ws) body) (sym (frame_other t was used_then')) grown

    -- the new task
    new_task : SeesTask p (new ∷ hand) own s then new
    new_task = record {
      block = block;
      known = with_length (length words) k;
      has_block = found_new r.blocks (Some block) new as_blocks;
      stands = block_new;
      there = record_new;
      task = ap next_number sees.journal;
      referred = sym refs_new;
      outcome = ap (option_map outcome_seen) (sym (found_new r.outcomes None new (ap suc
          (sym stands.beside.of_outcomes))));
      number = λ n row current.
          let is_new = is_current n row current in
          let as_priorities : n ≡ suc (length r.priorities) = is_new.0 ∙ ap suc (sym stands.beside.of_priorities) in (
            ap next_number sees.journal ∙ sym is_new.0,
            sym (ap (priority_of then.priorities) as_priorities
                ∙ ap priority_or (snoc_new r.priorities q.priority)),
          );
      cut = λ n row cut current starts cut_there.
          let is_new = is_current n row current in
          cut_is cut (sym (cut_same q.after) ∙ ap (λ (x : ActivationRow). cut_behind then.outcomes x.after) (sym is_new.1) ∙ cut_there);
      waiters = [];
      of_waiters = ap (map (unit_of_number then)) (ap (waiters_of then.waiters) (ap suc (sym stands.beside.of_waiters))
          ∙ ap list_or (snoc_new r.waiters []));
      chain = tt;
      fits = few;
      body = seen_body;
      size = λ ws is_own. absurd (apart_own ws is_own);
    }
      where
        seen_body : (body : Body) → found then.bodies new ≡ Some body → SeesBody p then.blocks (frame_or own new (frame_at s block.unit)) body
        seen_body body has =
            let same : q.body ≡ body = same_Some q.body body (sym (found_new r.bodies (Some q.body) new as_bodies) ∙ has) in
            let at : frame_or own new (frame_at s block.unit) ≡ words = not_own own new (frame_at s block.unit) apart_own
            ∙ frame_stored block.unit words (made block k (record e.store { pool = pool })) k made_record fits_words in
            let grown : SeesBody p then.blocks words q.body = record {
              frame = frame;
              says = says ∙ body_same (unit_of r.blocks) (unit_of then.blocks) q.body
                  (λ u some. same_unit u (in_use_hand before r u (omega (arith, some, times_append u (names_of q.body) hand))));
            } in
            subst (λ b. SeesBody p then.blocks (frame_or own new (frame_at s block.unit)) b) same (subst
            (λ ws. SeesBody p then.blocks ws q.body) (sym at) grown)

    -- the store keeps its shape
    made_shaped : IsShaped (made block k (record e.store { pool = pool }))
    made_shaped = record {
      units = set_length e.store.records block.unit k ∙ sees.shaped.units ∙ sym (ap (λ n. n * pool.units) many
          ∙ ap (λ n. length e.store.pool.superblocks * n) units_is);
      of_blocks = set_length e.store.blocks block.unit (Some block) ∙ sees.shaped.of_blocks ∙ sym (set_length e.store.records block.unit k);
      of_words = sees.shaped.of_words ∙ ap (λ n. n * 8) (sym (set_length e.store.records block.unit k));
    }

    -- The new task is made: the tasks that its body names are given up for it, which is in hand.
    pub made_sees : Sees p units (new ∷ hand) own (record e {
      journal = with_accepted e.journal None behind.task;
      store = with_task block pool k words
          e.store;
    }) then
    made_sees = record {
      shaped = stored_shaped block.unit words (made block k (record e.store { pool = pool })) fits_words made_shaped;
      sound = new_sound;
      pool = pool_is;
      out = λ t b has used. subst (λ x. IsOut x b) (sym pool_is) (used_out units unit_count roots' then.bodies then.blocks then.supers core' t b has
          ((in_use roots' then.bodies t).0 used));
      apart = λ t u b has_t has_u used_t used_u. core'.apart t u b has_t has_u ((in_use roots' then.bodies t).0 used_t)
          ((in_use roots' then.bodies u).0 used_u);
      tasks = λ t used. ⊎_elim (λ same. subst (SeesTask p (new ∷ hand) own s then) (sym same) new_task)
          (λ differ. old_task t differ used) (cases_eq t new);
      journal = ap (λ j. with_accepted j None behind.task) sees.journal ∙ ap (with_accepted r.journal None) after_is;
      roots = map_grows (root_state r.blocks) (root_state then.blocks) r.roots e.roots
          (λ word state. root_grows r.blocks (Some block) word state) sees.roots;
      high = map_grows (unit_of_number r) (unit_of_number then) r.ready.high e.store.ready.high named_grows sees.high;
      regular = map_grows (unit_of_number r) (unit_of_number then) r.ready.regular e.store.ready.regular named_grows sees.regular;
      low = map_grows (unit_of_number r) (unit_of_number then) r.ready.low e.store.ready.low named_grows sees.low;
      nulls = sees.nulls;
      class = sees.class;
      words = sees.words;
    }
