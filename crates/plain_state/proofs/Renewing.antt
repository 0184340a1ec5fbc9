-- A running task draws a further number: what the engine sees once its record has that number, and before it arrives.
use Rattle.std.proofs.Common.{◌≡◌, ◌≢◌, ◌⊎◌, ℕ, suc, ◌*◌, ◌≤◌, cond, Option, Some, None, List, [], ◌∷◌, ◌++◌, slice_get, refl, sym, ◌∙◌, ap, subst, inl, inr, ⊎_elim, arith}
use Rattle.kt_words.specs.Capacity.{block_units}
use Rattle.std.specs.Option.{option_map}
use Rattle.std.proofs.lemmas.Bool.{cases_eq}
use Rattle.std.proofs.lemmas.Option.{none-some}
use Rattle.task_syntax.specs.declared.program.Program.{Program}
use Rattle.task_syntax.specs.declared.value.Priority.{Priority}
use Rattle.task_meaning.specs.Worths.{Accepted}
use Rattle.pool_core.specs.Blocks.{BlockState}
use Rattle.record_core.specs.Numbers.{by_number, flat, found}
use Rattle.record_core.specs.Journal.{next_number, with_accepted}
use Rattle.record_core.specs.declared.rows.ActivationRow.{ActivationRow}
use Rattle.record_core.specs.declared.rows.CutTag.{CutTag}
use Rattle.record_core.proofs.TotalFacts.{total-snoc}
use Rattle.run_model.specs.State.{Body, RootWord, Run, Outcome}
use Rattle.run_model.specs.Placing.{is_open, is_in_use, used_from, superblocks_from}
use Rattle.run_model.specs.Step.{draws, priority_of, priority_or, waiters_of}
use Rattle.run_model.specs.Move.{RunsAt}
use Rattle.run_model.proofs.ByNumber.{snoc_new, snoc_cases, snoc_other, number_within}
use Rattle.run_model.proofs.LiveFacts.{read_snoc, no_wait}
use Rattle.run_model.proofs.NumbersInvariant.{NumbersStand}
use Rattle.run_model.proofs.QueueFacts.{waiters_snoc}
use Rattle.plain_state.specs.declared.record.Record.{Record}
use Rattle.plain_state.specs.Store.{changed_at, renewed, renewed_by, frame_at, cut_of, Chained}
use Rattle.plain_state.specs.Engine.{EngineState}
use Rattle.plain_state.specs.Sees.{Sees, SeesTask, SeesBody, InUse, IsCurrent, AreUnitsOf, references, body_times, with_hand, unit_of, unit_of_number, root_state, cut_behind, frame_or, outcome_seen}
use Rattle.plain_state.proofs.Units.{unit_from, one_task}
use Rattle.plain_state.proofs.ChangedRecords.{changed_same, changed_other, changed_shaped}
use Rattle.plain_state.proofs.Frames.{frame_changed}
use Rattle.plain_state.proofs.Chains.{chained_changed}
use Rattle.plain_state.proofs.References.{in_use_counts, in_use_open}
use Rattle.plain_state.proofs.InHand.{same_test, used_same, known_at}
use Rattle.plain_state.proofs.GrownLists.{map_grows, number_grows, root_grows, body_same}

-- a number without a block has none in use
used_none : (roots : List RootWord) (bodies : List (Option Body)) (t : ℕ) (blocks : List (Option BlockState))
    → used_from roots bodies t (blocks ++ None ∷ []) ≡ used_from roots bodies t blocks
used_none roots bodies t [] = refl
used_none roots bodies t (None ∷ blocks) = used_none roots bodies (suc t) blocks
used_none roots bodies t (Some block ∷ blocks) = ap (λ bs. cond (is_in_use roots bodies t) (block ∷ bs) bs) (used_none roots bodies (suc t) blocks)

-- what is behind a task is cut as before
cut_grows : (outcomes : List (Option Outcome)) (after : Option ℕ)
    → cut_behind (outcomes ++ None ∷ []) after ≡ cut_behind outcomes after
cut_grows outcomes None = refl
cut_grows outcomes (Some u) =
    ap (option_map (λ o. cut_of (outcome_seen o))) (read_snoc flat outcomes None refl u)

module _ (p : Program) (units : ℕ) (hand : List ℕ) (own : Option (ℕ × List ℕ)) (e : EngineState) (r : Run) (t m unit : ℕ) (old : Body)
    (held : NumbersStand r) (runs : RunsAt r t m old) (at : unit_of r.blocks t ≡ Some unit)
    (sees : Sees p units hand own e r) (after : Option ℕ) (priority : Priority) (call : Accepted) (cut : Option CutTag)
    (cut_is : (k : Option CutTag) → cut_behind r.outcomes after ≡ Some k → cut ≡ k) where
  -- the run and the engine after the number was drawn
  abbrev pub drawn_run : Run
  drawn_run = record (draws r (Some t) after priority call None None) { running = None }

  -- and the engine
  abbrev pub drawn_engine : EngineState
  drawn_engine = record e { journal = with_accepted e.journal (Some t) after; store = renewed unit (next_number e.journal) priority cut e.store }

  -- the row of the number
  abbrev row : ActivationRow
  row = record { task = t; after = after; start = None }

  -- what becomes of the record
  abbrev renewal : Record → Record
  renewal = renewed_by (next_number e.journal) priority cut

  -- the blocks are as before
  block_same : (u : ℕ) → found (r.blocks ++ None ∷ []) u ≡ found r.blocks u
  block_same u = read_snoc flat r.blocks None refl u

  -- and so are the units
  pub unit_same : (u : ℕ) → unit_of (r.blocks ++ None ∷ []) u ≡ unit_of r.blocks u
  unit_same u = ap (option_map (λ (b : BlockState). b.unit)) (block_same u)

  -- as often is each task referred to
  references_same : (u : ℕ) → references hand drawn_run u ≡ references hand r u
  references_same u =
      let way : ◌≡◌ {A = ℕ} (cond (is_open (found (r.bodies ++ None ∷ []) u)) 1 0) (cond (is_open (found r.bodies u)) 1 0) =
      ap (λ o. cond (is_open o) 1 0) (read_snoc flat r.bodies None refl u) in
      omega (arith, way, total-snoc (body_times u) r.bodies None)

  -- what is in use then was so before
  back : (u : ℕ) → InUse hand drawn_run u → InUse hand r u
  back u now = (in_use_counts hand r u).1 (omega (arith, (in_use_counts hand drawn_run u).0 now, references_same u))

  -- and what was so is in use then
  there : (u : ℕ) → InUse hand r u → InUse hand drawn_run u
  there u was = (in_use_counts hand drawn_run u).1 (omega (arith, (in_use_counts hand r u).0 was, references_same u))

  used_t : InUse hand r t
  used_t = in_use_open hand r t old runs.has

  -- activations have the units that they had
  are_units : (us ns : List ℕ) → AreUnitsOf r us ns → AreUnitsOf drawn_run us ns
  are_units us ns are =
      map_grows (unit_of_number r) (unit_of_number drawn_run) ns us (λ n u is. number_grows r.journal.rows r.blocks row None n u is) are

  -- a number that is current after that was so before, of another task, or is the new one
  current_cases : (u n : ℕ) (other : ActivationRow) → IsCurrent drawn_run u n other
      → (IsCurrent r u n other × (u ≢ t) × (other.start ≡ None)) ⊎ ((n ≡ next_number r.journal) × (other ≡ row))
  current_cases u n other now =
      ⊎_elim
      (λ was. inl (
        record { there = was; of_task = now.of_task; current = inl waits },
        (λ same. no_wait r.journal.rows r.journal.tasks r.outcomes r.bodies r.running held.live t m runs.row
            runs.running runs.there runs.of_task n other was waits (now.of_task ∙ same)),
        waits,
      ))
      (λ new. inr new)
      (snoc_cases r.journal.rows row n other now.there)
    where
      waits : other.start ≡ None
      waits = ⊎_elim (λ none. none) (λ runs_n. absurd (none-some n runs_n)) now.current

  -- the priorities are as before
  priority_old : (n : ℕ) (other : ActivationRow) → by_number r.journal.rows n ≡ Some other
      → priority_of r.priorities n ≡ priority_of (r.priorities ++ priority ∷ []) n
  priority_old n other was =
      let within = number_within r.journal.rows n other was in
      ap priority_or (sym (snoc_other r.priorities priority n (λ same. absurd (omega (arith, same, within.1, held.beside.of_priorities)))))

  -- and the new number has its own
  priority_new : priority_of (r.priorities ++ priority ∷ []) (next_number r.journal) ≡ priority
  priority_new =
      ap (λ n. priority_or (by_number (r.priorities ++ priority ∷ []) (suc n))) (sym held.beside.of_priorities)
      ∙ ap priority_or (snoc_new r.priorities priority)

  -- a task keeps what is seen of it, with this record
  seen_with : (u : ℕ) (st : SeesTask p hand own e.store r u) (known : Record)
      → slice_get (changed_at renewal unit e.store.records) st.block.unit ≡ Some known
      → known.task ≡ st.known.task → known.references ≡ st.known.references → known.outcome ≡ st.known.outcome → known.first ≡ st.known.first
      → known.length ≡ st.known.length
      → ((n : ℕ) (other : ActivationRow) → IsCurrent drawn_run u n other
      → (known.number ≡ n) × (known.priority ≡ priority_of (r.priorities ++ priority ∷ []) n))
      → ((n : ℕ) (other : ActivationRow) (k : Option CutTag) → IsCurrent drawn_run u n other → other.start ≡ None
      → cut_behind (r.outcomes ++ None ∷ []) other.after ≡ Some k → known.cut ≡ k)
      → SeesTask p hand own (renewed unit (next_number e.journal) priority cut e.store) drawn_run u
  seen_with u st known stands task referred outcome first long number cut_so = record {
    block = st.block;
    known = known;
    has_block = block_same u ∙ st.has_block;
    stands = st.stands;
    there = stands;
    task = task ∙ st.task;
    referred = referred ∙ st.referred ∙ sym (references_same u);
    outcome = outcome ∙ st.outcome ∙ ap (option_map outcome_seen) (sym (read_snoc flat r.outcomes None refl u));
    number = number;
    cut = cut_so;
    waiters = st.waiters;
    of_waiters = subst (AreUnitsOf drawn_run st.waiters) (sym (waiters_snoc r.waiters u))
        (are_units st.waiters (waiters_of r.waiters u) st.of_waiters);
    chain = chained_changed renewal unit e.store.records known.first st.waiters (λ k. refl)
        (subst (λ o. Chained e.store.records o st.waiters) (sym first) st.chain);
    fits = subst (λ n. n ≤ block_units st.block.class * 8) (sym long) st.fits;
    body = λ b has. says b (st.body b (sym (read_snoc flat r.bodies None refl u) ∙ has));
    size = λ words is_own. st.size words is_own ∙ sym long;
  }
    where
      says : (b : Body) → SeesBody p r.blocks (frame_or own u (frame_at e.store st.block.unit)) b
          → SeesBody p (r.blocks ++ None ∷ []) (frame_or own u (frame_at (renewed unit (next_number e.journal) priority cut e.store) st.block.unit)) b
      says b was =
          subst (λ ws. SeesBody p (r.blocks ++ None ∷ []) (frame_or own u ws) b)
          (sym (frame_changed renewal unit st.block.unit e.store st.known (λ k. refl) st.there))
          (record {
            frame = was.frame;
            says = was.says
                ∙ body_same (unit_of r.blocks) (unit_of (r.blocks ++ None ∷ [])) b (λ v some. sym (unit_same v));
          })

  -- each task is seen
  tasks : (u : ℕ) → InUse hand drawn_run u → SeesTask p hand own (renewed unit (next_number e.journal) priority cut e.store) drawn_run u
  tasks u now = ⊎_elim mine other (cases_eq u t)
    where
      st : SeesTask p hand own e.store r u
      st = sees.tasks u (back u now)

      mine : u ≡ t → SeesTask p hand own (renewed unit (next_number e.journal) priority cut e.store) drawn_run u
      mine same = seen_with u st (renewal st.known) stands refl refl refl refl refl number cut_so
        where
          here : st.block.unit ≡ unit
          here = known_at p units hand own e r sees u unit (back u now) (ap (unit_of r.blocks) same ∙ at)

          stands : slice_get (changed_at renewal unit e.store.records) st.block.unit ≡ Some (renewal st.known)
          stands =
              subst (λ x. slice_get (changed_at renewal x e.store.records) st.block.unit ≡ Some (renewal st.known)) here
              (changed_same renewal st.block.unit e.store.records st.known st.there)

          number : (n : ℕ) (other : ActivationRow) → IsCurrent drawn_run u n other
              → ((renewal st.known).number ≡ n) × ((renewal st.known).priority ≡ priority_of (r.priorities ++ priority ∷ []) n)
          number n other cur =
              ⊎_elim (λ was. absurd (was.1 same))
              (λ new. (ap next_number sees.journal ∙ sym new.0, sym priority_new ∙ ap (priority_of (r.priorities ++ priority ∷ [])) (sym new.0)))
              (current_cases u n other cur)

          cut_so : (n : ℕ) (other : ActivationRow) (k : Option CutTag) → IsCurrent drawn_run u n other → other.start ≡ None
              → cut_behind (r.outcomes ++ None ∷ []) other.after ≡ Some k → (renewal st.known).cut ≡ k
          cut_so n other k cur waits is_cut =
              ⊎_elim (λ was. absurd (was.1 same))
              (λ new. cut_is k (sym (cut_grows r.outcomes after)
              ∙ ap (λ (x : ActivationRow). cut_behind (r.outcomes ++ None ∷ []) x.after) (sym new.1) ∙ is_cut))
              (current_cases u n other cur)

      other : u ≢ t → SeesTask p hand own (renewed unit (next_number e.journal) priority cut e.store) drawn_run u
      other differ = seen_with u st st.known stands refl refl refl refl refl number cut_so
        where
          far : st.block.unit ≢ unit
          far e' =
              differ (one_task p units hand own e r sees u t unit (back u now) used_t (unit_from r.blocks u st.block st.has_block ∙ ap Some e') at)

          stands : slice_get (changed_at renewal unit e.store.records) st.block.unit ≡ Some st.known
          stands = changed_other renewal unit st.block.unit e.store.records far ∙ st.there

          number : (n : ℕ) (o : ActivationRow) → IsCurrent drawn_run u n o
              → (st.known.number ≡ n) × (st.known.priority ≡ priority_of (r.priorities ++ priority ∷ []) n)
          number n o cur =
              ⊎_elim (λ was. let known = st.number n o was.0 in (known.0, known.1 ∙ priority_old n o was.0.there))
              (λ new. absurd (differ (sym cur.of_task ∙ ap (λ (x : ActivationRow). x.task) new.1)))
              (current_cases u n o cur)

          cut_so : (n : ℕ) (o : ActivationRow) (k : Option CutTag) → IsCurrent drawn_run u n o → o.start ≡ None
              → cut_behind (r.outcomes ++ None ∷ []) o.after ≡ Some k → st.known.cut ≡ k
          cut_so n o k cur waits is_cut =
              ⊎_elim (λ was. st.cut n o k was.0 waits (sym (cut_grows r.outcomes o.after) ∙ is_cut))
              (λ new. absurd (differ (sym cur.of_task ∙ ap (λ (x : ActivationRow). x.task) new.1)))
              (current_cases u n o cur)

  -- the engine sees the run that drew the number
  pub sees_drawn : Sees p units hand own drawn_engine drawn_run
  sees_drawn = record {
    shaped = changed_shaped renewal unit e.store sees.shaped;
    sound = sees.sound;
    pool = sees.pool ∙ ap (λ bs. record { units = units; superblocks = superblocks_from units bs 0 r.supers })
        (used_same (with_hand hand r).roots (with_hand hand r).roots r.bodies (r.bodies ++ None ∷ []) 1 r.blocks
        (λ u. same_test (is_in_use (with_hand hand r).roots r.bodies u) (is_in_use (with_hand hand r).roots (r.bodies ++ None ∷ []) u) (there u)
        (back u))
        ∙ sym (used_none (with_hand hand r).roots (r.bodies ++ None ∷ []) 1 r.blocks));
    out = λ u block has now. sees.out u block (sym (block_same u) ∙ has) (back u now);
    apart = λ u v block has_u has_v now_u now_v. sees.apart u v block (sym (block_same u) ∙ has_u) (sym (block_same v) ∙ has_v) (back u now_u)
        (back v now_v);
    tasks = tasks;
    journal = ap (λ j. with_accepted j (Some t) after) sees.journal;
    roots = map_grows (root_state r.blocks) (root_state (r.blocks ++ None ∷ [])) r.roots e.roots
        (λ word state is. root_grows r.blocks None word state is) sees.roots;
    high = are_units e.store.ready.high r.ready.high sees.high;
    regular = are_units e.store.ready.regular r.ready.regular sees.regular;
    low = are_units e.store.ready.low r.ready.low sees.low;
    nulls = sees.nulls;
    class = sees.class;
    words = sees.words;
  }
