-- What an engine sees after a null answer was counted, after a block was given and taken back, and after a root got its word.
use Rattle.std.proofs.Common.{◌≡◌, ℕ, ◌+◌, ◌*◌, ◌≤◌, Option, Some, None, List, [], ◌∷◌, ◌++◌, length, map, refl, sym, ◌∙◌, ap, subst, arith}
use Rattle.std.proofs.lemmas.List.{map-append}
use Rattle.task_syntax.specs.declared.program.Program.{Program}
use Rattle.kt_words.specs.Ranges.{IsUnitCount}
use Rattle.pool_core.specs.Blocks.{BlockState}
use Rattle.pool_core.specs.Pool.{PoolState, IsSound, IsOut, Gives}
use Rattle.record_core.specs.declared.rows.ActivationRow.{ActivationRow}
use Rattle.record_core.proofs.TotalFacts.{total-snoc}
use Rattle.run_model.specs.State.{RootWord, Super, Evidence, Run}
use Rattle.run_model.specs.Placing.{pool_of, supers_with, words_of}
use Rattle.run_model.specs.Step.{places, counts_null, evidence_or, with_root as run_with_root}
use Rattle.run_model.proofs.UsedFacts.{in_use}
use Rattle.run_model.proofs.BlocksParts.{Core}
use Rattle.plain_state.specs.declared.record.RootState.{RootState}
use Rattle.plain_state.specs.Store.{StoreState, without_block}
use Rattle.plain_state.specs.Engine.{EngineState, with_pool, with_root, null_counted, null_counted_if}
use Rattle.plain_state.specs.Sees.{Sees, SeesTask, InUse, IsCurrent, references, times, root_times, root_state, class_seen, words_seen}
use Rattle.plain_state.proofs.Completing.{pool_same, in_use_same}
use Rattle.plain_state.proofs.ChangedRecords.{without_units, without_length, set_length}
use Rattle.plain_state.proofs.PoolParts.{core_from, used_out}
use Rattle.plain_state.proofs.PoolGiven.{given_back_pool, core_given_back, back_sound}
use Rattle.pool_core.specs.Superblocks.{given}

-- the run with other words for its roots, superblocks, null answers and evidence
abbrev pub beside_run : Run → List RootWord → List Super → ℕ → Option Evidence → Run
beside_run r roots supers nulls evidence = record r { roots = roots; supers = supers; nulls = nulls; evidence = evidence }

-- a task is seen as before, where as many refer to it
pub task_beside : (p : Program) (hand hand' : List ℕ) (own : Option (ℕ × List ℕ)) (s : StoreState) (pool : PoolState) (r : Run)
    (roots : List RootWord) (supers : List Super) (nulls : ℕ) (evidence : Option Evidence) (t : ℕ)
    → references hand' (beside_run r roots supers nulls evidence) t ≡ references hand r t → SeesTask p hand own s r t → SeesTask p hand' own
    (record s { pool = pool }) (beside_run r roots supers nulls evidence) t
task_beside p hand hand' own s pool r roots supers nulls evidence t same st = record {
  block = st.block;
  known = st.known;
  has_block = st.has_block;
  stands = st.stands;
  there = st.there;
  task = st.task;
  referred = st.referred ∙ sym same;
  outcome = st.outcome;
  number = λ n row current. st.number n row (was n row current);
  cut = λ n row cut current. st.cut n row cut (was n row current);
  waiters = st.waiters;
  of_waiters = st.of_waiters;
  chain = st.chain;
  fits = st.fits;
  body = st.body;
  size = st.size;
}
  where
    was : (n : ℕ) (row : ActivationRow) → IsCurrent (beside_run r roots supers nulls evidence) t n row → IsCurrent r t n row
    was n row current = record { there = current.there; of_task = current.of_task; current = current.current }

-- a null answer is counted
module _ (p : Program) (units : ℕ) (own : Option (ℕ × List ℕ)) (e : EngineState) (r : Run) (sees : Sees p units [] own e r) where
  -- a task is seen as before
  same_task : (nulls : ℕ) (evidence : Option Evidence) (t : ℕ) → SeesTask p [] own e.store r t
      → SeesTask p [] own e.store (beside_run r r.roots r.supers nulls evidence) t
  same_task nulls evidence t st = task_beside p [] [] own e.store e.store.pool r r.roots r.supers nulls evidence t refl st

  -- the engine counts it too
  pub sees_null : (class : ℕ) → Sees p units [] own (null_counted class e) (counts_null units r class)
  sees_null class = subst (λ o. Sees p units [] own (null_counted_if o class e) (counts_null units r class)) (sym sees.class) (by r.evidence refl)
    where
      by : (o : Option Evidence) → r.evidence ≡ o → Sees p units [] own (null_counted_if (class_seen o) class e) (beside_run r r.roots r.supers
          (r.nulls + 1) (evidence_or o units r class))
      by None none = record {
        shaped = sees.shaped;
        sound = sees.sound;
        pool = sees.pool;
        out = sees.out;
        apart = sees.apart;
        tasks = λ t used. same_task (r.nulls + 1) (evidence_or None units r class) t (sees.tasks t used);
        journal = sees.journal;
        roots = sees.roots;
        high = sees.high;
        regular = sees.regular;
        low = sees.low;
        nulls = ap (λ n. n + 1) sees.nulls;
        class = refl;
        words = ap words_of sees.pool;
      }
      by (Some was) some = record {
        shaped = sees.shaped;
        sound = sees.sound;
        pool = sees.pool;
        out = sees.out;
        apart = sees.apart;
        tasks = λ t used. same_task (r.nulls + 1) (Some was) t (sees.tasks t used);
        journal = sees.journal;
        roots = sees.roots;
        high = sees.high;
        regular = sees.regular;
        low = sees.low;
        nulls = ap (λ n. n + 1) sees.nulls;
        class = sees.class ∙ ap class_seen some;
        words = sees.words ∙ ap words_seen some;
      }

  -- a block was given, and is back
  module _ (unit_count : IsUnitCount units) (class : ℕ) (fits : class ≤ 3) (block : BlockState) (pool : PoolState)
      (gives : Gives e.store.pool class block pool) where
    -- the pool of the run is sound
    sound : IsSound (pool_of units r)
    sound = subst IsSound sees.pool sees.sound

    -- what is kept of the blocks in use
    core : Core units r.roots r.bodies r.blocks r.supers
    core = core_from units unit_count r.roots r.bodies r.blocks r.supers sound
        (λ t b has used. subst (λ x. IsOut x b) sees.pool (sees.out t b has ((in_use r.roots r.bodies t).1 used)))
        (λ t u b has_t has_u used_t used_u. sees.apart t u b has_t has_u ((in_use r.roots r.bodies t).1 used_t)
        ((in_use r.roots r.bodies u).1 used_u))

    -- the pool of the run gives the block
    gives' : Gives (pool_of units r) class block pool
    gives' = subst (λ x. Gives x class block pool) sees.pool gives

    -- what is kept once the block is back
    core' : Core units r.roots r.bodies r.blocks (supers_with units r.supers block)
    core' = core_given_back units unit_count r.roots r.bodies r.blocks r.supers core sound class fits block pool gives'

    -- the pool with the block back is that of the run
    pool_is : without_block pool block ≡ pool_of units (places units r block)
    pool_is = given_back_pool units unit_count r.roots r.bodies r.blocks r.supers core sound class fits block pool gives'

    -- as many superblocks
    many : length (without_block pool block).superblocks ≡ length e.store.pool.superblocks
    many = without_length pool block ∙ ap (λ (x : PoolState). length x.superblocks) gives.after
        ∙ set_length e.store.pool.superblocks gives.place (given gives.was class gives.bit)

    -- as large ones
    units_is : (without_block pool block).units ≡ e.store.pool.units
    units_is = without_units pool block ∙ ap (λ (x : PoolState). x.units) gives.after

    -- the engine sees the run whose superblock remembers the block
    pub sees_placed : Sees p units [] own (with_pool e (without_block pool block)) (places units r block)
    sees_placed = record {
      shaped = record {
        units = sees.shaped.units ∙ sym (ap (λ n. n * (without_block pool block).units) many
            ∙ ap (λ n. length e.store.pool.superblocks * n) units_is);
        of_blocks = sees.shaped.of_blocks;
        of_words = sees.shaped.of_words;
      };
      sound = back_sound units unit_count r.roots r.bodies r.blocks r.supers core sound class fits block pool gives';
      pool = pool_is;
      out = λ t b has used. subst (λ x. IsOut x b) (sym pool_is) (used_out units unit_count r.roots r.bodies r.blocks
          (supers_with units r.supers block) core' t b has ((in_use r.roots r.bodies t).0 used));
      apart = sees.apart;
      tasks = λ t used. task_beside p [] [] own e.store (without_block pool block) r r.roots
          (supers_with units r.supers block) r.nulls r.evidence t refl (sees.tasks t used);
      journal = sees.journal;
      roots = sees.roots;
      high = sees.high;
      regular = sees.regular;
      low = sees.low;
      nulls = sees.nulls;
      class = sees.class;
      words = sees.words;
    }

-- a root gets its word
module _ (p : Program) (units : ℕ) (hand hand' : List ℕ) (own : Option (ℕ × List ℕ)) (e : EngineState) (r : Run) (word : RootWord) (state : RootState)
    (sees : Sees p units hand own e r)
    (names : (u : ℕ) → root_times u word + times u hand' ≡ times u hand) (is : root_state r.blocks word ≡ Some state) where
  -- what refers to a task is as much as before
  refs : (u : ℕ) → references hand' (run_with_root r word) u ≡ references hand r u
  refs u = omega (arith, names u, total-snoc (root_times u) r.roots word)

  -- what is in use was so
  still : (u : ℕ) → InUse hand' (run_with_root r word) u → InUse hand r u
  still u used = in_use_same hand hand' r (run_with_root r word) u (refs u) used

  -- the engine has its state among the roots
  pub sees_root : Sees p units hand' own (with_root e state) (run_with_root r word)
  sees_root = record {
    shaped = sees.shaped;
    sound = sees.sound;
    pool = sees.pool ∙ sym (pool_same units hand hand' r (run_with_root r word) refl refl refs);
    out = λ t b has used. sees.out t b has (still t used);
    apart = λ t u b has_t has_u used_t used_u. sees.apart t u b has_t has_u (still t used_t) (still u used_u);
    tasks = λ t used. task_beside p hand hand' own e.store e.store.pool r (r.roots ++ word ∷ []) r.supers r.nulls r.evidence t (refs t) (sees.tasks t
        (still t used));
    journal = sees.journal;
    roots = map-append (root_state r.blocks) r.roots (word ∷ []) ∙ ap (λ xs. xs ++ root_state r.blocks word ∷ []) sees.roots
        ∙ ap (λ o. map (λ s. Some s) e.roots ++ o ∷ []) is ∙ sym (map-append (λ s. Some s) e.roots (state ∷ []));
    high = sees.high;
    regular = sees.regular;
    low = sees.low;
    nulls = sees.nulls;
    class = sees.class;
    words = sees.words;
  }
