-- A new task arrives: it waits for what it is behind, or joins its queue.
use Rattle.std.proofs.Common.{◌≡◌, ℕ, suc, ◌<◌, ◌≤◌, Bool, true, false, Option, Some, None, List, [], ◌∷◌, ◌++◌, length, refl, sym, ◌∙◌, ap, subst}
use Rattle.std.proofs.Common.{inr, arith}
use Rattle.std.proofs.lemmas.Bool.{ltb-true, ltb-false}
use Rattle.task_syntax.specs.declared.program.Program.{Program}
use Rattle.kt_words.specs.Ranges.{IsUnitCount}
use Rattle.pool_core.specs.Blocks.{BlockState}
use Rattle.pool_core.specs.Pool.{PoolState, Gives}
use Rattle.frame_code.specs.Words.{BodyOf}
use Rattle.record_core.specs.Numbers.{found}
use Rattle.record_core.specs.Journal.{JournalState, next_number}
use Rattle.record_core.specs.declared.rows.ActivationRow.{ActivationRow}
use Rattle.run_model.specs.State.{Body, Outcome as RunOutcome, RootWord, Run}
use Rattle.run_model.specs.Move.{RunsAt}
use Rattle.plain_state.specs.Store.{StoreState, less, queued_count}
use Rattle.plain_state.proofs.ChangedRecords.{changed_length, let_go_records, let_go_ready}
use Rattle.run_model.specs.Step.{Request, arrives, waits_or_queues, accepts, has_number}
use Rattle.run_model.proofs.ByNumber.{snoc_new, found_new}
use Rattle.run_model.proofs.LiveFacts.{outcome_snoc}
use Rattle.run_model.proofs.NumbersInvariant.{NumbersHeld, NumbersStand}
use Rattle.plain_state.specs.Engine.{EngineState, with_store}
use Rattle.plain_state.specs.Moves.{behind_at, arrived, let_go_if, MayArrive}
use Rattle.plain_state.specs.Sees.{Sees, InUse, unit_of}
use Rattle.plain_state.proofs.Units.{unit_from, unit_in_use}
use Rattle.plain_state.proofs.Arriving.{waits_open, waits_unit, arrival_sees}
use Rattle.plain_state.proofs.GrownLists.{unit_grows}
use Rattle.plain_state.proofs.NewTask.{IsWanted, behind_is}

-- whether a number is left
pub number_left : (r : Run) (j : JournalState) → j ≡ r.journal → length j.rows < j.limit → has_number r ≡ true
number_left r j same lt = by (has_number r) refl
  where
    by : (b : Bool) → has_number r ≡ b → b ≡ true
    by true e = refl
    by false e =
        let ge = ltb-false (length r.journal.rows) r.journal.limit e in
        absurd (omega (arith, ge, lt, ap (λ (x : JournalState). length x.rows) same, ap (λ (x : JournalState). x.limit) same))

-- or none is
pub no_number_left : (r : Run) (j : JournalState) → j ≡ r.journal → j.limit ≤ length j.rows → has_number r ≡ false
no_number_left r j same ge = by (has_number r) refl
  where
    by : (b : Bool) → has_number r ≡ b → b ≡ false
    by false e = refl
    by true e =
        let lt = ltb-true (length r.journal.rows) r.journal.limit e in
        absurd (omega (arith, ge, lt, ap (λ (x : JournalState). length x.rows) same, ap (λ (x : JournalState). x.limit) same))

-- the run that accepted the task, with other bodies and roots
abbrev pub accepted_with : ℕ → Run → Request → BlockState → List (Option Body) → List RootWord → Run
accepted_with units r q block bodies roots = record (accepts units r q block) { bodies = bodies; roots = roots }

module _ (p : Program) (units : ℕ) (unit_count : IsUnitCount units) (own : Option (ℕ × List ℕ)) (e : EngineState) (r : Run) (q : Request)
    (block : BlockState) (pool : PoolState)
    (first : List ℕ) (wanted : BodyOf ℕ) (after : Option ℕ) (class : ℕ) (sees : Sees p units [] own e r) (stands : NumbersStand r)
    (is : IsWanted p r q first wanted after class)
    (gives : Gives e.store.pool class block pool) where
  abbrev new : ℕ
  new = next_number r.journal

  abbrev new_row : ActivationRow
  new_row = record { task = next_number r.journal; after = q.after; start = None }

  -- the first unit of its block
  pub new_unit : unit_of (r.blocks ++ Some block ∷ []) (next_number r.journal) ≡ Some block.unit
  new_unit = unit_from (r.blocks ++ Some block ∷ []) (next_number r.journal) block (found_new r.blocks (Some block) (next_number r.journal) (ap suc
      (sym stands.beside.of_blocks)))

  -- what it waits for is the same with the task as before
  waits_same : (bodies : List (Option Body)) (roots : List RootWord) (task : Option ℕ) → ((u : ℕ) → task ≡ Some u → InUse [] r u)
      → waits_unit r task ≡ waits_unit (accepted_with units r q block bodies roots) task
  waits_same bodies roots None used = refl
  waits_same bodies roots (Some u) used =
      let (unit, at) = unit_in_use p units [] own e r sees u (used u refl) in
      let same : unit_of r.blocks u ≡ unit_of (r.blocks ++ Some block ∷ []) u = at ∙ sym (unit_grows r.blocks (Some block) u unit at) in
      ap (λ o. waits_open o (unit_of r.blocks u)) (sym (outcome_snoc r.outcomes u)) ∙ ap (waits_open (found (r.outcomes ++ None ∷ []) u)) same

  module _ (bodies : List (Option Body)) (roots : List RootWord) (hand' : List ℕ) (own' : Option (ℕ × List ℕ)) (e' : EngineState)
      (sees' : Sees p units hand' own' e' (accepted_with units r q block bodies roots))
      (held : NumbersHeld (accepted_with units r q block bodies roots) (next_number r.journal ∷ [])) where
    -- it may arrive, and the engine sees it arrived
    pub new_arrives : MayArrive block.unit (behind_at e.store after).waits e'.store
        × Sees p units hand' own' (with_store e' (arrived block.unit (behind_at e.store after).waits e'.store)) (arrives
        (accepted_with units r q block bodies roots) (next_number r.journal) q.after)
    new_arrives =
        let behind = behind_is p units unit_count own e r q block pool first wanted after class sees stands is gives in
        let waits : waits_unit (accepted_with units r q block bodies roots) q.after ≡ (behind_at e.store after).waits =
        sym (behind.waits ∙ waits_same bodies roots q.after (λ u same. is.used u (inr same))) in
        subst (λ w. MayArrive block.unit w e'.store × Sees p units hand' own' (with_store e' (arrived block.unit w e'.store)) (arrives
        (accepted_with units r q block bodies roots) (next_number r.journal) q.after)) waits
        (arrival_sees p units hand' own' e' (accepted_with units r q block bodies roots) (next_number r.journal) held new_row
        (snoc_new r.journal.rows new_row) refl (next_number r.journal) block.unit refl new_unit sees')

-- what runs still runs after an arrival, in the same block
pub arrives_runs : (r : Run) (m : ℕ) (after : Option ℕ) (t n : ℕ) (body : Body) → RunsAt r t n body → RunsAt (arrives r m after) t n body
arrives_runs r m None t n body runs = record { row = runs.row; running = runs.running; there = runs.there; of_task = runs.of_task; has = runs.has }
arrives_runs r m (Some u) t n body runs = by (found r.outcomes u)
  where
    by : (o : Option RunOutcome) → RunsAt (waits_or_queues o r m u) t n body
    by None = record { row = runs.row; running = runs.running; there = runs.there; of_task = runs.of_task; has = runs.has }
    by (Some outcome) = record { row = runs.row; running = runs.running; there = runs.there; of_task = runs.of_task; has = runs.has }

-- an arrival changes no block
pub arrives_blocks : (r : Run) (m : ℕ) (after : Option ℕ) → (arrives r m after).blocks ≡ r.blocks
arrives_blocks r m None = refl
arrives_blocks r m (Some u) = by (found r.outcomes u)
  where
    by : (o : Option RunOutcome) → (waits_or_queues o r m u).blocks ≡ r.blocks
    by None = refl
    by (Some outcome) = refl

-- to let a task go takes no place away
pub may_arrive_still : (unit : ℕ) (waits old : Option ℕ) (s : StoreState) → MayArrive unit waits s → MayArrive unit waits (let_go_if old s)
may_arrive_still unit waits None s may = may
may_arrive_still unit None (Some at) s may =
    let many = ap length (let_go_records at s) ∙ changed_length less at s.records in
    (omega (arith, may.0, many), omega (arith, may.1, many, ap queued_count (let_go_ready at s)))
may_arrive_still unit (Some target) (Some at) s may =
    let many = ap length (let_go_records at s) ∙ changed_length less at s.records in
    (omega (arith, may.0, many), omega (arith, may.1, many))
