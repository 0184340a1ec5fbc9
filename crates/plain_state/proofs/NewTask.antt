-- A task is asked for, and made: what the engine sees then, and that each call may be made.
use Rattle.std.proofs.Common.{◌≡◌, ℕ, ◌+◌, ◌*◌, ◌≤◌, Option, Some, None, List, [], ◌∷◌, ◌++◌, length, map, refl, sym, ◌∙◌, ap, subst, inl, inr, arith}
use Rattle.std.specs.Prelude.{IfSome}
use Rattle.task_syntax.specs.Places.{Each}
use Rattle.task_syntax.specs.declared.program.Program.{Program}
use Rattle.task_meaning.specs.Frame.{renamed}
use Rattle.kt_words.specs.Capacity.{block_units}
use Rattle.kt_words.specs.Ranges.{IsUnitCount}
use Rattle.pool_core.specs.Blocks.{BlockState}
use Rattle.pool_core.specs.Pool.{PoolState, Gives}
use Rattle.frame_code.specs.Words.{BodyOf, body_of}
use Rattle.frame_code.specs.Frames.{IsFrame}
use Rattle.frame_code.specs.Names.{names_of, body_with}
use Rattle.record_core.specs.Numbers.{HasTask}
use Rattle.record_core.specs.Journal.{next_number, with_accepted}
use Rattle.run_model.specs.State.{Run}
use Rattle.run_model.specs.Step.{Request, accepts}
use Rattle.run_model.proofs.EndFields.{map_length}
use Rattle.run_model.proofs.NumbersInvariant.{NumbersHeld, NumbersStand}
use Rattle.run_model.proofs.NumbersParts.{if_some_from, held_drawn}
use Rattle.run_model.proofs.NamesFacts.{RequestNames}
use Rattle.plain_state.specs.Store.{StoreState, held, held_all, MayHoldAll, HasUnit, FitsAt, made, more as one_more, stored}
use Rattle.plain_state.specs.Engine.{EngineState, with_store}
use Rattle.plain_state.specs.Moves.{behind_at, made_task, new_record}
use Rattle.plain_state.specs.Sees.{Sees, InUse, unit_of}
use Rattle.plain_state.proofs.Units.{unit_in_use}
use Rattle.plain_state.proofs.References.{times_member}
use Rattle.plain_state.proofs.HandLists.{held_all_sees, may_hold_all}
use Rattle.plain_state.proofs.MadeTask.{made_sees, inside}
use Rattle.plain_state.proofs.NewNames.{body_units, names_named}
use Rattle.plain_state.proofs.BehindSeen.{IsBehind, behind_seen, referred_few, frame_names}
use Rattle.plain_state.proofs.ChangedRecords.{changed_length}
use Rattle.std.proofs.lemmas.Nat.{pow_pos}

-- to hold records does not touch the pool
held_pool : (names : List ℕ) (pool : PoolState) (s : StoreState)
    → held_all names (record s { pool = pool }) ≡ record (held_all names s) { pool = pool }
held_pool [] pool s = refl
held_pool (unit ∷ names) pool s = held_pool names pool (held unit s)

-- the pool stays
held_same_pool : (names : List ℕ) (s : StoreState) → (held_all names s).pool ≡ s.pool
held_same_pool [] s = refl
held_same_pool (unit ∷ names) s = held_same_pool names (held unit s)

-- as many records stay
held_records : (names : List ℕ) (s : StoreState) → length (held_all names s).records ≡ length s.records
held_records [] s = refl
held_records (unit ∷ names) s = held_records names (held unit s)
    ∙ changed_length one_more unit s.records

-- nor does it need the pool
may_hold_pool : (names : List ℕ) (pool : PoolState) (s : StoreState) → MayHoldAll names s → MayHoldAll names (record s { pool = pool })
may_hold_pool [] pool s may = tt
may_hold_pool (unit ∷ names) pool s (may, more) = (may, may_hold_pool names pool (held unit s) more)

-- A request, and what the engine was asked for: the first body and what the task is behind, by units. What the request names
-- is in use and accepted, and the frame fits the block.
pub record IsWanted (p : Program) (r : Run) (q : Request) (first : List ℕ) (wanted : BodyOf ℕ) (after : Option ℕ) (class : ℕ) : Type 0 where
  pub class_is : q.class ≡ class
  pub class_fits : class ≤ 3
  pub frame : IsFrame p first
  pub says : body_of p first ≡ wanted
  pub units : wanted ≡ body_with (unit_of r.blocks) q.body
  pub holds : length first ≤ block_units class * 8
  pub after_is : after ≡ renamed (unit_of r.blocks) q.after
  pub used : (u : ℕ) → RequestNames q u → InUse [] r u
  pub tasks : (u : ℕ) → RequestNames q u → HasTask r.journal.rows u

module _ (p : Program) (units : ℕ) (unit_count : IsUnitCount units) (own : Option (ℕ × List ℕ)) (e : EngineState) (r : Run) (q : Request)
    (block : BlockState) (pool : PoolState)
    (first : List ℕ) (wanted : BodyOf ℕ) (after : Option ℕ) (class : ℕ) (sees : Sees p units [] own e r) (stands : NumbersStand r)
    (is : IsWanted p r q first wanted after class)
    (gives : Gives e.store.pool class block pool) where
  -- the units that the first body names
  are_units : map (unit_of r.blocks) (names_of q.body) ≡ map (λ unit. Some unit) (names_of wanted)
  are_units =
      body_units (unit_of r.blocks) q.body (λ u some. unit_in_use p units [] own e r sees u (is.used u (inl (names_named q.body u some))))
      ∙ ap (λ b. map (λ unit. Some unit) (names_of b)) (sym is.units)

  -- each task that it names is in use
  each_used : Each (names_of q.body) (InUse [] r)
  each_used place u there = is.used u (inl (names_named q.body u (times_member u (names_of q.body) place there)))

  -- all of these are taken in hand
  held_engine : Sees p units (names_of q.body ++ []) own (with_store e (held_all (names_of wanted) e.store)) r
  held_engine = held_all_sees p units own e r (names_of q.body) (names_of wanted) [] are_units each_used sees

  -- the pool still gives the block
  gives_held : Gives (held_all (names_of wanted) e.store).pool q.class block pool
  gives_held = subst (λ k. Gives (held_all (names_of wanted) e.store).pool k block pool) (sym is.class_is) (subst
      (λ x. Gives x class block pool) (sym (held_same_pool (names_of wanted) e.store)) gives)

  -- the class of the request is one
  fits' : q.class ≤ 3
  fits' = subst (λ k. k ≤ 3) (sym is.class_is) is.class_fits

  -- what the new task is behind
  pub behind_is : IsBehind r q.after (behind_at e.store after)
  behind_is = behind_seen p units [] own e r sees q.after after is.after_is (λ u same. is.used u (inr same))

  -- the class of the block
  block_class : block.class ≡ class
  block_class = ap (λ (b : BlockState). b.class) gives.block_is

  -- the frame fits the block
  holds' : length first ≤ block_units block.class * 8
  holds' = subst (λ k. length first ≤ block_units k * 8) (sym block_class) is.holds

  -- the new task is in hand
  pub new_sees : ((ws : List ℕ) → own ≡ Some (next_number r.journal, ws) → ⊥)
      → Sees p units (next_number r.journal ∷ []) own (made_task block pool q.priority (behind_at e.store after) (names_of wanted) first e)
      (accepts units r q block)
  new_sees apart_own =
      subst (λ s. Sees p units (next_number r.journal ∷ []) own
      (record e {
        journal = with_accepted e.journal None (behind_at e.store after).task;
        store = stored block.unit first (made block (new_record
            (next_number e.journal) q.priority (behind_at e.store after).cut) s);
      })
      (accepts units r q block))
      (sym (held_pool (names_of wanted) pool e.store))
      (made_sees p units unit_count [] own (with_store e (held_all (names_of wanted) e.store)) r q block pool first
      (behind_at e.store after) held_engine stands fits' gives_held
      is.frame (is.says ∙ is.units) holds' apart_own behind_is.of_task behind_is.cut)

  -- and its number
  pub new_held : NumbersHeld (accepts units r q block) (next_number r.journal ∷ [])
  new_held = held_drawn units r q block stands is.tasks

  -- the block is inside
  pub new_inside : block.unit + block_units block.class ≤ length e.store.records
  new_inside =
      let within = inside p units unit_count [] own (with_store e (held_all (names_of wanted) e.store)) r q block pool first
      (behind_at e.store after) held_engine stands fits' gives_held in
      omega (arith, within, held_records (names_of wanted) e.store)

  -- each call may be made
  pub may_after : IfSome (behind_at e.store after).task (HasTask e.journal.rows)
  may_after = if_some_from (HasTask e.journal.rows) (behind_at e.store after).task
      (λ u same. subst (λ j. HasTask j.rows u) (sym sees.journal) (is.tasks u (inr (sym behind_is.of_task ∙ same))))

  -- the tasks that it names may be held
  pub may_hold : length r.bodies ≤ 4000000 → length r.roots ≤ 16 → MayHoldAll (names_of wanted) (record e.store { pool = pool })
  may_hold bodies roots =
      may_hold_pool (names_of wanted) pool e.store
      (may_hold_all p units own e r (names_of q.body) (names_of wanted) [] are_units each_used
      (λ u. let few = referred_few p units [] own e r sees bodies roots (omega arith) u in omega (arith, few, short)) sees)
    where
      many : length (names_of q.body) ≡ length (names_of wanted)
      many = sym (map_length (unit_of r.blocks) (names_of q.body)) ∙ ap length are_units ∙ map_length (λ unit. Some unit) (names_of wanted)

      short : length (names_of q.body) ≤ 63
      short = let same = ap (λ b. length (names_of b)) is.says in omega
          (arith, many, same, frame_names p first is.frame)

  -- its frame fits
  pub may_store : FitsAt e.store block.unit (length first)
  may_store = (omega (arith, new_inside, holds'), is.frame.few)

  -- its record stands in the store
  pub may_make : HasUnit e.store block.unit
  may_make = omega (arith, new_inside, pow_pos block.class)
