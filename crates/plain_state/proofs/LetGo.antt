-- What an engine sees after it let a task in hand go: where that was the last reference, its block is back.
use Rattle.std.proofs.Common.{◌≡◌, ◌≢◌, ℕ, zero, suc, ◌+◌, ◌-◌, ◌*◌, ◌/◌, Bool, true, false, cond, nat_eq, Option, Some, None, List, ◌∷◌, slice_get, refl, sym, ◌∙◌, ap, subst, ⊎_elim, arith, slice_set}
use Rattle.std.specs.List.{list_any}
use Rattle.std.proofs.lemmas.Bool.{cases_eq, eqb-true, and_parts}
use Rattle.std.proofs.lemmas.Option.{none-some, same_Some}
use Rattle.task_syntax.specs.declared.program.Program.{Program}
use Rattle.kt_words.specs.Capacity.{block_units}
use Rattle.pool_core.specs.Blocks.{BlockState}
use Rattle.pool_core.specs.Superblocks.{taken_back}
use Rattle.pool_core.specs.Pool.{PoolState, IsSound, IsOut, with_superblock, Removes}
use Rattle.pool_core.proofs.Out.{Removes-taken_back}
use Rattle.pool_core.proofs.Taking.{place_of, IsSound-taken_back}
use Rattle.record_core.specs.Numbers.{flat, found}
use Rattle.run_model.specs.State.{Run}
use Rattle.run_model.specs.Placing.{is_in_use, used_from, stands_in, stands_at, superblocks_from, pool_of}
use Rattle.run_model.proofs.UsedFacts.{any_true}
use Rattle.run_model.proofs.UsedSound.{pool_with}
use Rattle.run_model.proofs.BlocksParts.{used_member}
use Rattle.plain_state.specs.Store.{StoreState, changed_at, changed, less, let_go, without_block, MayLetGo}
use Rattle.plain_state.specs.Engine.{EngineState, with_store}
use Rattle.plain_state.specs.Sees.{Sees, SeesTask, InUse, AreUnitsOf, references, with_hand, unit_of}
use Rattle.plain_state.proofs.Units.{unit_from, one_task}
use Rattle.plain_state.proofs.ChangedRecords.{set_other, changed_same, changed_other, let_go_records, let_go_words, let_go_ready, let_go_shaped, let_go_last, let_go_more, back_is}
use Rattle.plain_state.proofs.Chains.{KeepsNext, changed_keeps}
use Rattle.plain_state.proofs.References.{in_use_counts, in_use_hand, references_held, times_itself, times_other}
use Rattle.plain_state.proofs.InHand.{same_test, used_same, task_referred, known_at}
use Rattle.plain_state.proofs.BlockBack.{used_loses, without_is, pool_without}

-- a block found by number, by place
by_place : (blocks : List (Option BlockState)) (t : ℕ) (block : BlockState) → found blocks t ≡ Some block
    → (k : ℕ) × (suc k ≡ t) × (slice_get blocks k ≡ Some (Some block))
by_place blocks zero block e = absurd (none-some block e)
by_place blocks (suc k) block e = (k, refl, by (slice_get blocks k) refl e)
  where
    by : (o : Option (Option BlockState)) → slice_get blocks k ≡ o → flat o ≡ Some block → slice_get blocks k ≡ Some (Some block)
    by None there f = absurd (none-some block f)
    by (Some b) there f = there ∙ ap Some f

-- a test that does not hold
not_true : (b : Bool) → (b ≡ true → ⊥) → b ≡ false
not_true true never = absurd (never refl)
not_true false never = refl

module _ (p : Program) (units : ℕ) (hand : List ℕ) (own : Option (ℕ × List ℕ)) (e : EngineState) (r : Run) (u unit : ℕ)
    (sees : Sees p units (u ∷ hand) own e r) (at : unit_of r.blocks u ≡ Some unit) where
  used : InUse (u ∷ hand) r u
  used = in_use_hand (u ∷ hand) r u (omega (arith, times_itself u))

  -- the record of the task
  abbrev mine : SeesTask p (u ∷ hand) own e.store r u
  mine = sees.tasks u used

  -- stands at the unit
  at_unit : mine.block.unit ≡ unit
  at_unit = known_at p units (u ∷ hand) own e r sees u unit used at

  -- as that unit says
  mine_there : slice_get e.store.records unit ≡ Some mine.known
  mine_there = ap (slice_get e.store.records) (sym at_unit) ∙ mine.there

  -- its block is the one there
  mine_has : slice_get e.store.blocks unit ≡ Some (Some mine.block)
  mine_has = ap (slice_get e.store.blocks) (sym at_unit) ∙ mine.stands

  -- and is out of the pool
  mine_out : IsOut e.store.pool mine.block
  mine_out = sees.out u mine.block mine.has_block used

  -- it is referred to once more than it will be
  mine_referred : mine.known.references ≡ references hand r u + 1
  mine_referred = omega (arith, mine.referred, references_held hand r u u, times_itself u)

  -- it may be let go
  pub may_let_go : MayLetGo unit e.store
  may_let_go =
      record { known = mine.known; block = mine.block; there = mine_there; some = omega (arith, mine_referred); has = mine_has; out = mine_out }

  -- what is in use then was so before
  was_used : (t : ℕ) → InUse hand r t → InUse (u ∷ hand) r t
  was_used t now = (in_use_counts (u ∷ hand) r t).1 (omega (arith, (in_use_counts hand r t).0 now, references_held hand r t u))

  -- and another task that was so is in use then
  still_used : (t : ℕ) → t ≢ u → InUse (u ∷ hand) r t → InUse hand r t
  still_used t differ was =
      (in_use_counts hand r t).1
      (omega (arith, (in_use_counts (u ∷ hand) r t).0 was, references_held hand r t u, times_other t u (λ e'. differ (sym e'))))

  -- what is left of pool and blocks
  record IsLeft : Type 0 where
    sound : IsSound (let_go unit e.store).pool
    pool : (let_go unit e.store).pool ≡ pool_of units (with_hand hand r)
    out : (t : ℕ) (block : BlockState) → found r.blocks t ≡ Some block → InUse hand r t → IsOut (let_go unit e.store).pool block
    stands : (t : ℕ) (now : InUse hand r t)
        → slice_get (let_go unit e.store).blocks (sees.tasks t (was_used t now)).block.unit ≡ Some (Some (sees.tasks t (was_used t now)).block)

  -- the unit of another task is another one
  far : (t : ℕ) (was : InUse (u ∷ hand) r t) → t ≢ u → (sees.tasks t was).block.unit ≢ unit
  far t was differ e' =
      let st = sees.tasks t was in differ
      (one_task p units (u ∷ hand) own e r sees t u unit was used (unit_from r.blocks t st.block st.has_block ∙ ap Some e') at)

  -- another reference is left
  left_more : mine.known.references ≢ 1 → IsLeft
  left_more many = record {
    sound = subst (λ (s : StoreState). IsSound s.pool) (sym same) sees.sound;
    pool = ap (λ (s : StoreState). s.pool) same ∙ sees.pool ∙ ap (λ bs. record { units = units; superblocks = superblocks_from units bs 0 r.supers })
        (used_same (with_hand (u ∷ hand) r).roots (with_hand hand r).roots r.bodies r.bodies 1 r.blocks
        (λ t. same_test (is_in_use (with_hand (u ∷ hand) r).roots r.bodies t) (is_in_use (with_hand hand r).roots r.bodies t) (still t)
        (was_used t)));
    out = λ t block has now. subst (λ (s : StoreState). IsOut s.pool block) (sym same) (sees.out t block has (was_used t now));
    stands = λ t now. ap (λ (s : StoreState). slice_get s.blocks (sees.tasks t (was_used t now)).block.unit) same
        ∙ (sees.tasks t (was_used t now)).stands;
  }
    where
      same : let_go unit e.store ≡ changed less unit e.store
      same = let_go_more unit e.store mine.known mine_there many

      still : (t : ℕ) → InUse (u ∷ hand) r t → InUse hand r t
      still t was =
          ⊎_elim (λ is_u. subst (InUse hand r) (sym is_u) ((in_use_counts hand r u).1 (omega (arith, many, mine_referred))))
          (λ differ. still_used t differ was) (cases_eq t u)

  -- it was the last one
  module _ (one : mine.known.references ≡ 1) where
    gone : InUse hand r u → ⊥
    gone now = omega (arith, one, mine_referred, (in_use_counts hand r u).0 now)

    abbrev blocks_now : List BlockState
    blocks_now = used_from (with_hand hand r).roots r.bodies 1 r.blocks

    abbrev blocks_then : List BlockState
    blocks_then = used_from (with_hand (u ∷ hand) r).roots r.bodies 1 r.blocks

    abbrev before : PoolState
    before = pool_with units r.supers blocks_then

    sound_before : IsSound before
    sound_before = subst IsSound sees.pool sees.sound

    out_before : IsOut before mine.block
    out_before = subst (λ (q : PoolState). IsOut q mine.block) sees.pool mine_out

    -- no other block stands there
    clear : list_any (stands_at units out_before.place out_before.bit) blocks_now ≡ false
    clear = not_true (list_any (stands_at units out_before.place out_before.bit) blocks_now) (λ some. none some)
      where
        none : list_any (stands_at units out_before.place out_before.bit) blocks_now ≡ true → ⊥
        none some =
            let (i, other, get, passes) = any_true (stands_at units out_before.place out_before.bit) blocks_now some in
            let (k, there, in_use) = used_member (with_hand hand r).roots r.bodies 1 r.blocks i other get in
            let plus : 1 + k ≡ suc k = omega arith in
            let now : InUse hand r (suc k) = ap (is_in_use (with_hand hand r).roots r.bodies) (sym plus) ∙ in_use in
            let has : found r.blocks (suc k) ≡ Some other = ap flat there in
            let out_too : IsOut before other =
            subst (λ (q : PoolState). IsOut q other) sees.pool (sees.out (suc k) other has (was_used (suc k) now)) in
            let (in_place, in_unit) =
            and_parts (stands_in units out_before.place other)
            (nat_eq other.unit (out_before.place * units + out_before.bit * block_units other.class)) passes in
            let place : out_too.place ≡ out_before.place =
            sym (place_of before other out_too.place out_too.bit out_too.superblock sound_before out_too.at)
            ∙ eqb-true (other.unit / units) out_before.place in_place in
            let super : out_too.superblock ≡ out_before.superblock =
            same_Some out_too.superblock out_before.superblock
            (sym out_too.at.there ∙ ap (slice_get before.superblocks) place ∙ out_before.at.there) in
            let class : other.class ≡ out_before.superblock.class = ap (λ (b : BlockState). b.class) out_too.at.block_is ∙ ap (λ s. s.class) super in
            let same : other.unit ≡ mine.block.unit =
            eqb-true other.unit (out_before.place * units + out_before.bit * block_units other.class) in_unit
            ∙ ap (λ c. out_before.place * units + out_before.bit * block_units c) class
            ∙ sym (ap (λ (b : BlockState). b.unit) out_before.at.block_is) in
            let is_u : suc k ≡ u = one_task p units (u ∷ hand) own e r sees (suc k) u unit (was_used (suc k) now) used
            (unit_from r.blocks (suc k) other has ∙ ap Some (same ∙ at_unit)) at in
            gone (subst (InUse hand r) is_u now)

    same_pool : without_block before mine.block ≡ pool_with units r.supers blocks_now
    same_pool =
        let (k, next, there) = by_place r.blocks u mine.block mine.has_block in
        let plus : 1 + k ≡ u = omega (arith, next) in
        pool_without units r.supers blocks_then blocks_now mine.block sound_before out_before
        (used_loses (with_hand (u ∷ hand) r).roots (with_hand hand r).roots r.bodies r.bodies 1 r.blocks k mine.block there
        (ap (is_in_use (with_hand (u ∷ hand) r).roots r.bodies) plus ∙ used)
        (ap (is_in_use (with_hand hand r).roots r.bodies) plus ∙ not_true (is_in_use (with_hand hand r).roots r.bodies u) gone)
        (λ t differ. same_test (is_in_use (with_hand (u ∷ hand) r).roots r.bodies t) (is_in_use (with_hand hand r).roots r.bodies t)
        (still_used t (λ e'. differ (e' ∙ sym plus))) (was_used t)))
        clear

    left_last : IsLeft
    left_last = record {
      sound = subst IsSound (sym (pool_is ∙ back))
          (IsSound-taken_back e.store.pool mine.block mine_out.place mine_out.bit mine_out.superblock sees.sound mine_out.at);
      pool = pool_is ∙ ap (λ q. without_block q mine.block) sees.pool ∙ same_pool;
      out = λ t block has now. subst (λ (q : PoolState). IsOut q block) (sym (pool_is ∙ back))
          ((removes.others block (λ e'. other_block t block has now e')).1 (sees.out t block has (was_used t now)));
      stands = λ t now.
          let st = sees.tasks t (was_used t now) in
          ap (λ (s : StoreState). slice_get s.blocks st.block.unit) same
          ∙ set_other e.store.blocks unit st.block.unit None (far t (was_used t now) (not_u t now)) ∙ st.stands;
    }
      where
        same : let_go unit e.store ≡ record
            (changed less unit e.store) { pool = without_block e.store.pool mine.block; blocks = slice_set e.store.blocks unit None }
        same = let_go_last unit e.store mine.known mine_there one ∙ back_is unit (changed less unit e.store) mine.block mine_has

        pool_is : (let_go unit e.store).pool ≡ without_block e.store.pool mine.block
        pool_is = ap (λ (s : StoreState). s.pool) same

        back : without_block e.store.pool mine.block ≡ with_superblock e.store.pool mine_out.place (taken_back mine_out.superblock mine_out.bit)
        back = without_is e.store.pool mine.block sees.sound mine_out

        removes : Removes e.store.pool mine.block
            (with_superblock e.store.pool mine_out.place (taken_back mine_out.superblock mine_out.bit))
        removes = Removes-taken_back e.store.pool mine.block mine_out.place mine_out.bit mine_out.superblock sees.sound mine_out.at

        not_u : (t : ℕ) → InUse hand r t → t ≢ u
        not_u t now is_u = gone (subst (InUse hand r) is_u now)

        other_block : (t : ℕ) (block : BlockState) → found r.blocks t ≡ Some block → InUse hand r t → block ≢ mine.block
        other_block t block has now e' = not_u t now (sees.apart t u block has (mine.has_block ∙ sym (ap Some e')) (was_used t now) used)

  -- what is left in both cases
  left : IsLeft
  left = ⊎_elim left_last left_more (cases_eq mine.known.references 1)

  -- the engine sees the run without the task in hand
  pub sees_let_go : Sees p units hand own (with_store e (let_go unit e.store)) r
  sees_let_go = record {
    shaped = let_go_shaped unit e.store sees.shaped;
    sound = left.sound;
    pool = left.pool;
    out = left.out;
    apart = λ t v block has_t has_v now_t now_v. sees.apart t v block has_t has_v (was_used t now_t) (was_used v now_v);
    tasks = tasks;
    journal = sees.journal;
    roots = sees.roots;
    high = subst (λ q. AreUnitsOf r q.high r.ready.high) (sym (let_go_ready unit e.store)) sees.high;
    regular = subst (λ q. AreUnitsOf r q.regular r.ready.regular) (sym (let_go_ready unit e.store)) sees.regular;
    low = subst (λ q. AreUnitsOf r q.low r.ready.low) (sym (let_go_ready unit e.store)) sees.low;
    nulls = sees.nulls;
    class = sees.class;
    words = sees.words;
  }
    where
      next : (x : ℕ) → KeepsNext e.store.records (let_go unit e.store).records x
      next x =
          subst (λ rs. KeepsNext e.store.records rs x) (sym (let_go_records unit e.store)) (changed_keeps less unit x e.store.records (λ known. refl))

      tasks : (t : ℕ) → InUse hand r t → SeesTask p hand own (let_go unit e.store) r t
      tasks t now =
          let was = was_used t now in
          let st = sees.tasks t was in
          ⊎_elim
          (λ same.
          let here : st.block.unit ≡ unit = known_at p units (u ∷ hand) own e r sees t unit was (ap (unit_of r.blocks) same ∙ at) in
          let counted : ◌≡◌ {A = ℕ} (cond (nat_eq u t) 1 0) 1 = ap (λ v. cond (nat_eq u v) 1 0) same ∙ times_itself u in
          task_referred p (u ∷ hand) hand own e.store (let_go unit e.store) r t (st.known.references - 1) st (left.stands t now)
          (ap (λ rs. slice_get rs st.block.unit) (let_go_records unit e.store)
          ∙ subst (λ x. slice_get (changed_at less x e.store.records) st.block.unit ≡ Some (less st.known)) here
          (changed_same less st.block.unit e.store.records st.known st.there))
          (omega (arith, st.referred, references_held hand r t u, counted)) (let_go_words unit e.store) next)
          (λ differ.
          task_referred p (u ∷ hand) hand own e.store (let_go unit e.store) r t st.known.references st (left.stands t now)
          (ap (λ rs. slice_get rs st.block.unit) (let_go_records unit e.store)
          ∙ changed_other less unit st.block.unit e.store.records (far t was differ) ∙ st.there)
          (omega (arith, st.referred, references_held hand r t u, times_other t u (λ e'. differ (sym e')))) (let_go_words unit e.store) next)
          (cases_eq t u)
