-- The blocks in use, while fewer are named, while superblocks are renumbered, and while one more block is placed.
use Rattle.std.proofs.Common.{◌≡◌, ◌≢◌, ◌⊎◌, ℕ, zero, suc, ◌+◌, ◌*◌, ◌/◌, ◌<◌, ◌≤◌, ◌^◌, Bool, true, false, cond, nat_eq, Option, Some, None, List, [], ◌∷◌, ◌++◌, length, slice_get, refl, sym, ◌∙◌, ap, subst, inl, inr, ⊎_elim, arith}
use Rattle.std.specs.List.{list_any}
use Rattle.std.proofs.lemmas.Bool.{cases_eq, false≢true}
use Rattle.std.proofs.lemmas.Option.{none-some, same_Some}
use Rattle.task_syntax.specs.Places.{AllDiffer}
use Rattle.claim_core.specs.Claims.{set_count}
use Rattle.claim_core.proofs.Counted.{le-set_count}
use Rattle.kt_words.specs.Ranges.{IsUnitCount}
use Rattle.kt_words.specs.Capacity.{block_units, capacity}
use Rattle.kt_words.specs.SuperWords.{risen}
use Rattle.pool_core.specs.Blocks.{BlockState, block_at}
use Rattle.pool_core.specs.Choice.{IsChosen}
use Rattle.pool_core.specs.Pool.{PoolState, Gives}
use Rattle.pool_core.specs.Superblocks.{SuperblockState}
use Rattle.pool_core.proofs.Giving.{there_of}
use Rattle.pool_core.proofs.Units.{capacity_fills, place_of_unit}
use Rattle.record_core.specs.Numbers.{by_number, put_number, flat, found}
use Rattle.run_model.specs.State.{Body, RootWord, Super}
use Rattle.run_model.specs.Placing.{is_in_use, used_from, stands_in, stands_at, count_in, set_in, superblock_of, super_with, supers_with}
use Rattle.run_model.proofs.ByNumber.{put_same, put_other, length_put, found_other, found_new}
use Rattle.run_model.proofs.UsedFacts.{Uses, in_use, any_from}
use Rattle.run_model.proofs.UsedSound.{IsPlaced, SuperFits, BlocksFit, pool_with, superblock_at, set_in_at, counted, stands_here, classes_of}

-- the blocks in use, as a list
pub used_member : (roots : List RootWord) (bodies : List (Option Body)) (t : ℕ) (blocks : List (Option BlockState)) (i : ℕ) (b : BlockState) → slice_get (used_from roots bodies t blocks) i ≡ Some b
    → (k : ℕ) × (slice_get blocks k ≡ Some (Some b)) × (is_in_use roots bodies (t + k) ≡ true)
used_member roots bodies t [] i b e = absurd (none-some b e)
used_member roots bodies t (None ∷ more) i b e = let (k, there, used) = used_member roots bodies (suc t) more i b e in let same : suc t + k ≡ t + suc k = omega arith in (suc k, there, ap (is_in_use roots bodies) (sym same) ∙ used)
used_member roots bodies t (Some block ∷ more) i b e = by (is_in_use roots bodies t) refl (λ j f. used_member roots bodies (suc t) more j b f) i e
  where
    later : (k : ℕ) × (slice_get more k ≡ Some (Some b)) × (is_in_use roots bodies (suc t + k) ≡ true) → (k : ℕ) × (slice_get (Some block ∷ more) k ≡ Some (Some b)) × (is_in_use roots bodies (t + k) ≡ true)
    later (k, there, used) = let same : suc t + k ≡ t + suc k = omega arith in (suc k, there, ap (is_in_use roots bodies) (sym same) ∙ used)

    by : (x : Bool) → is_in_use roots bodies t ≡ x → ((j : ℕ) → slice_get (used_from roots bodies (suc t) more) j ≡ Some b → (k : ℕ) × (slice_get more k ≡ Some (Some b)) × (is_in_use roots bodies (suc t + k) ≡ true))
        → (i : ℕ) → slice_get (cond x (block ∷ used_from roots bodies (suc t) more) (used_from roots bodies (suc t) more)) i ≡ Some b → (k : ℕ) × (slice_get (Some block ∷ more) k ≡ Some (Some b)) × (is_in_use roots bodies (t + k) ≡ true)
    by true here rest zero f = let same : t + 0 ≡ t = omega arith in (0, ap Some (ap Some (same_Some block b f)), ap (is_in_use roots bodies) same ∙ here)
    by true here rest (suc j) f = later (rest j f)
    by false here rest j f = later (rest j f)

used_has : (roots : List RootWord) (bodies : List (Option Body)) (t : ℕ) (blocks : List (Option BlockState)) (k : ℕ) (b : BlockState) → slice_get blocks k ≡ Some (Some b) → is_in_use roots bodies (t + k) ≡ true
    → (i : ℕ) × (slice_get (used_from roots bodies t blocks) i ≡ Some b)
used_has roots bodies t [] k b e used = absurd (none-some (Some b) e)
used_has roots bodies t (None ∷ more) zero b e used = absurd (none-some b (same_Some None (Some b) e))
used_has roots bodies t (None ∷ more) (suc k) b e used = let same : suc t + k ≡ t + suc k = omega arith in used_has roots bodies (suc t) more k b e (ap (is_in_use roots bodies) same ∙ used)
used_has roots bodies t (Some block ∷ more) zero b e used =
    let same : t + 0 ≡ t = omega arith in
    (0, ap (λ x. slice_get (cond x (block ∷ used_from roots bodies (suc t) more) (used_from roots bodies (suc t) more)) 0) (ap (is_in_use roots bodies) (sym same) ∙ used) ∙ same_Some (Some block) (Some b) e)
used_has roots bodies t (Some block ∷ more) (suc k) b e used =
    let same : suc t + k ≡ t + suc k = omega arith in
    later (is_in_use roots bodies t) (used_has roots bodies (suc t) more k b e (ap (is_in_use roots bodies) same ∙ used))
  where
    later : (x : Bool) → ((i : ℕ) × (slice_get (used_from roots bodies (suc t) more) i ≡ Some b)) → (i : ℕ) × (slice_get (cond x (block ∷ used_from roots bodies (suc t) more) (used_from roots bodies (suc t) more)) i ≡ Some b)
    later true (i, f) = (suc i, f)
    later false (i, f) = (i, f)

-- no block of these stands twice, where no two tasks in use have one
abbrev ApartFrom : List RootWord → List (Option Body) → ℕ → List (Option BlockState) → Type 0
ApartFrom roots bodies t blocks = (k l : ℕ) (b : BlockState) → slice_get blocks k ≡ Some (Some b) → slice_get blocks l ≡ Some (Some b) → is_in_use roots bodies (t + k) ≡ true → is_in_use roots bodies (t + l) ≡ true → k ≡ l

apart_later : (roots : List RootWord) (bodies : List (Option Body)) (t : ℕ) (o : Option BlockState) (more : List (Option BlockState)) → ApartFrom roots bodies t (o ∷ more) → ApartFrom roots bodies (suc t) more
apart_later roots bodies t o more apart k l b e f used_k used_l =
    let same_k : t + suc k ≡ suc t + k = omega arith in
    let same_l : t + suc l ≡ suc t + l = omega arith in
    omega (arith, apart (suc k) (suc l) b e f (ap (is_in_use roots bodies) same_k ∙ used_k) (ap (is_in_use roots bodies) same_l ∙ used_l))

differ_cons : (roots : List RootWord) (bodies : List (Option Body)) (t : ℕ) (o : Option BlockState) (more : List (Option BlockState)) → ApartFrom roots bodies t (o ∷ more) → AllDiffer (used_from roots bodies (suc t) more) → AllDiffer (used_from roots bodies t (o ∷ more))
differ_cons roots bodies t None more apart rest = rest
differ_cons roots bodies t (Some block) more apart rest = by_use (is_in_use roots bodies t) refl
  where
    not_later : is_in_use roots bodies t ≡ true → (j : ℕ) → slice_get (used_from roots bodies (suc t) more) j ≡ Some block → ⊥
    not_later used j f =
        let (k, there, used_k) = used_member roots bodies (suc t) more j block f in
        let same_zero : t + 0 ≡ t = omega arith in
        let same_k : t + suc k ≡ suc t + k = omega arith in
        absurd (omega (arith, apart 0 (suc k) block refl there (ap (is_in_use roots bodies) same_zero ∙ used) (ap (is_in_use roots bodies) same_k ∙ used_k)))

    by_use : (x : Bool) → is_in_use roots bodies t ≡ x → AllDiffer (cond x (block ∷ used_from roots bodies (suc t) more) (used_from roots bodies (suc t) more))
    by_use false used i j b f g = rest i j b f g
    by_use true used zero zero b f g = refl
    by_use true used zero (suc j) b f g = absurd (not_later used j (g ∙ sym f))
    by_use true used (suc i) zero b f g = absurd (not_later used i (f ∙ sym g))
    by_use true used (suc i) (suc j) b f g = ap suc (rest i j b f g)

used_differ : (roots : List RootWord) (bodies : List (Option Body)) (t : ℕ) (blocks : List (Option BlockState)) → ApartFrom roots bodies t blocks → AllDiffer (used_from roots bodies t blocks)
used_differ roots bodies t [] apart i j b e f = absurd (none-some b e)
used_differ roots bodies t (o ∷ more) apart i j b e f = differ_cons roots bodies t o more apart (used_differ roots bodies (suc t) more (apart_later roots bodies t o more apart)) i j b e f

-- how many blocks stand in a superblock
count_cons_le : (units place : ℕ) (x : Bool) (block : BlockState) (bs : List BlockState) → count_in units place (cond x (block ∷ bs) bs) ≤ count_in units place (block ∷ bs)
count_cons_le units place true block bs = omega arith
count_cons_le units place false block bs = omega arith

-- fewer in use are fewer in each superblock, and one more block is one more in its own
used_count : (units place : ℕ) (roots roots' : List RootWord) (bodies bodies' : List (Option Body)) (t : ℕ) (blocks : List (Option BlockState)) (extra : Option BlockState)
    → ((n : ℕ) → n < t + length blocks → is_in_use roots' bodies' n ≡ true → is_in_use roots bodies n ≡ true)
    → count_in units place (used_from roots' bodies' t (blocks ++ extra ∷ [])) ≤ count_in units place (used_from roots bodies t blocks) + count_in units place (elim extra [ None ↦ [] | Some b ↦ b ∷ [] ])
used_count units place roots roots' bodies bodies' t [] None less = omega arith
used_count units place roots roots' bodies bodies' t [] (Some block) less = omega (arith, count_cons_le units place (is_in_use roots' bodies' t) block [])
used_count units place roots roots' bodies bodies' t (None ∷ more) extra less = used_count units place roots roots' bodies bodies' (suc t) more extra (λ n lt used. less n (omega (arith, lt)) used)
used_count units place roots roots' bodies bodies' t (Some block ∷ more) extra less =
    by (is_in_use roots' bodies' t) (is_in_use roots bodies t) refl refl (used_count units place roots roots' bodies bodies' (suc t) more extra (λ n lt used. less n (omega (arith, lt)) used))
  where
    added : ℕ
    added = count_in units place (elim extra [ None ↦ [] | Some b ↦ b ∷ [] ])

    by : (x y : Bool) → is_in_use roots' bodies' t ≡ x → is_in_use roots bodies t ≡ y
        → count_in units place (used_from roots' bodies' (suc t) (more ++ extra ∷ [])) ≤ count_in units place (used_from roots bodies (suc t) more) + count_in units place (elim extra [ None ↦ [] | Some b ↦ b ∷ [] ])
        → count_in units place (cond x (block ∷ used_from roots' bodies' (suc t) (more ++ extra ∷ [])) (used_from roots' bodies' (suc t) (more ++ extra ∷ [])))
        ≤ count_in units place (cond y (block ∷ used_from roots bodies (suc t) more) (used_from roots bodies (suc t) more)) + count_in units place (elim extra [ None ↦ [] | Some b ↦ b ∷ [] ])
    by true true e f rest = omega (arith, rest)
    by true false e f rest = absurd (false≢true (sym f ∙ less t (omega arith) e))
    by false true e f rest = omega (arith, rest)
    by false false e f rest = rest

-- a block that stands in a superblock is counted there
count_some : (units place : ℕ) (bs : List BlockState) (at : ℕ) (b : BlockState) → slice_get bs at ≡ Some b → stands_in units place b ≡ true → 1 ≤ count_in units place bs
count_some units place [] at b e here = absurd (none-some b e)
count_some units place (x ∷ bs) zero b e here = let one : ◌≡◌ {A = ℕ} (cond (stands_in units place x) 1 0) 1 = ap (λ y. cond y 1 0) (ap (stands_in units place) (same_Some x b e) ∙ here) in omega (arith, one)
count_some units place (x ∷ bs) (suc at) b e here = omega (arith, count_some units place bs at b e here)

-- what is kept, over the lists that it reads: each block in use is placed, no two tasks in use have one, and each superblock
-- has a class and a number that fit
pub record Core (units : ℕ) (roots : List RootWord) (bodies : List (Option Body)) (blocks : List (Option BlockState)) (supers : List Super) : Type 0 where
  pub placed : (t : ℕ) (b : BlockState) → found blocks t ≡ Some b → Uses roots bodies t → IsPlaced units supers b
  pub apart : (t u : ℕ) (b : BlockState) → found blocks t ≡ Some b → found blocks u ≡ Some b → Uses roots bodies t → Uses roots bodies u → t ≡ u
  pub supers_fit : (place : ℕ) (super : Super) → slice_get supers place ≡ Some super → SuperFits units (used_from roots bodies 1 blocks) place super

found_at : (blocks : List (Option BlockState)) (k : ℕ) (b : BlockState) → slice_get blocks k ≡ Some (Some b) → found blocks (1 + k) ≡ Some b
found_at blocks k b e = let same : 1 + k ≡ suc k = omega arith in ap (found blocks) same ∙ ap flat e

-- the list of the blocks in use fits
pub core_fit : (units : ℕ) (roots : List RootWord) (bodies : List (Option Body)) (blocks : List (Option BlockState)) (supers : List Super) → Core units roots bodies blocks supers → BlocksFit units supers (used_from roots bodies 1 blocks)
core_fit units roots bodies blocks supers core = record {
  supers_fit = core.supers_fit;
  placed = λ at b e. let (k, there, used) = used_member roots bodies 1 blocks at b e in core.placed (1 + k) b (found_at blocks k b there) ((in_use roots bodies (1 + k)).0 used);
  differ = used_differ roots bodies 1 blocks (λ k l b e f used_k used_l.
      let same = core.apart (1 + k) (1 + l) b (found_at blocks k b e) (found_at blocks l b f) ((in_use roots bodies (1 + k)).0 used_k) ((in_use roots bodies (1 + l)).0 used_l) in omega (arith, same));
}

-- a block of a task in use is among them
pub core_has : (roots : List RootWord) (bodies : List (Option Body)) (blocks : List (Option BlockState)) (t : ℕ) (b : BlockState) → found blocks t ≡ Some b → is_in_use roots bodies t ≡ true
    → (i : ℕ) × (slice_get (used_from roots bodies 1 blocks) i ≡ Some b)
core_has roots bodies blocks zero b e used = absurd (none-some b e)
core_has roots bodies blocks (suc k) b e used = by (slice_get blocks k) refl e
  where
    by : (o : Option (Option BlockState)) → slice_get blocks k ≡ o → flat o ≡ Some b → (i : ℕ) × (slice_get (used_from roots bodies 1 blocks) i ≡ Some b)
    by None there f = absurd (none-some b f)
    by (Some p) there f = let same : suc k ≡ 1 + k = omega arith in used_has roots bodies 1 blocks k b (there ∙ ap Some f) (ap (is_in_use roots bodies) (sym same) ∙ used)

-- a block that is placed next in these superblocks, with what was found there
pub record Newly (units : ℕ) (supers : List Super) (bs : List BlockState) (class : ℕ) (block : BlockState) : Type 0 where
  pub place : ℕ
  pub bit : ℕ
  pub super : Super
  pub there : slice_get supers place ≡ Some super
  pub block_is : block ≡ block_at units place class bit
  pub below : bit < capacity units class
  pub room : (super.class ≡ class) ⊎ (count_in units place bs ≡ 0)
  pub few : count_in units place bs < capacity units class
  pub clear : list_any (stands_at units place bit) bs ≡ false

-- what the pool gives is such a block
pub newly : (units : ℕ) (supers : List Super) (bs : List BlockState) (class : ℕ) (block : BlockState) (new : PoolState) → IsUnitCount units → class ≤ 3 → BlocksFit units supers bs → Gives (pool_with units supers bs) class block new → Newly units supers bs class block
newly units supers bs class block new unit_count fits fit gives =
    let chosen_there = there_of class (capacity units class) gives.place (pool_with units supers bs).superblocks gives.was gives.chosen in
    let (super, there, is_was) = superblock_at units bs 0 gives.place supers gives.was chosen_there in
    let zero_plus : 0 + gives.place ≡ gives.place = omega arith in
    let was_is : gives.was ≡ superblock_of units bs gives.place super = is_was ∙ ap (λ k. superblock_of units bs k super) zero_plus in
    let count_is : gives.was.count ≡ count_in units gives.place bs = ap (λ (s : SuperblockState). s.count) was_is in
    let set_is : gives.was.set ≡ set_in units gives.place bs 0 units = ap (λ (s : SuperblockState). s.set) was_is in
    let whole = capacity_fills units class unit_count fits in
    let few : count_in units gives.place bs < capacity units class = below_room gives.place gives.was gives.chosen whole.1 count_is in
    let is_counted = counted units supers unit_count (classes_of units supers bs unit_count fit) gives.place bs fit.placed fit.differ in
    let most = le-set_count gives.was.set gives.bit gives.lowest.below in
    let same_count : set_count gives.was.set ≡ set_count (set_in units gives.place bs 0 units) = ap set_count set_is in
    let below : gives.bit < capacity units class = omega (arith, most, same_count, is_counted, few) in
    let zero_bit : 0 + gives.bit ≡ gives.bit = omega arith in
    record {
      place = gives.place;
      bit = gives.bit;
      super = super;
      there = there;
      block_is = gives.block_is;
      below = below;
      room = room_of gives.place gives.was super gives.chosen count_is (ap (λ (s : SuperblockState). s.class) was_is);
      few = few;
      clear = ap (λ k. list_any (stands_at units gives.place k) bs) (sym zero_bit)
          ∙ same_Some (list_any (stands_at units gives.place (0 + gives.bit)) bs) false (sym (set_in_at units gives.place bs 0 units gives.bit (omega (arith, below, whole.2))) ∙ ap (λ set. slice_get set gives.bit) (sym set_is) ∙ gives.lowest.clear);
    }
  where
    below_room : (place : ℕ) (was : SuperblockState) → IsChosen class (capacity units class) (pool_with units supers bs).superblocks place was → 1 ≤ capacity units class → was.count ≡ count_in units place bs → count_in units place bs < capacity units class
    below_room place was (inl first) some count = omega (arith, first.1.below, count)
    below_room place was (inr (none, first)) some count = omega (arith, first.1, count, some)

    room_of : (place : ℕ) (was : SuperblockState) (super : Super) → IsChosen class (capacity units class) (pool_with units supers bs).superblocks place was → was.count ≡ count_in units place bs → was.class ≡ super.class → (super.class ≡ class) ⊎ (count_in units place bs ≡ 0)
    room_of place was super (inl first) count class_is = inl (sym class_is ∙ first.1.of_class)
    room_of place was super (inr (none, first)) count class_is = inr (sym count ∙ first.1)

module _ (units : ℕ) (unit_count : IsUnitCount units) (roots : List RootWord) (bodies : List (Option Body)) (blocks : List (Option BlockState)) (supers : List Super) (core : Core units roots bodies blocks supers) where
  bs : List BlockState
  bs = used_from roots bodies 1 blocks

  -- fewer are in use
  pub core_fewer : (roots' : List RootWord) (bodies' : List (Option Body)) → ((u : ℕ) → Uses roots' bodies' u → Uses roots bodies u) → Core units roots' bodies' blocks supers
  core_fewer roots' bodies' less = record {
    placed = λ t b e used. core.placed t b e (less t used);
    apart = λ t u b e f used_t used_u. core.apart t u b e f (less t used_t) (less u used_u);
    supers_fit = λ place super there.
        let was = core.supers_fit place super there in
        let fewer = used_less place in
        record { class_fits = was.class_fits; ever_fits = was.ever_fits; ever_counts = omega (arith, was.ever_counts, fewer) };
  }
    where
      used_less : (place : ℕ) → count_in units place (used_from roots' bodies' 1 blocks) ≤ count_in units place (used_from roots bodies 1 blocks)
      used_less place = go 1 blocks
        where
          go : (t : ℕ) (blocks : List (Option BlockState)) → count_in units place (used_from roots' bodies' t blocks) ≤ count_in units place (used_from roots bodies t blocks)
          go t [] = omega arith
          go t (None ∷ more) = go (suc t) more
          go t (Some block ∷ more) = by (is_in_use roots' bodies' t) (is_in_use roots bodies t) refl refl (go (suc t) more)
            where
              by : (x y : Bool) → is_in_use roots' bodies' t ≡ x → is_in_use roots bodies t ≡ y → count_in units place (used_from roots' bodies' (suc t) more) ≤ count_in units place (used_from roots bodies (suc t) more)
                  → count_in units place (cond x (block ∷ used_from roots' bodies' (suc t) more) (used_from roots' bodies' (suc t) more)) ≤ count_in units place (cond y (block ∷ used_from roots bodies (suc t) more) (used_from roots bodies (suc t) more))
              by true true e f rest = omega (arith, rest)
              by true false e f rest = absurd (false≢true (sym f ∙ (in_use roots bodies t).1 (less t ((in_use roots' bodies' t).0 e))))
              by false true e f rest = omega (arith, rest)
              by false false e f rest = rest

  -- a number without a block is drawn
  pub core_none : Core units roots bodies (blocks ++ None ∷ []) supers
  core_none = record {
    placed = λ t b e used. core.placed t b (old t b e) used;
    apart = λ t u b e f used_t used_u. core.apart t u b (old t b e) (old u b f) used_t used_u;
    supers_fit = λ place super there.
        let was = core.supers_fit place super there in
        let same = used_count units place roots roots bodies bodies 1 blocks None (λ n lt used. used) in
        record { class_fits = was.class_fits; ever_fits = was.ever_fits; ever_counts = omega (arith, was.ever_counts, same) };
  }
    where
      old : (t : ℕ) (b : BlockState) → found (blocks ++ None ∷ []) t ≡ Some b → found blocks t ≡ Some b
      old t b e =
          ⊎_elim (λ same. absurd (none-some b (sym (found_new blocks None t same) ∙ e))) (λ differ. sym (found_other blocks None t differ) ∙ e) (cases_eq t (suc (length blocks)))

  module _ (class : ℕ) (block : BlockState) (fits : class ≤ 3) (new : Newly units supers (used_from roots bodies 1 blocks) class block) where
    -- the superblocks after the block was placed
    supers_then : supers_with units supers block ≡ put_number supers (suc new.place) (record { class = class; ever = risen new.super.ever })
    supers_then =
        let unit_is : block.unit / units ≡ new.place = ap (λ (x : BlockState). x.unit / units) new.block_is ∙ place_of_unit units class new.place new.bit unit_count fits new.below in
        let class_is : block.class ≡ class = ap (λ (x : BlockState). x.class) new.block_is in
        ap (λ k. put_number supers (suc k) (super_with (by_number supers (suc k)) block.class)) unit_is
        ∙ ap (λ o. put_number supers (suc new.place) (super_with o block.class)) new.there ∙ ap (λ k. put_number supers (suc new.place) (record { class = k; ever = risen new.super.ever })) class_is

    super_here : slice_get (supers_with units supers block) new.place ≡ Some (record { class = class; ever = risen new.super.ever })
    super_here = ap (λ xs. slice_get xs new.place) supers_then ∙ put_same supers (suc new.place) new.super (record { class = class; ever = risen new.super.ever }) new.there

    super_other : (place : ℕ) → place ≢ new.place → slice_get (supers_with units supers block) place ≡ slice_get supers place
    super_other place differ = ap (λ xs. slice_get xs place) supers_then ∙ put_other supers (suc new.place) (suc place) (record { class = class; ever = risen new.super.ever }) (λ e. differ (suc_same e))
      where
        suc_same : suc place ≡ suc new.place → place ≡ new.place
        suc_same e = omega (arith, e)

    -- a block more leaves the number of superblocks
    pub supers_length : length (supers_with units supers block) ≡ length supers
    supers_length = ap length supers_then ∙ length_put supers (suc new.place) (record { class = class; ever = risen new.super.ever })

    -- a block that stood, still does
    still_placed : (t : ℕ) (b : BlockState) → found blocks t ≡ Some b → Uses roots bodies t → IsPlaced units (supers_with units supers block) b
    still_placed t b e used =
        let was = core.placed t b e used in
        ⊎_elim (λ same. at_place was same) (λ differ. record { place = was.place; bit = was.bit; super = was.super; there = super_other was.place differ ∙ was.there; block_is = was.block_is; below = was.below })
        (cases_eq was.place new.place)
      where
        classes : (place : ℕ) (super : Super) → slice_get supers place ≡ Some super → super.class ≤ 3
        classes place super there = (core.supers_fit place super there).class_fits

        at_place : (was : IsPlaced units supers b) → was.place ≡ new.place → IsPlaced units (supers_with units supers block) b
        at_place was same =
            let same_super : was.super ≡ new.super = same_Some was.super new.super (sym was.there ∙ ap (slice_get supers) same ∙ new.there) in
            let (i, there) = core_has roots bodies blocks t b e ((in_use roots bodies t).1 used) in
            let some = count_some units new.place (used_from roots bodies 1 blocks) i b there (ap (λ k. stands_in units k b) (sym same) ∙ stands_here units supers unit_count classes b was) in
            let class_is : was.super.class ≡ class = ap (λ (s : Super). s.class) same_super ∙ ⊎_elim (λ of_class. of_class) (λ empty. absurd (omega (arith, some, empty))) new.room in
            record {
              place = was.place;
              bit = was.bit;
              super = record { class = class; ever = risen new.super.ever };
              there = ap (slice_get (supers_with units supers block)) same ∙ super_here;
              block_is = was.block_is ∙ ap (λ k. block_at units was.place k was.bit) class_is;
              below = subst (λ k. was.bit < capacity units k) class_is was.below;
            }

    ever_more : (count : ℕ) → count ≤ count_in units new.place (used_from roots bodies 1 blocks) + 1 → count ≤ risen new.super.ever
    ever_more count le =
        let was = core.supers_fit new.place new.super new.there in
        let whole = capacity_fills units class unit_count fits in omega (arith, was.ever_counts, was.ever_fits, new.few, whole.2, whole.4, le)

    fits_with : (bs' : List BlockState) → ((place : ℕ) → count_in units place bs' ≤ count_in units place (used_from roots bodies 1 blocks) + count_in units place (block ∷ [])) → (place : ℕ) (super : Super) → slice_get (supers_with units supers block) place ≡ Some super → SuperFits units bs' place super
    fits_with bs' most place super there =
        ⊎_elim
        (λ same.
        let is_super : record { class = class; ever = risen new.super.ever } ≡ super = same_Some (record { class = class; ever = risen new.super.ever }) super (sym super_here ∙ sym (ap (slice_get (supers_with units supers block)) same) ∙ there) in
        let was = core.supers_fit new.place new.super new.there in
        let one : count_in units new.place (block ∷ []) ≤ 1 = at_most new.place in
        let here : count_in units place bs' ≤ risen new.super.ever = ever_more (count_in units place bs') (let m = most place in subst (λ k. count_in units k bs' ≤ count_in units new.place (used_from roots bodies 1 blocks) + 1) (sym same) (omega (arith, one, most new.place))) in
        subst (λ (s : Super). SuperFits units bs' place s) is_super (record { class_fits = fits; ever_fits = omega (arith, was.ever_fits); ever_counts = here }))
        (λ differ.
        let was = core.supers_fit place super (sym (super_other place differ) ∙ there) in
        let none : count_in units place (block ∷ []) ≡ 0 = elsewhere place differ (stands_in units place block) refl in
        record { class_fits = was.class_fits; ever_fits = was.ever_fits; ever_counts = omega (arith, was.ever_counts, most place, none) })
        (cases_eq place new.place)
      where
        at_most : (place : ℕ) → count_in units place (block ∷ []) ≤ 1
        at_most place = by (stands_in units place block)
          where
            by : (x : Bool) → ◌≤◌ (cond x 1 0 + 0) 1
            by true = omega arith
            by false = omega arith

        elsewhere : (place : ℕ) → place ≢ new.place → (x : Bool) → stands_in units place block ≡ x → ◌≡◌ {A = ℕ} (cond x 1 0 + 0) 0
        elsewhere place differ false e = refl
        elsewhere place differ true e =
            let unit_is : block.unit / units ≡ new.place = ap (λ (x : BlockState). x.unit / units) new.block_is ∙ place_of_unit units class new.place new.bit unit_count fits new.below in
            absurd (differ (sym (Rattle.std.proofs.lemmas.Bool.eqb-true (block.unit / units) place e) ∙ unit_is))

    -- the block was placed, and given back at once
    pub core_placed : Core units roots bodies blocks (supers_with units supers block)
    core_placed = record {
      placed = still_placed;
      apart = core.apart;
      supers_fit = fits_with (used_from roots bodies 1 blocks) (λ place. omega arith);
    }

    -- no task in use has the block
    not_had : (t : ℕ) → found blocks t ≡ Some block → Uses roots bodies t → ⊥
    not_had t e used =
        let was = core.placed t block e used in
        let (i, there) = core_has roots bodies blocks t block e ((in_use roots bodies t).1 used) in
        let unit_is : block.unit / units ≡ new.place = ap (λ (x : BlockState). x.unit / units) new.block_is ∙ place_of_unit units class new.place new.bit unit_count fits new.below in
        let here : stands_at units new.place new.bit block ≡ true = new_stands in
        false≢true (sym new.clear ∙ any_from (stands_at units new.place new.bit) (used_from roots bodies 1 blocks) i block there here)
      where
        new_stands : stands_at units new.place new.bit block ≡ true
        new_stands =
            let unit_is : block.unit / units ≡ new.place = ap (λ (x : BlockState). x.unit / units) new.block_is ∙ place_of_unit units class new.place new.bit unit_count fits new.below in
            let first : block.unit ≡ new.place * units + new.bit * block_units block.class =
            ap (λ (x : BlockState). x.unit) new.block_is ∙ ap (λ k. new.place * units + new.bit * block_units k) (sym (ap (λ (x : BlockState). x.class) new.block_is)) in
            Rattle.std.proofs.lemmas.Bool.and_from (stands_in units new.place block) (nat_eq block.unit (new.place * units + new.bit * block_units block.class))
            (Rattle.std.proofs.Common.eq-eqb (block.unit / units) new.place unit_is) (Rattle.std.proofs.Common.eq-eqb block.unit (new.place * units + new.bit * block_units block.class) first)

    -- the block is the next number's
    pub core_block : (roots' : List RootWord) (bodies' : List (Option Body)) → ((u : ℕ) → Uses roots' bodies' u → u ≢ suc (length blocks) → Uses roots bodies u) → Core units roots' bodies' (blocks ++ Some block ∷ []) (supers_with units supers block)
    core_block roots' bodies' less = record { placed = placed; apart = apart; supers_fit = fits_with (used_from roots' bodies' 1 (blocks ++ Some block ∷ [])) most }
      where
        most : (place : ℕ) → count_in units place (used_from roots' bodies' 1 (blocks ++ Some block ∷ [])) ≤ count_in units place (used_from roots bodies 1 blocks) + count_in units place (block ∷ [])
        most place = used_count units place roots roots' bodies bodies' 1 blocks (Some block) (λ n lt used. (in_use roots bodies n).1 (less n ((in_use roots' bodies' n).0 used) (λ same. absurd (omega (arith, lt, same)))))

        is_block : (t : ℕ) (b : BlockState) → t ≡ suc (length blocks) → found (blocks ++ Some block ∷ []) t ≡ Some b → block ≡ b
        is_block t b same e = same_Some block b (sym (found_new blocks (Some block) t same) ∙ e)

        placed : (t : ℕ) (b : BlockState) → found (blocks ++ Some block ∷ []) t ≡ Some b → Uses roots' bodies' t → IsPlaced units (supers_with units supers block) b
        placed t b e used =
            ⊎_elim
            (λ same. subst (IsPlaced units (supers_with units supers block)) (is_block t b same e)
            (record { place = new.place; bit = new.bit; super = record { class = class; ever = risen new.super.ever }; there = super_here; block_is = new.block_is; below = new.below }))
            (λ differ. still_placed t b (sym (found_other blocks (Some block) t differ) ∙ e) (less t used differ))
            (cases_eq t (suc (length blocks)))

        apart : (t u : ℕ) (b : BlockState) → found (blocks ++ Some block ∷ []) t ≡ Some b → found (blocks ++ Some block ∷ []) u ≡ Some b → Uses roots' bodies' t → Uses roots' bodies' u → t ≡ u
        apart t u b e f used_t used_u =
            ⊎_elim
            (λ same_t. ⊎_elim (λ same_u. same_t ∙ sym same_u)
            (λ differ_u. absurd (not_had u (sym (found_other blocks (Some block) u differ_u) ∙ f ∙ ap Some (sym (is_block t b same_t e))) (less u used_u differ_u))) (cases_eq u (suc (length blocks))))
            (λ differ_t. ⊎_elim (λ same_u. absurd (not_had t (sym (found_other blocks (Some block) t differ_t) ∙ e ∙ ap Some (sym (is_block u b same_u f))) (less t used_t differ_t)))
            (λ differ_u. core.apart t u b (sym (found_other blocks (Some block) t differ_t) ∙ e) (sym (found_other blocks (Some block) u differ_u) ∙ f) (less t used_t differ_t) (less u used_u differ_u)) (cases_eq u (suc (length blocks))))
            (cases_eq t (suc (length blocks)))
